-- What an entry does to the work of a seat that is alone.
use Rattle.std.proofs.Common.{◌≡◌, ℕ, Some, ap, arith, sum_by, true}
use Rattle.std.proofs.lemmas.List.Sums.{sum_by_push}
use Rattle.hall_history.specs.History.{Entry}
use Rattle.hall_history.specs.Seat.{MakesEntry, Seat}
use Rattle.hall_trait.specs.View.{GoesOn, HallView, no_account}
use Rattle.hall_tests.specs.SeatWork.{counted, entries_begun, work_alone, work_of}

-- one that was promised adds nothing
promised_seen : (n : ℕ) (old new : Seat) (entry : Entry) (place : ℕ) → MakesEntry true old new entry place
    → entries_begun entry ≡ 0 → work_alone n new ≡ work_alone n old
promised_seen n old new entry place m none =
    let same : work_of n new.seen ≡ work_of n old.seen =
    omega (
      arith,
      ap (sum_by entries_begun) m.seen,
      sum_by_push entries_begun m.before entry,
      ap (sum_by entries_begun) m.lone,
      none,
    ) in
    ap (λ (w : ℕ). record no_account { work = Some w }) same

-- a hall that counts goes on with the hall inside
pub promised_goes_on : (n : ℕ) (old new : HallView) (entry : Entry) (place : ℕ)
    → MakesEntry true old.seat new.seat entry place → entries_begun entry ≡ 0 → GoesOn old new
    → GoesOn (counted n old) (counted n new)
promised_goes_on n old new entry place m none on = record {
  alone = on.alone;
  account = promised_seen n old.seat new.seat entry place m none;
  rooms = on.rooms;
  memo = on.memo;
}
