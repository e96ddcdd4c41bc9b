-- What one seat has seen, and all seats, where one of them is replaced.
use Rattle.std.proofs.Common.{◌≡◌, ◌<◌, ◌≤◌, ℕ, ◌+◌, List, [], ◌∷◌, ◌++◌, All, arith, drop, false, refl}
use Rattle.std.proofs.Common.{Less, length-append, slice_set, sym, take, ◌∙◌, subst}
use Rattle.std.specs.List.Sorted.{IsStrictlySortedBy}
use Rattle.std.specs.Ordering.{nat_cmp}
use Rattle.std.proofs.lemmas.Bool.{false≢true}
use Rattle.std.proofs.lemmas.List.Elements.{All-append, All-drop, All-head, All-nil, All-push, All-set}
use Rattle.std.proofs.lemmas.List.Elements.{All-tail, All-take, All-weaker}
use Rattle.list_lemmas.proofs.Each.{all_push}
use Rattle.list_lemmas.proofs.InOrder.{sorted-none}
use Rattle.list_lemmas.proofs.Numbers.{Less-from_lt}
use Rattle.hall_history.specs.History.{Entry}
use Rattle.hall_history.specs.declared.seat.PassView.{PassView}
use Rattle.hall_history.specs.declared.seat.PinView.{PinView}
use Rattle.hall_world.specs.Good.{IsGoodSeat, IsSeenPin, SeesHistory}
use Rattle.hall_world.specs.Passes.{IsPassOf}
use Rattle.hall_world.specs.Past.{Past, next_place, up_to, with_entries}
use Rattle.hall_world.specs.Seats.{Restaked, entered, without_at}
use Rattle.hall_world.specs.World.{empty_seat, ended_seat}
use Rattle.hall_world.specs.declared.world.SeatView.{SeatView}
use Rattle.hall_world.proofs.SeatsSeePast.{up_to-next}
use Rattle.node_key.specs.declared.stake.Stake.{Stake}

-- ---- lists of which one changes

-- what holds of each item holds without one of them
pub All-without_at : {X : Type 0} (P : X → Type 0) (at : ℕ) (xs : List X) → All P xs
    → All P (without_at at xs)
All-without_at P at xs all =
    All-append P (take at xs) (drop (at + 1) xs) (All-take P at xs all) (All-drop P (at + 1) xs all)

-- numbers rise with one more, which is above all of them
pub rises-push : (xs : List ℕ) (x : ℕ) → All (λ y. y < x) xs → IsStrictlySortedBy nat_cmp xs
    → IsStrictlySortedBy nat_cmp (xs ++ x ∷ [])
unfolding IsStrictlySortedBy
rises-push [] x below up = (tt, tt)
rises-push (y ∷ ys) x below up = (
  all_push (λ z. nat_cmp y z ≡ Less) ys x up.0 (Less-from_lt y x (All-head (λ z. z < x) y ys below)),
  rises-push ys x (All-tail (λ z. z < x) y ys below) up.1,
)

-- ---- one seat

-- a seat has seen the same with other stakes
pub sees_restaked : (past : Past) (seat : SeatView) (stakes : List Stake) → SeesHistory past seat
    → SeesHistory past (record seat { stakes = stakes })
sees_restaked past seat stakes sees = record {
  begun = sees.begun;
  seen = sees.seen;
  rising = sees.rising;
  own = sees.own;
  pins = sees.pins;
  passes = sees.passes;
}

-- also where some are exchanged for others
pub sees_exchanged : (past : Past) (seat after : SeatView) (taken given : List Stake) → SeesHistory past seat
    → Restaked seat taken given after → SeesHistory past after
sees_exchanged past seat after taken given sees other =
    subst (SeesHistory past) (sym other.now) (sees_restaked past seat other.stakes sees)

-- and it has with other pins that it has seen
pub sees_pins : (past : Past) (seat : SeatView) (pins : List PinView) → SeesHistory past seat
    → All (IsSeenPin past seat.seen) pins → SeesHistory past (record seat { pins = pins })
sees_pins past seat pins sees are = record {
  begun = sees.begun;
  seen = sees.seen;
  rising = sees.rising;
  own = sees.own;
  pins = are;
  passes = sees.passes;
}

-- or with other passes
pub sees_passes : (past : Past) (seat : SeatView) (passes : List PassView) → SeesHistory past seat
    → All (IsPassOf (up_to past seat.seen)) passes → SeesHistory past (record seat { passes = passes })
sees_passes past seat passes sees are = record {
  begun = sees.begun;
  seen = sees.seen;
  rising = sees.rising;
  own = sees.own;
  pins = sees.pins;
  passes = are;
}

-- A seat that made the next entry has seen all, whatever it has, so long as its pins and its passes are seen.
pub entered_sees : (past : Past) (e : Entry) (seat : SeatView) (pins : List PinView) (passes : List PassView)
    (stakes : List Stake) → SeesHistory past seat
    → All (IsSeenPin (with_entries past (e ∷ [])) (next_place past)) pins
    → All (IsPassOf (past.entries ++ e ∷ [])) passes
    → SeesHistory (with_entries past (e ∷ []))
    (record (entered (next_place past) seat) { pins = pins; passes = passes; stakes = stakes })
entered_sees past e seat pins passes stakes sees are-pins are-passes = record {
  begun = omega arith;
  seen = omega (arith, length-append past.entries (e ∷ []));
  rising = rises-push seat.places (next_place past)
      (All-weaker (λ place. place ≤ seat.seen) (λ place. place < next_place past)
      (λ place le. omega (arith, le, sees.seen)) seat.places sees.own) sees.rising;
  own = All-push (λ place. place ≤ next_place past) seat.places (next_place past)
      (All-weaker (λ place. place ≤ seat.seen) (λ place. place ≤ next_place past)
      (λ place le. omega (arith, le, sees.seen)) seat.places sees.own) (omega arith);
  pins = are-pins;
  passes = subst (λ es. All (IsPassOf es) passes) (sym (up_to-next past e)) are-passes;
}

-- a seat that has nothing has seen what another one has
pub empty_sees : (past : Past) (seat : SeatView) → SeesHistory past seat
    → SeesHistory past (empty_seat seat.seen)
empty_sees past seat sees = record {
  begun = sees.begun;
  seen = sees.seen;
  rising = sorted-none nat_cmp;
  own = All-nil (λ place. place ≤ seat.seen);
  pins = All-nil (IsSeenPin past seat.seen);
  passes = All-nil (IsPassOf (up_to past seat.seen));
}

-- ---- all seats

-- a seat that acts is good if it has seen the history
pub good_from_sees : (past : Past) (s : SeatView) → SeesHistory past s → s.ended ≡ false → IsGoodSeat past s
good_from_sees past s sees active = ((λ e. sees), (λ ended. absurd (false≢true (sym active ∙ ended))))

-- a seat that has ended is good
pub good_ended : (past : Past) → IsGoodSeat past ended_seat
good_ended past = ((λ active. absurd (false≢true (sym active))), (λ ended. refl))

-- all seats stay good, where one is replaced by one that acts
pub seats_kept : (past : Past) (seats : List SeatView) (actor : ℕ) (after : SeatView)
    → All (IsGoodSeat past) seats → SeesHistory past after → after.ended ≡ false
    → All (IsGoodSeat past) (slice_set seats actor after)
seats_kept past seats actor after good sees active =
    All-set (IsGoodSeat past) seats actor after (good_from_sees past after sees active) good

-- where one has ended
pub seats_ended : (past : Past) (seats : List SeatView) (other : ℕ) → All (IsGoodSeat past) seats
    → All (IsGoodSeat past) (slice_set seats other ended_seat)
seats_ended past seats other good = All-set (IsGoodSeat past) seats other ended_seat (good_ended past) good

-- and where one more acts
pub seats_pushed : (past : Past) (seats : List SeatView) (s : SeatView) → All (IsGoodSeat past) seats
    → SeesHistory past s → s.ended ≡ false → All (IsGoodSeat past) (seats ++ s ∷ [])
seats_pushed past seats s good sees active =
    All-push (IsGoodSeat past) seats s good (good_from_sees past s sees active)
