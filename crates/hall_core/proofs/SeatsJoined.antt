-- A seat that has ended another one.
use Rattle.std.proofs.Common.{◌≡◌, ◌≢◌, ℕ, ◌<◌, max, true, List, [], ◌++◌, Some, refl, sym, ap, ap₂}
use Rattle.std.proofs.Common.{◌∙◌, arith, length, get_or, set, slice_get}
use Rattle.std.proofs.lemmas.List.{append-nil, get_or-set_other, get_or-set_same, length-set}
use Rattle.std.proofs.lemmas.Option.{slice_get_within}
use Rattle.list_lemmas.proofs.Positions.{set_again}
use Rattle.node_key.specs.declared.stake.Stake.{Stake}
use Rattle.hall_core.specs.Allowed.{Allows}
use Rattle.hall_core.specs.Steps.{JoinsSeats, ended_seat}
use Rattle.hall_core.specs.World.{HasSeenNothing, IsGood}
use Rattle.hall_core.specs.declared.events.HallEvent.TheVariants as event
use Rattle.hall_core.specs.declared.world.SeatView.{SeatView}
use Rattle.hall_core.specs.declared.world.World.{World}
use Rattle.hall_core.proofs.GoodWorlds.{good-seat}
use Rattle.hall_core.proofs.SeatsMoved.{with_stakes}
use Rattle.hall_core.proofs.StakeLists.{exchanges-append}

-- the seats with the stakes of one moved to another
abbrev pub moved_to : List SeatView → ℕ → ℕ → SeatView → SeatView → List SeatView
moved_to seats from to a b = set (set seats from (with_stakes [] a)) to (with_stakes (b.stakes ++ a.stakes) b)

-- the seat, which has ended
abbrev pub with_end : SeatView → SeatView
with_end seat = record seat { ended = true }

-- a seat that ends in a good world has no places
end-is : (seat : SeatView) → HasSeenNothing seat → with_end (with_stakes [] seat) ≡ ended_seat seat
end-is seat none = ap (λ ps. record seat { stakes = []; places = ps; ended = true }) none.no_places

-- a seat that ends another one in a good world has stakes more, and nothing else
join-is : (seat joined : SeatView) (stakes : List Stake) → HasSeenNothing seat → HasSeenNothing joined
    → with_stakes stakes seat ≡ record seat {
      stakes = stakes;
      seen = max seat.seen joined.seen;
      places = seat.places ++ joined.places;
    }
join-is seat joined stakes none none' =
    let seen : seat.seen ≡ max seat.seen joined.seen = omega (arith, none.seen, none'.seen) in
    let places : seat.places ≡ seat.places ++ joined.places =
    sym (ap (λ ps. seat.places ++ ps) none'.no_places ∙ append-nil seat.places) in
    ap₂ (λ n ps. record seat { stakes = stakes; seen = n; places = ps }) seen places

-- What comes of a join, by what is said of the seats once the stakes have moved.
module _ (old : World) (actor other : ℕ) (may : Allows old actor (event.Join other)) (ys zs : List SeatView)
    (same : ys ≡ old.seats) (moves : (a b : SeatView) → slice_get ys other ≡ Some a
    → slice_get ys actor ≡ Some b → zs ≡ moved_to ys other actor a b)
  where
    -- a seat can't end itself
    apart : other ≢ actor
    apart = may.2.0

    -- the seat that ends is there
    there : slice_get old.seats other ≡ Some may.2.1
    there = may.2.2.there

    -- the stakes have moved between the seats of the join
    are-moved : zs ≡ moved_to old.seats other actor may.2.1 may.0
    are-moved =
        moves may.2.1 may.0 (ap (λ xs. slice_get xs other) same ∙ there)
        (ap (λ xs. slice_get xs actor) same ∙ may.1.there)
        ∙ ap (λ xs. moved_to xs other actor may.2.1 may.0) same

    -- the seat that ends is there still
    pub other-within : other < length zs
    other-within =
        let here = slice_get_within old.seats other may.2.1 there in
        let long = length-set (set old.seats other (with_stakes [] may.2.1)) actor
        (with_stakes (may.0.stakes ++ may.2.1.stakes) may.0) in
        omega (arith, here, long, length-set old.seats other (with_stakes [] may.2.1), ap length are-moved)

    -- the seat is marked as ended, once its stakes have moved
    pub other-ended : IsGood old → (x : SeatView) → x ≡ get_or zs other x
        → JoinsSeats old actor other (record old { seats = set zs other (with_end x) })
    other-ended good x is =
        let mine = good-seat old actor may.0 good may.1.there in
        let theirs = good-seat old other may.2.1 good there in
        let here = slice_get_within old.seats other may.2.1 there in
        let read : x ≡ with_stakes [] may.2.1 =
        is
        ∙ ap (λ xs. get_or xs other x) are-moved
        ∙ get_or-set_other (set old.seats other (with_stakes [] may.2.1)) actor other
        (with_stakes (may.0.stakes ++ may.2.1.stakes) may.0) x apart
        ∙ get_or-set_same old.seats other (with_stakes [] may.2.1) x here in
        record {
          seat = may.0;
          acts = may.1;
          joined = may.2.1;
          was_active = may.2.2;
          stakes = may.0.stakes ++ may.2.1.stakes;
          moved = exchanges-append may.0.stakes may.0.stakes [] may.2.1.stakes (λ x. refl);
          now = ap (λ xs. record old { seats = xs }) (
              ap₂ (λ xs y. set xs other (with_end y)) are-moved read
              ∙ set_again old.seats other actor (with_stakes [] may.2.1)
              (with_stakes (may.0.stakes ++ may.2.1.stakes) may.0) (with_end (with_stakes [] may.2.1)) apart
              ∙ ap₂ (λ y z. set (set old.seats other y) actor z) (end-is may.2.1 theirs)
              (join-is may.0 may.2.1 (may.0.stakes ++ may.2.1.stakes) mine theirs)
              );
        }
