-- Each step keeps a good world good.
use Rattle.std.proofs.Common.{◌≡◌, ◌≢◌, ◌++◌, ℕ, max, false, List, [], ◌∷◌, None, Some, refl, sym}
use Rattle.std.proofs.Common.{ap, ◌∙◌, arith, slice_get, slice_set, subst}
use Rattle.std.proofs.lemmas.Bool.{true≢false}
use Rattle.std.proofs.lemmas.List.Elements.{All-push, All-set}
use Rattle.list_lemmas.proofs.Positions.{slice_get-set_other}
use Rattle.node_key.specs.declared.stake.Stake.{Stake}
use Rattle.store_laws.specs.Counted.{IsStore}
use Rattle.store_laws.specs.Store.{Store}
use Rattle.store_laws.proofs.StoreExchanged.{store_exchanged}
use Rattle.hall_core.specs.Allowed.{Allows}
use Rattle.hall_core.specs.Steps.{AddsSeat, ChangesStore, DropsIn, InternsIn, IsStep, JoinsSeats, ended_seat}
use Rattle.hall_core.specs.World.{HasSeenNothing, IsGood, all_stakes, empty_seat}
use Rattle.hall_core.specs.declared.events.HallEvent.{HallEvent}
use Rattle.hall_core.specs.declared.events.HallEvent.TheVariants as event
use Rattle.hall_core.specs.declared.events.ReadOf.TheVariants as read
use Rattle.hall_core.specs.declared.events.StepAnswer.{StepAnswer}
use Rattle.hall_core.specs.declared.events.StepAnswer.TheVariants as answer
use Rattle.hall_core.specs.declared.world.SeatView.{SeatView}
use Rattle.hall_core.specs.declared.world.World.{World}
use Rattle.hall_core.proofs.GoodWorlds.{good-seat}
use Rattle.hall_core.proofs.KeptStores.{dropped, interned}
use Rattle.hall_core.proofs.SeatStakes.{exchanges-apart, exchanges-push, exchanges-set, exchanges-together}
use Rattle.hall_core.proofs.SeatStakes.{of_others}

-- a change of the store and of the stakes of one seat that keeps the store whatever all others have
abbrev Keeps : (Store → List Stake → Store → List Stake → Type 0) → Type 0
Keeps Change = (rooms rooms' : Store) (mine mine' others : List Stake) → IsStore rooms (mine ++ others)
    → Change rooms mine rooms' mine' → IsStore rooms' (mine' ++ others)

-- it does so for the stakes of all seats
store_after : (seats : List SeatView) (i : ℕ) (seat : SeatView)
    (Change : Store → List Stake → Store → List Stake → Type 0) (rooms rooms' : Store) (mine : List Stake)
    → Keeps Change → slice_get seats i ≡ Some seat → IsStore rooms (all_stakes seats)
    → Change rooms seat.stakes rooms' mine
    → IsStore rooms' (all_stakes (slice_set seats i (record seat { stakes = mine })))
store_after seats i seat Change rooms rooms' mine keeps at store changed =
    let others = of_others seats i seat in
    store_exchanged rooms' (mine ++ others) (all_stakes (slice_set seats i (record seat { stakes = mine })))
    (keeps rooms rooms' seat.stakes mine others
    (store_exchanged rooms (all_stakes seats) (seat.stakes
    ++ others) store (exchanges-apart seats i seat at)) changed)
    (exchanges-together seats i seat mine at)

-- a seat that hasn't ended may have any stakes
with_stakes : (seat : SeatView) (stakes : List Stake) → seat.ended ≡ false → HasSeenNothing seat
    → HasSeenNothing (record seat { stakes = stakes })
with_stakes seat stakes active is = record {
  no_pins = is.no_pins;
  no_passes = is.no_passes;
  seen = is.seen;
  no_places = is.no_places;
  no_stakes = λ ended. absurd (true≢false (sym ended ∙ active));
}

-- a world whose store and one seat's stakes change is good
changed-good : (old new : World) (actor : ℕ) (Change : Store → List Stake → Store → List Stake → Type 0)
    → Keeps Change → IsGood old → ChangesStore old actor Change new → IsGood new
changed-good old new actor Change keeps good is =
    subst IsGood (sym is.now) (record {
      store = store_after old.seats actor is.seat Change old.state.shards is.rooms is.stakes keeps
          is.acts.there good.store is.changed;
      memos = good.memos;
      registry = good.registry;
      seats = All-set HasSeenNothing old.seats actor (record is.seat { stakes = is.stakes })
          (with_stakes is.seat is.stakes is.acts.active (good-seat old actor is.seat good is.acts.there))
          good.seats;
    })

-- a world with one seat more is good
added-good : (old new : World) (actor : ℕ) → IsGood old → AddsSeat old actor new → IsGood new
added-good old new actor good is =
    subst IsGood (sym is.now) (record {
      store = store_exchanged old.state.shards (all_stakes old.seats)
          (all_stakes (old.seats ++ empty_seat is.seat.seen ∷ [])) good.store
          (exchanges-push old.seats (empty_seat is.seat.seen));
      memos = good.memos;
      registry = good.registry;
      seats = All-push HasSeenNothing old.seats (empty_seat is.seat.seen) good.seats (record {
        no_pins = refl;
        no_passes = refl;
        seen = (good-seat old actor is.seat good is.acts.there).seen;
        no_places = refl;
        no_stakes = λ ended. refl;
      });
    })

-- a seat that has ended has neither seen nor made an entry
ended_is : (s : SeatView) → HasSeenNothing s → HasSeenNothing (ended_seat s)
ended_is s is = record {
  no_pins = is.no_pins;
  no_passes = is.no_passes;
  seen = is.seen;
  no_places = refl;
  no_stakes = λ ended. refl;
}

-- the seat that another one was joined to
abbrev joined_seat : SeatView → SeatView → List Stake → SeatView
joined_seat a b stakes = record a {
  stakes = stakes;
  seen = max a.seen b.seen;
  places = a.places ++ b.places;
}

-- it has neither seen nor made one either
joined_is : (a b : SeatView) (stakes : List Stake) → a.ended ≡ false → HasSeenNothing a → HasSeenNothing b
    → HasSeenNothing (joined_seat a b stakes)
joined_is a b stakes active is of = record {
  no_pins = is.no_pins;
  no_passes = is.no_passes;
  seen = omega (arith, is.seen, of.seen);
  no_places = ap (λ (p : List ℕ). p ++ b.places) is.no_places ∙ of.no_places;
  no_stakes = λ ended. absurd (true≢false (sym ended ∙ active));
}

-- a world where a seat was joined to another is good
joined-good : (old new : World) (actor other : ℕ) → IsGood old → other ≢ actor
    → JoinsSeats old actor other new → IsGood new
joined-good old new actor other good apart is =
    let first = slice_set old.seats other (ended_seat is.joined) in
    let last = joined_seat is.seat is.joined is.stakes in
    let stays : slice_get first actor ≡ Some is.seat =
    slice_get-set_other old.seats other actor (ended_seat is.joined) apart ∙ is.acts.there in
    subst IsGood (sym is.now) (record {
      store = store_exchanged old.state.shards (all_stakes old.seats) (all_stakes (slice_set first actor
          last))
          good.store (λ x. omega (
            arith,
            exchanges-set old.seats other is.joined (ended_seat is.joined) is.was_active.there x,
            exchanges-set first actor is.seat last stays x,
            is.moved x,
          ));
      memos = good.memos;
      registry = good.registry;
      seats = All-set HasSeenNothing first actor last
          (joined_is is.seat is.joined is.stakes is.acts.active
          (good-seat old actor is.seat good is.acts.there)
          (good-seat old other is.joined good is.was_active.there))
          (All-set HasSeenNothing old.seats other (ended_seat is.joined)
          (ended_is is.joined (good-seat old other is.joined good is.was_active.there)) good.seats);
    })

-- whatever event a seat makes that it may make, and whatever it is answered
pub steps-good : (old new : World) (actor : ℕ) (e : HallEvent) (answer : StepAnswer) → IsGood old
    → Allows old actor e → IsStep old actor e answer new → IsGood new
steps-good old new actor (event.Intern key) (answer.Interned i) good may is =
    changed-good old new actor (InternsIn key i) (interned key i) good is
steps-good old new actor (event.Intern key) (answer.Spent v) good may is = subst IsGood (sym is.1) good
steps-good old new actor (event.Read (read.Node n)) (answer.Node key) good may is =
    subst IsGood (sym is.1) good
steps-good old new actor (event.Drop n) (answer.Dropped d) good may is =
    changed-good old new actor (DropsIn n d) (dropped n d) good is
steps-good old new actor (event.Split None) answer.Split good may is = added-good old new actor good is
steps-good old new actor (event.Join other) answer.Joined good may is =
    joined-good old new actor other good may.2.0 is
steps-good old new actor (event.Read of) answer.Memory good may is = absurd is
steps-good old new actor e answer.Memory good may is = subst IsGood (sym is) good
steps-good old new actor e answer good may is = absurd is
