-- A good world stays good after each event of a seat in a room of the store.
use Rattle.std.proofs.Common.{◌≡◌, ◌%◌, ◌∙◌, ℕ, List, [], ◌∷◌, ◌++◌, Some, ap, refl, slice_get, slice_set, subst, sym}
use Rattle.hall_history.specs.History.{Entry}
use Rattle.hall_world.specs.Calls.{AnswersInStore, Dropping, InStore, Interning, ReadingKey}
use Rattle.hall_world.specs.Good.{HoldsNodes, IsGood, KeepsHistory}
use Rattle.hall_world.specs.Passes.{SharePasses}
use Rattle.hall_world.specs.Past.{Past, with_entries}
use Rattle.hall_world.specs.Seats.{Changes, handed_over, number_told}
use Rattle.node_key.specs.Stakes.{stake}
use Rattle.hall_world.specs.Steps.{with_changes}
use Rattle.hall_world.specs.World.{IsActive, all_passes, all_stakes}
use Rattle.hall_world.specs.declared.events.HallEvent.{HallEvent}
use Rattle.hall_world.specs.declared.events.HallEvent.TheVariants as event
use Rattle.hall_world.specs.declared.events.ReadOf.TheVariants as read
use Rattle.hall_world.specs.declared.events.StepAnswer.{StepAnswer}
use Rattle.hall_world.specs.declared.events.StepAnswer.TheVariants as answer
use Rattle.hall_world.specs.declared.world.SeatView.{SeatView}
use Rattle.hall_world.specs.declared.world.World.{World}
use Rattle.hall_world.proofs.EventsKept.{exchanged_same, restaked_swap}
use Rattle.hall_world.proofs.EventsOnRegistry.{shared_same}
use Rattle.hall_world.proofs.NodesKept.{dropped_store, interned_store, roots_stand, same_nodes}
use Rattle.hall_world.proofs.PinUsers.{users_kept}
use Rattle.hall_world.proofs.RegistryReady.{keys_of_roots}
use Rattle.hall_world.proofs.SeatsGoOn.{GoesOn, IsNews, places_go_on, seat_goes_on, seats_go_on}
use Rattle.hall_world.proofs.SeatsParted.{sees_at}
use Rattle.hall_world.proofs.SeatsSeePast.{no_entries}
use Rattle.hall_world.proofs.WorldsChanged.{good_store}
use Rattle.hall_world.specs.Past.{start_of}
use Rattle.node_key.specs.Rooms.{room}
use Rattle.node_key.specs.declared.key.NodeKey.{NodeKey}
use Rattle.node_key.specs.declared.limits.TheConstants.{STORE_ROOMS}
use Rattle.shard_core.specs.Interning.{Drops}
use Rattle.shard_core.specs.Room.{Room}
use Rattle.store_laws.specs.Counted.{IsStore}
use Rattle.store_laws.specs.Store.{key_in}
use Rattle.store_laws.specs.StoreSteps.{IsStoreStep, dropped, interned}
use Rattle.list_lemmas.proofs.Positions.{set_same}

module _ (past : Past) (w : World) (actor : ℕ) (seat after : SeatView) (good : IsGood past w)
    (acts : IsActive w actor seat) (e : HallEvent) (a : StepAnswer) (entries : List Entry)
    (changed : Changes past seat e a entries after) (none : entries ≡ []) (news : IsNews past e a)
  where
    goes : GoesOn past seat entries after
    goes = seat_goes_on past seat e a entries after
        (sees_at past w.seats actor seat good.seats acts.there acts.active) acts.active news changed

    -- the world is good, if its nodes are and each root stands for what it stood for
    pub store_goes_on : (k : ℕ) (now : Room) → after.passes ≡ seat.passes → after.pins ≡ seat.pins
        → HoldsNodes (slice_set w.state.shards k now) (slice_set w.seats actor after) w.state.registry
        → KeepsHistory (slice_set w.state.shards k now) w.state.registry past
        → IsGood (with_entries past entries) (with_changes w k (InStore now) actor after)
    store_goes_on k now passes pins nodes history =
        let same = sym (no_entries past) ∙ ap (with_entries past) (sym none) in
        good_store past w actor after k now nodes good (with_entries past entries)
        (subst (KeepsHistory (slice_set w.state.shards k now) w.state.registry) same history)
        (users_kept w.state.registry w.seats actor seat after acts.there pins good.users)
        (seats_go_on past w.seats actor seat after entries good.seats goes)
        (places_go_on past w.seats actor seat after entries acts.there good.places goes)
        (subst (λ p. SharePasses p.entries (all_passes (slice_set w.seats actor after))) same
        (shared_same past.entries w.seats actor seat after acts.there good.passes passes))

    -- a step of the store, after which each root that the registry keeps stands
    pub step_goes_on : (k : ℕ) (now : Room) → after.passes ≡ seat.passes → after.pins ≡ seat.pins
        → IsStoreStep w.state.shards (slice_set w.state.shards k now)
        → IsStore (slice_set w.state.shards k now) (all_stakes (slice_set w.seats actor after) ++ good.nodes.roots)
        → IsGood (with_entries past entries) (with_changes w k (InStore now) actor after)
    step_goes_on k now passes pins step store =
        store_goes_on k now passes pins
        (record { roots = good.nodes.roots; of_registry = good.nodes.of_registry; store = store }) (record {
          legal = good.history.legal;
          stands = keys_of_roots (key_in w.state.shards) (key_in (slice_set w.state.shards k now)) (start_of past)
              w.state.registry past.entries
              (roots_stand w.state.shards w.seats w.state.registry actor seat after good.nodes acts.there
              (slice_set w.state.shards k now) step store)
              good.history.stands;
        })

    -- nothing changes
    pub room_stays : (k : ℕ) (room : Room) → slice_get w.state.shards k ≡ Some room → after ≡ seat
        → IsGood (with_entries past entries) (with_changes w k (InStore room) actor after)
    room_stays k room at is =
        let same : slice_set w.state.shards k room ≡ w.state.shards = set_same w.state.shards k room at in
        store_goes_on k room (ap (λ (s : SeatView). s.passes) is) (ap (λ (s : SeatView). s.pins) is)
        (subst (λ rooms. HoldsNodes rooms (slice_set w.seats actor after) w.state.registry) (sym same)
        (same_nodes w.state.shards w.seats w.state.registry actor seat after good.nodes acts.there w.state.registry
        (exchanged_same seat.stakes after.stakes (ap (λ (s : SeatView). s.stakes) is)) (λ n. refl)))
        (subst (λ rooms. KeepsHistory rooms w.state.registry past) (sym same) good.history)

-- ---- all events

module _ (past : Past) (w : World) (actor : ℕ) (seat after : SeatView) (good : IsGood past w)
    (acts : IsActive w actor seat) (k : ℕ) (before now : Room) (at : slice_get w.state.shards k ≡ Some before)
  where
    -- what is to be shown of some entries
    abbrev pub StaysGood : List Entry → Type 0
    StaysGood entries = IsGood (with_entries past entries) (with_changes w k (InStore now) actor after)

    pub intern : (key : NodeKey) (a : StepAnswer) (entries : List Entry) → k ≡ room key
        → AnswersInStore (Interning key) a before now → Changes past seat (event.Intern key) a entries after
        → StaysGood entries
    intern key (answer.Interned i) entries is answered (none, t, kids, staked, restaked) =
        let there = subst (λ n. slice_get w.state.shards n ≡ Some before) is at in
        subst (λ n. IsGood (with_entries past entries) (with_changes w n (InStore now) actor after)) (sym is)
        (step_goes_on past w actor seat after good acts (event.Intern key) (answer.Interned i) entries
        (none, t, kids, staked, restaked) none _ (room key) now (ap (λ (s : SeatView). s.passes) restaked.now)
        (ap (λ (s : SeatView). s.pins) restaked.now) (interned key i before now there answered)
        (interned_store w.state.shards w.seats w.state.registry actor seat after good.nodes acts.there key i t kids
        before now there answered staked
        (restaked_swap seat after (handed_over i kids) (stake (number_told i) t ∷ []) restaked)))
    intern key (answer.Spent v) entries is (spent, same) (none, stays) =
        subst (λ r. IsGood (with_entries past entries) (with_changes w k (InStore r) actor after)) (sym same)
        (room_stays past w actor seat after good acts (event.Intern key) (answer.Spent v) entries (none, stays) none _
        k before at stays)
    intern key a entries is answered none = absurd none

    pub drop_one : (n : ℕ) (a : StepAnswer) (entries : List Entry) → k ≡ n % STORE_ROOMS
        → AnswersInStore (Dropping n) a before now → Changes past seat (event.Drop n) a entries after
        → StaysGood entries
    drop_one n (answer.Dropped d) entries is answered (none, x, has, number, kids, freed, restaked) =
        let room_is : k ≡ x.number % STORE_ROOMS = is ∙ ap (λ m. m % STORE_ROOMS) (sym number) in
        let there = subst (λ m. slice_get w.state.shards m ≡ Some before) room_is at in
        let drops = subst (λ m. Drops before m d now) (sym number) answered in
        subst (λ m. IsGood (with_entries past entries) (with_changes w m (InStore now) actor after)) (sym room_is)
        (step_goes_on past w actor seat after good acts (event.Drop n) (answer.Dropped d) entries
        (none, x, has, number, kids, freed, restaked) none _ (x.number % STORE_ROOMS) now
        (ap (λ (s : SeatView). s.passes) restaked.now) (ap (λ (s : SeatView). s.pins) restaked.now)
        (dropped x.number d before now there drops)
        (dropped_store w.state.shards w.seats w.state.registry actor seat after good.nodes acts.there d x kids before
        now there drops has freed (restaked_swap seat after (x ∷ []) kids restaked)))
    drop_one n a entries is answered none = absurd none

    pub read_key : (n : ℕ) (a : StepAnswer) (entries : List Entry)
        → AnswersInStore (ReadingKey n) a before now
        → Changes past seat (event.Read (read.Node n)) a entries after → StaysGood entries
    read_key n (answer.Node key) entries (count, found, same) (none, is) =
        subst (λ r. IsGood (with_entries past entries) (with_changes w k (InStore r) actor after)) (sym same)
        (room_stays past w actor seat after good acts (event.Read (read.Node n)) (answer.Node key) entries (none, is)
        none _ k before at is)
    read_key n a entries answered changed = absurd answered
