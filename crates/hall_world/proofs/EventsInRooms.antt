-- A good world stays good after each event of a seat in a room.
use Rattle.std.proofs.Common.{◌≡◌, ◌%◌, ◌<◌, ℕ, Bool, true, false, List, None, Option, Some, ap, arith, refl, slice_get, subst, sym}
use Rattle.std.proofs.lemmas.Bool.{false≢true}
use Rattle.std.proofs.lemmas.Option.{none-some, same_Some}
use Rattle.std.specs.Option.{option_and_then}
use Rattle.list_lemmas.proofs.Options.{option_map_found}
use Rattle.hall_history.specs.History.{Entry}
use Rattle.hall_history.specs.declared.seat.PassView.{PassView}
use Rattle.hall_world.specs.Calls.{Answers, Dropping, InRegistry, InStore, Interning}
use Rattle.hall_world.specs.Calls.{ReadingKey, RoomCall, RoomValue, call_of, next_track, publication, read_call}
use Rattle.hall_world.specs.Calls.{room_asked, room_at}
use Rattle.hall_world.specs.Good.{IsGood}
use Rattle.hall_world.specs.Past.{Past, up_to, with_entries}
use Rattle.hall_world.specs.Seats.{Changes, MayMake, anything}
use Rattle.hall_world.specs.Steps.{with_changes}
use Rattle.hall_world.specs.World.{IsActive}
use Rattle.hall_world.specs.declared.events.HallEvent.{HallEvent}
use Rattle.hall_world.specs.declared.events.HallEvent.TheVariants as event
use Rattle.hall_world.specs.declared.events.ReadOf.{ReadOf}
use Rattle.hall_world.specs.declared.events.ReadOf.TheVariants as read
use Rattle.hall_world.specs.declared.events.StepAnswer.{StepAnswer}
use Rattle.hall_world.specs.declared.limits.TheConstants.{REGISTRY_ROOM}
use Rattle.hall_world.specs.declared.world.SeatView.{SeatView}
use Rattle.hall_world.specs.declared.world.World.{World}
use Rattle.hall_world.proofs.EventsKept.{registry_kept}
use Rattle.hall_world.proofs.EventsOnStore.{drop_one, intern, read_key}
use Rattle.hall_world.proofs.WorldsChanged.{the_registry, the_store_room}
use Rattle.node_key.specs.Rooms.{room}
use Rattle.node_key.specs.declared.key.NodeKey.{NodeKey}
use Rattle.node_key.specs.declared.limits.TheConstants.{STORE_ROOMS}
use Rattle.shard_core.specs.Room.{Room}

-- ---- which events are made on the registry

-- whether the event is made in a room of the store
abbrev pub is_of_store : HallEvent → Bool
is_of_store (event.Intern key) = true
is_of_store (event.Read (read.Node n)) = true
is_of_store (event.Drop n) = true
is_of_store _ = false

reads_registry : (seat : SeatView) (of : ReadOf) (call : RoomCall) → read_call seat of ≡ Some call
    → is_of_store (event.Read of) ≡ false → room_asked call ≡ REGISTRY_ROOM
reads_registry seat (read.Node n) call asks other = absurd (false≢true (sym other))
reads_registry seat (read.Root pin which track) call asks other =
    let (p, there, is) = option_map_found _ (slice_get seat.pins pin) call asks in ap room_asked (sym is)
reads_registry seat (read.Info pin which) call asks other =
    let (p, there, is) = option_map_found _ (slice_get seat.pins pin) call asks in ap room_asked (sym is)
reads_registry seat (read.Names pin) call asks other =
    let (p, there, is) = option_map_found _ (slice_get seat.pins pin) call asks in ap room_asked (sym is)

publishes_there : (start root : ℕ) (o : Option PassView) (call : RoomCall)
    → option_and_then (publication start root) o ≡ Some call → room_asked call ≡ REGISTRY_ROOM
publishes_there start root None call asks = absurd (none-some call asks)
publishes_there start root (Some p) call asks =
    let (track, there, is) = option_map_found _ (next_track p.state) call asks in ap room_asked (sym is)

-- all others are made on the registry
pub asks_registry : (seat : SeatView) (e : HallEvent) (call : RoomCall) → call_of seat e ≡ Some call
    → is_of_store e ≡ false → room_asked call ≡ REGISTRY_ROOM
asks_registry seat (event.Intern key) call asks other = absurd (false≢true (sym other))
asks_registry seat (event.Read of) call asks other = reads_registry seat of call asks other
asks_registry seat (event.Drop n) call asks other = absurd (false≢true (sym other))
asks_registry seat (event.Split part) call asks other = absurd (none-some call asks)
asks_registry seat (event.Join joined) call asks other = absurd (none-some call asks)
asks_registry seat (event.Admit info) call asks other = ap room_asked (sym (same_Some _ call asks))
asks_registry seat (event.Publish pass start root) call asks other =
    publishes_there start root (slice_get seat.passes pass) call asks
asks_registry seat (event.Seal pass) call asks other =
    let (p, there, is) = option_map_found _ (slice_get seat.passes pass) call asks in ap room_asked (sym is)
asks_registry seat (event.Abandon pass) call asks other =
    let (p, there, is) = option_map_found _ (slice_get seat.passes pass) call asks in ap room_asked (sym is)
asks_registry seat (event.Ask ids) call asks other = ap room_asked (sym (same_Some _ call asks))
asks_registry seat (event.Unpin pin) call asks other =
    let (p, there, is) = option_map_found _ (slice_get seat.pins pin) call asks in ap room_asked (sym is)
asks_registry seat (event.Close id) call asks other = ap room_asked (sym (same_Some _ call asks))
asks_registry seat event.List call asks other = ap room_asked (sym (same_Some _ call asks))

-- a key's room is one of the store's
pub room_low : (key : NodeKey) → room key < STORE_ROOMS
unfolding room
room_low key = omega arith

-- ---- each of them

module _ (past : Past) (w : World) (actor : ℕ) (seat : SeatView) (good : IsGood past w) (acts : IsActive w actor seat)
  where
    -- on the registry
    on_registry : (e : HallEvent) (a : StepAnswer) (call : RoomCall) (x y : RoomValue) (entries : List Entry)
        (after : SeatView) → is_of_store e ≡ false → MayMake anything (up_to past seat.seen) seat e
        → call_of seat e ≡ Some call → room_at w.state (room_asked call) ≡ Some x → Answers call a x y
        → Changes past seat e a entries after
        → IsGood (with_entries past entries) (with_changes w (room_asked call) y actor after)
    on_registry e a call x y entries after other may asks at answered changed =
        let room_is = asks_registry seat e call asks other in
        let is = the_registry w.state x (subst (λ k. room_at w.state k ≡ Some x) room_is at) in
        subst (λ k. IsGood (with_entries past entries) (with_changes w k y actor after)) (sym room_is)
        (by y (subst (λ v. Answers call a v y) (sym is) answered))
      where
        by : (y : RoomValue) → Answers call a (InRegistry w.state.registry) y
            → IsGood (with_entries past entries) (with_changes w REGISTRY_ROOM y actor after)
        by (InRegistry r) told = registry_kept past w actor seat after good acts r e a call entries may asks told changed
        by (InStore r) told = absurd told

    -- in a room of the store
    in_store : (k : ℕ) (call : RoomCall) (a : StepAnswer) (x y : RoomValue) (entries : List Entry) (after : SeatView)
        → k < STORE_ROOMS → room_at w.state k ≡ Some x → Answers call a x y
        → ((before now : Room) → slice_get w.state.shards k ≡ Some before → Answers call a (InStore before) (InStore now)
        → IsGood (with_entries past entries) (with_changes w k (InStore now) actor after))
        → IsGood (with_entries past entries) (with_changes w k y actor after)
    in_store k call a x y entries after low at answered each =
        let (before, there, is) = the_store_room w.state k x low at in
        by y before there (subst (λ v. Answers call a v y) (sym is) answered)
      where
        by : (y : RoomValue) (before : Room) → slice_get w.state.shards k ≡ Some before → Answers call a (InStore before) y
            → IsGood (with_entries past entries) (with_changes w k y actor after)
        by (InStore now) before there told = each before now there told
        by (InRegistry r) before there told = absurd told

    pub event_kept : (e : HallEvent) (a : StepAnswer) (call : RoomCall) (x y : RoomValue) (entries : List Entry)
        (after : SeatView) → MayMake anything (up_to past seat.seen) seat e
        → call_of seat e ≡ Some call → room_at w.state (room_asked call) ≡ Some x → Answers call a x y
        → Changes past seat e a entries after
        → IsGood (with_entries past entries) (with_changes w (room_asked call) y actor after)
    event_kept (event.Intern key) a call x y entries after may asks at answered changed =
        let is = same_Some (Interning key) call asks in
        subst (λ c. IsGood (with_entries past entries) (with_changes w (room_asked c) y actor after)) is
        (in_store (room key) (Interning key) a x y entries after (room_low key)
        (subst (λ c. room_at w.state (room_asked c) ≡ Some x) (sym is) at)
        (subst (λ c. Answers c a x y) (sym is) answered)
        (λ before now there told. intern past w actor seat after good acts (room key) before now there key a entries refl
        told changed))
    event_kept (event.Read (read.Node n)) a call x y entries after may asks at answered changed =
        let is = same_Some (ReadingKey n) call asks in
        subst (λ c. IsGood (with_entries past entries) (with_changes w (room_asked c) y actor after)) is
        (in_store (n % STORE_ROOMS) (ReadingKey n) a x y entries after (omega arith)
        (subst (λ c. room_at w.state (room_asked c) ≡ Some x) (sym is) at)
        (subst (λ c. Answers c a x y) (sym is) answered)
        (λ before now there told. read_key past w actor seat after good acts (n % STORE_ROOMS) before now there n a
        entries told changed))
    event_kept (event.Drop n) a call x y entries after may asks at answered changed =
        let is = same_Some (Dropping n) call asks in
        subst (λ c. IsGood (with_entries past entries) (with_changes w (room_asked c) y actor after)) is
        (in_store (n % STORE_ROOMS) (Dropping n) a x y entries after (omega arith)
        (subst (λ c. room_at w.state (room_asked c) ≡ Some x) (sym is) at)
        (subst (λ c. Answers c a x y) (sym is) answered)
        (λ before now there told. drop_one past w actor seat after good acts (n % STORE_ROOMS) before now there n a
        entries refl told changed))
    event_kept e a call x y entries after may asks at answered changed =
        on_registry e a call x y entries after refl may asks at answered changed
