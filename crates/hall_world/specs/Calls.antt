-- What an event asks of one room, and what the room answers. Both are about one room's value alone.
use Rattle.std.specs.Prelude.{◌≡◌, ◌↔◌, ℕ, ◌+◌, ◌%◌, ◌==◌, if◌then◌else◌, slice_get, slice_set}
use Rattle.std.specs.Prelude.{Option, None, Some, Ok, Err, IsTrue}
use Rattle.std.specs.Arc.{arc_value}
use Rattle.std.specs.Option.{option_and_then, option_map}
use Rattle.hall_history.specs.Asks.{id_at}
use Rattle.hall_history.specs.declared.asks.AskIds.{AskIds}
use Rattle.hall_history.specs.declared.asks.PassState.{PassState}
use Rattle.hall_history.specs.declared.asks.PassState.TheVariants.{Broken, Straight, Whole}
use Rattle.hall_history.specs.declared.seat.PassView.{PassView}
use Rattle.hall_history.specs.declared.seat.PinView.{PinView}
use Rattle.hall_world.specs.declared.events.HallEvent.{HallEvent}
use Rattle.hall_world.specs.declared.events.HallEvent.TheVariants as event
use Rattle.hall_world.specs.declared.events.ReadOf.{ReadOf}
use Rattle.hall_world.specs.declared.events.ReadOf.TheVariants as read
use Rattle.hall_world.specs.declared.events.StepAnswer.{StepAnswer}
use Rattle.hall_world.specs.declared.events.StepAnswer.TheVariants as answer
use Rattle.hall_world.specs.declared.limits.TheConstants.{REGISTRY_ROOM}
use Rattle.hall_world.specs.declared.world.HallState.{HallState}
use Rattle.hall_world.specs.declared.world.SeatView.{SeatView}
use Rattle.node_key.specs.Rooms.{room}
use Rattle.node_key.specs.declared.key.NodeKey.{NodeKey}
use Rattle.node_key.specs.declared.limits.TheConstants.{STORE_ROOMS}
use Rattle.registry_core.specs.Asking.{AsksIn, HaveSameNames, after_unpin, unpinned}
use Rattle.registry_core.specs.Closing.{ClosesIn, ListsIn}
use Rattle.registry_core.specs.Loading.{AdmitsIn, EndsIn, with_published, with_sealed}
use Rattle.registry_core.specs.Registry.{RegistryValue, kept_trace}
use Rattle.registry_core.specs.Trace.{Trace, published_by}
use Rattle.registry_core.specs.declared.answers.RegFault.TheVariants.{Full, Spent}
use Rattle.shard_core.specs.Interning.{Drops, Interns}
use Rattle.shard_core.specs.Room.{HasNode, Room}
use Rattle.shard_core.specs.declared.answers.ShardFault.TheVariants as shard_fault
use Rattle.trace_base.specs.declared.names.TraceInfo.{TraceInfo}

-- ---- what a room is asked

-- A key is interned, read, or its count lowered; or one of the calls of the registry.
pub data RoomCall : Type 0 where
  Interning : (key : NodeKey) → RoomCall
  ReadingKey : (n : ℕ) → RoomCall
  Dropping : (n : ℕ) → RoomCall
  Admitting : (info : TraceInfo) → RoomCall
  Publishing : (id track start root : ℕ) → RoomCall
  Sealing : (id : ℕ) → RoomCall
  Abandoning : (id : ℕ) → RoomCall
  Asking : (ids : AskIds) → RoomCall
  GivingBack : (ids : AskIds) → RoomCall
  Closing : (id : ℕ) → RoomCall
  ListingTraces : RoomCall
  TellingTrack : (id place track : ℕ) → RoomCall
  TellingInfo : (id : ℕ) → RoomCall
  ComparingNames : (ids : AskIds) → RoomCall

-- the track that a pass publishes next
abbrev pub next_track : PassState → Option ℕ
next_track (Straight next) = Some next
next_track Whole = None
next_track Broken = None

-- the publication of a pass's next track
abbrev pub publication : ℕ → ℕ → PassView → Option RoomCall
publication start root p = option_map (λ track. Publishing p.id track start root) (next_track p.state)

-- what a read of what a pin sees asks
abbrev pub read_call : SeatView → ReadOf → Option RoomCall
read_call seat (read.Node n) = Some (ReadingKey n)
read_call seat (read.Root pin which track) =
    option_map (λ (p : PinView). TellingTrack (id_at p.ids which) p.place track) (slice_get seat.pins pin)
read_call seat (read.Info pin which) =
    option_map (λ (p : PinView). TellingInfo (id_at p.ids which)) (slice_get seat.pins pin)
read_call seat (read.Names pin) = option_map (λ (p : PinView). ComparingNames p.ids) (slice_get seat.pins pin)

-- What the event of a seat asks of a room. Seats are made and end without a room.
abbrev pub call_of : SeatView → HallEvent → Option RoomCall
call_of seat (event.Intern key) = Some (Interning key)
call_of seat (event.Read of) = read_call seat of
call_of seat (event.Drop n) = Some (Dropping n)
call_of seat (event.Split part) = None
call_of seat (event.Join other) = None
call_of seat (event.Admit info) = Some (Admitting (arc_value info))
call_of seat (event.Publish pass start root) = option_and_then (publication start root)
    (slice_get seat.passes pass)
call_of seat (event.Seal pass) = option_map (λ (p : PassView). Sealing p.id) (slice_get seat.passes pass)
call_of seat (event.Abandon pass) = option_map (λ (p : PassView). Abandoning p.id)
    (slice_get seat.passes pass)
call_of seat (event.Ask ids) = Some (Asking ids)
call_of seat (event.Unpin pin) = option_map (λ (p : PinView). GivingBack p.ids) (slice_get seat.pins pin)
call_of seat (event.Close id) = Some (Closing id)
call_of seat event.List = Some ListingTraces

-- the number of the room that is asked
abbrev pub room_asked : RoomCall → ℕ
room_asked (Interning key) = room key
room_asked (ReadingKey n) = n % STORE_ROOMS
room_asked (Dropping n) = n % STORE_ROOMS
room_asked _ = REGISTRY_ROOM

-- ---- rooms

-- the value of a room: of the store, or the registry
pub data RoomValue : Type 0 where
  InStore : Room → RoomValue
  InRegistry : RegistryValue → RoomValue

-- the value of the room of this number
abbrev pub room_at : HallState → ℕ → Option RoomValue
room_at s k = if k == REGISTRY_ROOM then Some (InRegistry s.registry) else option_map InStore
    (slice_get s.shards k)

-- the rooms, where the one of this number has another value
abbrev pub with_room : HallState → ℕ → RoomValue → HallState
with_room s k (InStore r) = record s { shards = slice_set s.shards k r }
with_room s k (InRegistry r) = record s { registry = r }

-- ---- what it answers

-- what a room of the store answers, and what becomes of it
abbrev pub AnswersInStore : RoomCall → StepAnswer → Room → Room → Type 0
AnswersInStore (Interning key) (answer.Interned i) old new = Interns old key (Ok i) new
AnswersInStore (Interning key) (answer.Spent v) old new = Interns old key (Err (shard_fault.Spent v)) new
AnswersInStore (ReadingKey n) (answer.Node key) old new = (count : ℕ) × HasNode old n key count × (new ≡ old)
AnswersInStore (Dropping n) (answer.Dropped d) old new = Drops old n d new
AnswersInStore _ _ _ _ = ⊥

-- what the registry answers, and what becomes of it
abbrev pub AnswersInRegistry : RoomCall → StepAnswer → RegistryValue → RegistryValue → Type 0
AnswersInRegistry (Admitting info) (answer.Opened opened) old new = AdmitsIn old info (Ok opened) new
AnswersInRegistry (Admitting info) (answer.Full place) old new = AdmitsIn old info (Err (Full place)) new
AnswersInRegistry (Admitting info) (answer.Spent p) old new = AdmitsIn old info (Err (Spent p)) new
AnswersInRegistry (Publishing id track start root) (answer.Placed place) old new =
    (place ≡ old.place + 1) × (new ≡ with_published old id track start root)
AnswersInRegistry (Sealing id) (answer.Placed place) old new =
    (place ≡ old.place + 1) × (new ≡ with_sealed old id)
AnswersInRegistry (Abandoning id) (answer.Ended end) old new = EndsIn old id end new
AnswersInRegistry (Asking ids) (answer.Asked asked) old new = AsksIn old ids asked new
AnswersInRegistry (GivingBack ids) (answer.Unpinned freed) old new =
    (freed ≡ unpinned ids old.traces) × (new ≡ after_unpin old ids)
AnswersInRegistry (Closing id) (answer.Closed closed) old new = ClosesIn old id closed new
AnswersInRegistry ListingTraces (answer.Listed listing) old new = ListsIn old (Ok listing) new
AnswersInRegistry ListingTraces (answer.Spent p) old new = ListsIn old (Err (Spent p)) new
AnswersInRegistry (TellingTrack id place track) (answer.Root told) old new =
    (t : Trace) × (kept_trace old.traces id ≡ Some t) × (told ≡ published_by t place track) × (new ≡ old)
AnswersInRegistry (TellingInfo id) (answer.Info info) old new =
    (t : Trace) × (kept_trace old.traces id ≡ Some t) × (arc_value info ≡ t.info) × (new ≡ old)
AnswersInRegistry (ComparingNames ids) (answer.Names same) old new =
    (IsTrue same ↔ HaveSameNames old ids) × (new ≡ old)
AnswersInRegistry _ _ _ _ = ⊥

-- what a room answers, and what becomes of it
abbrev pub Answers : RoomCall → StepAnswer → RoomValue → RoomValue → Type 0
Answers call a (InStore old) (InStore new) = AnswersInStore call a old new
Answers call a (InRegistry old) (InRegistry new) = AnswersInRegistry call a old new
Answers _ _ _ _ = ⊥
