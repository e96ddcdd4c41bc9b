-- What a seat may do, and what becomes of the world.
use Rattle.std.specs.Prelude.{◌≡◌, ◌≢◌, ℕ, List, [], ◌∷◌, ◌++◌, Option, Some, slice_set}
use Rattle.std.specs.List.{Contains}
use Rattle.hall_history.specs.History.{Entry}
use Rattle.hall_history.specs.declared.published.Published.TheVariants.{Root}
use Rattle.hall_history.specs.declared.seat.PinView.{PinView}
use Rattle.hall_world.specs.Calls.{Answers, RoomCall, RoomValue, call_of, room_asked, room_at, with_room}
use Rattle.hall_world.specs.Past.{Past, up_to}
use Rattle.hall_world.specs.Seats.{Changes, Joins, MayJoin, MayMake, Splits}
use Rattle.hall_world.specs.World.{IsActive, ended_seat}
use Rattle.hall_world.specs.declared.events.HallEvent.{HallEvent}
use Rattle.hall_world.specs.declared.events.HallEvent.TheVariants as event
use Rattle.hall_world.specs.declared.events.ReadOf.TheVariants as read
use Rattle.hall_world.specs.declared.events.StepAnswer.{StepAnswer}
use Rattle.hall_world.specs.declared.events.StepAnswer.TheVariants as answer
use Rattle.hall_world.specs.declared.world.SeatView.{SeatView}
use Rattle.hall_world.specs.declared.world.World.{World}
use Rattle.node_key.specs.Leads.{Leads}
use Rattle.node_key.specs.declared.stake.Stake.{Stake}
use Rattle.registry_core.specs.Asking.{asked_ids}
use Rattle.registry_core.specs.Registry.{RegistryValue, kept_trace}
use Rattle.registry_core.specs.Trace.{Trace, published_by}
use Rattle.store_laws.specs.Store.{key_in}

-- ---- what a seat reaches

-- the number is a root that the pin sees
pub record SeesRoot (registry : RegistryValue) (p : PinView) (root : ℕ) : Type 0 where
  pub id : ℕ
  pub asked : Contains (asked_ids p.ids) id
  pub trace : Trace
  pub kept : kept_trace registry.traces id ≡ Some trace
  pub track : ℕ
  pub start : ℕ
  pub told : published_by trace p.place track ≡ Root start root

-- The number lies under the number of a stake of the seat, or under a root that one of its pins sees.
pub data IsReachedBy (w : World) (seat : SeatView) (n : ℕ) : Type 0 where
  by_stake : (x : Stake) → Contains seat.stakes x → Leads (key_in w.state.shards) x.number n
      → IsReachedBy w seat n
  by_pin : (p : PinView) (root : ℕ) → Contains seat.pins p → SeesRoot w.state.registry p root
      → Leads (key_in w.state.shards) root n → IsReachedBy w seat n

-- ---- what it may do

-- the seat may join another one, which isn't itself
abbrev pub AllowsJoin : World → ℕ → SeatView → ℕ → Type 0
AllowsJoin w actor seat other =
    (other ≢ actor) × (joined : SeatView) × IsActive w other joined × MayJoin seat joined

-- the seat may make the event
abbrev pub AllowsSeat : Past → World → ℕ → SeatView → HallEvent → Type 0
AllowsSeat past w actor seat (event.Join other) = AllowsJoin w actor seat other
AllowsSeat past w actor seat e = MayMake (IsReachedBy w seat) (up_to past seat.seen) seat e

-- the seat of this index may make the event
abbrev pub Allows : Past → World → ℕ → HallEvent → Type 0
Allows past w actor e = (seat : SeatView) × IsActive w actor seat × AllowsSeat past w actor seat e

-- ---- what becomes of the world

-- the room of a number has another value, and the seat of an index is another one
abbrev pub with_changes : World → ℕ → RoomValue → ℕ → SeatView → World
with_changes w k y actor seat = record w {
  state = with_room w.state k y;
  seats = slice_set w.seats actor seat;
}

-- The event's room answers it, the seat changes with the answer, and all else stays.
pub record ChangesRoom (past : Past) (old : World) (actor : ℕ) (e : HallEvent) (a : StepAnswer)
    (entries : List Entry) (new : World) : Type 0 where
  pub seat : SeatView
  pub acts : IsActive old actor seat
  pub call : RoomCall
  pub asks : call_of seat e ≡ Some call
  pub before : RoomValue
  pub there : room_at old.state (room_asked call) ≡ Some before
  pub now : RoomValue
  pub answered : Answers call a before now
  pub after : SeatView
  pub changed : Changes past seat e a entries after
  pub world : new ≡ with_changes old (room_asked call) now actor after

-- another seat is made, which comes last
pub record MakesSeat (old : World) (actor : ℕ) (part : Option (ℕ × ℕ)) (new : World) : Type 0 where
  pub seat : SeatView
  pub acts : IsActive old actor seat
  pub left : SeatView
  pub right : SeatView
  pub split : Splits seat part left right
  pub world : new ≡ record old { seats = slice_set old.seats actor left ++ right ∷ [] }

-- another seat ends, and this one takes over what it had
pub record EndsSeat (old : World) (actor other : ℕ) (new : World) : Type 0 where
  pub seat : SeatView
  pub acts : IsActive old actor seat
  pub joined : SeatView
  pub was_active : IsActive old other joined
  pub after : SeatView
  pub joins : Joins seat joined after
  pub world : new ≡ record old { seats = slice_set (slice_set old.seats other ended_seat) actor after }

-- an event that may find no memory: all but reads of keys, of roots and of names
abbrev pub TakesMemory : HallEvent → Type 0
TakesMemory (event.Read (read.Node n)) = ⊥
TakesMemory (event.Read (read.Root pin which track)) = ⊥
TakesMemory (event.Read (read.Names pin)) = ⊥
TakesMemory _ = Unit {0}

-- The seat of this index makes the event, which has this answer and makes these entries. The answer that no
-- memory was found changes nothing.
abbrev pub IsStep : Past → World → ℕ → HallEvent → StepAnswer → List Entry → World → Type 0
IsStep past old actor (event.Split part) answer.Split entries new =
    (entries ≡ []) × MakesSeat old actor part new
IsStep past old actor (event.Join other) answer.Joined entries new =
    (entries ≡ []) × EndsSeat old actor other new
IsStep past old actor e answer.Memory entries new = TakesMemory e × (entries ≡ []) × (new ≡ old)
IsStep past old actor e a entries new = ChangesRoom past old actor e a entries new
