-- The world of a hall: its rooms and the seats that act on them, and how it begins.
use Rattle.std.specs.Prelude.{◌≡◌, ℕ, List, [], ◌∷◌, false, true, replicate, Some, slice_get}
use Rattle.std.specs.List.{flat_map}
use Rattle.hall_history.specs.declared.seat.PassView.{PassView}
use Rattle.hall_history.specs.declared.seat.PinView.{PinView}
use Rattle.node_key.specs.declared.stake.Stake.{Stake}
use Rattle.store_laws.specs.Store.{empty_store}
use Rattle.registry_core.specs.Registry.{new_registry}
use Rattle.memo_core.specs.declared.limits.TheConstants.{MEMO_ROOMS}
use Rattle.hall_world.specs.declared.world.HallState.{HallState}
use Rattle.hall_world.specs.declared.world.SeatView.{SeatView}
use Rattle.hall_world.specs.declared.world.World.{World}

-- ---- how it begins

-- a hall without nodes, profiles or traces, whose store rooms give their numbers from this index on
abbrev pub new_state : ℕ → HallState
new_state first = record {
  shards = empty_store first;
  memos = replicate MEMO_ROOMS [];
  registry = new_registry 0 1;
}

-- a seat that has nothing, and has seen the entries up to a place
abbrev pub empty_seat : ℕ → SeatView
empty_seat seen = record { stakes = []; pins = []; passes = []; seen = seen; places = []; ended = false }

-- a new hall with one seat
abbrev pub new_world : ℕ → World
new_world first = record { state = new_state first; seats = empty_seat 0 ∷ [] }

-- ---- its seats

-- a seat that has ended: it has nothing, and does nothing any more
abbrev pub ended_seat : SeatView
ended_seat = record (empty_seat 0) { ended = true }

-- the seat of an index, which hasn't ended
pub record IsActive (w : World) (at : ℕ) (seat : SeatView) : Type 0 where
  pub there : slice_get w.seats at ≡ Some seat
  pub active : seat.ended ≡ false

-- what all seats have together
abbrev pub all_stakes : List SeatView → List Stake
all_stakes seats = flat_map (λ (s : SeatView). s.stakes) seats

abbrev pub all_pins : List SeatView → List PinView
all_pins seats = flat_map (λ (s : SeatView). s.pins) seats

abbrev pub all_passes : List SeatView → List PassView
all_passes seats = flat_map (λ (s : SeatView). s.passes) seats

abbrev pub all_places : List SeatView → List ℕ
all_places seats = flat_map (λ (s : SeatView). s.places) seats
