-- The world after the event of one seat on one room, put together from its parts.
use Rattle.std.proofs.Common.{◌≡◌, ◌<◌, ℕ, Bool, false, List, Option, None, Some, All, arith, eqb, refl, subst}
use Rattle.std.proofs.Common.{if◌then◌else◌, slice_get, slice_set}
use Rattle.std.proofs.lemmas.Bool.{ne_eqb}
use Rattle.std.proofs.lemmas.Option.{none-some, same_Some}
use Rattle.std.specs.Option.{option_map}
use Rattle.hall_world.specs.Calls.{InRegistry, InStore, RoomValue, room_at}
use Rattle.hall_world.specs.Good.{HoldsNodes, IsGood, IsGoodSeat, IsUsedByPins, KeepsHistory, SharePlaces}
use Rattle.hall_world.specs.Passes.{SharePasses}
use Rattle.hall_world.specs.Past.{Past}
use Rattle.hall_world.specs.Steps.{with_changes}
use Rattle.hall_world.specs.World.{all_passes}
use Rattle.hall_world.specs.declared.limits.TheConstants.{REGISTRY_ROOM}
use Rattle.hall_world.specs.declared.world.HallState.{HallState}
use Rattle.hall_world.specs.declared.world.SeatView.{SeatView}
use Rattle.hall_world.specs.declared.world.World.{World}
use Rattle.node_key.specs.declared.limits.TheConstants.{STORE_ROOMS}
use Rattle.registry_core.specs.Registry.{RegistryValue}
use Rattle.shard_core.specs.Room.{Room}

-- ---- the rooms

-- the registry's room has the registry
pub the_registry : (s : HallState) (x : RoomValue) → room_at s REGISTRY_ROOM ≡ Some x
    → InRegistry s.registry ≡ x
the_registry s x at = same_Some _ x at

-- the value of a store room, if that is what is there
store_value : (o : Option Room) (x : RoomValue) → option_map InStore o ≡ Some x
    → (r : Room) × (o ≡ Some r) × (InStore r ≡ x)
store_value None x at = absurd (none-some x at)
store_value (Some r) x at = (r, refl, same_Some _ x at)

-- a room of the store is one of the store's
pub the_store_room : (s : HallState) (k : ℕ) (x : RoomValue) → k < STORE_ROOMS → room_at s k ≡ Some x
    → (r : Room) × (slice_get s.shards k ≡ Some r) × (InStore r ≡ x)
the_store_room s k x low at =
    let other : eqb k REGISTRY_ROOM ≡ false = ne_eqb k REGISTRY_ROOM (λ same. absurd (omega (arith, same, low))) in
    store_value (slice_get s.shards k) x
    (subst (λ (b : Bool). (if b then Some (InRegistry s.registry) else option_map InStore (slice_get s.shards k))
    ≡ Some x) other at)

-- ---- the world

module _ (past : Past) (w : World) (actor : ℕ) (after : SeatView) where
  -- the seats after the event
  abbrev pub seats_after : List SeatView
  seats_after = slice_set w.seats actor after

  -- after an event on the registry
  pub good_registry : (r : RegistryValue) → HoldsNodes w.state.shards seats_after r
      → IsGood past w → (later : Past) → KeepsHistory w.state.shards r later → IsUsedByPins r seats_after
      → All (IsGoodSeat later) seats_after → SharePlaces later seats_after
      → SharePasses later.entries (all_passes seats_after)
      → IsGood later (with_changes w REGISTRY_ROOM (InRegistry r) actor after)
  good_registry r nodes good later history users seats places passes = record {
    nodes = nodes;
    memos = good.memos;
    history = history;
    users = users;
    seats = seats;
    places = places;
    passes = passes;
  }

  -- after an event in a room of the store
  pub good_store : (k : ℕ) (room : Room) → HoldsNodes (slice_set w.state.shards k room) seats_after w.state.registry
      → IsGood past w → (later : Past) → KeepsHistory (slice_set w.state.shards k room) w.state.registry later
      → IsUsedByPins w.state.registry seats_after → All (IsGoodSeat later) seats_after
      → SharePlaces later seats_after → SharePasses later.entries (all_passes seats_after)
      → IsGood later (with_changes w k (InStore room) actor after)
  good_store k room nodes good later history users seats places passes = record {
    nodes = nodes;
    memos = good.memos;
    history = history;
    users = users;
    seats = seats;
    places = places;
    passes = passes;
  }
