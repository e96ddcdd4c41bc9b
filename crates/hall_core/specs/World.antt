-- The world of a hall: its rooms and the seats that act on them, and when it is good.
use Rattle.std.specs.Prelude.{◌≡◌, ℕ, List, [], ◌∷◌, All, false, replicate, IsTrue}
use Rattle.std.specs.List.{flat_map}
use Rattle.node_key.specs.declared.stake.Stake.{Stake}
use Rattle.store_laws.specs.Counted.{IsStore}
use Rattle.store_laws.specs.Store.{empty_store}
use Rattle.registry_core.specs.Registry.{new_registry}
use Rattle.memo_core.specs.declared.limits.TheConstants.{MEMO_ROOMS}
use Rattle.hall_core.specs.declared.world.HallState.{HallState}
use Rattle.hall_core.specs.declared.world.SeatView.{SeatView}
use Rattle.hall_core.specs.declared.world.World.{World}

-- ---- how it begins

-- a hall without nodes, profiles or traces, whose store rooms give their numbers from this index on
abbrev pub new_state : ℕ → HallState
new_state first = record {
  shards = empty_store first;
  memos = replicate MEMO_ROOMS [];
  registry = new_registry 0 1;
}

-- a seat that has nothing, and has seen so many entries
abbrev pub empty_seat : ℕ → SeatView
empty_seat seen = record { stakes = []; pins = []; passes = []; seen = seen; places = []; ended = false }

-- a new hall with one seat
abbrev pub new_world : ℕ → World
new_world first = record { state = new_state first; seats = empty_seat 0 ∷ [] }

-- ---- when it is good

-- the stakes of all seats
abbrev pub all_stakes : List SeatView → List Stake
all_stakes seats = flat_map (λ (s : SeatView). s.stakes) seats

-- The seat has made and seen no entry of the hall's history, and so has neither pins nor load passes. One
-- that has ended has no stakes either.
pub record HasSeenNothing (s : SeatView) : Type 0 where
  pub no_pins : s.pins ≡ []
  pub no_passes : s.passes ≡ []
  pub seen : s.seen ≡ 0
  pub no_places : s.places ≡ []
  pub no_stakes : IsTrue s.ended → s.stakes ≡ []

-- The rooms are a store for the stakes of all seats together: equal nodes are one, each stake stands for its
-- tree, and each count is the number of stakes and kids that name the node. The memo has no profiles, and the
-- history no entries.
pub record IsGood (w : World) : Type 0 where
  pub store : IsStore w.state.shards (all_stakes w.seats)
  pub memos : w.state.memos ≡ replicate MEMO_ROOMS []
  pub registry : w.state.registry ≡ new_registry 0 1
  pub seats : All HasSeenNothing w.seats
