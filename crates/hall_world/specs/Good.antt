-- When the world of a hall is good, given its history.
use Rattle.std.specs.Prelude.{◌≡◌, ℕ, ◌+◌, ◌<◌, ◌≤◌, ◌==◌, List, [], ◌++◌, All, count_by, length, map}
use Rattle.std.specs.Prelude.{false, replicate, IsTrue}
use Rattle.std.specs.List.{range_with_len}
use Rattle.std.specs.List.Sorted.{IsStrictlySortedBy}
use Rattle.std.specs.Ordering.{nat_cmp}
use Rattle.hall_history.specs.Asks.{AreOpen}
use Rattle.hall_history.specs.History.{IsLegalHistory}
use Rattle.hall_history.specs.declared.seat.PinView.{PinView}
use Rattle.hall_world.specs.Passes.{IsPassOf, SharePasses}
use Rattle.hall_world.specs.Past.{Past, last_place, start_of, up_to}
use Rattle.hall_world.specs.World.{all_passes, all_pins, all_places, all_stakes, ended_seat}
use Rattle.hall_world.specs.declared.world.SeatView.{SeatView}
use Rattle.hall_world.specs.declared.world.World.{World}
use Rattle.memo_core.specs.declared.limits.TheConstants.{MEMO_ROOMS}
use Rattle.node_key.specs.declared.stake.Stake.{Stake}
use Rattle.registry_core.specs.Registry.{RegistryValue}
use Rattle.registry_core.specs.Roots.{roots_kept, times_root}
use Rattle.registry_core.specs.Standing.{AreTrees, StandsFor}
use Rattle.registry_core.specs.UsedBy.{AreUsedBy}
use Rattle.store_laws.specs.Counted.{IsStore, stakes_on}
use Rattle.store_laws.specs.Store.{Store, key_in}

-- The rooms are a store for the stakes of all seats and of the registry, which has one on each root that it
-- keeps: equal nodes are one, each stake stands for its tree, and each count is the number of stakes and kids
-- that name the node.
pub record HoldsNodes (rooms : Store) (seats : List SeatView) (registry : RegistryValue) : Type 0 where
  pub roots : List Stake
  pub of_registry : (n : ℕ) → stakes_on n roots ≡ times_root n (roots_kept registry.traces)
  pub store : IsStore rooms (all_stakes seats ++ roots)

-- The history is legal, and the registry stands for it; each root that it keeps stands for the tree that was
-- published.
pub record KeepsHistory (rooms : Store) (registry : RegistryValue) (past : Past) : Type 0 where
  pub legal : IsLegalHistory past.entries
  pub stands : StandsFor (AreTrees (key_in rooms)) (start_of past) registry past.entries

-- The users of the registry's traces are the pins, and the traces of each pin are kept. A trace that ended is
-- kept just as long as it has users.
abbrev pub IsUsedByPins : RegistryValue → List SeatView → Type 0
IsUsedByPins registry seats = AreUsedBy registry.traces (map (λ (p : PinView). p.ids) (all_pins seats))

-- The seat that made the pin has seen the entry of the question, and its traces were open there.
pub record IsSeenPin (past : Past) (last : ℕ) (p : PinView) : Type 0 where
  pub made : past.first < p.place
  pub seen : p.place ≤ last
  pub open_there : AreOpen (up_to past p.place) p.ids

-- What a seat has seen begins the history. Its places rise, and are seen, as are its pins and the traces of its
-- passes.
pub record SeesHistory (past : Past) (s : SeatView) : Type 0 where
  pub begun : past.first ≤ s.seen
  pub seen : s.seen ≤ last_place past
  pub rising : IsStrictlySortedBy nat_cmp s.places
  pub own : All (λ place. place ≤ s.seen) s.places
  pub pins : All (IsSeenPin past s.seen) s.pins
  pub passes : All (IsPassOf (up_to past s.seen)) s.passes

-- A seat that has ended is one constant.
abbrev pub IsGoodSeat : Past → SeatView → Type 0
IsGoodSeat past s = (s.ended ≡ false → SeesHistory past s) × (IsTrue s.ended → s ≡ ended_seat)

-- each place of the history belongs to one seat
abbrev pub SharePlaces : Past → List SeatView → Type 0
SharePlaces past seats = (k : ℕ) → count_by (λ place. place == k) (all_places seats)
    ≡ count_by (λ place. place == k) (range_with_len (past.first + 1) (length past.entries))

-- A world is good for a history: its store, its registry, the users of the traces, what the seats have seen,
-- whose places are whose, and the passes.
pub record IsGood (past : Past) (w : World) : Type 0 where
  pub nodes : HoldsNodes w.state.shards w.seats w.state.registry
  pub memos : w.state.memos ≡ replicate MEMO_ROOMS []
  pub history : KeepsHistory w.state.shards w.state.registry past
  pub users : IsUsedByPins w.state.registry w.seats
  pub seats : All (IsGoodSeat past) w.seats
  pub places : SharePlaces past w.seats
  pub passes : SharePasses past.entries (all_passes w.seats)
