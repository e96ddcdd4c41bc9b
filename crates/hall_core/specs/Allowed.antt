-- Which events a seat may make.
use Rattle.std.specs.Prelude.{◌≡◌, ◌≢◌, ℕ, List, [], false, None, Some, slice_get}
use Rattle.std.specs.List.{Contains}
use Rattle.node_key.specs.declared.stake.Stake.{Stake}
use Rattle.node_key.specs.Tree.{Tree}
use Rattle.store_laws.specs.Reached.{IsReached}
use Rattle.hall_core.specs.OneTree.{IsStakedTree}
use Rattle.hall_core.specs.declared.events.HallEvent.{HallEvent}
use Rattle.hall_core.specs.declared.events.HallEvent.TheVariants as event
use Rattle.hall_core.specs.declared.events.ReadOf.TheVariants.{Node}
use Rattle.hall_core.specs.declared.world.SeatView.{SeatView}
use Rattle.hall_core.specs.declared.world.World.{World}

-- the seat of an index, which hasn't ended
pub record IsActive (w : World) (at : ℕ) (seat : SeatView) : Type 0 where
  pub there : slice_get w.seats at ≡ Some seat
  pub active : seat.ended ≡ false

-- another active seat, which has neither pins nor passes
abbrev pub MayEnd : World → ℕ → ℕ → Type 0
MayEnd w actor other = (other ≢ actor) × (s : SeatView) × IsActive w other s × (s.pins ≡ []) × (s.passes ≡ [])

-- What a seat must have for an event: stakes on the kids of a tree, to intern it; what reaches a node, to read
-- it; a stake on a node, to drop it; and another seat, to join it. No seat has a load pass as yet that it may
-- split.
abbrev pub MayMake : World → ℕ → SeatView → HallEvent → Type 0
MayMake w actor seat (event.Intern key) =
    (t : Tree) × (kids : List Stake) × IsStakedTree seat.stakes key t kids
MayMake w actor seat (event.Read (Node n)) = IsReached w.state.shards seat.stakes n
MayMake w actor seat (event.Drop n) = (x : Stake) × Contains seat.stakes x × (x.number ≡ n)
MayMake w actor seat (event.Split None) = Unit {0}
MayMake w actor seat (event.Split (Some part)) = ⊥
MayMake w actor seat (event.Join other) = MayEnd w actor other

-- the seat of this index may make the event
abbrev pub Allows : World → ℕ → HallEvent → Type 0
Allows w actor e = (seat : SeatView) × IsActive w actor seat × MayMake w actor seat e
