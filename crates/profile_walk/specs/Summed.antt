-- How far the profile of a node has come, kid by kid.
use Rattle.std.specs.Prelude.{◌≡◌, ℕ, zero, suc, ◌+◌, ◌<◌, ◌≤◌, ◌^◌, List, [], ◌∷◌, slice_get, Some}
use Rattle.std.specs.List.{AllZip}
use Rattle.hall_history.specs.Seat.{Seat}
use Rattle.hall_trait.specs.Nodes.{ReadsNode}
use Rattle.hall_trait.specs.Reach.{HasSource, Reaching, Source}
use Rattle.node_key.specs.Branches.{branches}
use Rattle.node_key.specs.Events.{stream_from}
use Rattle.node_key.specs.Keys.{IsKeyOf}
use Rattle.node_key.specs.Tree.{Kids, Tree, count, kid, no_kids, total}
use Rattle.node_key.specs.declared.key.Kid.{Kid}
use Rattle.node_key.specs.declared.key.NodeKey.{NodeKey}
use Rattle.node_key.specs.declared.tree.Branch.{Branch}
use Rattle.profile_laws.specs.Laws.{ProfileOf}
use Rattle.profile_laws.specs.Parts.{IsTimed}
use Rattle.profile_laws.specs.Streams.{idle}
use Rattle.profile_walk.specs.Calls.{calls}
use Rattle.profile_walk.specs.declared.place.Place.{Place}
use Rattle.trace_base.specs.declared.limits.TheConstants.{MAX_TIME}
use Rattle.trace_base.specs.declared.stream.TrackStream.{TrackStream}

-- The kids of each node of a tree fit into it, and its calls can be counted.
pub record CanSum (t : Tree) : Type 0 where
  pub timed : IsTimed t
  pub few : calls t < 2 ^ 64

-- The key is that of a node of this tree, the kids of which the seat reaches by a stake or a pin that it has.
pub record CanWalk (seat : Seat) (reaches : Reaching) (by_what : Source) (t : Tree) (key : NodeKey)
    : Type 0 where
  pub has : HasSource seat by_what
  pub read : ReadsNode (reaches by_what) t key
  pub sums : CanSum t

-- the first kids
abbrev pub first : ℕ → Kids → Kids
first zero kids = no_kids
first (suc i) no_kids = no_kids
first (suc i) (kid gap func dur inner more) = kid gap func dur inner (first i more)

-- the time before each kid and that of the kid, where the first gap begins at `from`
abbrev pub kid_parts : ℕ → Kids → List TrackStream
kid_parts from no_kids = []
kid_parts from (kid gap func dur inner more) = idle from (from + gap)
    ∷ stream_from (record { func = func; dur = dur; kids = inner }) (from + gap)
    ∷ kid_parts (from + gap + dur) more

-- The profile is that of the kids before the place and of the gaps before them, in a node that begins at
-- `at`.
pub record IsSummed {X : Type 0} (profile : ProfileOf X) (t : Tree) (at a b : ℕ) (place : Place) (sum : X)
    : Type 0 where
  pub in_time : at + t.dur ≤ MAX_TIME
  pub within : place.index ≤ count t.kids
  pub from : place.from ≡ at + total (first place.index t.kids)
  pub is : sum ≡ profile (kid_parts at (first place.index t.kids)) a b

-- And the next kid is this one, in a node of this key.
pub record IsAtKid {X : Type 0} (profile : ProfileOf X) (t : Tree) (ns : List ℕ) (key : NodeKey)
    (at a b : ℕ) (place : Place) (next : Branch) (sum : X)
    : Type 0 where
  pub keyed : IsKeyOf t ns key
  pub sums : CanSum t
  pub summed : IsSummed profile t at a b place sum
  pub here : slice_get (branches t.kids) place.index ≡ Some next

-- The next kid in the key is this one, and it begins within the interval and ends before it does.
pub record IsInside (key : NodeKey) (place : Place) (next : Kid) (a b : ℕ) : Type 0 where
  pub more : place.index < key.len
  pub here : slice_get key.kids place.index ≡ Some next
  pub begins : a ≤ place.from + next.gap
  pub ends : place.from + next.gap + next.span < b

-- And the next kid, which begins within the interval and ends before it does, has this number; all kids that
-- have it have this whole profile.
pub record IsAtRun {X : Type 0} (profile : ProfileOf X) (whole : Tree → X) (t : Tree) (ns : List ℕ)
    (key : NodeKey) (at a b : ℕ) (place : Place) (next : Kid) (own sum : X)
    : Type 0 where
  pub keyed : IsKeyOf t ns key
  pub sums : CanSum t
  pub summed : IsSummed profile t at a b place sum
  pub inside : IsInside key place next a b
  pub wholes : AllZip (λ n (u : Branch). n ≡ next.node → own ≡ whole u.tree) ns (branches t.kids)
