-- The tracks of a trace, and the nodes over which their profiles are made.
use Rattle.std.specs.Prelude.{◌≡◌, ℕ, ◌+◌, ◌*◌, ◌≤◌, List, [], ◌∷◌, ◌++◌, sum_by}
use Rattle.std.specs.List.{filter_map, range_with_len}
use Rattle.std.specs.Option.{option_map_or}
use Rattle.hall_history.specs.History.{Entry, PublishedTree, published_of, stream_of}
use Rattle.hall_history.specs.Seat.{Seat}
use Rattle.hall_trait.specs.Reach.{HasSource, Reaching, Source}
use Rattle.node_key.specs.Events.{stream_from}
use Rattle.node_key.specs.Tree.{Tree, height}
use Rattle.profile_laws.specs.Laws.{ProfileOf}
use Rattle.profile_laws.specs.Sizes.{FitTogether}
use Rattle.profile_walk.specs.Summed.{CanSum}
use Rattle.trace_base.specs.declared.limits.TheConstants.{MAX_TIME}
use Rattle.trace_base.specs.declared.stream.TrackStream.{TrackStream}

-- the streams that were published of so many tracks of the trace from a first one on, in order
abbrev pub streams_from : List Entry → (id first n : ℕ) → List TrackStream
streams_from entries id first n = filter_map (stream_of entries id) (range_with_len first n)

-- at most two nodes on each level of a tree
abbrev pub twice_levels : Tree → ℕ
twice_levels t = 2 * (height t + 1)

-- this of each of the tracks that was published
abbrev pub levels_from : List Entry → (id first n : ℕ) → ℕ
levels_from entries id first n =
    sum_by (λ track. option_map_or (λ (p : PublishedTree). twice_levels p.tree) (published_of entries id
    track) 0)
    (range_with_len first n)

-- The seat reaches the number, which leads to this tree, by a stake or a pin that it has. The profile is
-- that of
-- these streams, and stays within its type with the tree that begins at a time.
pub record CanAdd {X : Type 0} (profile : ProfileOf X) (seat : Seat) (reaches : Reaching) (by_what : Source)
    (n : ℕ) (t : Tree) (at a b : ℕ) (base : List TrackStream) (sum : X)
    : Type 0 where
  pub has : HasSource seat by_what
  pub led : reaches by_what n t
  pub sums : CanSum t
  pub in_time : at + t.dur ≤ MAX_TIME
  pub is : sum ≡ profile base a b
  pub fit : FitTogether (base ++ stream_from t at ∷ [])
