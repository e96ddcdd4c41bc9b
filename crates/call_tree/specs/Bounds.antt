-- How large the tree of a stream is.
use Rattle.std.specs.Prelude.{◌≤◌, max, length}
use Rattle.trace_base.specs.Stream.{IsLegal}
use Rattle.trace_base.specs.declared.stream.TrackStream.{TrackStream}
use Rattle.trace_base.specs.declared.limits.TheConstants.{MAX_TIME}
use Rattle.node_key.specs.Tree.{Tree, Kids, no_kids, kid, count, height, nodes}
use Rattle.node_key.specs.declared.limits.TheConstants.{MAX_HEIGHT, MAX_KIDS}
use Rattle.node_key.specs.Trees.{tree}

-- each gap and each duration below is within the greatest time, and each node below has at most 8 kids
abbrev pub KidsWithin : Kids → Type 0
KidsWithin no_kids = Unit {0}
KidsWithin (kid gap func dur inner more) =
    (gap ≤ MAX_TIME) × (dur ≤ MAX_TIME) × (count inner ≤ MAX_KIDS) × KidsWithin inner × KidsWithin more

-- the same of the tree itself
abbrev pub IsWithinBounds : Tree → Type 0
IsWithinBounds t = (count t.kids ≤ MAX_KIDS) × (t.dur ≤ MAX_TIME) × KidsWithin t.kids

-- the tree of a legal stream is within these limits, is at most 2,048 high, and has no more nodes, counted
-- with repeats, than the stream has events, or one
abbrev pub TreesAreBounded : Type 0
TreesAreBounded =
    (s : TrackStream) → IsLegal s
    → IsWithinBounds (tree s) × (height (tree s) ≤ MAX_HEIGHT) × (nodes (tree s) ≤ max 1 (length s.events))
