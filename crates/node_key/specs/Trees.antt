-- The tree of a call and the tree of a stream.
use Rattle.std.specs.Prelude.{ℕ, zero, suc, List, [], length, map, Option, Some, slice_get}
use Rattle.std.specs.Prelude.{slice_index}
use Rattle.trace_base.specs.Stream.{time_of}
use Rattle.trace_base.specs.declared.stream.Event.{Event}
use Rattle.trace_base.specs.declared.stream.Event.TheVariants.{Enter}
use Rattle.trace_base.specs.declared.stream.TrackStream.{TrackStream}
use Rattle.node_key.specs.Tree.{Tree}
use Rattle.node_key.specs.Items.{node}
use Rattle.node_key.specs.declared.item.Item.{Item}
use Rattle.node_key.specs.Bound.{bound}
use Rattle.node_key.specs.Calls.{Call, inner_calls, outermost_calls}

-- the function that an event enters, or 0
abbrev pub function_entered : Option Event → ℕ
function_entered (Some (Enter f t)) = f
function_entered _ = 0

-- when an event comes, in nanoseconds
abbrev pub time_at : List Event → ℕ → ℕ
time_at es i = slice_index (map time_of es) i

-- The call at its place in time: its tree is the node of its function over the bounded list of its inner
-- calls. The number bounds how deep the calls lie in one another.
abbrev pub call_item : ℕ → List Event → Call → Item
call_item zero es c = record {
  at = time_at es c.enter;
  tree = node (function_entered (slice_get es c.enter))
      (time_at es c.enter) (time_at es c.leave) [];
}
call_item (suc n) es c = record {
  at = time_at es c.enter;
  tree = node (function_entered (slice_get es c.enter)) (time_at es c.enter) (time_at es c.leave)
      (bound (map (call_item n es) (inner_calls es c)));
}

-- The tree of a stream: the group over the bounded list of its outermost calls, from its start to its end. No
-- call lies deeper than there are events.
unfoldable pub tree : TrackStream → Tree
tree s = node 0 s.start s.end (bound (map (call_item (length s.events) s.events) (outermost_calls s.events)))
