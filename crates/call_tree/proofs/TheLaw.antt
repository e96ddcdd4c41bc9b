-- The law of streams and their trees.
use Rattle.std.proofs.Common.{◌≡◌, ℕ, ◌+◌, ◌-◌, List, map, refl, sym, ap, ◌∙◌}
use Rattle.std.proofs.Common.{arith}
use Rattle.trace_base.specs.Stream.{IsLegal}
use Rattle.trace_base.specs.declared.stream.Event.{Event}
use Rattle.trace_base.specs.declared.stream.TrackStream.{TrackStream}
use Rattle.node_key.specs.Tree.{Tree}
use Rattle.node_key.specs.Items.{node}
use Rattle.node_key.specs.Bound.{bound}
use Rattle.node_key.specs.Events.{events, stream_from}
use Rattle.node_key.specs.Trees.{tree}
use Rattle.call_tree.specs.Laws.{moved, since, TreesKeepEvents, TreesGiveStreams}
use Rattle.call_tree.specs.Laws.{TreesTellStreams}
use Rattle.call_tree.proofs.Forest.{Forest, flat, items_of}
use Rattle.call_tree.proofs.Parsing.{Sound-le, legal_calls, parse}
use Rattle.call_tree.proofs.StreamTrees.{tree-calls, events-tree}
use Rattle.call_tree.proofs.Moving.{events-moved, moved_calls, lowered, flat-moved, lowered-flat, tree-moved}
use Rattle.call_tree.proofs.Moving.{back-moved, IsLegal-moved}

pub trees_keep_events : TreesKeepEvents
trees_keep_events s legal = events-tree s legal

-- the events from the start on
abbrev from_start : TrackStream → List Event
from_start s = events (tree s) 0

moved_on : (t : Tree) (at : ℕ) → events t at ≡ map (moved at) (events t 0)
moved_on t at =
    let zero_on : at ≡ 0 + at = omega arith in ap (λ (n : ℕ). events t n) zero_on ∙ events-moved t at 0

events-from_start : (s : TrackStream) → IsLegal s → s.events ≡ map (moved s.start) (from_start s)
events-from_start s legal = sym (events-tree s legal) ∙ moved_on (tree s) s.start

dur-tree : (s : TrackStream) → (tree s).dur ≡ s.end - s.start
unfolding tree
dur-tree s = refl

pub end-start : (s : TrackStream) → IsLegal s → s.end ≡ (tree s).dur + s.start
end-start s legal =
    omega (arith, dur-tree s, Sound-le (parse s.events).now s.start s.end (legal_calls s legal).sound)

-- the calls of a legal stream, from its start on
abbrev calls_from_start : TrackStream → Forest
calls_from_start s = lowered s.start (parse s.events).now

calls-from_start : (s : TrackStream) → IsLegal s → from_start s ≡ flat (calls_from_start s)
calls-from_start s legal =
    lowered-flat s.start (from_start s) (parse s.events).now
    (sym (events-from_start s legal) ∙ (legal_calls s legal).events)

-- the tree of a stream with these events from its start on
tree-from_start : (v : TrackStream) (dur : ℕ) (es : List Event) (F : Forest) → es ≡ flat F
    → v.events ≡ map (moved v.start) es
    → v.end ≡ dur + v.start → tree v ≡ node 0 0 dur (bound (items_of F))
tree-from_start v dur es F e f n =
    let zero_on : v.start ≡ 0 + v.start = omega arith in
    tree-calls v (moved_calls v.start F) (f ∙ ap (map (moved v.start)) e ∙ sym (flat-moved v.start F))
    ∙ ap (λ (x : ℕ). node 0 x v.end (bound (items_of (moved_calls v.start F)))) zero_on
    ∙ ap (λ (x : ℕ). node 0 (0 + v.start) x (bound (items_of (moved_calls v.start F)))) n ∙ tree-moved v.start
    dur F

pub trees_give_streams : TreesGiveStreams
trees_give_streams s start legal h =
    let u : TrackStream = stream_from (tree s) start in
    let es : u.events ≡ map (moved u.start) (from_start s) = moved_on (tree s) start in
    let ends : u.end ≡ (tree s).dur + u.start = omega arith in (
      IsLegal-moved s u (tree s).dur (from_start s) legal (events-from_start s legal) (end-start s legal) es
          ends h,
      tree-from_start u (tree s).dur (from_start s) (calls_from_start s) (calls-from_start s legal) es ends
          ∙ sym (tree-from_start s (tree s).dur (from_start s) (calls_from_start s) (calls-from_start s legal)
          (events-from_start s legal) (end-start s legal)),
    )

since-events : (s : TrackStream) → IsLegal s → map (since s.start) s.events ≡ from_start s
since-events s legal = ap (map (since s.start)) (events-from_start s legal) ∙ back-moved s.start
    (from_start s)

pub trees_tell_streams : TreesTellStreams
trees_tell_streams s u legal_s legal_u = (
  λ e. (
    sym (dur-tree s) ∙ ap (λ (t : Tree). t.dur) e ∙ dur-tree u,
    since-events s legal_s ∙ ap (λ (t : Tree). events t 0) e ∙ sym (since-events u legal_u),
  ),
  λ same.
      (let es : from_start u ≡ from_start s = sym (since-events u legal_u) ∙ sym same.1 ∙ since-events s
      legal_s in
      let dur : (tree u).dur ≡ (tree s).dur = omega (arith, same.0, dur-tree s, dur-tree u) in
      tree-from_start s (tree s).dur (from_start s) (calls_from_start s) (calls-from_start s legal_s)
      (events-from_start s legal_s) (end-start s legal_s)
      ∙ sym (tree-from_start u (tree s).dur (from_start s) (calls_from_start s) (calls-from_start s legal_s)
      (events-from_start u legal_u ∙ ap (map (moved u.start)) es) (omega (arith, end-start u legal_u, dur)))),
)
