use Rattle.std.proofs.Common.{◌+◌, ◌++◌}
use Rattle.node_key.specs.Tree.{nodes}
use Rattle.node_key.specs.Events.{events_below}
use Rattle.call_tree.proofs.Below.{Writing}
use Rattle.call_tree.proofs.events.+push_events.Given as goal

abbrev pub decreases-push_events : goal.decreases-push_events
decreases-push_events l = nodes l.t.now

abbrev pub invariant-loop-i : goal.invariant-loop-i
invariant-loop-i l =
    Writing l.t.kids (l.fn.at + l.t.dur) (l.initial.list ++ events_below l.fn.at l.t.kids) l.list l.from l.i
