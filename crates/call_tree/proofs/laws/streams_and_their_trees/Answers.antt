use Rattle.call_tree.proofs.TheLaw.{trees_keep_events, trees_give_streams, trees_tell_streams}
use Rattle.call_tree.proofs.laws.streams_and_their_trees.Goals as goal

pub returns-clause-there : goal.returns-clause-there
returns-clause-there c = trees_keep_events

pub returns-clause-back : goal.returns-clause-back
returns-clause-back c = trees_give_streams

pub returns-clause-same : goal.returns-clause-same
returns-clause-same c = trees_tell_streams
