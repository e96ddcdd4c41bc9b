use Rattle.trace_base.proofs.Pairs.{pairs_of-rising, pairs_of-only}
use Rattle.trace_base.proofs.laws.each_pair_is_told.Goals as goal

pub returns : goal.returns
returns c = (pairs_of-rising c.args.messages.now, pairs_of-only c.args.messages.now)
