use Rattle.trace_session.proofs.Later.{IsServed-more}
use Rattle.trace_session.proofs.examples.served_stays.Goals as goal

pub returns : goal.returns
returns c = IsServed-more
