use Rattle.trace_base.proofs.CallPaths.{call_paths-rising, call_paths-only}
use Rattle.trace_base.proofs.laws.each_path_is_told.Goals as goal

pub returns : goal.returns
returns c = (call_paths-rising c.args.streams.now, call_paths-only c.args.streams.now)
