use Rattle.std.proofs.Common.{inl, arith}
use Rattle.std.proofs.lemmas.Grind.{common_steps}
use Rattle.trace_base.proofs.mem_sink.MemSinkSink.write.Goals as goal

pub returns-then-contains-clause-answer : goal.returns-then-contains-clause-answer
returns-then-contains-clause-answer c = inl (grind (arith, common_steps))
