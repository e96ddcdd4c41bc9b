use Rattle.paje_print.specs.WrittenEvents.{definitions_written}
use Rattle.std.proofs.Common.{refl}
use Rattle.std.specs.Fmt.{digits}
use Rattle.paje_print.proofs.examples.written_definitions.Goals as goal

pub returns-clause-first : goal.returns-clause-first
unfolding definitions_written digits
returns-clause-first c = refl

pub returns-clause-push : goal.returns-clause-push
unfolding definitions_written digits
returns-clause-push c = refl
