use Rattle.std.proofs.Common.{refl}
use Rattle.std.specs.Fmt.{digits}
use Rattle.paje_print.specs.WrittenEvents.{definitions_written}
use Rattle.paje_read_back.proofs.examples.declared_lines.Goals as goal

pub returns-clause-first : goal.returns-clause-first
unfolding definitions_written digits
returns-clause-first c = refl

pub returns-clause-declared : goal.returns-clause-declared
unfolding definitions_written digits
returns-clause-declared c = refl
