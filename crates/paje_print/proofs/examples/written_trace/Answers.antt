use Rattle.paje_print.specs.CanonicalText.{canonical_text, event_lines_written}
use Rattle.paje_print.specs.Examples.{small_trace}
use Rattle.paje_print.specs.WrittenEvents.{definitions_written}
use Rattle.paje_print.specs.WrittenWords.{ended_line}
use Rattle.std.proofs.Common.{refl}
use Rattle.std.proofs.lemmas.List.Concat.{flat_map-append}
use Rattle.std.specs.Fmt.{digits}
use Rattle.paje_print.proofs.examples.written_trace.Goals as goal

pub returns-clause-lines : goal.returns-clause-lines
unfolding digits
returns-clause-lines c = refl

pub returns-clause-text : goal.returns-clause-text
unfolding canonical_text
returns-clause-text c = flat_map-append ended_line definitions_written (event_lines_written small_trace)
