use Rattle.paje_reader.proofs.LegalText.{fits_said, legal_said}
use Rattle.paje_reader.specs.LineReasons.{event_lines}
use Rattle.paje_reader.specs.TextLines.{lines_in}
use Rattle.paje_reader.proofs.read.read_trace.Goals as goal

pub returns-in-Ok-finish-clause-legal : goal.returns-in-Ok-finish-clause-legal
returns-in-Ok-finish-clause-legal c =
    let read = c.in_default-read_lines.ensures.0 in
    legal_said (lines_in c.args.text.now) c.read_lines.new.reader c.in-Ok-finish.trace read
    (c.in-Ok-finish.ensures (event_lines (lines_in c.args.text.now)) read.entities)

pub returns-in-Ok-finish-clause-fits : goal.returns-in-Ok-finish-clause-fits
returns-in-Ok-finish-clause-fits c =
    let read = c.in_default-read_lines.ensures.0 in
    fits_said (lines_in c.args.text.now) c.read_lines.new.reader c.in-Ok-finish.trace read
    (c.in-Ok-finish.ensures (event_lines (lines_in c.args.text.now)) read.entities)
