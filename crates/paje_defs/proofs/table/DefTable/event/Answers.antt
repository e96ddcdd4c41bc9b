use Rattle.paje_defs.specs.Words.{words_at_tokens}
use Rattle.paje_defs.specs.Table.{definitions_of}
use Rattle.paje_defs.proofs.EventLaws.{roles_stand}
use Rattle.paje_defs.proofs.table.DefTable.event.Goals as goal

pub returns-clause-stand : goal.returns-clause-stand
returns-clause-stand c event is =
    roles_stand (definitions_of c.args.self.now).complete (words_at_tokens c.args.line.now c.args.tokens.now)
    c.read_event.result c.read_event.ensures event is
