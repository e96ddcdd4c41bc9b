use Rattle.std.proofs.Common.{sym}
use Rattle.paje_model.proofs.DeclaredEntities.{noted_new, noted_old}
use Rattle.paje_model.proofs.entity_table.note.Goals as goal

pub returns-in-Some : goal.returns-in-Some
returns-in-Some c = noted_old c.args.name.now c.args.places.now.entries _ c.args.place c.in-Some.ensures.value

pub returns-in_ok-insert-in-None : goal.returns-in_ok-insert-in-None
returns-in_ok-insert-in-None c = noted_new c.args.name.now c.args.places.now.entries c.insert.new.self.entries
    c.in_ok-name-in-None.name c.args.place c.in_ok-name-in-None.ensures.items (sym c.in-None.ensures.value)
    c.in_ok-insert-in-None.ensures.entries
