use Rattle.std.proofs.Common.{All, sym, subst}
use Rattle.std.proofs.lemmas.List.Elements.{All-push}
use Rattle.paje_model.specs.EntityTable.{IsNamed}
use Rattle.paje_model.proofs.value_table.ValueTable.add_kind.Goals as goal

pub returns-clause-named : goal.returns-clause-named
returns-clause-named c = subst (All IsNamed) (sym c.in_ok-push.ensures.items)
    (All-push IsNamed c.args.self.now.of_kinds.items c.new.result c.requires c.new.ensures.named)
