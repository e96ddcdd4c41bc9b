use Rattle.paje_model.proofs.DeclaredEntities.{texts-more}
use Rattle.paje_model.proofs.function_table.FunctionTable.add.Goals as goal

pub returns : goal.returns
returns c = texts-more c.args.text.now c.args.self.now.texts.entries c.insert.new.self.entries
    c.in_ok-text.text tt c.in_ok-text.ensures.items c.requires c.in_ok-insert.ensures.entries
