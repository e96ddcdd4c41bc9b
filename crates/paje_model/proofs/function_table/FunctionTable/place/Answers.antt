use Rattle.std.proofs.Common.{◌∙◌}
use Rattle.paje_model.proofs.DeclaredEntities.{text-place}
use Rattle.paje_model.proofs.function_table.FunctionTable.place.Goals as goal

pub returns : goal.returns
returns c = c.get_index_of.ensures.index ∙ text-place c.args.text.now c.args.self.now.texts.entries
