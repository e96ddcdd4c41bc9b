use Rattle.std.proofs.Common.{◌∙◌, ◌++◌, ◌∷◌, [], ap}
use Rattle.paje_lines.specs.Values.{text_among}
use Rattle.paje_model.specs.FunctionTable.{functions_kept}
use Rattle.paje_model.specs.ValueTable.{values_at}
use Rattle.paje_model.proofs.FunctionsSoFar.{new_number}
use Rattle.paje_model.proofs.function_table.FunctionTable.number.Goals as goal

pub returns-in_ok-add-in-New-clause-number : goal.returns-in_ok-add-in-New-clause-number
returns-in_ok-add-in-New-clause-number c =
    let text = text_among (values_at c.args.values.now c.args.kind) c.args.value.now in
    c.len.ensures ∙ new_number (functions_kept c.args.self.now) (functions_kept c.add.new.self) c.args.place
    text
    c.in-New.is c.requires.found (c.in_ok-add-in-New.ensures
    ∙ ap (λ t. functions_kept c.args.self.now ++ t ∷ []) c.text.ensures)
