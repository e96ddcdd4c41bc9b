use Rattle.std.proofs.Common.{◌∙◌, subst, ap, option_map, find}
use Rattle.paje_lines.specs.EventLine.{line_of}
use Rattle.paje_lines.specs.Found.{has_alias}
use Rattle.paje_model.specs.Finds.{Finds}
use Rattle.paje_model.specs.ValueTable.{values_at}
use Rattle.paje_model.proofs.NewValues.{value-reason}
use Rattle.paje_model.proofs.known.Known.is_new_value.Goals as goal

pub returns : goal.returns
returns c n before known named = subst (λ reason. Finds reason (λ _. Unit {0}) c.may_declare.result)
    (value-reason before (line_of n c.args.fields.now) c.args.self.now c.args.kind c.line-taken.result
    c.len.result known named (c.line-taken.ensures ∙ ap (λ alias. option_map (λ e. e.line)
    (find (has_alias alias) (values_at c.args.self.now.values c.args.kind))) (c.alias_of.ensures n))
    c.len.ensures) c.may_declare.ensures
