use Rattle.std.proofs.Common.{◌∙◌, ◌-◌, arith, subst, ap, option_map, find}
use Rattle.paje_lines.specs.EventLine.{line_of}
use Rattle.paje_lines.specs.Found.{has_alias, rooted}
use Rattle.paje_model.specs.EntityTable.{entities_in}
use Rattle.paje_model.specs.Finds.{Finds}
use Rattle.paje_model.proofs.NewTypes.{some_type, type-reason}
use Rattle.paje_model.proofs.known.Known.is_new_type.Goals as goal

pub overflow_sub-declared : goal.overflow_sub-declared
overflow_sub-declared c = let some = some_type c.requires.0 c.args.self.now c.requires.1 in
    let is = c.len-declared.ensures in omega (arith, some, is)

pub returns : goal.returns
returns c n before known = subst (λ reason. Finds reason (λ _. Unit {0}) c.may_declare.result)
    (type-reason before (line_of n c.args.fields.now) c.args.self.now c.line.result
    (c.len-declared.result - 1)
    known (c.line.ensures ∙ ap (λ alias. option_map (λ e. e.line) (find (has_alias (rooted alias))
    (entities_in c.args.self.now.types.entities))) (c.alias_of.ensures n))
    (ap (λ n. n - 1) c.len-declared.ensures)) c.may_declare.ensures
