use Rattle.std.proofs.Common.{◌∙◌, Some, ap, arith, sym}
use Rattle.paje_lines.specs.declared.type_sort.TypeSort.TheVariants.{Link, State}
use Rattle.paje_lines.specs.Types.{sort_of}
use Rattle.paje_model.proofs.NewTypes.{kinds-counted, kinds-fit, link_kinds-counted}
use Rattle.paje_model.proofs.known.Known.declared_sort.Goals as goal

pub overflow_cast-result : goal.overflow_cast-result
overflow_cast-result c = let fit = kinds-fit c.requires.0 c.args.self.now c.requires.1 in
    let is = c.kinds.ensures in omega (arith, fit, is)

pub overflow_cast-result-in-DefineLinkType : goal.overflow_cast-result-in-DefineLinkType
overflow_cast-result-in-DefineLinkType c = let fit = kinds-fit c.requires.0 c.args.self.now c.requires.1 in
    let is = c.link_kinds.ensures in omega (arith, fit, is)

pub returns-in-DefineStateType : goal.returns-in-DefineStateType
returns-in-DefineStateType c before known =
    ap (λ n. Some (State n)) (c.kinds.ensures ∙ kinds-counted before c.args.self.now known)
    ∙ ap (sort_of before) (sym c.in-DefineStateType.is)

pub returns-in-DefineLinkType : goal.returns-in-DefineLinkType
returns-in-DefineLinkType c before known =
    ap (λ n. Some (Link n)) (c.link_kinds.ensures ∙ link_kinds-counted before c.args.self.now known)
    ∙ ap (sort_of before) (sym c.in-DefineLinkType.is)
