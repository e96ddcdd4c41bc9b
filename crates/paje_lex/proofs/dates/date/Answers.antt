use Rattle.std.proofs.Common.{inl, inr, sym, ◌∙◌}
use Rattle.paje_lex.proofs.DateLaws.{date_found, date_only, no_shape, all_values}
use Rattle.paje_lex.proofs.dates.date.Goals as goal

pub returns-clause-found : goal.returns-clause-found
returns-clause-found c = elim (date_found c.args.text.now) [
  | inl e ↦ inl (c.read_date.ensures ∙ e)
  | inr x ↦ inr x
]

pub returns-clause-only : goal.returns-clause-only
returns-clause-only c = λ d is t. c.read_date.ensures ∙ date_only c.args.text.now d is t

pub returns-clause-shape : goal.returns-clause-shape
returns-clause-shape c = λ e d is t. no_shape d
    (sym e ∙ (c.read_date.ensures ∙ date_only c.args.text.now d is t))

pub returns-clause-value : goal.returns-clause-value
returns-clause-value c = all_values c.args.text.now c.read_date.result c.read_date.ensures
