use Rattle.std.proofs.Common.{◌≡◌, arith, Some, sym, ap, ◌∙◌, refl, get_or, true}
use Rattle.std.proofs.lemmas.Bool.Decides.{nat_tests}
use Rattle.paje_lex.proofs.DateLemmas.{exponent_empty, exponent_other, exponent_letter, slice_behind}
use Rattle.paje_lex.specs.DateGrammar.{tens_of}
use Rattle.paje_lex.specs.DateReading.{is_exponent_letter, exponent_behind}
use Rattle.std.specs.Option.{option_map}
use Rattle.paje_lex.proofs.dates.read_exponent.Goals as goal
use Rattle.paje_lex.proofs.dates.read_exponent.Goals.{else-text-ne101-via-then-text-ne101+else-text-ne69}
use Rattle.paje_lex.proofs.dates.read_exponent.Goals.{else-text-ne101-via-else-text-ne101}

pub returns-then-is_empty-clause-tens : goal.returns-then-is_empty-clause-tens
returns-then-is_empty-clause-tens c = sym
    (exponent_empty c.args.text.now (grind (arith, nat_tests, c.is_empty.ensures)))

pub returns-then-text-ne69-clause-tens : goal.returns-then-text-ne69-clause-tens
returns-then-text-ne69-clause-tens c = sym
    (exponent_other c.args.text.now (grind (arith, nat_tests, c.is_empty.ensures)) (grind (arith, nat_tests)))

pub returns-clause-tens : goal.returns-clause-tens
returns-clause-tens c =
    let bs = c.args.text.now in
    let letter : is_exponent_letter (get_or bs 0 0) ≡ true = elim c.else-text-ne101.branch [
      | else-text-ne101-via-then-text-ne101+else-text-ne69 w ↦ grind (arith, nat_tests, w.if-text-ne69.false)
      | else-text-ne101-via-else-text-ne101 w ↦ grind (arith, nat_tests, w.if-text-ne101.false)
    ] in
    (c.signed_size.ensures.tens ∙ ap (λ x. option_map (λ e. tens_of (Some e)) (exponent_behind 101 x))
    (slice_behind 1 1 bs refl))
    ∙ sym (exponent_letter bs (grind (arith, nat_tests, c.is_empty.ensures)) letter)
