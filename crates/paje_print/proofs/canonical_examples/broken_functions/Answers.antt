use Rattle.std.proofs.Common.{◌≡◌, ℕ, codes, refl, arith}
use Rattle.paje_print.proofs.canonical_examples.broken_functions.Goals as goal

pub returns-clause-one_text : goal.returns-clause-one_text
returns-clause-one_text c is =
    let h : ◌≡◌ {A = ℕ} 0 1 = is.different 0 1 (codes "main") refl refl in
    omega (arith, h)
