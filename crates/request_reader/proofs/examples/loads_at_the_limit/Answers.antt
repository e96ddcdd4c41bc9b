use Rattle.std.proofs.Common.{◌≡◌, ◌≤◌, ◌<◌, refl, ap, sym, ℕ, Some, length, arith}
use Rattle.std.specs.Prelude.{codes}
use Rattle.trace_base.specs.declared.limits.TheConstants.{MAX_TEXT}
use Rattle.session_proto.specs.Request.{request_of, words_of, number_of}
use Rattle.session_proto.specs.declared.request.Request.TheVariants.{Put}
use Rattle.request_reader.proofs.Spelling.{spells-load, spells-large}
use Rattle.request_reader.proofs.examples.loads_at_the_limit.Goals as goal

greatest_line : request_of (codes "PUT 67108864") ≡ Some (Put 67108864)
unfolding request_of words_of number_of
greatest_line = refl

large_line : request_of (codes "PUT 67108865") ≡ Some (Put 67108865)
unfolding request_of words_of number_of
large_line = refl

pub returns-clause-greatest : goal.returns-clause-greatest
returns-clause-greatest c = λ text is.
    let within : length text ≤ MAX_TEXT = omega (arith, is) in
    spells-load (codes "PUT 67108864") (codes "PUT 67108864\n") text (Put 67108864) refl greatest_line
    (ap (λ (n : ℕ). Some n) (sym is)) refl within

pub returns-clause-large : goal.returns-clause-large
returns-clause-large c = λ text is.
    let over : MAX_TEXT < length text = omega (arith, is) in
    spells-large (codes "PUT 67108865") (codes "PUT 67108865\n") text (Put 67108865) refl large_line
    (ap (λ (n : ℕ). Some n) (sym is)) refl over
