use Rattle.std.proofs.Common.{sym, arith}
use Rattle.std.specs.Char.{is_ascii_digit}
use Rattle.std.proofs.lemmas.List.Sums.{prefix_len_is}
use Rattle.decimal_digits.proofs.digits.Digits.read.Goals as goal

pub returns-then-not-is_ascii_digit-clause-len : goal.returns-then-not-is_ascii_digit-clause-len
returns-then-not-is_ascii_digit-clause-len c =
    sym (prefix_len_is is_ascii_digit c.args.text.now c.loop-at.at 0 (omega arith) c.loop-at.invariant.front
    (λ _. cc))

pub returns-clause-len : goal.returns-clause-len
returns-clause-len c =
    sym (prefix_len_is is_ascii_digit c.args.text.now _ 0 (omega arith)
    (λ k h. c.loop-at.invariant.front k (omega arith)) (λ h. absurd (omega arith)))
