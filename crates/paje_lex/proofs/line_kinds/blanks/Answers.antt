use Rattle.std.proofs.Common.{sym, arith}
use Rattle.std.proofs.lemmas.List.Sums.{prefix_len_is}
use Rattle.paje_lex.specs.LineKinds.{is_blank}
use Rattle.paje_lex.proofs.line_kinds.blanks.Goals as goal

pub returns-then-not-is_blank-clause-len : goal.returns-then-not-is_blank-clause-len
returns-then-not-is_blank-clause-len c =
    sym (prefix_len_is is_blank c.args.line.now c.loop-at.at 0 (omega arith) c.loop-at.invariant (λ _. cc))

pub returns-clause-len : goal.returns-clause-len
returns-clause-len c =
    sym (prefix_len_is is_blank c.args.line.now _ 0 (omega arith) (λ k h. c.loop-at.invariant k (omega arith))
    (λ h. absurd (omega arith)))
