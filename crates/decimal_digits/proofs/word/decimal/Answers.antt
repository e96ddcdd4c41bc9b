use Rattle.std.proofs.Common.{[], inl, inr, arith}
use Rattle.std.proofs.lemmas.Bool.Decides.{nat_tests}
use Rattle.decimal_digits.proofs.WordsOfDigits.{no_decimal, a_decimal}
use Rattle.decimal_digits.proofs.word.decimal.Goals as goal
use Rattle.decimal_digits.proofs.word.decimal.Goals.{then-is_empty-via-then-is_empty}
use Rattle.decimal_digits.proofs.word.decimal.Goals.{then-is_empty-via-else-is_empty+then-count-word}

pub returns-then-is_empty : goal.returns-then-is_empty
returns-then-is_empty c = no_decimal c.args.word.now (elim c.then-is_empty.branch [
  | then-is_empty-via-then-is_empty w ↦ inl (grind (arith, nat_tests, w.if-is_empty.true, c.is_empty.ensures))
  | then-is_empty-via-else-is_empty+then-count-word w ↦
      inr (omega (arith, w.if-count-word.true, c.read-count.ensures.len))
])

pub returns : goal.returns
returns c =
    let word = c.args.word.now in
    let read = c.read-count.ensures in
    a_decimal word c.read-count.result.1 c.value.result
    (grind (arith, nat_tests, c.if-is_empty.false, c.is_empty.ensures)) read.len
    (omega (arith, c.if-count-word.false, read.within))
    (c.value.ensures _ (read.number [] c.new.ensures.number))
