use Rattle.std.proofs.Common.{refl}
use Rattle.decimal_digits.proofs.HeldDigits.{held_head, held_low, tail_kept, tail_digit}
use Rattle.decimal_digits.proofs.digits.Digits.with.Goals as goal

pub returns-in-Some-clause-number : goal.returns-in-Some-clause-number
returns-in-Some-clause-number c = λ digits h.
    let one = c.in-Some.ensures in
    held_head c.args.self _ digits c.args.byte c.from-digit.result h c.requires.digit c.from-digit.ensures
    one.0 one.1 refl refl

pub returns-then-self-clause-number : goal.returns-then-self-clause-number
returns-then-self-clause-number c = λ digits h.
    held_low c.args.self _ digits c.args.byte c.from-digit.result h c.requires.digit c.from-digit.ensures
    c.in_default.ensures refl refl (tail_kept _ _ h.low c.from-digit.result h.tail c.if-self.true refl)

pub returns-else-self-clause-number : goal.returns-else-self-clause-number
returns-else-self-clause-number c = λ digits h.
    held_low c.args.self _ digits c.args.byte c.from-digit.result h c.requires.digit c.from-digit.ensures
    c.in_default.ensures refl refl (tail_digit _ _ h.low c.from-digit.result h.tail c.if-self.false refl)
