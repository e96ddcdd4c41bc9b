use Rattle.std.proofs.Common.{◌+◌, ◌-◌, ◌^◌, inl, arith, ◌∙◌, ap, sym, Ok}
use Rattle.std.specs.Str.Parse.{digits_value}
use Rattle.list_lemmas.proofs.Digits.{ten_pow_pos}
use Rattle.paje_lex.proofs.Scaling.{lowered_limit, scaled_up, raised_big, turned_powers}
use Rattle.paje_lex.proofs.powers.scaled.Goals as goal

pub returns-then-more-up : goal.returns-then-more-up
returns-then-more-up c = λ bytes h.
    let s = c.args.digits in
    ap Ok c.lowered.ensures ∙ sym (lowered_limit (digits_value 10 bytes) s.head s.more h.low c.args.up
    c.args.down h.whole h.low_below (omega arith) c.if-more-up.true)

pub returns-in-Some : goal.returns-in-Some
returns-in-Some c = λ bytes h.
    let s = c.args.digits in
    scaled_up c.capped.result (digits_value 10 bytes) s.head s.more h.low c.args.up c.args.down c.in-Some.time
    s.tail h.whole h.low_below h.tail h.full c.if-more-up.false c.in-Some.ensures c.capped.ensures.ok
    c.capped.ensures.err

pub returns-in-None : goal.returns-in-None
returns-in-None c = λ bytes h.
    let s = c.args.digits in
    sym (raised_big (digits_value 10 bytes) s.head h.low (10 ^ s.more) (10 ^ c.args.up)
    (10 ^ (s.more + c.args.up - c.args.down)) (10 ^ c.args.down)
    h.whole (turned_powers s.more c.args.up c.args.down c.if-more-up.false) (ten_pow_pos c.args.up)
    (ten_pow_pos c.args.down) (inl (omega (arith, c.in-None.ensures))))
