-- No date is past the greatest time.
use Rattle.std.proofs.Common.{◌≡◌, ℕ, ◌*◌, ◌/◌, ◌≤◌, Bool, true, false, cond, nat_lt, List, Option, Some, None}
use Rattle.std.proofs.Common.{Result, Ok, Err, refl, sym, ap, subst}
use Rattle.std.proofs.Math.Nat.{div-le_of_le-mul, mul_comm}
use Rattle.std.proofs.lemmas.Bool.{ltb-false, true≢false}
use Rattle.trace_base.specs.declared.limits.TheConstants.{MAX_TIME}
use Rattle.paje_lex.specs.declared.date_fault.DateFault.{DateFault}
use Rattle.paje_lex.specs.declared.date_fault.DateFault.TheVariants.{Big, Negative}
use Rattle.paje_lex.specs.DateGrammar.{Date, denominator, numerator}
use Rattle.paje_lex.specs.DateReading.{date_of, meaning_or_shape, parts_of}

abbrev is_time : Result ℕ DateFault → Bool
is_time (Ok ns) = true
is_time (Err fault) = false

abbrev time_or_none : Result ℕ DateFault → ℕ
time_or_none (Ok ns) = ns
time_or_none (Err fault) = 0

by_parts : (above below ns : ℕ) (a b : Bool) → nat_lt (MAX_TIME * below) above ≡ b
    → cond a (Err Negative) (cond b (Err Big) (Ok (above / below))) ≡ Ok ns → ns ≤ MAX_TIME
by_parts above below ns true b is e = absurd (true≢false (sym (ap is_time e)))
by_parts above below ns false true is e = absurd (true≢false (sym (ap is_time e)))
by_parts above below ns false false is e =
    subst (λ n. n ≤ MAX_TIME) (ap time_or_none e)
    (div-le_of_le-mul below (subst (λ n. above ≤ n) (mul_comm MAX_TIME below)
    (ltb-false (MAX_TIME * below) above is)))

by_date : (ns : ℕ) (d : Option Date) → meaning_or_shape d ≡ Ok ns → ns ≤ MAX_TIME
by_date ns None e = absurd (true≢false (sym (ap is_time e)))
by_date ns (Some d) e = by_parts (numerator d) (denominator d) ns _ _ refl e

pub date-in_time : (text : List ℕ) (ns : ℕ) → date_of text ≡ Ok ns → ns ≤ MAX_TIME
date-in_time text ns e = by_date ns (parts_of text) e
