-- The number of digits, of which the first are kept, with one digit more.
use Rattle.std.proofs.Common.{◌≡◌, ℕ, ◌+◌, ◌-◌, ◌*◌, ◌^◌, ◌<◌, ◌≤◌, ◌⊎◌, inl, inr, List, [], ◌∷◌, ◌++◌, Bool}
use Rattle.std.proofs.Common.{true, false, IsTrue, not, eqb, ◌↔◌, sym, ◌∙◌, ap, arith, zero, suc}
use Rattle.std.proofs.lemmas.Nat.{pow-add}
use Rattle.std.proofs.Math.Nat.{mul-le-mul_right}
use Rattle.std.proofs.lemmas.Bool.{true≢false}
use Rattle.std.proofs.lemmas.Bool.Decides.{nat_tests}
use Rattle.std.specs.Char.{is_ascii_digit}
use Rattle.std.specs.Str.Parse.{digits_value}
use Rattle.list_lemmas.proofs.Digits.{ten_pow_pos, value_push}
use Rattle.decimal_digits.specs.declared.digits.Digits.{Digits}
use Rattle.decimal_digits.specs.Held.{Holds}

-- the head is the number where no digit was left out
pub whole_head : (n head more low : ℕ) → more ≡ 0 → n ≡ head * 10 ^ more + low → low < 10 ^ more → n ≡ head
whole_head n head zero low z e below = omega arith
whole_head n head (suc more) low z e below = absurd (omega arith)

-- one digit more in the head
pub held_head : (s new : Digits) (digits : List ℕ) (byte digit : ℕ) → Holds s digits
    → is_ascii_digit byte ≡ true → digit ≡ byte - 48 → s.more ≡ 0 → new.head ≡ 10 * s.head + digit
    → new.more ≡ 0 → new.tail ≡ false → Holds new (digits ++ byte ∷ [])
held_head s new digits byte digit h is d none head more tail =
    let was = whole_head (digits_value 10 digits) s.head s.more h.low none h.whole h.low_below in
    let now : digits_value 10 (digits ++ byte ∷ []) ≡ new.head = omega (arith, value_push digits byte is) in
    let one : 10 ^ new.more ≡ 1 = ap (λ k. 10 ^ k) more in
    record {
      low = 0;
      whole = now ∙ (omega arith ∙ ap (λ p. new.head * p + 0) (sym one));
      low_below = omega arith;
      tail = (λ t. absurd (true≢false (sym t ∙ tail)), λ z. absurd (omega arith));
      large = λ some. absurd (omega arith);
      full = λ some. absurd (omega arith);
    }

-- whether something that isn't 0 is behind the head: it was, or the new digit isn't 0
pub tail_kept : (was now : Bool) (low digit : ℕ) → (IsTrue was ↔ (0 < low)) → was ≡ true → now ≡ was
    → IsTrue now ↔ (0 < 10 * low + digit)
tail_kept was now low digit h w e =
    let some : 0 < low = h.0 w in
    (λ _. omega arith, λ _. e ∙ w)

pub tail_digit : (was now : Bool) (low digit : ℕ) → (IsTrue was ↔ (0 < low)) → was ≡ false
    → now ≡ not (eqb digit 0) → IsTrue now ↔ (0 < 10 * low + digit)
tail_digit was now zero digit h w e = grind (arith, nat_tests, e)
tail_digit was now (suc low) digit h w e = absurd (true≢false (sym (h.1 (omega arith)) ∙ w))

-- one digit more behind the head
whole_push : (n head more low digit : ℕ) → n ≡ head * 10 ^ more + low
    → 10 * n + digit ≡ head * 10 ^ (more + 1) + (10 * low + digit)
whole_push n head more low digit e = rw (pow-add 10 more 1) (omega arith)

low_push : (more low digit : ℕ) → low < 10 ^ more → digit < 10 → 10 * low + digit < 10 ^ (more + 1)
low_push more low digit below small = rw (pow-add 10 more 1) (omega arith)

-- the head has no room for the digit, or had none before
full_push : (head more digit : ℕ) → digit < 10 → (0 < more → 10 ^ 18 ≤ head)
    → (0 < more) ⊎ (2 ^ 64 ≤ 10 * head + digit) → 10 ^ 18 ≤ head
full_push head more digit small full (inl some) = full some
full_push head more digit small full (inr large) = omega arith

large_push : (n head more low digit : ℕ) → n ≡ head * 10 ^ more + low → (0 < more → 2 ^ 64 ≤ n)
    → (0 < more) ⊎ (2 ^ 64 ≤ 10 * head + digit) → 2 ^ 64 ≤ 10 * n + digit
large_push n head more low digit e large (inl some) = omega (arith, large some)
large_push n head more low digit e large (inr above) =
    omega (arith, mul-le-mul_right {m = 1} {n = 10 ^ more} head (ten_pow_pos more))

-- one digit more behind the head
pub held_low : (s new : Digits) (digits : List ℕ) (byte digit : ℕ) (h : Holds s digits)
    → is_ascii_digit byte ≡ true → digit ≡ byte - 48
    → (0 < s.more) ⊎ (2 ^ 64 ≤ 10 * s.head + digit) → new.head ≡ s.head → new.more ≡ s.more + 1
    → IsTrue new.tail ↔ (0 < 10 * h.low + digit) → Holds new (digits ++ byte ∷ [])
held_low s new digits byte digit h is d why head more tail =
    let small : byte - 48 < 10 = grind (arith, nat_tests, is) in
    let now = value_push digits byte is in
    let n = digits_value 10 digits in
    record {
      low = 10 * h.low + digit;
      whole = rw (head, more, now, ← d) (whole_push n s.head s.more h.low digit h.whole);
      low_below = rw more (low_push s.more h.low digit h.low_below (omega arith));
      tail = tail;
      large = λ _. rw (now, ← d) (large_push n s.head s.more h.low digit h.whole h.large why);
      full = λ _. rw head (full_push s.head s.more digit (omega arith) h.full why);
    }
