-- Numbers: below and above, quotients, sums that wrap, and their order.
use Rattle.std.proofs.Common.{Bool, Equal, Greater, Less, Ordering, T, ap, ap₂, arith, cond, eqb, false, inl}
use Rattle.std.proofs.Common.{inr, is_lt, max, min, nat_cmp, nat_eq, nat_le, nat_lt, not, refl, suc, sym}
use Rattle.std.proofs.Common.{true, zero, ℕ, ◌%◌, ◌&&◌, ◌*◌, ◌+◌, ◌-◌, ◌/◌, ◌<◌, ◌==◌, ◌||◌, ◌∙◌, ◌≡◌, ◌≤◌}
use Rattle.std.proofs.Common.{◌⊎◌}
use Rattle.std.proofs.Math.Nat.{add-mod-mod, lt-div-mul-add, mod-add-mod}
use Rattle.std.proofs.lemmas.Bool.{cases_order, eq-eqb, eqb-false, eqb-true, false≢true, leb-false, ltb-false}
use Rattle.std.proofs.lemmas.Bool.{ltb-true, ne_eqb, not_from_false, or_parts, true≢false}
use Rattle.std.proofs.lemmas.Bool.Decides.{eqb_tells, nat_tests}
use Rattle.std.proofs.lemmas.Cmp.{ranked}
use Rattle.std.proofs.lemmas.Nat.{div-add-mod', div-mul-add}
use Rattle.std.specs.Cmp.{nat_cmp_is, nat_eq_equiv}
use Rattle.std.specs.Ordering.{MatchOrdering, eq_by_cmp, is_eq}

pos_from_ne : (n : ℕ) → (n ≡ 0 → ⊥) → 1 ≤ n
pos_from_ne zero some = absurd (some refl)
pos_from_ne (suc n) some = omega arith

pub pos_unless : (n : ℕ) (b : Bool) → b ≡ true → (b && (n == 0)) ≡ false → 1 ≤ n
pos_unless n true is none = pos_from_ne n (eqb-false n 0 none)
pos_unless n false is none = absurd (true≢false (sym is))

pub pos_unless_both : (b : Bool) (n : ℕ) → not (b && n == 0) ≡ true → b ≡ true
    → 0 < n
pos_unless_both b n left ended =
    elim (eqb_tells n 0) [
      | inl none ↦ absurd (false≢true (sym (ap₂ (λ x y. not (x && y)) ended none.0) ∙ left))
      | inr some ↦ omega (arith, some.1)
    ]

pub room_unless : (limit n : ℕ) (b : Bool) → b ≡ true → (b && nat_le limit n) ≡ false → n + 1 ≤ limit
room_unless limit n true is none = let below = leb-false limit n none in omega (arith, below)
room_unless limit n false is none = absurd (true≢false (sym is))

-- one of two numbers is no 0
pub pos_part : (a b : ℕ) → 1 ≤ a + b → (1 ≤ a) ⊎ (1 ≤ b)
pos_part zero b h = inr (omega arith)
pos_part (suc a) b h = inl (omega arith)

pub above_by : (k a : ℕ) → a ≤ k → (k ≡ a → ⊥) → a + 1 ≤ k
above_by k a from differs = omega (arith, from, differs)

pub eqb_above : (a b : ℕ) → a < b → eqb b a ≡ false
eqb_above a b h = elim (eqb_tells b a) [ inl p ↦ absurd (omega (arith, p.1)) | inr p ↦ p.0 ]

-- a test for the same number, either way round
pub eqb_flip : (a b : ℕ) → eqb a b ≡ eqb b a
eqb_flip a b = grind (arith, nat_tests)

pub not_eqb : (x y : ℕ) → (x ≡ y → ⊥) → not (nat_eq x y) ≡ true
not_eqb x y ne = not_from_false (nat_eq x y) (ne_eqb x y ne)

pub ltb-suc : (a b : ℕ) → nat_lt a b ≡ nat_lt (1 + a) (suc b)
ltb-suc a b = grind (arith, nat_tests)

-- a quotient is the number whose multiples of the divisor are on both sides
pub quotient : (a b q : ℕ) → q * b ≤ a → a < (q + 1) * b → a / b ≡ q
quotient a b q low high =
    let e : a ≡ q * b + (a - q * b) = omega arith in
    let small : a - q * b < b = omega arith in
    ap (λ x. x / b) e ∙ div-mul-add q b (a - q * b) small

pub quotient_bounds : (a b ns : ℕ) → 0 < b → ns ≡ a / b → (ns * b ≤ a) × (a < (ns + 1) * b)
quotient_bounds a b ns some e = rw e (
  omega (arith, div-add-mod' a b),
  omega (arith, lt-div-mul-add {a = a} {b = b} some),
)

-- two numbers that wrapped, added
pub wrapped_sum : (a b m : ℕ) → (a % m + b % m) % m ≡ (a + b) % m
wrapped_sum a b m = add-mod-mod (a % m) b m ∙ mod-add-mod a m b

pub ruleset wrapping = (wrapped_sum, add-mod-mod, mod-add-mod)

pub no_clip : (x y a b : ℕ) → x ≡ y → min y b - max x a ≡ 0
no_clip x y a b e = omega arith

pub within-plus : (a b c t : ℕ) → a ≤ b → b ≤ c → cond (nat_le a t && nat_lt t c) 1 0 ≡ cond
    (nat_le a t && nat_lt t b) 1 0
    + cond (nat_le b t && nat_lt t c) 1 0
within-plus a b c t h g = grind (arith, nat_tests)

pub either_pos-same : (c1 c2 t1 t2 : ℕ) → c1 ≡ c2 → t1 ≡ t2
    → (nat_lt 0 c1 || nat_lt 0 t1) ≡ (nat_lt 0 c2 || nat_lt 0 t2)
either_pos-same c1 c2 t1 t2 e g = rw (e, g) refl

-- one of two sums is positive where one of the parts is
pub either_pos-plus : (x x1 x2 y y1 y2 : ℕ) → x ≡ x1 + x2 → y ≡ y1 + y2
    → (nat_lt 0 x || nat_lt 0 y) ≡ ((nat_lt 0 x1 || nat_lt 0 y1) || (nat_lt 0 x2 || nat_lt 0 y2))
either_pos-plus x x1 x2 y y1 y2 e g = grind (arith, nat_tests)

pub neither_pos : (c t : ℕ) → (nat_lt 0 c || nat_lt 0 t) ≡ false → (c ≡ 0) × (t ≡ 0)
neither_pos c t e =
    let none = or_parts (nat_lt 0 c) (nat_lt 0 t) e in
    (omega (arith, ltb-false 0 c none.0), omega (arith, ltb-false 0 t none.1))

pub Less-from_lt : (a b : ℕ) → a < b → nat_cmp a b ≡ Less
Less-from_lt a b h = sym (nat_cmp_is a b Less h)

pub Less-from_ltb : (a b : ℕ) → nat_lt a b ≡ true → nat_cmp a b ≡ Less
Less-from_ltb a b h = sym (nat_cmp_is a b Less (ltb-true a b h))

pub lt-from_Less : (a b : ℕ) → nat_cmp a b ≡ Less → a < b
lt-from_Less a b e = ranked a b Less (sym e)

pub eq-from_Equal : (a b : ℕ) → nat_cmp a b ≡ Equal → a ≡ b
eq-from_Equal a b e = ranked a b Equal (sym e)

pub gt-from_Greater : (a b : ℕ) → nat_cmp a b ≡ Greater → b < a
gt-from_Greater a b e = ranked a b Greater (sym e)

pub lt-from_is_lt : (x y : ℕ) (r : Ordering) → MatchOrdering r (x < y) (x ≡ y) (y < x) → T (is_lt r) → x < y
lt-from_is_lt x y Less m h = m
lt-from_is_lt x y Equal m h = absurd h
lt-from_is_lt x y Greater m h = absurd h

-- a query for a number finds that number
pub is_eq-nat_cmp : (id k : ℕ) → is_eq (nat_cmp id k) ≡ eqb k id
is_eq-nat_cmp id k = elim (cases_order id k) [
  | inl same ↦ ap is_eq (sym (nat_cmp_is id k Equal same)) ∙ sym (eq-eqb k id (sym same))
  | inr (inl less) ↦ ap is_eq (sym (nat_cmp_is id k Less less)) ∙ sym (ne_eqb k id (omega arith))
  | inr (inr more) ↦ ap is_eq (sym (nat_cmp_is id k Greater more)) ∙ sym (ne_eqb k id (omega arith))
]

nat_tied : (x y : ℕ) (b e : Bool) → nat_lt x y ≡ b → nat_eq x y ≡ e
    → is_eq (cond b Less (cond e Equal Greater)) ≡ e
nat_tied x y true true lt eq =
    let same : x ≡ y = eqb-true x y eq in
    let below : x < y = grind arith in
    absurd (omega arith)
nat_tied x y true false lt eq = refl
nat_tied x y false true lt eq = refl
nat_tied x y false false lt eq = refl

-- a number ties with those that are equal to it
pub nat_tie : (x y : ℕ) → eq_by_cmp nat_cmp x y ≡ nat_eq x y
nat_tie x y = nat_tied x y (nat_lt x y) (nat_eq x y) refl refl

pub nat_tie_back : (n q : ℕ) → nat_eq n q ≡ eq_by_cmp nat_cmp q n
nat_tie_back n q = nat_eq_equiv.symm n q ∙ sym (nat_tie q n)
