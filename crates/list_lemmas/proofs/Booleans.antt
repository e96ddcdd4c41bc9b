-- Tests of several parts, and what a test gives.
use Rattle.std.proofs.Common.{Bool, List, [], add-zero, ap, arith, cond, false, not, refl, subst, suc, sym}
use Rattle.std.proofs.Common.{true, true≢false, zero-add, ℕ, ◌&&◌, ◌+◌, ◌<◌, ◌||◌, ◌∙◌, ◌≡◌, ◌≤◌}
use Rattle.std.specs.Bool.{OnTrue}

-- a test, counted
abbrev pub one_if : Bool → ℕ
one_if b = cond b 1 0

pub and_apart : (b c : Bool) → (b ≡ true → c ≡ false) → (b && c) ≡ false
and_apart true c fails = fails refl
and_apart false c fails = refl

pub and_not : (a b : Bool) → b ≡ true → (a && not b) ≡ false
and_not true b e = ap not e
and_not false b e = refl

-- two tests in either order
pub and_swap : (a b c : Bool) → ((a && b) && c) ≡ ((a && c) && b)
and_swap true true true = refl
and_swap true true false = refl
and_swap true false true = refl
and_swap true false false = refl
and_swap false b c = refl

-- neither of two, one after the other
pub and_not-or : (a b c : Bool) → (a && not (b || c)) ≡ ((a && not b) && not c)
and_not-or true true c = refl
and_not-or true false c = refl
and_not-or false b c = refl

-- what holds of the first two says the rest
pub and_not-and : (a b c : Bool)
    → ((a && not b) && not (b && c)) ≡ (a && not b)
and_not-and true true c = refl
and_not-and true false c = refl
and_not-and false b c = refl

-- a test beside one that implies it
pub not_and-implied : (o h : Bool) → (o ≡ true → h ≡ true) → not (h && o) ≡ not o
not_and-implied false true named = refl
not_and-implied false false named = refl
not_and-implied true h named = ap (λ b. not (b && true)) (named refl)

-- or beside two of which it implies one
pub not_and-either : (o g h : Bool) → (o ≡ true → (g || h) ≡ true) → (not (g && o) && not (h && o)) ≡ not o
not_and-either false true true named = refl
not_and-either false true false named = refl
not_and-either false false true named = refl
not_and-either false false false named = refl
not_and-either true true h named = refl
not_and-either true false h named = ap (λ b. not (b && true)) (named refl)

-- what a test said that was turned
pub false_by_not : (new had : Bool) → new ≡ not had → new ≡ true → had ≡ false
false_by_not new false is on = refl
false_by_not new true is on = absurd (true≢false (sym on ∙ is))

pub true_by_not : (new had : Bool) → new ≡ not had → new ≡ false → had ≡ true
true_by_not new true is off = refl
true_by_not new false is off = absurd (true≢false (sym is ∙ off))

pub cond_nothing : (b : Bool) → cond {A = ℕ} b 0 0 ≡ 0
cond_nothing true = refl
cond_nothing false = refl

pub cond_zero : (t : Bool) (n : ℕ) → n ≡ 0 → cond t n 0 ≡ 0
cond_zero true n e = e
cond_zero false n e = refl

pub cond_zeros : (b c : Bool) (m n : ℕ) → m ≡ 0 → n ≡ 0 → cond b m 0 ≡ cond c n 0
cond_zeros true true m n p q = p ∙ sym q
cond_zeros true false m n p q = p
cond_zeros false true m n p q = sym q
cond_zeros false false m n p q = refl

pub cond-suc : (b : Bool) (m : ℕ) → cond b 1 0 + cond b m 0 ≡ cond b (suc m) 0
cond-suc true m = omega arith
cond-suc false m = refl

pub cond-le : (c : Bool) (x y : ℕ) → x ≤ y → cond c x 0 ≤ y
cond-le true x y h = h
cond-le false x y h = omega arith

pub cond_empty : {X : Type 0} (t : Bool) (us : List X) → us ≡ [] → cond t us [] ≡ []
cond_empty true us e = e
cond_empty false us e = refl

pub true_from_pos : (t : Bool) (n : ℕ) → 0 < cond t n 0 → t ≡ true
true_from_pos true n h = refl
true_from_pos false n h = absurd (omega (arith, h))

pub true_from_count : (b : Bool) → 1 ≤ cond b 1 0 → b ≡ true
true_from_count true h = refl
true_from_count false h = absurd (omega arith)

pub false_from_count : (t : Bool) → one_if t ≡ 0 → t ≡ false
false_from_count true e = absurd (omega (arith, e))
false_from_count false e = refl

pub count_and-false : (x : Bool) → one_if (x && false) ≡ 0
count_and-false true = refl
count_and-false false = refl

pub count_and_no : (x y : Bool) → y ≡ false → one_if (x && y) ≡ 0
count_and_no x y e = ap {B = ℕ} (λ (t : Bool). one_if (x && t)) e ∙ count_and-false x

pub count_and_yes : (x y : Bool) → y ≡ true → one_if (x && y) ≡ one_if x
count_and_yes true y e = ap {B = ℕ} (λ (t : Bool). one_if t) e
count_and_yes false y e = refl

pub count_and-le : (x t u : Bool) → (t ≡ true → u ≡ true) → cond (x && t) 1 0 ≤ cond (x && u) 1 0
count_and-le false t u h = omega arith
count_and-le true false u h = omega arith
count_and-le true true u h = subst (λ (v : Bool). 1 ≤ cond v 1 0) (sym (h refl)) (omega arith)

pub count_and-plus : (x w u v h : Bool) → cond w 1 0 ≡ cond u 1 0 + cond v 1 0
    → cond ((x && w) && h) 1 0 ≡ cond ((x && u) && h) 1 0 + cond ((x && v) && h) 1 0
count_and-plus false w u v h e = refl
count_and-plus true true true true h e = absurd (omega (arith, e))
count_and-plus true true true false h e = sym (add-zero (cond h 1 0))
count_and-plus true true false true h e = sym (zero-add (cond h 1 0))
count_and-plus true true false false h e = absurd (omega (arith, e))
count_and-plus true false true true h e = absurd (omega (arith, e))
count_and-plus true false true false h e = absurd (omega (arith, e))
count_and-plus true false false true h e = absurd (omega (arith, e))
count_and-plus true false false false h e = refl

-- one of two tests counts at most as both do
pub count_or-le : (a b : Bool) → one_if (a || b) ≤ one_if a + one_if b
count_or-le true b = omega arith
count_or-le false b = omega arith

pub OnTrue-both : {P Q R : Type 0} (b : Bool) → (P → Q → R) → OnTrue b P → OnTrue b Q → OnTrue b R
OnTrue-both true f p q = f p q
OnTrue-both false f p q = tt

pub OnTrue-by : {P Q : Type 0} (b : Bool) → (P → Q) → OnTrue b P → OnTrue b Q
OnTrue-by true f p = f p
OnTrue-by false f p = tt

pub OnTrue-all : {P : Type 0} (b : Bool) → P → OnTrue b P
OnTrue-all true p = p
OnTrue-all false p = tt
