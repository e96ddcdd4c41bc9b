-- Sums over stakes that are exchanged for others, and which stakes are among them.
use Rattle.std.proofs.Common.{◌≡◌, ◌⊎◌, inl, inr, ℕ, ◌+◌, ◌≤◌, ◌==◌, Bool, true, false, Contains, List}
use Rattle.std.proofs.Common.{[], ◌∷◌, ◌++◌, length, refl, remove, subst, sym, ap, ◌∙◌, arith, sum_by}
use Rattle.std.proofs.Common.{zero-lt-suc}
use Rattle.std.proofs.lemmas.Bool.{and_parts, eq-eqb, eqb-true, cases_eq, ne_eqb}
use Rattle.std.proofs.lemmas.List.Elements.{Contains-append_right}
use Rattle.std.proofs.lemmas.List.Sums.{get_or-le-sum_by, sum_by-append, sum_by-cons, sum_by-remove}
use Rattle.list_lemmas.proofs.Booleans.{one_if}
use Rattle.node_key.specs.Stakes.{Exchanges, HasStakes, same_stake, times}
use Rattle.node_key.specs.declared.stake.Stake.{Stake}
use Rattle.node_key.specs.Tree.{same_kids, same_tree}
use Rattle.node_key.proofs.StakeLaws.{same_kids-true, same_stake-refl}
use Rattle.store_laws.specs.Counted.{stakes_on}

-- ---- the test of equal stakes

pub same_stake-true : (x y : Stake) → same_stake x y ≡ true → x ≡ y
same_stake-true x y is =
    let three = and_parts (x.number == y.number) (same_tree x.tree y.tree) is in
    let two = and_parts _ (same_kids x.tree.kids y.tree.kids) three.1 in
    let one = and_parts (x.tree.func == y.tree.func) (x.tree.dur == y.tree.dur) two.0 in
    let number = eqb-true x.number y.number three.0 in
    let func = eqb-true x.tree.func y.tree.func one.0 in
    let dur = eqb-true x.tree.dur y.tree.dur one.1 in
    let kids = same_kids-true x.tree.kids y.tree.kids two.1 in
    λ i. record { number = number i; tree = record { func = func i; dur = dur i; kids = kids i } }

-- ---- which stakes are there

first_of : (x y : Stake) (xs : List Stake) (b : Bool) → same_stake x y ≡ b → 1 ≤ times x (y ∷ xs)
    → (1 ≤ times x xs → Contains xs x) → Contains (y ∷ xs) x
first_of x y xs true is one rest = (0, zero-lt-suc (length xs), sym (same_stake-true x y is))
first_of x y xs false is one rest =
    let parts = sum_by-cons (λ (z : Stake). one_if (same_stake x z)) y xs in
    let none = ap one_if is in
    Contains-append_right (y ∷ []) xs x (rest (omega (arith, parts, none, one)))

pub there_from_times : (x : Stake) (xs : List Stake) → 1 ≤ times x xs → Contains xs x
there_from_times x [] one = absurd (omega (arith, one))
there_from_times x (y ∷ xs) one = first_of x y xs (same_stake x y) refl one (there_from_times x xs)

-- a part of a sum
pub one_of_sum : (f : Stake → ℕ) (xs : List Stake) (x : Stake) → Contains xs x → f x ≤ sum_by f xs
one_of_sum f xs x (i, below, is) =
    subst (λ (y : Stake). f y ≤ sum_by f xs) is (get_or-le-sum_by f xs i x below)

pub times_from_there : (x : Stake) (xs : List Stake) → Contains xs x → 1 ≤ times x xs
times_from_there x xs there =
    let least = one_of_sum (λ (z : Stake). one_if (same_stake x z)) xs x there in
    let one = ap one_if (same_stake-refl x) in
    omega (arith, least, one)

-- ---- sums

no_more : (y : Stake) (ys : List Stake) → (0 ≡ times y (y ∷ ys)) → ⊥
no_more y ys same =
    let one = times_from_there y (y ∷ ys) (0, zero-lt-suc (length ys), refl) in omega (arith, one, same)

-- lists that have each stake equally often have the same sums
sum_by_times : (f : Stake → ℕ) (xs ys : List Stake) → ((x : Stake) → times x xs ≡ times x ys)
    → sum_by f xs ≡ sum_by f ys
sum_by_times f [] [] same = refl
sum_by_times f [] (y ∷ ys) same = absurd (no_more y ys (same y))
sum_by_times f (x ∷ xs) ys same =
    let one = times_from_there x (x ∷ xs) (0, zero-lt-suc (length xs), refl) in
    let there = there_from_times x ys (omega (arith, one, same x)) in
    let less = λ (g : Stake → ℕ). sum_by-remove g ys there.0 x there.1 in
    let rest = sum_by_times f xs (remove ys there.0) (λ z.
    let t = λ (w : Stake). one_if (same_stake z w) in
    let at = ap t there.2 in
    omega (arith, same z, less t, at, sum_by-cons t x xs)) in
    let here = ap f there.2 in
    omega (arith, rest, less f, here, sum_by-cons f x xs)

pub sum_exchanged : (f : Stake → ℕ) (old new taken given : List Stake) → Exchanges old new taken given
    → sum_by f new + sum_by f taken ≡ sum_by f old + sum_by f given
sum_exchanged f old new taken given swap =
    sym (sum_by-append f new taken)
    ∙ sum_by_times f (new ++ taken) (old ++ given) (λ x.
    let t = λ (w : Stake). one_if (same_stake x w) in
    sum_by-append t new taken ∙ swap x ∙ sym (sum_by-append t old given))
    ∙ sum_by-append f old given

-- a stake comes from the old ones or is given
pub from_either : (old new taken given : List Stake) (x : Stake) → Exchanges old new taken given
    → Contains new x → Contains old x ⊎ Contains given x
from_either old new taken given x swap there = elim (cases_eq (times x old) 0) [
  | inl none ↦ inr (there_from_times x given
      (omega (arith, none, swap x, times_from_there x new there)))
  | inr some ↦ inl (there_from_times x old (omega (arith, some)))
]

pub among_held : (held wanted : List Stake) (x : Stake) → HasStakes held wanted → Contains wanted x
    → Contains held x
among_held held wanted x has there =
    there_from_times x held (omega (arith, has x, times_from_there x wanted there))

-- ---- how many are on a number

pub on_its_number : (xs : List Stake) (x : Stake) → Contains xs x → 1 ≤ stakes_on x.number xs
on_its_number xs x there =
    let least = one_of_sum (λ (z : Stake). one_if (z.number == x.number)) xs x there in
    let one = ap one_if (eq-eqb x.number x.number refl) in
    omega (arith, least, one)

pub on_cons : (n : ℕ) (x : Stake) (xs : List Stake)
    → stakes_on n (x ∷ xs) ≡ one_if (x.number == n) + stakes_on n xs
on_cons n x xs = sum_by-cons (λ (z : Stake). one_if (z.number == n)) x xs

pub on_one : (n : ℕ) (x : Stake) → x.number ≡ n → stakes_on n (x ∷ []) ≡ 1
on_one n x is =
    let one = ap one_if (eq-eqb x.number n is) in omega (arith, on_cons n x [], one)

pub on_none : (n : ℕ) (x : Stake) → (x.number ≡ n → ⊥) → stakes_on n (x ∷ []) ≡ 0
on_none n x apart =
    let none = ap one_if (ne_eqb x.number n apart) in omega (arith, on_cons n x [], none)

-- none are on a number that no stake has
pub none_on : (n : ℕ) (xs : List Stake) → ((x : Stake) → Contains xs x → x.number ≡ n → ⊥)
    → stakes_on n xs ≡ 0
none_on n [] none = refl
none_on n (x ∷ xs) none =
    let here = ap one_if (ne_eqb x.number n (none x (0, zero-lt-suc (length xs), refl))) in
    let rest = none_on n xs (λ y there. none y (Contains-append_right (x ∷ []) xs y there)) in
    omega (arith, on_cons n x xs, here, rest)

-- how many there are on a number, before and after an exchange
pub stakes_exchanged : (n : ℕ) (old new taken given : List Stake) → Exchanges old new taken given
    → stakes_on n new + stakes_on n taken ≡ stakes_on n old + stakes_on n given
stakes_exchanged n = sum_exchanged (λ (z : Stake). one_if (z.number == n))
