-- Items that lie between two times, and their heights, when they are put into groups.
use Rattle.std.proofs.Common.{◌≡◌, ℕ, ◌+◌, ◌*◌, ◌<◌, ◌≤◌, zero, suc, List, [], ◌∷◌, ◌++◌}
use Rattle.std.proofs.Common.{length, take, drop, refl}
use Rattle.std.proofs.Common.{sym, ap, subst, arith, take-append-drop, append-nil, All, inl, inr}
use Rattle.std.proofs.lemmas.List.Elements.{All-nil, All-cons, All-head, All-tail, All-take, All-drop}
use Rattle.std.proofs.lemmas.List.Elements.{All-weaker}
use Rattle.std.proofs.lemmas.List.{length-take}
use Rattle.std.proofs.lemmas.Bool.{cases_lt}
use Rattle.node_key.specs.Tree.{height, height_above}
use Rattle.node_key.specs.Branches.{kids_of}
use Rattle.node_key.specs.Items.{end_of, branches_from, FitBetween}
use Rattle.node_key.specs.declared.item.Item.{Item}
use Rattle.node_key.proofs.Kids.{FitBetween-le}
use Rattle.node_key.specs.Bound.{group, grouped, bound, start_of, stop_of}
use Rattle.call_tree.proofs.Chunks.{grouped-some, grouped-none, length-grouped, by_chunks, bound-few}
use Rattle.call_tree.proofs.Chunks.{bound-more}
use Rattle.std.proofs.Common.{◌-◌}
use Rattle.node_key.specs.declared.limits.TheConstants.{HEIGHT_BOUND, MAX_HEIGHT, MAX_KIDS}

-- when the last item ends, or the time before the items where there is none
abbrev pub last_end : ℕ → List Item → ℕ
last_end low [] = low
last_end low (i ∷ is) = last_end (end_of i) is

pub last_end-le : (low high : ℕ) (is : List Item) → FitBetween low high is → last_end low is ≤ high
last_end-le low high [] fit = fit
last_end-le low high (i ∷ is) fit = last_end-le (end_of i) high is fit.1

pub stop_of-last_end : (low : ℕ) (is : List Item) → 0 < length is → stop_of is ≡ last_end low is
stop_of-last_end low [] some = absurd (omega arith)
stop_of-last_end low (i ∷ []) some = refl
stop_of-last_end low (i ∷ j ∷ is) some = stop_of-last_end (end_of i) (j ∷ is) (omega arith)

-- items at the front of others, and those behind them
pub FitBetween-parts : (low high : ℕ) (xs ys : List Item) → FitBetween low high (xs ++ ys)
    → FitBetween low (last_end low xs) xs × FitBetween (last_end low xs) high ys
FitBetween-parts low high [] ys fit = (omega arith, fit)
FitBetween-parts low high (x ∷ xs) ys fit =
    let parts = FitBetween-parts (end_of x) high xs ys fit.1 in ((fit.0, parts.0), parts.1)

pub FitBetween-lower : (low low' high : ℕ) (is : List Item) → low ≤ low' → FitBetween low' high is
    → FitBetween low high is
FitBetween-lower low low' high [] h fit = omega (arith, fit)
FitBetween-lower low low' high (i ∷ is) h fit = (omega (arith, fit.0), fit.1)

pub FitBetween-upper : (low high high' : ℕ) (is : List Item) → high ≤ high' → FitBetween low high is
    → FitBetween low high' is
FitBetween-upper low high high' [] h fit = omega (arith, fit)
FitBetween-upper low high high' (i ∷ is) h fit = (fit.0, FitBetween-upper (end_of i) high high' is h fit.1)

-- one item more behind those that fit
pub FitBetween-push : (low high high' : ℕ) (is : List Item) (i : Item) → FitBetween low high is → high ≤ i.at
    → end_of i ≤ high' → FitBetween low high' (is ++ i ∷ [])
FitBetween-push low high high' [] i fit h k = (omega (arith, fit), k)
FitBetween-push low high high' (x ∷ xs) i fit h k =
    (fit.0, FitBetween-push (end_of x) high high' xs i fit.1 h k)

-- a group lies where its items do
pub group-place : (low high : ℕ) (c : List Item) → 0 < length c → FitBetween low high c
    → (low ≤ (group c).at) × (end_of (group c) ≡ last_end low c)
group-place low high [] some fit = absurd (omega arith)
group-place low high (i ∷ []) some fit = (fit.0, refl)
group-place low high (i ∷ j ∷ is) some fit =
    let ends = stop_of-last_end low (i ∷ j ∷ is) (omega arith) in
    let parts = FitBetween-parts low high (i ∷ j ∷ is) []
    (subst (λ (l : List Item). FitBetween low high l) (sym (append-nil (i ∷ j ∷ is))) fit) in
    let after = FitBetween-le (end_of i) (last_end low (i ∷ j ∷ is)) (j ∷ is) parts.0.1 in
    (fit.0, omega (arith, ends, after))

-- the first group, and those behind it
one_chunk : (is : List Item) → 0 < length is → (low high : ℕ)
    → ((low high : ℕ) → FitBetween low high (drop 8 is) → FitBetween low high (grouped (drop 8 is)))
    → FitBetween low high is → FitBetween low high (grouped is)
one_chunk is some low high more fit =
    let parts = FitBetween-parts low high (take 8 is) (drop 8 is)
    (subst (λ (l : List Item). FitBetween low high l) (sym (take-append-drop 8 is)) fit) in
    let nonempty : 0 < length (take 8 is) = omega (arith, length-take 8 is, some) in
    let place = group-place low (last_end low (take 8 is)) (take 8 is) nonempty parts.0 in
    let rest = more (last_end low (take 8 is)) high parts.1 in
    subst (λ (l : List Item). FitBetween low high l) (sym (grouped-some is some))
    (place.0, subst (λ (n : ℕ). FitBetween n high (grouped (drop 8 is))) (sym place.1) rest)

-- groups lie where their items do
pub FitBetween-grouped : (is : List Item) (low high : ℕ) → FitBetween low high is
    → FitBetween low high (grouped is)
FitBetween-grouped is =
    by_chunks (λ is. (low high : ℕ) → FitBetween low high is → FitBetween low high (grouped is))
    (λ low high fit. subst (λ (l : List Item). FitBetween low high l) (sym (grouped-none [] refl)) fit)
    (λ is some more low high fit. one_chunk is some low high more fit) (length is) is (omega arith)

-- no item is so high that it exceeds n by k
abbrev pub Low : ℕ → ℕ → List Item → Type 0
Low k n is = All (λ i. height i.tree + k ≤ n) is

pub Low-head : (k n : ℕ) (i : Item) (is : List Item) → Low k n (i ∷ is) → height i.tree + k ≤ n
Low-head k n i is low = All-head (λ (i : Item). height i.tree + k ≤ n) i is low

pub Low-tail : (k n : ℕ) (i : Item) (is : List Item) → Low k n (i ∷ is) → Low k n is
Low-tail k n i is low = All-tail (λ (i : Item). height i.tree + k ≤ n) i is low

pub Low-cons : (k n : ℕ) (i : Item) (is : List Item) → height i.tree + k ≤ n → Low k n is → Low k n (i ∷ is)
Low-cons k n i is h low = All-cons (λ (i : Item). height i.tree + k ≤ n) i is h low

pub Low-nil : (k n : ℕ) → Low k n []
Low-nil k n = All-nil (λ (i : Item). height i.tree + k ≤ n)

pub Low-weaker : (k k' n n' : ℕ) (is : List Item) → ((h : ℕ) → h + k ≤ n → h + k' ≤ n') → Low k n is
    → Low k' n' is
Low-weaker k k' n n' is f low = All-weaker (λ (i : Item). height i.tree + k ≤ n) (λ (i : Item). height i.tree
    + k' ≤ n') (λ i h. f (height i.tree) h) is low

-- a node is at most one higher than its items
pub height_above-low : (from k n : ℕ) (is : List Item) → k ≤ n → Low (k + 1) n is
    → height_above (kids_of (branches_from from is)) + k ≤ n
height_above-low from k n [] h low = omega arith
height_above-low from k n (i ∷ is) h low =
    omega (
      arith,
      height_above-low (end_of i) k n is h (Low-tail (k + 1) n i is low),
      Low-head (k + 1) n i is
          low,
    )

group-low : (k n : ℕ) (c : List Item) → 0 < length c → Low (k + 1) n c → height (group c).tree + k ≤ n
group-low k n [] some low = absurd (omega arith)
group-low k n (i ∷ []) some low = omega (arith, Low-head (k + 1) n i [] low)
group-low k n (i ∷ j ∷ is) some low =
    height_above-low (start_of (i ∷ j ∷ is)) k n (i ∷ j ∷ is)
    (omega (arith, Low-head (k + 1) n i (j ∷ is) low)) low

pub Low-grouped : (k n : ℕ) (is : List Item) → Low (k + 1) n is → Low k n (grouped is)
Low-grouped k n is =
    by_chunks (λ is. Low (k + 1) n is → Low k n (grouped is))
    (λ low. subst (λ (l : List Item). Low k n l) (sym (grouped-none [] refl)) (Low-nil k n))
    (λ is some more low. subst (λ (l : List Item). Low k n l) (sym (grouped-some is some))
    (Low-cons k n (group (take 8 is)) (grouped (drop 8 is))
    (group-low k n (take 8 is) (omega (arith, length-take 8 is, some))
    (All-take (λ (i : Item). height i.tree + (k + 1) ≤ n) 8 is low))
    (more (All-drop (λ (i : Item). height i.tree + (k + 1) ≤ n) 8 is low)))) (length is) is (omega arith)

-- how many items k times of grouping leave at most 8 of
abbrev pub eights : ℕ → ℕ
eights zero = 8
eights (suc k) = 8 * eights k

-- a bounded list is at most as many levels higher as it was grouped
pub Low-bound : (k m n : ℕ) (is : List Item) → length is ≤ eights k → Low (m + k) n is → Low m n (bound is)
Low-bound zero m n is few low =
    subst (λ (l : List Item). Low m n l) (sym (bound-few is few))
    (Low-weaker (m + 0) m n n is (λ h p. omega arith) low)
Low-bound (suc k) m n is few low =
    elim (cases_lt 8 (length is)) [
      | inl more ↦ subst (λ (l : List Item). Low m n l) (sym (bound-more is more))
          (Low-bound k m n (grouped is) (omega (arith, length-grouped is, few))
          (Low-grouped (m + k) n is (Low-weaker (m + suc k) (m + k + 1) n n is (λ h p. omega arith) low)))
      | inr short ↦ subst (λ (l : List Item). Low m n l) (sym (bound-few is short))
          (Low-weaker (m + suc k) m n n is (λ h p. omega arith) low)
    ]

-- what holds of a list and of its groups holds of the bounded list
pub by_bound : (P : List Item → Type 0) → ((is : List Item) → P is → P (grouped is))
    → (n : ℕ) (is : List Item) → length is ≤ n
    → P is → P (bound is)
by_bound P step zero is few p = subst P (sym (bound-few is (omega arith))) p
by_bound P step (suc n) is few p =
    elim (cases_lt 8 (length is)) [
      | inl more ↦ subst P (sym (bound-more is more))
          (by_bound P step n (grouped is) (omega (arith, length-grouped is)) (step is p))
      | inr short ↦ subst P (sym (bound-few is short)) p
    ]

pub FitBetween-bound : (low high : ℕ) (is : List Item) → FitBetween low high is
    → FitBetween low high (bound is)
FitBetween-bound low high is fit =
    by_bound (λ is. FitBetween low high is) (λ is p. FitBetween-grouped is low high p) (length is) is
    (omega arith) fit

pub length-bound-le : (n : ℕ) (is : List Item) → length is ≤ n → length (bound is) ≤ 8
length-bound-le zero is few = omega (arith, ap length (bound-few is (omega arith)))
length-bound-le (suc n) is few =
    elim (cases_lt 8 (length is)) [
      | inl more ↦ omega (
        arith,
        ap length (bound-more is more),
        length-bound-le n (grouped is)
            (omega (arith, length-grouped is)),
      )
      | inr short ↦ omega (arith, ap length (bound-few is short))
    ]

pub low_bound : (is : List Item) → All (λ (i : Item). height i.tree ≤ MAX_HEIGHT - MAX_KIDS) is
    → length is ≤ 4194304 → All (λ (i : Item). height i.tree < HEIGHT_BOUND) (bound is)
low_bound is low few =
    All-weaker (λ (i : Item). height i.tree + 0 ≤ 2047) (λ (i : Item). height i.tree < HEIGHT_BOUND)
    (λ i h. omega arith) (bound is) (Low-bound 7 0 2047 is (omega (arith, few))
    (All-weaker (λ (i : Item). height i.tree ≤ MAX_HEIGHT - MAX_KIDS) (λ (i : Item). height i.tree
    + (0 + 7) ≤ 2047) (λ i h. omega arith) is low))
