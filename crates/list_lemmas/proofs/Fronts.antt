-- The first item, the last, a front of a list, and what is behind it.
use Rattle.std.proofs.Common.{Bool, Decides, List, [], ap, append-nil, arith, cond, drop, drop-drop, false}
use Rattle.std.proofs.Common.{get_or, inl, inr, length, length-append, map, min, nat_le, refl, subst, suc}
use Rattle.std.proofs.Common.{sym, take, take_all, true, zero, ℕ, ◌++◌, ◌+◌, ◌-◌, ◌<◌, ◌∙◌, ◌∷◌, ◌≡◌, ◌≢◌}
use Rattle.std.proofs.Common.{◌≤◌, ◌⊎◌}
use Rattle.std.proofs.Math.Seq.{drop-append_seam, take-append_seam}
use Rattle.std.proofs.lemmas.Bool.{cases_lt, true≢false}
use Rattle.std.proofs.lemmas.List.{append_assoc, drop-take, drop_all, length-take-le, take-append-drop}
use Rattle.std.proofs.lemmas.List.{take_more_same}

pub cons_head : {X : Type 0} (x y : X) (xs ys : List X) → x ∷ xs ≡ y ∷ ys → x ≡ y
cons_head x y xs ys e = cc

pub cons_tail : {X : Type 0} (x y : X) (xs ys : List X) → x ∷ xs ≡ y ∷ ys → xs ≡ ys
cons_tail x y xs ys e = cc

pub no_cons : {X : Type 0} → (x : X) (xs : List X) → x ∷ xs ≡ [] → ⊥
no_cons x xs same = let long = ap length same in omega (arith, long)

pub nil_no_cons : {X : Type 0} → (x : X) (xs : List X) → [] ≡ x ∷ xs → ⊥
nil_no_cons x xs e = cc

abbrev pub first_or : {X : Type 0} → X → List X → X
first_or d [] = d
first_or d (x ∷ xs) = x

abbrev pub behind_first : {X : Type 0} → List X → List X
behind_first [] = []
behind_first (x ∷ xs) = xs

pub nil_or : {X : Type 0} (q : List X) → (q ≡ []) ⊎ (q ≢ [])
nil_or [] = inl refl
nil_or (x ∷ q) = inr (λ e. cc)

pub no_items : {X : Type 0} (xs : List X) → length xs ≤ 0 → xs ≡ []
no_items [] h = refl
no_items (x ∷ xs) h = absurd (omega arith)

pub not_nil : {X : Type 0} (stack : List X) → 1 ≤ length stack → stack ≢ []
not_nil [] some = absurd (omega arith)
not_nil (x ∷ xs) some = λ e. cc

pub nonempty : {X : Type 0} (stack : List X) → stack ≢ [] → 0 < length stack
nonempty [] h = absurd (h refl)
nonempty (x ∷ xs) h = omega arith

pub one_from_nonempty : {X : Type 0} (stack : List X) → stack ≢ [] → 1 ≤ length stack
one_from_nonempty [] is = absurd (is refl)
one_from_nonempty (f ∷ stack) is = omega arith

pub nonempty_by : {X : Type 0} (stack : List X) → nat_le 1 (length stack) ≡ true → stack ≢ []
nonempty_by [] h = λ e. true≢false (sym h)
nonempty_by (x ∷ xs) h = λ e. cc

pub length_behind : {X : Type 0} (q : List X) → q ≢ [] → length q ≡ suc (length q - 1)
length_behind [] n = absurd (n refl)
length_behind (x ∷ q) n = omega arith

pub push_not_nil : {X : Type 0} (st : List X) (g : X) → st ++ g ∷ [] ≢ []
push_not_nil [] g e = cc
push_not_nil (x ∷ st) g e = cc

pub list_of_one : {X : Type 0} (xs : List X) (x : X) → 1 ≤ length xs → length xs < 2 → x ≡ get_or xs 0 x
    → xs ≡ x ∷ []
list_of_one [] x some few is = absurd (omega arith)
list_of_one (y ∷ []) x some few is = ap (λ z. z ∷ []) (sym is)
list_of_one (y ∷ z ∷ xs) x some few is = absurd (omega arith)

-- one text of such a list is decided by a test of its element
pub one_text : {X : Type 0} (bytes : X → List ℕ) (xs : List X) (x : X) (text : List ℕ) (b : Bool) → xs ≡ x
    ∷ [] → Decides b (bytes x ≡ text) → (b ≡ true → map bytes xs ≡ text ∷ [])
    × (map bytes xs ≡ text ∷ [] → b ≡ true)
one_text {X} bytes xs x text b one d =
    let same : map bytes xs ≡ bytes x ∷ [] = ap (map bytes) one in
    (λ yes. same ∙ ap (λ (l : List ℕ). l ∷ []) (d.0 yes), λ is. let e : bytes x ≡ text = cc in d.1 e)

-- where one item is all that there is, others stand in its stead
pub replaced_whole : {X : Type 0} (x : X) (ys stead front back : List X) → x ∷ [] ≡ front ++ x ∷ back
    → ys ≡ front ++ (stead ++ back) → ys ≡ stead
replaced_whole {X} x ys stead [] back was now =
    let none : [] ≡ back = cc in now ∙ ap (λ (l : List X). stead ++ l) (sym none) ∙ append-nil stead
replaced_whole {X} x ys stead (f ∷ fs) back was now =
    absurd (omega (arith, ap length was, length-append fs (x ∷ back)))

pub length_pushed : {X : Type 0} (stack : List X) (f : X) (n : ℕ) → length stack ≡ n
    → length (stack ++ f ∷ []) ≡ n + 1
length_pushed stack f n is = omega (arith, length-append stack (f ∷ []))

pub length_popped : {X : Type 0} (stack : List X) (n : ℕ) → length stack ≡ n
    → length (take (length stack - 1) stack) ≡ n - 1
length_popped stack n is = length-take-le (length stack - 1) stack (omega arith) ∙ ap (λ m. m - 1) is

pub length_pop : {X : Type 0} (stack : List X) → length (take (length stack - 1) stack) ≡ length stack - 1
length_pop stack = length-take-le (length stack - 1) stack (omega arith)

pub take_cons : {X : Type 0} (n : ℕ) (b : X) (bs : List X) → take (1 + n) (b ∷ bs) ≡ b ∷ take n bs
take_cons n b bs = let e : 1 + n ≡ suc n = omega arith in ap (λ k. take k (b ∷ bs)) e

pub take_none : {X : Type 0} (n : ℕ) (xs : List X) → xs ≡ [] → take n xs ≡ []
take_none zero xs e = refl
take_none (suc n) xs e = ap (take (suc n)) e

-- of a length that is at most that of the list
pub take_within : {X : Type 0} (n : ℕ) (xs : List X) → take (min n (length xs)) xs ≡ take n xs
take_within n xs =
    elim (cases_lt n (length xs)) [
      | inl more ↦ ap (λ (k : ℕ). take k xs) (let k : min n (length xs) ≡ n = omega arith in k)
      | inr few ↦ take_all (min n (length xs)) xs (omega arith) ∙ sym (take_all n xs few)
    ]

pub drop_within : {X : Type 0} (n : ℕ) (xs : List X) → drop (min n (length xs)) xs ≡ drop n xs
drop_within n xs =
    elim (cases_lt n (length xs)) [
      | inl more ↦ ap (λ (k : ℕ). drop k xs) (let k : min n (length xs) ≡ n = omega arith in k)
      | inr few ↦ drop_all (min n (length xs)) xs (omega arith) ∙ sym (drop_all n xs few)
    ]

-- two lists that are the same so far are the same with one more, if the next of both are the same
pub take_same_more : {X : Type 0} (a b : List X) (i : ℕ) (x y : X) → i < length a → length a ≡ length b
    → x ≡ get_or a i x → y ≡ get_or b i y → x ≡ y → take i a ≡ take i b → take (i + 1) a ≡ take (i + 1) b
take_same_more a b i x y within long at_a at_b same before =
    let at_b_too : x ≡ get_or b i x = subst (λ w. w ≡ get_or b i w) (sym same) at_b in
    take_more_same a b i x within (omega arith) before (sym at_a ∙ at_b_too)

pub drop_take_to : {X : Type 0} (start end : ℕ) (chunk : List X) → start ≤ end
    → drop start (take end chunk) ≡ take (end - start)
    (drop start chunk)
drop_take_to start end chunk below =
    let whole : end ≡ start + (end - start) = omega (arith, below) in
    ap (λ (n : ℕ). drop start (take n chunk)) whole ∙ drop-take start (end - start) chunk

-- what stands at an index
pub take_drop_is : {X : Type 0} (line : List X) (at : ℕ) (bytes rest : List X) → drop at line ≡ bytes ++ rest
    → take (at + length bytes - at) (drop at line) ≡ bytes
take_drop_is line at bytes rest e = ap (λ n. take n (drop at line)) (len at (length bytes))
    ∙ (ap (take (length bytes)) e ∙ take-append_seam bytes rest)
  where
    len : (at n : ℕ) → at + n - at ≡ n
    len at n = omega arith

-- and what is behind it
pub drop_is : {X : Type 0} (line : List X) (at : ℕ) (bytes rest : List X) → drop at line ≡ bytes ++ rest
    → drop (at + length bytes) line ≡ rest
drop_is line at bytes rest e = sym (drop-drop (length bytes) at line) ∙ (ap (drop (length bytes)) e
    ∙ drop-append_seam bytes rest)

-- what was left is the n bytes that were copied, and what is left behind them
pub left_given : {X : Type 0} (bytes copied rest : List X) (g n : ℕ) → length copied ≡ n
    → copied ≡ take (g + n - g) (drop g bytes) → drop g bytes ≡ take n (copied ++ rest) ++ drop (g + n) bytes
left_given bytes copied rest g n len same =
    let front : take n (copied ++ rest) ≡ copied = ap (λ k. take k (copied ++ rest)) (sym len) ∙
    take-append_seam copied rest in
    let count : g + n - g ≡ n = omega arith in
    let copy : copied ≡ take n (drop g bytes) = same ∙ ap (λ k. take k (drop g bytes)) count in
    let whole : take n (drop g bytes) ++ drop n (drop g bytes) ≡ drop g bytes = take-append-drop n
    (drop g bytes) in
    let behind : drop n (drop g bytes) ≡ drop (g + n) bytes = drop-drop n g bytes in
    cc

pub length-cond : {X : Type 0} (b : Bool) (x : X) (xs : List X)
    → length (cond b (x ∷ xs) xs) ≡ cond b 1 0 + length xs
length-cond true x xs = omega arith
length-cond false x xs = omega arith

pub shorter_behind : {X : Type 0} (front behind bytes : List X) (b : X) (n : ℕ)
    → bytes ≡ front ++ b ∷ behind → length bytes ≤ n
    → length behind ≤ n
shorter_behind front behind bytes b n e small = let l = ap length e in omega (arith, simp length-append at l)

grown : {X : Type 0} (P : List X → Type 0) → ((before : List X) (line : X) → P before
    → P (before ++ line ∷ [])) → (before lines : List X) → P before → P (before ++ lines)
grown P keeps before [] holds = subst P (sym (append-nil before)) holds
grown P keeps before (line ∷ lines) holds =
    subst P (append_assoc before (line ∷ []) lines)
    (grown P keeps (before ++ line ∷ []) lines (keeps before line holds))

-- what the empty list has, and each item keeps that comes behind
pub each_front : {X : Type 0} (P : List X → Type 0) → ((before : List X) (line : X) → P before
    → P (before ++ line ∷ [])) → P [] → (lines : List X) → P lines
each_front P keeps none lines = grown P keeps [] lines none
