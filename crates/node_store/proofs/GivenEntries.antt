-- What is given under a number, and after a change of one of them.
use Rattle.std.proofs.Common.{◌≡◌, inl, inr, ℕ, zero, suc, ◌+◌, ◌*◌, ◌-◌, ◌/◌, ◌%◌, ◌<◌, ◌≤◌, Bool, true}
use Rattle.std.proofs.Common.{false}
use Rattle.std.proofs.Common.{cond, List, [], ◌∷◌, ◌++◌, length, map, fold, max, Option, Some, None, refl}
use Rattle.std.proofs.Common.{sym, ap}
use Rattle.std.proofs.Common.{◌∙◌, arith, subst, slice_get, slice_set, nat_le, option_and_then, unwrap_or}
use Rattle.std.specs.Option.{option_map_or}
use Rattle.std.proofs.lemmas.Bool.{cases_Bool, cases_eq, cond-false, cond-true, leb-true, le-leb}
use Rattle.std.proofs.lemmas.Option.{none-some, slice_get_within}
use Rattle.list_lemmas.proofs.Options.{some_or_none}
use Rattle.list_lemmas.proofs.Positions.{slice_get-before_last, slice_get-last, slice_get-set}
use Rattle.list_lemmas.proofs.Positions.{slice_get-set_else}
use Rattle.node_key.specs.declared.limits.TheConstants.{STORE_ROOMS}
use Rattle.node_store.specs.Changes.{restaked, room_list, with_last, with_staked}
use Rattle.node_store.specs.Given.{Given, given_entry, past_numbers, staked_at}
use Rattle.node_store.specs.declared.numbered.Numbered.{Numbered}

-- ---- what is given

-- a number has its place in the list of its room
pub record IsEntry (g : Given) (n : ℕ) (e : Numbered) : Type 0 where
  pub list : List Numbered
  pub from : g.first ≤ n / STORE_ROOMS
  pub there : slice_get g.rooms (n % STORE_ROOMS) ≡ Some list
  pub at : slice_get list (n / STORE_ROOMS - g.first) ≡ Some e

in_list : (o : Option (List Numbered)) (p : ℕ) (e : Numbered)
    → option_and_then (λ (es : List Numbered). slice_get es p) o ≡ Some e
    → (es : List Numbered) × (o ≡ Some es) × (slice_get es p ≡ Some e)
in_list None p e is = absurd (none-some e is)
in_list (Some es) p e is = (es, refl, is)

pub entry_is : (g : Given) (n : ℕ) (e : Numbered) → given_entry g n ≡ Some e → IsEntry g n e
entry_is g n e is = elim (cases_Bool (nat_le g.first (n / STORE_ROOMS))) [
  | inl holds ↦ (
      let parts = in_list (slice_get g.rooms (n % STORE_ROOMS)) (n / STORE_ROOMS - g.first) e
      (sym (cond-true (nat_le g.first (n / STORE_ROOMS)) _ None holds) ∙ is) in
      record {
        list = parts.0;
        from = leb-true g.first (n / STORE_ROOMS) holds;
        there = parts.1;
        at = parts.2;
      })
  | inr fails ↦ absurd (none-some e (sym (cond-false (nat_le g.first (n / STORE_ROOMS)) _ None fails) ∙ is))
]

pub entry_from : (g : Given) (n : ℕ) (e : Numbered) → IsEntry g n e → given_entry g n ≡ Some e
entry_from g n e is =
    cond-true (nat_le g.first (n / STORE_ROOMS)) _ None (le-leb g.first (n / STORE_ROOMS) is.from)
    ∙ ap (option_and_then (λ (es : List Numbered). slice_get es (n / STORE_ROOMS - g.first))) is.there ∙ is.at

-- ---- numbers past all

longest : (a : ℕ) (xs : List (List Numbered)) → a ≤ fold max a (map (λ (es : List Numbered). length es) xs)
longest a [] = omega arith
longest a (es ∷ xs) = let rest = longest (max a (length es)) xs in omega (arith, rest)

as_long : (a : ℕ) (xs : List (List Numbered)) (i : ℕ) (es : List Numbered) → slice_get xs i ≡ Some es
    → length es ≤ fold max a (map (λ (l : List Numbered). length l) xs)
as_long a [] i es at = absurd (none-some es at)
as_long a (x ∷ xs) zero es at =
    let same = ap (λ (o : Option (List Numbered)). length (unwrap_or o [])) at in
    let rest = longest (max a (length x)) xs in
    omega (arith, same, rest)
as_long a (x ∷ xs) (suc i) es at = as_long (max a (length x)) xs i es at

pub below_past : (g : Given) (n : ℕ) (e : Numbered) → given_entry g n ≡ Some e → n < past_numbers g
below_past g n e is =
    let entry = entry_is g n e is in
    let within = slice_get_within entry.list (n / STORE_ROOMS - g.first) e entry.at in
    let long = as_long 0 g.rooms (n % STORE_ROOMS) entry.list entry.there in
    omega (arith, within, long, entry.from)

pub staked_past : (g : Given) (n : ℕ) → past_numbers g ≤ n → staked_at g n ≡ 0
staked_past g n high = elim (some_or_none (given_entry g n)) [
  | inl none ↦ ap (λ (o : Option Numbered). option_map_or (λ (e : Numbered). e.staked) o 0) none
  | inr some ↦ absurd (omega (arith, high, below_past g n some.0 some.1))
]

-- ---- one of them changed

-- this is given under the number, and all else is as it was
pub record IsEntered (g after : Given) (n : ℕ) (e : Numbered) : Type 0 where
  pub here : given_entry after n ≡ Some e
  pub others : (m : ℕ) → (m ≡ n → ⊥) → given_entry after m ≡ given_entry g m

module _ (g : Given) (i q : ℕ) (es after : List Numbered) (e : Numbered) (room : i < STORE_ROOMS)
    (there : slice_get g.rooms i ≡ Some es) (at : slice_get after q ≡ Some e)
    (rest : (p : ℕ) → (p ≡ q → ⊥) → slice_get after p ≡ slice_get es p) where
  abbrev number : ℕ
  number = STORE_ROOMS * (g.first + q) + i

  abbrev changed : Given
  changed = record { first = g.first; rooms = slice_set g.rooms i after }

  entered_here : given_entry changed number ≡ Some e
  entered_here =
      let index : number / STORE_ROOMS ≡ g.first + q = omega (arith, room) in
      let place : number / STORE_ROOMS - g.first ≡ q = omega (arith, index) in
      let own : number % STORE_ROOMS ≡ i = omega (arith, room) in
      entry_from changed number e (record {
        list = after;
        from = omega (arith, index);
        there = ap (slice_get (slice_set g.rooms i after)) own ∙ slice_get-set g.rooms i es after there;
        at = ap (slice_get after) place ∙ at;
      })

  abbrev at_place : Bool → ℕ → Option (List Numbered) → Option Numbered
  at_place b p o = cond b (option_and_then (λ (l : List Numbered). slice_get l p) o) None

  in_room : (m : ℕ) → (m ≡ number → ⊥) → m % STORE_ROOMS ≡ i → (b : Bool)
      → nat_le g.first (m / STORE_ROOMS) ≡ b
      → at_place b (m / STORE_ROOMS - g.first) (Some after) ≡ at_place b (m / STORE_ROOMS - g.first) (Some es)
  in_room m apart own true is =
      let from = leb-true g.first (m / STORE_ROOMS) is in
      rest (m / STORE_ROOMS - g.first) (λ same. apart (omega (arith, from, same, own)))
  in_room m apart own false is = refl

  entered_else : (m : ℕ) → (m ≡ number → ⊥) → given_entry changed m ≡ given_entry g m
  entered_else m apart = elim (cases_eq (m % STORE_ROOMS) i) [
    | inl own ↦ (
        let b = nat_le g.first (m / STORE_ROOMS) in
        let p = m / STORE_ROOMS - g.first in
        ap (λ (j : ℕ). at_place b p (slice_get (slice_set g.rooms i after) j)) own
        ∙ ap (at_place b p) (slice_get-set g.rooms i es after there)
        ∙ in_room m apart own b refl
        ∙ sym (ap (at_place b p) there)
        ∙ sym (ap (λ (j : ℕ). at_place b p (slice_get g.rooms j)) own))
    | inr other ↦ ap (at_place (nat_le g.first (m / STORE_ROOMS)) (m / STORE_ROOMS - g.first))
        (slice_get-set_else g.rooms i (m % STORE_ROOMS) after other)
  ]

  entered : IsEntered g changed number e
  entered = record { here = entered_here; others = entered_else }

-- the list of a room that is there
pub list_is : (g : Given) (i : ℕ) (es : List Numbered) → slice_get g.rooms i ≡ Some es → room_list g i ≡ es
list_is g i es there = ap (λ (o : Option (List Numbered)). unwrap_or o []) there

-- one number more in a room
pub last_entered : (g : Given) (i : ℕ) (es : List Numbered) (e : Numbered) → i < STORE_ROOMS
    → slice_get g.rooms i ≡ Some es
    → IsEntered g (with_last g i e) (STORE_ROOMS * (g.first + length es) + i) e
last_entered g i es e room there =
    let same = list_is g i es there in
    subst (λ (l : List Numbered). IsEntered g (record {
      first = g.first;
      rooms = slice_set g.rooms i
          (l ++ e ∷ []);
    })
    (STORE_ROOMS * (g.first + length es) + i) e) (sym same)
    (entered g i (length es) es (es ++ e ∷ []) e room there (slice_get-last es e) (slice_get-before_last es
    e))

-- another count of stakes
pub staked_entered : (g : Given) (n : ℕ) (e : Numbered) (c : ℕ) → given_entry g n ≡ Some e
    → IsEntered g (with_staked g n c) n (record { key = e.key; staked = c })
staked_entered g n e c is =
    let entry = entry_is g n e is in
    let q = n / STORE_ROOMS - g.first in
    let f : Numbered = record { key = e.key; staked = c } in
    let same : restaked (room_list g (n % STORE_ROOMS)) q c ≡ slice_set entry.list q f =
    ap (λ (l : List Numbered). restaked l q c) (list_is g (n % STORE_ROOMS) entry.list entry.there)
    ∙ ap (λ (o : Option Numbered). option_map_or (λ (d : Numbered). slice_set entry.list q
    (let h : Numbered = record { key = d.key; staked = c } in h)) o entry.list) entry.at in
    let number : STORE_ROOMS * (g.first + q) + n % STORE_ROOMS ≡ n = omega (arith, entry.from) in
    let all = entered g (n % STORE_ROOMS) q entry.list (slice_set entry.list q f) f (omega arith) entry.there
    (slice_get-set entry.list q e f entry.at) (λ p apart. slice_get-set_else entry.list q p f apart) in
    subst (λ (l : List Numbered). IsEntered g (record {
      first = g.first;
      rooms = slice_set g.rooms
          (n % STORE_ROOMS) l;
    })
    n f) (sym same) (subst (λ (m : ℕ). IsEntered g (record {
      first = g.first;
      rooms = slice_set g.rooms (n % STORE_ROOMS) (slice_set entry.list q f);
    }) m f) number all)
