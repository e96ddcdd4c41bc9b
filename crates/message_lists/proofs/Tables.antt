-- What a table has for a link type and key after one entry is changed.
use Rattle.std.proofs.Common.{◌≡◌, ℕ, ◌+◌, Bool, true, false, nat_eq, cond, List, [], ◌∷◌, ◌++◌, Option, Some}
use Rattle.std.proofs.Common.{None, unwrap_or, refl, ap, sym, ◌∙◌, append-nil, add-zero}
use Rattle.std.specs.Cmp.Lexicographic.{pointwise}
use Rattle.std.specs.HashMap.{get_by}
use Rattle.std.specs.Option.{option_map_or}
use Rattle.std.specs.declared.alloc.Global.{Global}
use Rattle.std.specs.declared.vec.Vec.{Vec}
use Rattle.std.proofs.lemmas.Bool.{and_parts, eqb-true}
use Rattle.std.specs.Cmp.Lexicographic.{same_text}
use Rattle.message_lists.specs.Arrivals.{Arrivals, Counts, arrivals_at, count_at, is_key, is_at}
use Rattle.message_lists.specs.declared.arrivals.Arrival.{Arrival}
use Rattle.message_lists.specs.declared.link_key.LinkKey.{LinkKey}

-- the same look-up, by the key's own parts
same_arrivals : (at : LinkKey) (kind : ℕ) (key : List ℕ) (table : Arrivals) → is_at at kind key ≡ true
    → get_by (is_key at.kind at.key.now) table ≡ get_by (is_key kind key) table
same_arrivals at kind key table h =
    let parts = and_parts (nat_eq at.kind kind) (pointwise nat_eq at.key.now key) h in
    ap (λ (n : ℕ). get_by (is_key n at.key.now) table) (eqb-true at.kind kind parts.0) ∙ ap
    (λ (xs : List ℕ). get_by (is_key kind xs) table) ((same_text at.key.now key (sym parts.1)))

same_counts : (at : LinkKey) (kind : ℕ) (key : List ℕ) (table : Counts) → is_at at kind key ≡ true
    → get_by (is_key at.kind at.key.now) table ≡ get_by (is_key kind key) table
same_counts at kind key table h =
    let parts = and_parts (nat_eq at.kind kind) (pointwise nat_eq at.key.now key) h in
    ap (λ (n : ℕ). get_by (is_key n at.key.now) table) (eqb-true at.kind kind parts.0) ∙ ap
    (λ (xs : List ℕ). get_by (is_key kind xs) table) ((same_text at.key.now key (sym parts.1)))

items_or : (o : Option (Vec Arrival Global)) (fresh : Vec Arrival Global) → fresh.items ≡ []
    → (unwrap_or o fresh).items ≡ option_map_or (λ v. v.items) o []
items_or None fresh h = h
items_or (Some v) fresh h = refl

-- a list is taken out of the table, and put back with one arrival more
pub arrivals_at-added : (old mid new : Arrivals) (kind : ℕ) (key : List ℕ) (at : LinkKey) (arrival : Arrival)
    (list fresh : Vec Arrival Global) (found : Option (Vec Arrival Global))
    → get_by (is_key kind key) new ≡ cond (is_at at kind key) (Some list) (get_by (is_key kind key) mid)
    → get_by (is_key kind key) mid ≡ cond (is_at at kind key) None (get_by (is_key kind key) old)
    → found ≡ get_by (is_key at.kind at.key.now) old
    → list.items ≡ (unwrap_or found fresh).items ++ arrival ∷ []
    → fresh.items ≡ []
    → arrivals_at new kind key ≡ arrivals_at old kind key ++ cond (is_at at kind key) (arrival ∷ []) []
arrivals_at-added old mid new kind key at arrival list fresh found hn hm hf hl he =
    go (is_at at kind key) refl
  where
    go : (b : Bool) → is_at at kind key ≡ b → arrivals_at new kind key ≡ arrivals_at old kind key
        ++ cond b (arrival ∷ []) []
    go true e =
        let here : get_by (is_key kind key) new ≡ Some list = rw e at hn in
        let found_here : found ≡ get_by (is_key kind key) old = hf ∙ same_arrivals at kind key old e in
        ap (λ (o : Option (Vec Arrival Global)). option_map_or (λ v. v.items) o []) here ∙ hl ∙ ap
        (λ (xs : List Arrival). xs ++ arrival ∷ [])
        (items_or found fresh he ∙ ap (λ (o : Option (Vec Arrival Global)). option_map_or (λ v. v.items) o
        []) found_here)
    go false e =
        let here : get_by (is_key kind key) new ≡ get_by (is_key kind key) old = (rw e at hn) ∙ (rw e at hm)
        in
        ap (λ (o : Option (Vec Arrival Global)). option_map_or (λ v. v.items) o []) here ∙ sym
        (append-nil (arrivals_at old kind key))

-- a count is raised by one
pub count_at-added : (old new : Counts) (kind : ℕ) (key : List ℕ) (at : LinkKey) (before : ℕ)
    → get_by (is_key kind key) new ≡ cond (is_at at kind key) (Some (before + 1))
    (get_by (is_key kind key) old)
    → before ≡ count_at old at.kind at.key.now
    → count_at new kind key ≡ count_at old kind key + cond (is_at at kind key) 1 0
count_at-added old new kind key at before hn hb = go (is_at at kind key) refl
  where
    go : (b : Bool) → is_at at kind key ≡ b → count_at new kind key ≡ count_at old kind key + cond b 1 0
    go true e =
        let here : get_by (is_key kind key) new ≡ Some (before + 1) = rw e at hn in
        ap (λ (o : Option ℕ). unwrap_or o 0) here ∙ ap (λ (n : ℕ). n + 1)
        (hb ∙ ap (λ (o : Option ℕ). unwrap_or o 0) (same_counts at kind key old e))
    go false e =
        let here : get_by (is_key kind key) new ≡ get_by (is_key kind key) old = rw e at hn in
        ap (λ (o : Option ℕ). unwrap_or o 0) here ∙ sym (add-zero (count_at old kind key))
