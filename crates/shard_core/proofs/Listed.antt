-- Keys beside their numbers and counts, as one list.
use Rattle.std.proofs.Common.{◌≡◌, ℕ, zero, suc, ◌<◌, List, [], ◌∷◌, ◌++◌, length}
use Rattle.std.proofs.Common.{slice_get, Option, Some, None, refl, sym, ap, ◌∙◌, subst, arith, ◌||◌}
use Rattle.std.specs.List.{list_any, zip, swap_remove}
use Rattle.std.specs.Option.{option_map}
use Rattle.std.specs.Map.{keys_of}
use Rattle.std.proofs.Common.{map}
use Rattle.indexmap.specs.IndexMap.{set_value_at}
use Rattle.indexmap.proofs.SetLemmas.{map-swap_remove}
use Rattle.std_collections.proofs.Zip.{zip-swap_remove, length-zip_even}
use Rattle.node_key.specs.declared.key.NodeKey.{NodeKey}
use Rattle.shard_core.specs.declared.hashed_key.HashedKey.{HashedKey}
use Rattle.shard_core.specs.Room.{Stored}
use Rattle.shard_core.specs.SameKey.{same_key}
use Rattle.shard_core.specs.Listed.{entry, listed}

pub keys_of-listed : (ks : List HashedKey) (es : List (ℕ × ℕ)) → length es ≡ length ks
    → keys_of (listed ks es) ≡ keys_of es
keys_of-listed [] [] e = refl
keys_of-listed [] (x ∷ es) e = absurd (omega arith)
keys_of-listed (k ∷ ks) [] e = refl
keys_of-listed (k ∷ ks) (x ∷ es) e = ap (λ l. x.0 ∷ l) (keys_of-listed ks es (omega arith))

pub length-listed : (ks : List HashedKey) (es : List (ℕ × ℕ)) → length es ≡ length ks
    → length (listed ks es) ≡ length es
length-listed [] [] e = refl
length-listed [] (x ∷ es) e = absurd (omega arith)
length-listed (k ∷ ks) [] e = refl
length-listed (k ∷ ks) (x ∷ es) e = omega (arith, length-listed ks es (omega arith))

-- what stands at a place
pub record Here (ks : List HashedKey) (es : List (ℕ × ℕ)) (v : List (ℕ × Stored)) (i : ℕ) : Type 0 where
  pub key : HashedKey
  pub pair : ℕ × ℕ
  pub key_at : slice_get ks i ≡ Some key
  pub pair_at : slice_get es i ≡ Some pair
  pub at : slice_get v i ≡ Some (entry key pair)

here_listed : (ks : List HashedKey) (es : List (ℕ × ℕ)) (i : ℕ) → length es ≡ length ks → i < length es
    → Here ks es (listed ks es) i
here_listed [] [] i e below = absurd (omega arith)
here_listed [] (x ∷ es) i e below = absurd (omega arith)
here_listed (k ∷ ks) [] i e below = absurd (omega arith)
here_listed (k ∷ ks) (x ∷ es) zero e below = record {
  key = k;
  pair = x;
  key_at = refl;
  pair_at = refl;
  at = refl;
}
here_listed (k ∷ ks) (x ∷ es) (suc i) e below =
    let rest = here_listed ks es i (omega arith) (omega arith) in
    record {
      key = rest.key;
      pair = rest.pair;
      key_at = rest.key_at;
      pair_at = rest.pair_at;
      at = rest.at;
    }

pub here : (ks : List HashedKey) (es : List (ℕ × ℕ)) (v : List (ℕ × Stored)) (i : ℕ) → listed ks es ≡ v
    → length es ≡ length ks → i < length v → Here ks es v i
here ks es v i is e below = subst (λ l. Here ks es l i) is
    (here_listed ks es i e (omega (arith, length-listed ks es e, ap length is, below)))

-- the number, the count and the key that tables show at a place
pub number_here : (ks : List HashedKey) (es : List (ℕ × ℕ)) (v : List (ℕ × Stored)) (i : ℕ) (p : ℕ × ℕ)
    → Here ks es v i → Some p ≡ slice_get es i → option_map (λ e. e.0) (slice_get v i) ≡ Some p.0
number_here ks es v i p h is = ap (option_map (λ (e : ℕ × Stored). e.0)) h.at
    ∙ ap (option_map (λ (q : ℕ × ℕ). q.0)) (sym h.pair_at ∙ sym is)

pub count_here : (ks : List HashedKey) (es : List (ℕ × ℕ)) (v : List (ℕ × Stored)) (i : ℕ) (p : ℕ × ℕ)
    → Here ks es v i → Some p ≡ slice_get es i → option_map (λ e. e.1.count) (slice_get v i) ≡ Some p.1
count_here ks es v i p h is = ap (option_map (λ (e : ℕ × Stored). e.1.count)) h.at
    ∙ ap (option_map (λ (q : ℕ × ℕ). q.1)) (sym h.pair_at ∙ sym is)

pub key_here : (ks : List HashedKey) (es : List (ℕ × ℕ)) (v : List (ℕ × Stored)) (i : ℕ) (k : HashedKey)
    → Here ks es v i → Some k ≡ slice_get ks i → option_map (λ e. e.1.key) (slice_get v i) ≡ Some k.key
key_here ks es v i k h is = ap (option_map (λ (e : ℕ × Stored). e.1.key)) h.at
    ∙ ap (option_map (λ (q : HashedKey). q.key)) (sym h.key_at ∙ sym is)

pub listed-push : (ks : List HashedKey) (es : List (ℕ × ℕ)) (k : HashedKey) (x : ℕ × ℕ)
    → length es ≡ length ks → listed (ks ++ k ∷ []) (es ++ x ∷ []) ≡ listed ks es ++ entry k x ∷ []
listed-push [] [] k x e = refl
listed-push [] (y ∷ es) k x e = absurd (omega arith)
listed-push (l ∷ ks) [] k x e = absurd (omega arith)
listed-push (l ∷ ks) (y ∷ es) k x e = ap (λ r. entry l y ∷ r) (listed-push ks es k x (omega arith))

pub listed-set : (ks : List HashedKey) (es : List (ℕ × ℕ)) (i : ℕ) (k : HashedKey) (w : ℕ)
    → slice_get ks i ≡ Some k
    → listed ks (set_value_at es i w) ≡ set_value_at (listed ks es) i (record { key = k.key; count = w })
listed-set [] es i k w at = refl
listed-set (l ∷ ks) [] i k w at = refl
listed-set (l ∷ ks) (y ∷ es) zero k w at =
    ap (λ (o : Option HashedKey). elim o as (λ _. List (ℕ × Stored)) [
      | None ↦ []
      | Some m ↦ (y.0, record { key = m.key; count = w }) ∷ listed ks es
    ]) at
listed-set (l ∷ ks) (y ∷ es) (suc i) k w at = ap (λ r. entry l y ∷ r) (listed-set ks es i k w at)

listed-zip : (ks : List HashedKey) (es : List (ℕ × ℕ))
    → listed ks es ≡ map (λ (p : HashedKey × (ℕ × ℕ)). entry p.0 p.1) (zip ks es)
listed-zip [] es = refl
listed-zip (k ∷ ks) [] = refl
listed-zip (k ∷ ks) (x ∷ es) = ap (λ r. entry k x ∷ r) (listed-zip ks es)

pub listed-swap_remove : (ks : List HashedKey) (es : List (ℕ × ℕ)) (i : ℕ) (k : HashedKey) (x : ℕ × ℕ)
    → length es ≡ length ks → 0 < length es
    → listed (swap_remove ks i k) (swap_remove es i x) ≡ swap_remove (listed ks es) i (entry k x)
listed-swap_remove ks es i k x e some =
    let f : HashedKey × (ℕ × ℕ) → ℕ × Stored = λ p. entry p.0 p.1 in
    listed-zip (swap_remove ks i k) (swap_remove es i x) ∙ ap (map f) (zip-swap_remove ks es i k x e)
    ∙ map-swap_remove f (zip ks es) i (k, x) (omega (arith, length-zip_even ks es e))
    ∙ ap (λ (l : List (ℕ × Stored)). swap_remove l i (entry k x)) (sym (listed-zip ks es))

-- a key among the keys is among the entries
pub keys-listed : (ks : List HashedKey) (es : List (ℕ × ℕ)) (k : NodeKey) → length es ≡ length ks
    → list_any (λ (e : ℕ × Stored). same_key k e.1.key) (listed ks es)
    ≡ list_any (λ (h : HashedKey). same_key k h.key) ks
keys-listed [] [] k e = refl
keys-listed [] (x ∷ es) k e = absurd (omega arith)
keys-listed (h ∷ ks) [] k e = absurd (omega arith)
keys-listed (h ∷ ks) (x ∷ es) k e = ap (λ b. same_key k h.key || b) (keys-listed ks es k (omega arith))
