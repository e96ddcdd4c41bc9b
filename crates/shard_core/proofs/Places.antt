-- Where a number and a key stand, and what becomes of the tables when a key is added.
use Rattle.std.proofs.Common.{◌≡◌, ℕ, ◌<◌, true, false, List, length, nat_eq}
use Rattle.std.proofs.Common.{slice_get, Option, Some, None, sym, ap, ◌∙◌, subst, arith}
use Rattle.std.proofs.Common.{get_or, position, IfSome, IfNone, is_some, unwrap_or}
use Rattle.std.specs.List.{list_any, IsDistinct}
use Rattle.std.specs.Option.{option_map}
use Rattle.std.specs.Map.{keys_of, lookup}
use Rattle.std.proofs.lemmas.Bool.{eqb-true}
use Rattle.std.proofs.lemmas.List.Quantifiers.{position-Some}
use Rattle.std.proofs.lemmas.Map.Entries.{length-keys_of}
use Rattle.std.proofs.lemmas.Option.{slice_get-map, get_or_from_slice_get}
use Rattle.indexmap.proofs.MapLemmas.{Missing-position, absent_from_lookup, index-absent}
use Rattle.std_collections.proofs.HashLookup.{lookup-IsAbsent}
use Rattle.node_key.specs.declared.key.NodeKey.{NodeKey}
use Rattle.shard_core.specs.declared.hashed_key.HashedKey.{HashedKey}
use Rattle.shard_core.specs.Room.{Stored}
use Rattle.shard_core.specs.SameKey.{same_key, same_key-true}
use Rattle.shard_core.specs.Listed.{listed, LacksKey}
use Rattle.shard_core.proofs.Listed.{keys_of-listed, length-listed, here, keys-listed}

pub keys_seen : (ks : List HashedKey) (es : List (ℕ × ℕ)) (v : List (ℕ × Stored)) → listed ks es ≡ v
    → length es ≡ length ks → keys_of v ≡ keys_of es
keys_seen ks es v is e = ap keys_of (sym is) ∙ keys_of-listed ks es e

pub length_seen : (ks : List HashedKey) (es : List (ℕ × ℕ)) (v : List (ℕ × Stored)) → listed ks es ≡ v
    → length es ≡ length ks → length v ≡ length es
length_seen ks es v is e = ap length (sym is) ∙ length-listed ks es e

-- no number stands twice
pub apart_seen : (ks : List HashedKey) (es : List (ℕ × ℕ)) (v : List (ℕ × Stored)) → listed ks es ≡ v
    → length es ≡ length ks → IsDistinct nat_eq (keys_of es) → IsDistinct nat_eq (keys_of v)
apart_seen ks es v is e d = subst (IsDistinct nat_eq) (sym (keys_seen ks es v is e)) d

pub place_found : (ks : List HashedKey) (es : List (ℕ × ℕ)) (v : List (ℕ × Stored)) (n : ℕ) (r : Option ℕ)
    → listed ks es ≡ v → length es ≡ length ks → r ≡ position (nat_eq n) (keys_of es)
    → IfSome r (λ i. (s : Stored) × (slice_get v i ≡ Some (n, s)))
place_found ks es v n None is e at = tt
place_found ks es v n (Some i) is e at =
    let p = position-Some (nat_eq n) (keys_of es) i 0 (sym at) in
    let h = here ks es v i is e (omega (arith, p.0, length-keys_of es, length_seen ks es v is e)) in
    let number : get_or (keys_of es) i 0 ≡ h.pair.0 = get_or_from_slice_get (keys_of es) i h.pair.0 0
    (slice_get-map (λ (x : ℕ × ℕ). x.0) es i ∙ ap (option_map (λ (x : ℕ × ℕ). x.0)) h.pair_at) in
    let same : n ≡ h.pair.0 = eqb-true n h.pair.0 (ap (nat_eq n) (sym number) ∙ p.1) in (
      record { key = h.key.key; count = h.pair.1 },
      h.at ∙ ap (λ (m : ℕ). Some (m, (let s : Stored = record { key = h.key.key; count = h.pair.1 } in s)))
          (sym same),
    )

pub place_absent : (ks : List HashedKey) (es : List (ℕ × ℕ)) (v : List (ℕ × Stored)) (n : ℕ) (r : Option ℕ)
    → listed ks es ≡ v → length es ≡ length ks → r ≡ position (nat_eq n) (keys_of es)
    → IfNone r (lookup (nat_eq n) v ≡ None)
place_absent ks es v n None is e at =
    (Missing-position (nat_eq n) v (ap (position (nat_eq n)) (keys_seen ks es v is e) ∙ sym at)).value
place_absent ks es v n (Some i) is e at = tt

pub key_found : (ks : List HashedKey) (es : List (ℕ × ℕ)) (v : List (ℕ × Stored)) (k : HashedKey)
    (r : Option ℕ) → listed ks es ≡ v → length es ≡ length ks
    → r ≡ position (λ (h : HashedKey). same_key k.key h.key) ks
    → IfSome r (λ i. (n : ℕ) × (c : ℕ) × (slice_get v i ≡ Some (n, record { key = k.key; count = c })))
key_found ks es v k None is e at = tt
key_found ks es v k (Some i) is e at =
    let p = position-Some (λ (h : HashedKey). same_key k.key h.key) ks i k (sym at) in
    let h = here ks es v i is e (omega (arith, p.0, e, length_seen ks es v is e)) in
    let found : get_or ks i k ≡ h.key = get_or_from_slice_get ks i h.key k h.key_at in
    let same : k.key ≡ h.key.key = same_key-true k.key h.key.key
    (ap (λ (x : HashedKey). same_key k.key x.key) (sym found) ∙ p.1) in (
      h.pair.0,
      h.pair.1,
      h.at ∙ ap (λ (x : NodeKey). Some (
        h.pair.0,
        (let s : Stored = record { key = x; count = h.pair.1 } in s),
      )) (sym same),
    )

pub lacks_seen : (ks : List HashedKey) (es : List (ℕ × ℕ)) (v : List (ℕ × Stored)) (k : NodeKey)
    → listed ks es ≡ v → length es ≡ length ks → list_any (λ (h : HashedKey). same_key k h.key) ks ≡ false
    → LacksKey v k
lacks_seen ks es v k is e none = ap (list_any (λ (x : ℕ × Stored). same_key k x.1.key)) (sym is)
    ∙ keys-listed ks es k e ∙ none

pub key_absent : (ks : List HashedKey) (es : List (ℕ × ℕ)) (v : List (ℕ × Stored)) (k : NodeKey)
    (r : Option ℕ) → listed ks es ≡ v → length es ≡ length ks
    → is_some r ≡ list_any (λ (h : HashedKey). same_key k h.key) ks → IfNone r (LacksKey v k)
key_absent ks es v k None is e found = lacks_seen ks es v k is e (sym found)
key_absent ks es v k (Some i) is e found = tt

-- a key that was there is found at its place
pub there_seen : (ks ks' : List HashedKey) (es : List (ℕ × ℕ)) (v : List (ℕ × Stored)) (k x : HashedKey)
    (i : ℕ) → listed ks es ≡ v → length es ≡ length ks → ks' ≡ ks → i < length ks' → slice_get ks' i ≡ Some x
    → same_key k.key x.key ≡ true
    → (n : ℕ) × (c : ℕ) × (slice_get v i ≡ Some (n, record { key = k.key; count = c }))
there_seen ks ks' es v k x i is e kept below at same =
    let h = here ks es v i is e (omega (arith, below, ap length kept, e, length_seen ks es v is e)) in
    let found : Some x ≡ Some h.key = sym at ∙ ap (λ (l : List HashedKey). slice_get l i) kept ∙ h.key_at in
    let key : x.key ≡ h.key.key = ap (λ (o : Option HashedKey). elim o as (λ _. NodeKey) [
      | None ↦ x.key
      | Some y ↦ y.key
    ]) found in
    let equal : k.key ≡ h.key.key = same_key-true k.key x.key same ∙ key in (
      h.pair.0,
      h.pair.1,
      h.at ∙ ap (λ (y : NodeKey). Some (
        h.pair.0,
        (let s : Stored = record { key = y; count = h.pair.1 } in s),
      )) (sym equal),
    )

-- a number that no entry has, the table of counts hasn't either
pub fresh_count : (ks : List HashedKey) (es : List (ℕ × ℕ)) (v : List (ℕ × Stored)) (n : ℕ)
    → listed ks es ≡ v → length es ≡ length ks → lookup (nat_eq n) v ≡ None → lookup (nat_eq n) es ≡ None
fresh_count ks es v n is e none = lookup-IsAbsent (nat_eq n) es
    (Missing-position (nat_eq n) es (ap (position (nat_eq n)) (sym (keys_seen ks es v is e))
    ∙ index-absent (nat_eq n) v (absent_from_lookup (nat_eq n) v none))).absent

-- what stands at a place is one entry
pub same_entry : (v : List (ℕ × Stored)) (i : ℕ) (x y : ℕ × Stored) → slice_get v i ≡ Some x
    → slice_get v i ≡ Some y → x ≡ y
same_entry v i x y a b = ap (λ (o : Option (ℕ × Stored)). unwrap_or o x) (sym a ∙ b)
