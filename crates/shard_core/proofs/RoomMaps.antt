-- The nodes in the order of the tables, and the map that they are.
use Rattle.std.proofs.Common.{◌≡◌, ℕ, ◌+◌, cond, List, [], ◌∷◌, ◌++◌}
use Rattle.std.proofs.Common.{length}
use Rattle.std.proofs.Common.{slice_get, Some, None, refl, sym, ap, ◌∙◌, arith, nat_eq}
use Rattle.std.proofs.Common.{is_some}
use Rattle.std.proofs.Common.{true≢false}
use Rattle.std.specs.Cmp.{nat_cmp_total, nat_eq_equiv}
use Rattle.std.specs.FinMap as map
use Rattle.std.specs.FinMap.{get-from_entries, get-insert, get-remove, same_map, nat_cmp-IsAntisymmetric}
use Rattle.std.specs.FinMap.{from_entries_push, find, len-insert, len-empty}
use Rattle.std.specs.List.{IsDistinct, swap_remove}
use Rattle.std.specs.Map.{keys_of, lookup}
use Rattle.std.specs.Ordering.{nat_cmp}
use Rattle.std.proofs.lemmas.Map.Entries.{lookup_from_place, place_from_lookup}
use Rattle.std.proofs.lemmas.Map.Keys.{IsDistinct-head, IsDistinct-tail, any_passes_from_place}
use Rattle.indexmap.specs.IndexMap.{set_value_at}
use Rattle.indexmap.specs.Layout.{hash_map}
use Rattle.indexmap.proofs.CallerLemmas.{updates-with_value_at}
use Rattle.indexmap.proofs.MapLemmas.{index-first}
use Rattle.indexmap.proofs.RemoveLemmas.{swap_out, own_first}
use Rattle.std_collections.proofs.HashLookup.{lookup-IsAbsent}
use Rattle.list_lemmas.proofs.Numbers.{nat_tie, nat_tie_back}
use Rattle.node_key.specs.declared.key.NodeKey.{NodeKey}
use Rattle.shard_core.specs.Listed.{LacksKey}
use Rattle.shard_core.specs.Room.{Stored, IsThere, node_at, room_of}
use Rattle.shard_core.specs.SameKey.{same_key, same_key-equiv}

found : (q : ℕ) (es : List (ℕ × Stored)) → find nat_cmp q es ≡ lookup (nat_eq q) es
found q [] = refl
found q (e ∷ es) = λ i. cond (nat_tie q e.0 i) (Some e.1) (found q es i)

-- what the map has at a number
pub get_of : (es : List (ℕ × Stored)) (q : ℕ) → map.get (map.from_entries {R = nat_cmp} es) q
    ≡ lookup (nat_eq q) es
get_of es q = get-from_entries nat_cmp_total es q ∙ found q es

pub keeps_at : (room next : ℕ) (es : List (ℕ × Stored)) (i n : ℕ) (s : Stored)
    → IsDistinct nat_eq (keys_of es) → slice_get es i ≡ Some (n, s) → node_at (room_of room next es) n ≡ Some
    s
keeps_at room next es i n s apart at = get_of es n ∙ lookup_from_place nat_eq_equiv es i n s apart at

-- one value written
pub set_seen : (es : List (ℕ × Stored)) (i n : ℕ) (s t : Stored) → IsDistinct nat_eq (keys_of es)
    → slice_get es i ≡ Some (n, s)
    → map.from_entries {R = nat_cmp} (set_value_at es i t) ≡ map.insert (map.from_entries es) n t
set_seen es i n s t apart at =
    let u = updates-with_value_at (hash_map {S = Unit {0}} es tt 0) i t nat_eq_equiv apart n s at in
    same_map nat_cmp_total nat_cmp-IsAntisymmetric _ _ (λ q. get_of (set_value_at es i t) q ∙ u.0 q
    ∙ (λ j. cond (nat_tie_back n q j) (Some t) (sym (get_of es q) j))
    ∙ sym (get-insert nat_cmp_total (map.from_entries es) n t q))

-- one entry taken out
pub take_seen : (es : List (ℕ × Stored)) (i n : ℕ) (s : Stored) → IsDistinct nat_eq (keys_of es)
    → slice_get es i ≡ Some (n, s)
    → map.from_entries {R = nat_cmp} (swap_remove es i (n, s)) ≡ map.remove (map.from_entries es) n
take_seen es i n s apart at =
    let first = index-first (nat_eq n) es i (own_first nat_eq nat_eq_equiv es i n s apart at) in
    let out = swap_out nat_eq nat_eq_equiv (nat_eq n) (nat_eq_equiv.congr n) es i (n, s) first at apart
    (swap_remove es i (n, s)) refl in
    same_map nat_cmp_total nat_cmp-IsAntisymmetric _ _ (λ q. get_of (swap_remove es i (n, s)) q
    ∙ out.updated.0 q ∙ (λ j. cond (nat_tie_back n q j) None (sym (get_of es q) j))
    ∙ sym (get-remove nat_cmp_total (map.from_entries es) n q))

-- one entry more
pub push_seen : (es : List (ℕ × Stored)) (n : ℕ) (t : Stored) → lookup (nat_eq n) es ≡ None
    → map.from_entries {R = nat_cmp} (es ++ (n, t) ∷ []) ≡ map.insert (map.from_entries es) n t
push_seen es n t none = from_entries_push nat_cmp_total nat_cmp-IsAntisymmetric es n t (found n es ∙ none)

pub len_seen : (es : List (ℕ × Stored)) → IsDistinct nat_eq (keys_of es)
    → map.len (map.from_entries {R = nat_cmp} es) ≡ length es
len_seen [] apart = len-empty nat_cmp Stored
len_seen (e ∷ es) apart =
    let none = ap is_some (get_of es e.0 ∙ lookup-IsAbsent (nat_eq e.0) es
    (IsDistinct-head nat_eq e.0 (keys_of es) apart)) in
    let m = map.from_entries {R = nat_cmp} es in
    let one = len-insert nat_cmp_total m e.0 e.1 ∙ ap (λ b. cond b (map.len m) (map.len m + 1)) none in
    omega (arith, one, len_seen es (IsDistinct-tail nat_eq e.0 (keys_of es) apart))

-- a key that no entry has is not there
pub absent_key : (room next : ℕ) (es : List (ℕ × Stored)) (k : NodeKey) → LacksKey es k
    → ¬ IsThere (room_of room next es) k
absent_key room next es k lacks there =
    let p = place_from_lookup (nat_eq there.0) es _ (sym (get_of es there.0) ∙ there.2) in
    true≢false (sym (any_passes_from_place (λ (e : ℕ × Stored). same_key k e.1.key) es p.0 _ p.2
    (same_key-equiv.refl k)) ∙ lacks)
