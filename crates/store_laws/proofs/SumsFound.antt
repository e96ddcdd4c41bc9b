-- A sum over the nodes of the store that isn't 0 has a node that adds to it.
use Rattle.std.proofs.Common.{◌≡◌, ℕ, zero, suc, ◌≤◌, ◌%◌, cond, T, [], ◌∷◌}
use Rattle.std.proofs.Common.{Some, slice_get, sum_by, refl, ap, ◌∙◌, arith, subst}
use Rattle.std.specs.Cmp.{nat_cmp_total}
use Rattle.std.specs.FinMap as map
use Rattle.std.specs.FinMap.{entries_sorted, find, get-entries, is_sorted}
use Rattle.std.specs.FinMap.Entries.{below_all}
use Rattle.std.specs.Ordering.{is_lt, nat_cmp}
use Rattle.std.proofs.lemmas.Bool.{eq-eqb, ne_eqb}
use Rattle.std.proofs.lemmas.Cmp.{tied_itself}
use Rattle.std.proofs.lemmas.Option.{none-some, same_Some}
use mir.Facts.{and_yes}
use Rattle.list_lemmas.proofs.Numbers.{nat_tie}
use Rattle.list_lemmas.proofs.Sums.{sum_by-some_term}
use Rattle.node_key.specs.declared.limits.TheConstants.{STORE_ROOMS}
use Rattle.shard_core.specs.Room.{Stored, node_at}
use Rattle.store_laws.specs.Store.{IsCanonic, Store, node_in, nodes_in}
use Rattle.store_laws.proofs.StepsInRooms.{node_in_room}
use Rattle.store_laws.proofs.SumsOfRooms.{Entries, Weight, room_sum, store_sum}

-- ---- an entry is found by its key

found_first : (e : ℕ × Stored) (es : Entries) → find nat_cmp e.0 (e ∷ es) ≡ Some e.1
found_first e es = ap (λ b. cond b (Some e.1) (find nat_cmp e.0 es)) (nat_tie e.0 e.0 ∙ eq-eqb e.0 e.0 refl)

found_later : (q : ℕ) (e : ℕ × Stored) (es : Entries) → (q ≡ e.0 → ⊥)
    → find nat_cmp q (e ∷ es) ≡ find nat_cmp q es
found_later q e es apart = ap (λ b. cond b (Some e.1) (find nat_cmp q es)) (nat_tie q e.0
    ∙ ne_eqb q e.0 apart)

above_all : (x : ℕ) (es : Entries) (i : ℕ) (e : ℕ × Stored) → T (below_all nat_cmp x es)
    → slice_get es i ≡ Some e → e.0 ≡ x → ⊥
above_all x [] i e below at same = none-some e at
above_all x (d ∷ es) zero e below at same =
    let here = (and_yes _ _ below).0 in
    let key : d.0 ≡ x = ap (λ (p : ℕ × Stored). p.0) (same_Some d e at) ∙ same in
    subst (λ o. T (is_lt o)) (ap (nat_cmp x) key ∙ tied_itself nat_cmp_total x) here
above_all x (d ∷ es) (suc i) e below at same = above_all x es i e (and_yes _ _ below).1 at same

found_by_key : (es : Entries) (i : ℕ) (e : ℕ × Stored) → T (is_sorted nat_cmp es) → slice_get es i ≡ Some e
    → find nat_cmp e.0 es ≡ Some e.1
found_by_key [] i e rise at = absurd (none-some e at)
found_by_key (d ∷ es) zero e rise at =
    subst (λ (p : ℕ × Stored). find nat_cmp p.0 (d ∷ es) ≡ Some p.1) (same_Some d e at) (found_first d es)
found_by_key (d ∷ es) (suc i) e rise at =
    let parts = and_yes _ _ rise in
    found_later e.0 d es (above_all d.0 es i e parts.0 at) ∙ found_by_key es i e parts.1 at

-- ---- a node

pub node_of_sum : (f : Weight) (rooms : Store) → IsCanonic rooms → 1 ≤ sum_by f (nodes_in rooms)
    → (n : ℕ) × (s : Stored) × (node_in rooms n ≡ Some s) × (1 ≤ f (n, s))
node_of_sum f rooms whole one =
    let in_room = sum_by-some_term (room_sum f) rooms (omega (arith, one, store_sum f rooms)) in
    let i = in_room.0 in
    let r = in_room.1 in
    let in_entry = sum_by-some_term f (map.entries r.nodes) in_room.3 in
    let e = in_entry.1 in
    let has : node_at r e.0 ≡ Some e.1 = get-entries r.nodes e.0
    ∙ found_by_key (map.entries r.nodes) in_entry.0 e (entries_sorted r.nodes) in_entry.2 in
    let own = whole.sound i r in_room.2 in
    let here : e.0 % STORE_ROOMS ≡ i = (own.1.placed e.0 e.1.key e.1.count has).number ∙ own.0 in
    (e.0, e.1, node_in_room rooms i e.0 r in_room.2 here ∙ has, in_entry.3)
