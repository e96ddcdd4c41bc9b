-- A store without nodes.
use Rattle.std.proofs.Common.{◌≡◌, ℕ, zero, suc, ◌+◌, ◌<◌, ◌≤◌, ◌%◌, [], Some, map, refl, sym, ap, ◌∙◌, arith}
use Rattle.std.proofs.Common.{slice_get, subst}
use Rattle.std.specs.FinMap.{get-empty}
use Rattle.std.specs.List.{range_with_len}
use Rattle.std.specs.Ordering.{nat_cmp}
use Rattle.std.proofs.lemmas.Option.{none-some, option_and_then_some, same_Some}
use Rattle.node_key.specs.declared.limits.TheConstants.{MAX_NUMBERS, STORE_ROOMS}
use Rattle.shard_core.specs.Room.{IsSound, Room, Stored, node_at}
use Rattle.shard_core.proofs.Soundness.{IsSound-empty}
use Rattle.store_laws.specs.Counted.{IsStore}
use Rattle.store_laws.specs.Store.{empty_room, empty_store, node_in}

room_from : (first i j : ℕ) (r : Room) (n : ℕ)
    → slice_get (map (empty_room first) (range_with_len i n)) j ≡ Some r
    → (j < n) × (r ≡ empty_room first (i + j))
room_from first i j r zero is = absurd (none-some r is)
room_from first i zero r (suc n) is =
    let same : i ≡ i + 0 = omega arith in
    (omega arith, sym (same_Some (empty_room first i) r is) ∙ ap (empty_room first) same)
room_from first i (suc j) r (suc n) is =
    let rest = room_from first (i + 1) j r n is in
    let same : i + 1 + j ≡ i + suc j = omega arith in
    (omega (arith, rest.0), rest.1 ∙ ap (empty_room first) same)

no_nodes : (first m : ℕ) (s : Stored) → node_in (empty_store first) m ≡ Some s → ⊥
no_nodes first m s has =
    option_and_then_some (λ (r : Room). node_at r m) (slice_get (empty_store first) (m % STORE_ROOMS)) s has
    (λ r at is.
    let same = (room_from first 0 (m % STORE_ROOMS) r STORE_ROOMS at).1 in
    none-some s (sym (get-empty nat_cmp m) ∙ ap (λ (x : Room). node_at x m) (sym same) ∙ is))

IsSound-of_empty : (first i : ℕ) (r : Room) → first ≤ MAX_NUMBERS → slice_get (empty_store first) i ≡ Some r
    → (r.room ≡ i) × IsSound r
IsSound-of_empty first i r most at =
    let is = room_from first 0 i r STORE_ROOMS at in
    let same : 0 + i ≡ i = omega arith in (
      ap (λ (x : Room). x.room) is.1 ∙ same,
      subst IsSound (sym is.1) (IsSound-empty (0 + i) first (omega (arith, is.0)) most),
    )

pub nothing : (first : ℕ) → first ≤ MAX_NUMBERS → IsStore (empty_store first) []
nothing first most = record {
  canonic = record {
    count = refl;
    sound = λ i r at. IsSound-of_empty first i r most at;
    keys = λ n s has. absurd (no_nodes first n s has);
  };
  counted = record {
    stands = λ x there. absurd (omega (arith, there.1));
    counts = λ n s has. absurd (no_nodes first n s has);
  };
}
