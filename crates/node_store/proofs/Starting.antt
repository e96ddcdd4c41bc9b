-- A store before anything is stored.
use Rattle.std.proofs.Common.{◌≡◌, inl, inr, ℕ, zero, suc, ◌≤◌, ◌%◌, List, [], ◌∷◌, ◌++◌, length, replicate}
use Rattle.std.proofs.Common.{Option, Some, None, refl, sym, ap, ◌∙◌, arith, subst, slice_get, option_map}
use Rattle.std.proofs.Common.{option_and_then}
use Rattle.std.specs.FinMap.{get-empty}
use Rattle.std.specs.List.{flat_map, range_with_len}
use Rattle.std.specs.Option.{option_map_or}
use Rattle.std.specs.Ordering.{nat_cmp}
use Rattle.std.proofs.lemmas.Option.{none-some, same_Some, slice_get-map}
use Rattle.list_lemmas.proofs.Options.{some_or_none}
use Rattle.node_key.specs.declared.stake.Stake.{Stake}
use Rattle.node_key.specs.declared.limits.TheConstants.{MAX_NUMBERS, STORE_ROOMS}
use Rattle.shard_core.specs.Room.{Room, node_at}
use Rattle.store_laws.specs.Counted.{IsStore}
use Rattle.store_laws.specs.Store.{empty_room, empty_store, node_in}
use Rattle.store_laws.proofs.StepsFromNothing.{nothing}
use Rattle.node_store.specs.Given.{Given, given_entry, past_numbers, stake_at, staked_at, stakes_of}
use Rattle.node_store.specs.Kept.{AreKept, KeepsFor}
use Rattle.node_store.specs.declared.numbered.Numbered.{Numbered}
use Rattle.node_store.proofs.GivenEntries.{entry_is}
use Rattle.node_store.proofs.Keeping.{kept}

abbrev pub empty_given : ℕ → Given
empty_given first = record { first = first; rooms = replicate STORE_ROOMS [] }

empty_list : (n i : ℕ) (es : List Numbered) → slice_get (replicate n []) i ≡ Some es → [] ≡ es
empty_list zero i es at = absurd (none-some es at)
empty_list (suc n) zero es at = same_Some [] es at
empty_list (suc n) (suc i) es at = empty_list n i es at

not_in_none : (es : List Numbered) (p : ℕ) (e : Numbered) → [] ≡ es → slice_get es p ≡ Some e → ⊥
not_in_none es p e none at = none-some e (ap (λ (l : List Numbered). slice_get l p) none ∙ at)

pub none_given : (first n : ℕ) → given_entry (empty_given first) n ≡ None
none_given first n = elim (some_or_none (given_entry (empty_given first) n)) [
  | inl none ↦ none
  | inr some ↦ (
      let entry = entry_is (empty_given first) n some.0 some.1 in
      absurd (not_in_none entry.list _ some.0 (empty_list STORE_ROOMS (n % STORE_ROOMS) entry.list
      entry.there)
      entry.at))
]

no_stakes : (g : Given) → ((n : ℕ) → staked_at g n ≡ 0) → (ns : List ℕ)
    → flat_map (λ n. replicate (staked_at g n) (stake_at g n)) ns ≡ []
no_stakes g none [] = refl
no_stakes g none (n ∷ ns) =
    ap (λ (m : ℕ). replicate m (stake_at g n) ++ flat_map (λ k. replicate (staked_at g k) (stake_at g k)) ns)
    (none n)
    ∙ no_stakes g none ns

pub none_staked : (first : ℕ) → stakes_of (empty_given first) ≡ []
unfolding stakes_of
none_staked first = no_stakes (empty_given first)
    (λ n. ap (λ (o : Option Numbered). option_map_or (λ (e : Numbered). e.staked) o 0) (none_given first n))
    (range_with_len 0 (past_numbers (empty_given first)))

-- ---- the rooms

at_none : (first n : ℕ) (o : Option ℕ) → option_and_then (λ r. node_at r n) (option_map (empty_room first) o)
    ≡ None
at_none first n None = refl
at_none first n (Some i) = get-empty nat_cmp n

no_node : (first n : ℕ) → node_in (empty_store first) n ≡ None
no_node first n =
    ap (option_and_then (λ (r : Room). node_at r n))
    (slice_get-map (empty_room first) (range_with_len 0 STORE_ROOMS) (n % STORE_ROOMS))
    ∙ at_none first n (slice_get (range_with_len 0 STORE_ROOMS) (n % STORE_ROOMS))

next_of : (first : ℕ) (o : Option ℕ) (r : Room) → option_map (empty_room first) o ≡ Some r → r.next ≡ first
next_of first None r is = absurd (none-some r is)
next_of first (Some i) r is = ap (λ (x : Room). x.next) (sym (same_Some (empty_room first i) r is))

pub starts_kept : (first : ℕ) → first ≤ MAX_NUMBERS → AreKept (kept (empty_store first) (empty_given first))
starts_kept first most = record {
  count = refl;
  lists = refl;
  room = λ i r es at list.
      let own = (nothing first most).canonic.sound i r at in
      let next = next_of first (slice_get (range_with_len 0 STORE_ROOMS) i) r
      (sym (slice_get-map (empty_room first) (range_with_len 0 STORE_ROOMS) i) ∙ at) in
      let long = ap length (empty_list STORE_ROOMS i es list) in
      record { room = own.0; sound = own.1; next = omega (arith, next, long) };
  keys = λ n node is. absurd (none-some node (sym (no_node first n) ∙ is));
  stand = λ n key is.
      absurd (none-some key (sym (ap (option_map (λ (e : Numbered). e.key)) (none_given first n)) ∙ is));
}

pub starts_for_none : (first : ℕ) → first ≤ MAX_NUMBERS → KeepsFor (kept (empty_store first)
    (empty_given first)) []
starts_for_none first most =
    subst (λ (l : List Stake). IsStore (empty_store first) (l ++ [])) (sym (none_staked first))
    (nothing first most)
