-- A node has another count, and stakes are exchanged.
use Rattle.std.proofs.Common.{◌≡◌, ◌⊎◌, inl, inr, ℕ, ◌+◌, List, Contains, Some, option_map, sum_by, sym, ap}
use Rattle.std.proofs.Common.{◌∙◌, arith, subst}
use Rattle.std.proofs.lemmas.Bool.{cases_eq}
use Rattle.std.proofs.lemmas.Option.{same_Some}
use Rattle.node_key.specs.Stakes.{Exchanges}
use Rattle.node_key.specs.declared.stake.Stake.{Stake}
use Rattle.node_key.specs.Stands.{Stands}
use Rattle.node_key.specs.Tree.{Tree}
use Rattle.node_key.specs.declared.key.NodeKey.{NodeKey}
use Rattle.shard_core.specs.Room.{Stored}
use Rattle.store_laws.specs.Counted.{IsStore, kid_places, names_kid, stakes_on}
use Rattle.store_laws.specs.Store.{IsCanonic, IsWellPlaced, Store, key_in, node_in, nodes_in}
use Rattle.store_laws.proofs.StepsInRooms.{IsChanged, node}
use Rattle.store_laws.proofs.StepsOfKids.{Carries, Stands-carried}
use Rattle.store_laws.proofs.StepsOfShape.{placed_elsewhere}
use Rattle.store_laws.proofs.SumsOfRooms.{Weight}
use Rattle.store_laws.proofs.SumsOfStakes.{from_either, stakes_exchanged}

module _ (rooms after : Store) (held left taken given : List Stake) (key : NodeKey) (n b c : ℕ)
    (store : IsStore rooms held) (has : node_in rooms n ≡ Some (node key b))
    (changed : IsChanged rooms after n (Some (node key c)))
    (sums : (f : Weight) → sum_by f (nodes_in after) + f (n, node key b)
    ≡ sum_by f (nodes_in rooms) + f (n, node key c))
    (swap : Exchanges held left taken given)
    (stand : (x : Stake) → Contains given x → Stands (key_in rooms) x.number x.tree)
    (here : c + stakes_on n taken ≡ b + stakes_on n given)
    (else : (m : ℕ) → (m ≡ n → ⊥) → stakes_on m taken ≡ stakes_on m given) where
  same_keys_by : (m : ℕ) → (m ≡ n) ⊎ (m ≡ n → ⊥) → key_in after m ≡ key_in rooms m
  same_keys_by m (inl e) = ap (key_in after) e ∙ ap (option_map (λ (s : Stored). s.key)) changed.here
      ∙ sym (ap (option_map (λ (s : Stored). s.key)) has) ∙ sym (ap (key_in rooms) e)
  same_keys_by m (inr apart) = ap (option_map (λ (s : Stored). s.key)) (changed.others m apart)

  same_keys : (m : ℕ) → key_in after m ≡ key_in rooms m
  same_keys m = same_keys_by m (cases_eq m n)

  carries : Carries (key_in rooms) (key_in after) (λ _. Unit {0})
  carries = record {
    keeps = λ m k _ at. same_keys m ∙ at;
    below = λ m k d _ at there. tt;
  }

  moved : (m : ℕ) (t : Tree) → Stands (key_in rooms) m t → Stands (key_in after) m t
  moved m t = Stands-carried (key_in rooms) (key_in after) (λ _. Unit {0}) carries m t tt

  placed : (k : NodeKey) → IsWellPlaced rooms k → IsWellPlaced after k
  placed k = placed_elsewhere rooms after k (λ d j there at. same_keys d.node ∙ at)

  placed_by : (m : ℕ) (s : Stored) → node_in after m ≡ Some s → (m ≡ n) ⊎ (m ≡ n → ⊥)
      → IsWellPlaced after s.key
  placed_by m s at (inl e) =
      let is = same_Some (node key c) s (sym changed.here ∙ sym (ap (node_in after) e) ∙ at) in
      subst (λ (x : Stored). IsWellPlaced after x.key) is (placed key (store.canonic.keys n (node key b) has))
  placed_by m s at (inr apart) = placed s.key (store.canonic.keys m s (sym (changed.others m apart) ∙ at))

  canonic : IsCanonic after
  canonic = record {
    count = changed.count;
    sound = changed.sound;
    keys = λ m s at. placed_by m s at (cases_eq m n);
  }

  same_places : (m : ℕ) → kid_places after m ≡ kid_places rooms m
  same_places m = let sum = sums (names_kid m) in omega (arith, sum)

  count_by_place : (m : ℕ) (s : Stored) → node_in after m ≡ Some s → (m ≡ n) ⊎ (m ≡ n → ⊥)
      → s.count ≡ stakes_on m left + kid_places after m
  count_by_place m s at (inl e) =
      let is = ap (λ (x : Stored). x.count)
      (same_Some (node key c) s (sym changed.here ∙ sym (ap (node_in after) e) ∙ at)) in
      let before = store.counted.counts n (node key b) has in
      let exchanged = stakes_exchanged n held left taken given swap in
      let on = ap (λ i. stakes_on i left) e in
      let places = ap (kid_places after) e in
      omega (arith, is, before, exchanged, on, places, same_places n, here)
  count_by_place m s at (inr apart) =
      let before = store.counted.counts m s (sym (changed.others m apart) ∙ at) in
      let exchanged = stakes_exchanged m held left taken given swap in
      omega (arith, before, exchanged, same_places m, else m apart)

  stands_by : (x : Stake) → Contains held x ⊎ Contains given x → Stands (key_in rooms) x.number x.tree
  stands_by x (inl there) = store.counted.stands x there
  stands_by x (inr there) = stand x there

  pub recounted : IsStore after left
  recounted = record {
    canonic = canonic;
    counted = record {
      stands = λ x there.
          moved x.number x.tree (stands_by x (from_either held left taken given x swap there));
      counts = λ m s at. count_by_place m s at (cases_eq m n);
    };
  }
