-- A node more, over staked kids: their stakes are handed over, and there is one on its number.
use Rattle.std.proofs.Common.{◌≡◌, ◌⊎◌, inl, inr, ℕ, zero, suc, ◌+◌, List, [], ◌∷◌, Contains, Some, None}
use Rattle.std.proofs.Common.{option_map, refl, sum_by, sym, ap, ◌∙◌, arith, subst}
use Rattle.std.proofs.lemmas.Bool.{cases_eq}
use Rattle.std.proofs.lemmas.Option.{none-some, same_Some}
use Rattle.node_key.specs.Stakes.{Exchanges, HasStakes, IsOverStakes}
use Rattle.node_key.specs.declared.stake.Stake.{Stake}
use Rattle.node_key.specs.Stands.{KidsStand, Stands}
use Rattle.node_key.specs.Tree.{Tree}
use Rattle.node_key.specs.declared.key.NodeKey.{NodeKey}
use Rattle.shard_core.specs.Room.{Stored}
use Rattle.store_laws.specs.Counted.{IsStore, kid_places, names_kid, stakes_on}
use Rattle.store_laws.specs.Store.{IsCanonic, IsWellPlaced, Store, key_in, node_in, nodes_in}
use Rattle.store_laws.proofs.StepsInRooms.{IsChanged, node}
use Rattle.store_laws.proofs.StepsOfKids.{Carries, KidsStand-staked, Stands-carried, numbers}
use Rattle.store_laws.proofs.StepsOfShape.{placed_elsewhere, placed_new}
use Rattle.store_laws.proofs.SumsOfKids.{kid_from_places, named_by_stakes}
use Rattle.store_laws.proofs.SumsOfRooms.{Weight}
use Rattle.store_laws.proofs.SumsOfStakes.{among_held, from_either, none_on, on_none, on_one}
use Rattle.store_laws.proofs.SumsOfStakes.{stakes_exchanged}
use Rattle.store_laws.proofs.CanonicKeys.{key_of_node, node_of_key}

-- the stake on a number that stands for a tree
abbrev pub stake : ℕ → Tree → Stake
stake n t = record { number = n; tree = t }

-- a number that stands has a node
stored_where : (rooms : Store) (n : ℕ) (t : Tree) → Stands (key_in rooms) n t → node_in rooms n ≡ None → ⊥
stored_where rooms n t (key, ns, at, is, kids) none =
    let s = node_of_key rooms n key at in none-some s.0 (sym none ∙ s.1)

pub only : (y x : Stake) → Contains (y ∷ []) x → y ≡ x
only y x (zero, below, is) = is
only y x (suc i, below, is) = absurd (omega (arith, below))

module _ (rooms after : Store) (held left kids : List Stake) (t : Tree) (key : NodeKey) (n : ℕ)
    (store : IsStore rooms held) (over : IsOverStakes t kids key) (has : HasStakes held kids)
    (fresh : node_in rooms n ≡ None) (changed : IsChanged rooms after n (Some (node key 1)))
    (sums : (f : Weight) → sum_by f (nodes_in after) ≡ sum_by f (nodes_in rooms) + f (n, node key 1))
    (swap : Exchanges held left kids (stake n t ∷ [])) where
  -- ---- what was there before

  no_node : (m : ℕ) (s : Stored) → m ≡ n → node_in rooms m ≡ Some s → ⊥
  no_node m s e is = none-some s (sym fresh ∙ ap (node_in rooms) (sym e) ∙ is)

  kept_by : (m : ℕ) (j : NodeKey) → key_in rooms m ≡ Some j → (m ≡ n) ⊎ (m ≡ n → ⊥) → key_in after m ≡ Some j
  kept_by m j at (inl e) = let s = node_of_key rooms m j at in absurd (no_node m s.0 e s.1)
  kept_by m j at (inr apart) = ap (option_map (λ (s : Stored). s.key)) (changed.others m apart) ∙ at

  kept : (m : ℕ) (j : NodeKey) → key_in rooms m ≡ Some j → key_in after m ≡ Some j
  kept m j at = kept_by m j at (cases_eq m n)

  carries : Carries (key_in rooms) (key_in after) (λ _. Unit {0})
  carries = record { keeps = λ m j _ at. kept m j at; below = λ m j c _ at there. tt }

  moved : (m : ℕ) (u : Tree) → Stands (key_in rooms) m u → Stands (key_in after) m u
  moved m u = Stands-carried (key_in rooms) (key_in after) (λ _. Unit {0}) carries m u tt

  kids_stand : KidsStand (key_in after) (numbers kids) t.kids
  kids_stand = KidsStand-staked (key_in after) t.kids kids over.kids
      (λ x there. moved x.number x.tree (store.counted.stands x (among_held held kids x has there)))

  -- ---- the shape

  placed_by : (m : ℕ) (s : Stored) → node_in after m ≡ Some s → (m ≡ n) ⊎ (m ≡ n → ⊥)
      → IsWellPlaced after s.key
  placed_by m s at (inl e) =
      let is = same_Some (node key 1) s (sym changed.here ∙ sym (ap (node_in after) e) ∙ at) in
      subst (λ (x : Stored). IsWellPlaced after x.key) is
      (placed_new after t (numbers kids) key over.key_of kids_stand)
  placed_by m s at (inr apart) = placed_elsewhere rooms after s.key (λ c j there found. kept c.node j found)
      (store.canonic.keys m s (sym (changed.others m apart) ∙ at))

  canonic : IsCanonic after
  canonic = record {
    count = changed.count;
    sound = changed.sound;
    keys = λ m s at. placed_by m s at (cases_eq m n);
  }

  -- ---- the stakes

  stands_by : (x : Stake) → Contains held x ⊎ Contains (stake n t ∷ []) x
      → Stands (key_in after) x.number x.tree
  stands_by x (inl there) = moved x.number x.tree (store.counted.stands x there)
  stands_by x (inr there) = subst (λ (y : Stake). Stands (key_in after) y.number y.tree)
      (only (stake n t) x there)
      (key, numbers kids, key_of_node after n (node key 1) changed.here, over.key_of, kids_stand)

  -- ---- the counts

  unstaked : (x : Stake) → Contains held x → x.number ≡ n → ⊥
  unstaked x there e = stored_where rooms x.number x.tree (store.counted.stands x there)
      (ap (node_in rooms) e ∙ fresh)

  unnamed_by : (m : ℕ) → m ≡ n → (0 ≡ kid_places rooms m) ⊎ (0 ≡ kid_places rooms m → ⊥)
      → kid_places rooms m ≡ 0
  unnamed_by m e (inl none) = sym none
  unnamed_by m e (inr some) =
      let at = kid_from_places rooms m store.canonic (omega (arith, some)) in
      let below = (store.canonic.keys at.0 at.1 at.2).kids at.3 at.4 in
      absurd (no_node at.3.node below.stored (at.5 ∙ e) below.there)

  unnamed : kid_places rooms n ≡ 0
  unnamed = unnamed_by n refl (cases_eq 0 (kid_places rooms n))

  places : (m : ℕ) → kid_places after m ≡ kid_places rooms m + stakes_on m kids
  places m = let sum = sums (names_kid m) in
      let kids_of_it = named_by_stakes m n 1 t kids key over in
      omega (arith, sum, kids_of_it)

  count_by_place : (m : ℕ) (s : Stored) → node_in after m ≡ Some s → (m ≡ n) ⊎ (m ≡ n → ⊥)
      → s.count ≡ stakes_on m left + kid_places after m
  count_by_place m s at (inl e) =
      let is = ap (λ (x : Stored). x.count)
      (same_Some (node key 1) s (sym changed.here ∙ sym (ap (node_in after) e) ∙ at)) in
      let none = none_on n held unstaked in
      let none_of_kids = none_on n kids (λ x there. unstaked x (among_held held kids x has there)) in
      let exchanged = stakes_exchanged n held left kids (stake n t ∷ []) swap in
      let one = on_one n (stake n t) refl in
      let on = ap (λ i. stakes_on i left) e in
      let at_places = ap (kid_places after) e in
      omega (arith, is, none, none_of_kids, exchanged, one, on, at_places, places n, unnamed)
  count_by_place m s at (inr apart) =
      let before = store.counted.counts m s (sym (changed.others m apart) ∙ at) in
      let exchanged = stakes_exchanged m held left kids (stake n t ∷ []) swap in
      let none = on_none m (stake n t) (λ e. apart (sym e)) in
      omega (arith, before, exchanged, none, places m)

  pub with_another : IsStore after left
  with_another = record {
    canonic = canonic;
    counted = record {
      stands = λ x there. stands_by x (from_either held left kids (stake n t ∷ []) x swap there);
      counts = λ m s at. count_by_place m s at (cases_eq m n);
    };
  }
