-- A node less, whose only stake is given back: its kids are staked instead.
use Rattle.std.proofs.Common.{◌≡◌, ◌⊎◌, inl, inr, ℕ, ◌+◌, List, [], ◌∷◌, Contains, Some, None, option_map}
use Rattle.std.proofs.Common.{refl, sum_by, sym, ap, ◌∙◌, arith, subst}
use Rattle.std.proofs.lemmas.Option.{none-some, same_Some}
use Rattle.node_key.specs.Keys.{IsKeyOf}
use Rattle.node_key.specs.Stakes.{Exchanges, IsOverStakes}
use Rattle.node_key.specs.declared.stake.Stake.{Stake}
use Rattle.node_key.specs.Stands.{Stands}
use Rattle.node_key.specs.Tree.{Tree}
use Rattle.node_key.specs.declared.key.Kid.{Kid}
use Rattle.node_key.specs.declared.key.NodeKey.{NodeKey}
use Rattle.shard_core.specs.Room.{Stored}
use Rattle.store_laws.specs.Counted.{IsStore, kid_places, names_kid, stakes_on}
use Rattle.store_laws.specs.Store.{IsCanonic, Store, key_in, kids_in, node_in, nodes_in}
use Rattle.store_laws.proofs.StepsInRooms.{IsChanged, node}
use Rattle.store_laws.proofs.StepsOfKids.{AreOnKids-stakes_of, Carries, Stands-carried, numbers-stakes_of}
use Rattle.store_laws.proofs.StepsOfKids.{stakes_of, stakes_of-Stand}
use Rattle.store_laws.proofs.StepsOfShape.{placed_elsewhere}
use Rattle.store_laws.proofs.SumsOfKids.{named_by_stakes, place_of_kid}
use Rattle.store_laws.proofs.SumsOfRooms.{Weight}
use Rattle.store_laws.proofs.SumsOfStakes.{from_either, on_its_number, on_none, on_one, stakes_exchanged}
use Rattle.store_laws.proofs.CanonicKeys.{node_of_key}

-- stakes on the kids of what a stake stands for, whose key is found
pub record HasKids (rooms : Store) (x : Stake) (key : NodeKey) : Type 0 where
  pub kids : List Stake
  pub over : IsOverStakes x.tree kids key
  pub stand : (y : Stake) → Contains kids y → Stands (key_in rooms) y.number y.tree

pub kids_of_stake : (rooms : Store) (x : Stake) (key : NodeKey) → key_in rooms x.number ≡ Some key
    → Stands (key_in rooms) x.number x.tree → HasKids rooms x key
kids_of_stake rooms x key found (j, ns, at, is, kids) =
    let same : j ≡ key = same_Some j key (sym at ∙ found) in
    let on = AreOnKids-stakes_of (key_in rooms) ns x.tree.kids kids in
    let named = numbers-stakes_of (key_in rooms) ns x.tree.kids kids in
    record {
      kids = stakes_of ns x.tree.kids;
      over = record {
        key_of = subst (λ (l : List ℕ). IsKeyOf x.tree l key) (sym named)
            (subst (λ (k : NodeKey). IsKeyOf x.tree ns k) same is);
        kids = on;
      };
      stand = λ y there. stakes_of-Stand (key_in rooms) ns x.tree.kids y kids there;
    }

module _ (rooms after : Store) (held left kids : List Stake) (x : Stake) (key : NodeKey)
    (store : IsStore rooms held) (over : IsOverStakes x.tree kids key)
    (stand : (y : Stake) → Contains kids y → Stands (key_in rooms) y.number y.tree)
    (there : Contains held x) (has : node_in rooms x.number ≡ Some (node key 1))
    (changed : IsChanged rooms after x.number None)
    (sums : (f : Weight) → sum_by f (nodes_in after) + f (x.number, node key 1)
    ≡ sum_by f (nodes_in rooms))
    (swap : Exchanges held left (x ∷ []) kids) where
  -- ---- only the stake was on it

  unnamed : kid_places rooms x.number ≡ 0
  unnamed =
      let count = store.counted.counts x.number (node key 1) has in
      let one = on_its_number held x there in
      omega (arith, count, one)

  is_no_kid : (m : ℕ) (s : Stored) (c : Kid) → node_in rooms m ≡ Some s → Contains (kids_in s.key) c
      → c.node ≡ x.number → ⊥
  is_no_kid m s c at below e =
      let place = place_of_kid rooms m s c at below in
      let same = ap (kid_places rooms) e in
      omega (arith, place, same, unnamed)

  places : (m : ℕ) → kid_places after m + stakes_on m kids ≡ kid_places rooms m
  places m =
      let sum = sums (names_kid m) in
      let kids_of_it = named_by_stakes m x.number 1 x.tree kids key over in
      omega (arith, sum, kids_of_it)

  unstaked : stakes_on x.number left ≡ 0
  unstaked =
      let count = store.counted.counts x.number (node key 1) has in
      let exchanged = stakes_exchanged x.number held left (x ∷ []) kids swap in
      let one = on_one x.number x refl in
      omega (arith, count, exchanged, one, unnamed, places x.number)

  -- ---- what was there before

  kept : (m : ℕ) (j : NodeKey) → (m ≡ x.number → ⊥) → key_in rooms m ≡ Some j → key_in after m ≡ Some j
  kept m j apart at = ap (option_map (λ (s : Stored). s.key)) (changed.others m apart) ∙ at

  below_apart : (m : ℕ) (j : NodeKey) (c : Kid) → key_in rooms m ≡ Some j → Contains (kids_in j) c
      → c.node ≡ x.number → ⊥
  below_apart m j c at below =
      let s = node_of_key rooms m j at in
      is_no_kid m s.0 c s.1 (subst (λ (k : NodeKey). Contains (kids_in k) c) (sym s.2) below)

  carries : Carries (key_in rooms) (key_in after) (λ m. m ≡ x.number → ⊥)
  carries = record {
    keeps = λ m j apart at. kept m j apart at;
    below = λ m j c apart at below. below_apart m j c at below;
  }

  moved : (m : ℕ) (t : Tree) → (m ≡ x.number → ⊥) → Stands (key_in rooms) m t → Stands (key_in after) m t
  moved m t apart = Stands-carried (key_in rooms) (key_in after) (λ i. i ≡ x.number → ⊥) carries m t apart

  -- ---- the shape

  stays : (m : ℕ) (s : Stored) → node_in after m ≡ Some s → m ≡ x.number → ⊥
  stays m s at e = none-some s (sym changed.here ∙ sym (ap (node_in after) e) ∙ at)

  before : (m : ℕ) (s : Stored) → node_in after m ≡ Some s → node_in rooms m ≡ Some s
  before m s at = sym (changed.others m (stays m s at)) ∙ at

  canonic : IsCanonic after
  canonic = record {
    count = changed.count;
    sound = changed.sound;
    keys = λ m s at. placed_elsewhere rooms after s.key
        (λ c j below found. kept c.node j (is_no_kid m s c (before m s at) below) found)
        (store.canonic.keys m s (before m s at));
  }

  -- ---- the stakes

  stands_by : (y : Stake) → (y.number ≡ x.number → ⊥) → Contains held y ⊎ Contains kids y
      → Stands (key_in after) y.number y.tree
  stands_by y apart (inl among) = moved y.number y.tree apart (store.counted.stands y among)
  stands_by y apart (inr among) = moved y.number y.tree apart (stand y among)

  apart_in : (y : Stake) → Contains left y → y.number ≡ x.number → ⊥
  apart_in y among e =
      let one = on_its_number left y among in
      let same = ap (λ i. stakes_on i left) e in
      omega (arith, one, same, unstaked)

  -- ---- the counts

  count_of : (m : ℕ) (s : Stored) → node_in after m ≡ Some s → s.count ≡ stakes_on m left + kid_places after m
  count_of m s at =
      let counted = store.counted.counts m s (before m s at) in
      let exchanged = stakes_exchanged m held left (x ∷ []) kids swap in
      let none = on_none m x (λ e. stays m s at (sym e)) in
      omega (arith, counted, exchanged, none, places m)

  pub without_it : IsStore after left
  without_it = record {
    canonic = canonic;
    counted = record {
      stands = λ y among. stands_by y (apart_in y among) (from_either held left (x ∷ []) kids y swap among);
      counts = count_of;
    };
  }
