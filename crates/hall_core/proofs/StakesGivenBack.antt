-- A stake is given back: the node that it is on, and which stakes come free.
use Rattle.std.proofs.Common.{◌≡◌, ◌⊎◌, inl, inr, ℕ, ◌<◌, ◌≤◌, ◌%◌, List, [], ◌∷◌, Contains, Some, sym}
use Rattle.std.proofs.Common.{refl, ap, ◌∙◌, arith, subst, slice_get, slice_set, option_map}
use Rattle.std.proofs.lemmas.Option.{same_Some}
use Rattle.node_key.specs.Keys.{IsKeyOf}
use Rattle.node_key.specs.Stakes.{Exchanges, IsOverStakes}
use Rattle.node_key.specs.Stands.{Stands}
use Rattle.node_key.specs.Tree.{Tree}
use Rattle.node_key.specs.declared.key.NodeKey.{NodeKey}
use Rattle.node_key.specs.declared.limits.TheConstants.{STORE_ROOMS}
use Rattle.node_key.specs.declared.stake.Stake.{Stake}
use Rattle.shard_core.specs.Interning.{Drops}
use Rattle.shard_core.specs.Room.{Room, Stored, node_at}
use Rattle.shard_core.specs.declared.answers.Dropped.{Dropped}
use Rattle.shard_core.specs.declared.answers.Dropped.TheVariants.{Kept, Removed}
use Rattle.store_laws.specs.Store.{IsCanonic, Store, key_in, node_in}
use Rattle.store_laws.proofs.CanonicTrees.{one_tree}
use Rattle.store_laws.proofs.StepsInRooms.{node_in_room}
use Rattle.store_laws.proofs.CanonicKeys.{key_of_node, node_of_key}
use Rattle.hall_core.specs.Answering.{WouldFree}
use Rattle.hall_core.specs.Steps.{AreFreed, DropsIn}
use Rattle.hall_core.proofs.RoomsThere.{room-of-number}

-- a node under a number, whose key is that of a tree
pub record NodeOf (rooms : Store) (n : ℕ) (t : Tree) : Type 0 where
  pub stored : Stored
  pub there : node_in rooms n ≡ Some stored
  pub numbers : List ℕ
  pub key_of : IsKeyOf t numbers stored.key

-- a number that stands for a tree has a node
pub node-of : (rooms : Store) (n : ℕ) (t : Tree) → Stands (key_in rooms) n t → NodeOf rooms n t
node-of rooms n t (key, ns, at, is, kids) =
    let found = node_of_key rooms n key at in
    record {
      stored = found.0;
      there = found.1;
      numbers = ns;
      key_of = subst (IsKeyOf t ns) (sym found.2) is;
    }

-- the key of a node is the one that is found
pub key-is : (rooms : Store) (n : ℕ) (key : NodeKey) (s : Stored) → key_in rooms n ≡ Some key
    → node_in rooms n ≡ Some s → s.key ≡ key
key-is rooms n key s at there = same_Some s.key key (sym (key_of_node rooms n s there) ∙ at)

-- its count is the one that is found
pub count-is : (rooms : Store) (n count : ℕ) (s : Stored)
    → option_map (λ (x : Stored). x.count) (node_in rooms n) ≡ Some count → node_in rooms n ≡ Some s
    → s.count ≡ count
count-is rooms n count s at there =
    same_Some s.count count (sym (ap (option_map (λ (x : Stored). x.count)) there) ∙ at)

module _ (rooms : Store) (x : Stake) (n count : ℕ) (stands : Stands (key_in rooms) x.number x.tree)
    (on : x.number ≡ n) (counted : option_map (λ (s : Stored). s.count) (node_in rooms n) ≡ Some count) where
  its_node : NodeOf rooms n x.tree
  its_node = node-of rooms n x.tree (subst (λ (m : ℕ). Stands (key_in rooms) m x.tree) on stands)

  there : node_in rooms x.number ≡ Some its_node.stored
  there = ap (node_in rooms) on ∙ its_node.there

  same : its_node.stored.count ≡ count
  same = count-is rooms n count its_node.stored counted its_node.there

  -- no stakes come free where the count isn't the last
  pub would-free-none : (kids : List Stake) → 1 < count → kids ≡ [] → WouldFree rooms x kids
  would-free-none kids more none = (its_node.stored, there, inl (omega (arith, same, more), none))

  -- the stakes on the kids come free where it is
  pub would-free-kids : (t : Tree) (key : NodeKey) (kids : List Stake) → Stands (key_in rooms) n t
      → key_in rooms n ≡ Some key → count ≤ 1 → IsOverStakes t kids key → WouldFree rooms x kids
  would-free-kids t key kids stands_t at last over =
      let tree = one_tree (key_in rooms) n t x.tree stands_t
      (subst (λ (m : ℕ). Stands (key_in rooms) m x.tree) on stands) in
      let its_key = key-is rooms n key its_node.stored at its_node.there in (
        its_node.stored,
        there,
        inr (
          omega (arith, same, last),
          subst (IsOverStakes x.tree kids) (sym its_key)
              (subst (λ (u : Tree). IsOverStakes u kids key) tree over),
        ),
      )

-- what would come free, comes free with the answer of the room
freed-by : (t : Tree) (n : ℕ) (d : Dropped) (before after : Room) (s : Stored) (kids : List Stake)
    → node_at before n ≡ Some s → Drops before n d after
    → ((1 < s.count) × (kids ≡ [])) ⊎ ((s.count ≤ 1) × IsOverStakes t kids s.key) → AreFreed t d kids
freed-by t n Kept before after s kids at drops (inl free) = free.1
freed-by t n Kept before after s kids at (k, c, has, more, is) (inr free) =
    let count = ap (λ (x : Stored). x.count) (same_Some _ _ (sym at ∙ has)) in
    absurd (omega (arith, count, more, free.0))
freed-by t n (Removed k) before after s kids at (has, is) (inl free) =
    let count = ap (λ (x : Stored). x.count) (same_Some _ _ (sym at ∙ has)) in
    absurd (omega (arith, count, free.0))
freed-by t n (Removed k) before after s kids at (has, is) (inr free) =
    subst (IsOverStakes t kids) (ap (λ (x : Stored). x.key) (same_Some _ _ (sym at ∙ has))) free.1

-- a stake on a number is given back
pub drops-in : (n : ℕ) (d : Dropped) (rooms after : Store) (mine mine' kids : List Stake) (x : Stake)
    → IsCanonic rooms → Contains mine x → x.number ≡ n → WouldFree rooms x kids
    → ((before : Room) → slice_get rooms (n % STORE_ROOMS) ≡ Some before
    → (r : Room) × Drops before n d r × (after ≡ slice_set rooms (n % STORE_ROOMS) r))
    → Exchanges mine mine' (x ∷ []) kids → DropsIn n d rooms mine after mine'
drops-in n d rooms after mine mine' kids x canonic has on (s, found, free) lowered swap =
    let room = room-of-number rooms n canonic in
    let drop = lowered room.0 room.1 in
    let at = sym (node_in_room rooms (n % STORE_ROOMS) n room.0 room.1 refl)
    ∙ ap (node_in rooms) (sym on) ∙ found in
    record {
      stake = x;
      is_on = on;
      has = has;
      kids = kids;
      freed = freed-by x.tree n d room.0 drop.0 s kids at drop.1 free;
      before = room.0;
      after = drop.0;
      there = room.1;
      answered = drop.1;
      rooms_now = drop.2;
      exchanged = swap;
    }
