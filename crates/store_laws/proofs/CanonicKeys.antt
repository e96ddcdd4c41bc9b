-- The nodes of a store whose rooms are sound: which room a node is in, and that keys differ.
use Rattle.std.proofs.Common.{◌≡◌, ℕ, ◌-◌, ◌%◌, List, ◌++◌, take, drop, replicate, slice_get, Option, Some}
use Rattle.std.proofs.Common.{None, refl, sym, ap, ◌∙◌, ◌&&◌, ◌==◌, option_map, take-append-drop}
use Rattle.std.specs.Cmp.Lexicographic.{pointwise}
use Rattle.std.proofs.lemmas.Option.{same_Some, none-some, option_and_then_some}
use Rattle.node_key.specs.Keys.{IsKeyOf}
use Rattle.node_key.specs.Rooms.{room}
use Rattle.node_key.specs.Tree.{Tree}
use Rattle.node_key.specs.declared.key.Kid.{Kid}
use Rattle.node_key.specs.declared.key.NodeKey.{NodeKey}
use Rattle.node_key.specs.declared.limits.TheConstants.{MAX_KIDS, STORE_ROOMS}
use Rattle.shard_core.specs.Room.{IsSound, Room, Stored, node_at}
use Rattle.shard_core.specs.SameKey.{same_key, same_key-equiv, same_key-true, same_kid}
use Rattle.store_laws.specs.Store.{IsCanonic, Store, key_in, node_in}

-- a node of the store and its room
pub record IsIn (rooms : Store) (n : ℕ) (s : Stored) (r : Room) : Type 0 where
  pub there : slice_get rooms (n % STORE_ROOMS) ≡ Some r
  pub node : node_at r n ≡ Some s
  pub number : r.room ≡ n % STORE_ROOMS
  pub sound : IsSound r

pub room_of_node : (rooms : Store) (n : ℕ) (s : Stored) → IsCanonic rooms → node_in rooms n ≡ Some s
    → (r : Room) × IsIn rooms n s r
room_of_node rooms n s canonic is =
    option_and_then_some (λ (r : Room). node_at r n) (slice_get rooms (n % STORE_ROOMS)) s is
    (λ r there node. (
      r,
      record {
        there = there;
        node = node;
        number = (canonic.sound (n % STORE_ROOMS) r there).0;
        sound = (canonic.sound (n % STORE_ROOMS) r there).1;
      },
    ))

pub key_seen : (o : Option Stored) (key : NodeKey) → option_map (λ (s : Stored). s.key) o ≡ Some key
    → (s : Stored) × (o ≡ Some s) × (s.key ≡ key)
key_seen None key is = absurd (none-some key is)
key_seen (Some s) key is = (s, refl, same_Some s.key key is)

-- the node whose key this is
pub node_of_key : (rooms : Store) (n : ℕ) (key : NodeKey) → key_in rooms n ≡ Some key
    → (s : Stored) × (node_in rooms n ≡ Some s) × (s.key ≡ key)
node_of_key rooms n key is = key_seen (node_in rooms n) key is

pub key_of_node : (rooms : Store) (n : ℕ) (s : Stored) → node_in rooms n ≡ Some s
    → key_in rooms n ≡ Some s.key
key_of_node rooms n s is = ap (option_map (λ (x : Stored). x.key)) is

-- nodes whose keys are equal have one number
pub number_of_key : (rooms : Store) (m n : ℕ) (s u : Stored) → IsCanonic rooms → node_in rooms m ≡ Some s
    → node_in rooms n ≡ Some u → s.key ≡ u.key → m ≡ n
number_of_key rooms m n s u canonic at_m at_n same =
    let (r, p) = room_of_node rooms m s canonic at_m in
    let (l, q) = room_of_node rooms n u canonic at_n in
    let room_m : room s.key ≡ m % STORE_ROOMS = (p.sound.placed m s.key s.count p.node).key ∙ p.number in
    let room_n : room u.key ≡ n % STORE_ROOMS = (q.sound.placed n u.key u.count q.node).key ∙ q.number in
    let rooms_same : m % STORE_ROOMS ≡ n % STORE_ROOMS = sym room_m ∙ ap room same ∙ room_n in
    let one : r ≡ l = same_Some r l (sym p.there ∙ ap (slice_get rooms) rooms_same ∙ q.there) in
    let there : node_at r n ≡ Some (let v : Stored = record { key = s.key; count = u.count } in v) =
    ap (λ (x : Room). node_at x n) one ∙ q.node
    ∙ (λ i. Some (let v : Stored = record { key = sym same i; count = u.count } in v)) in
    p.sound.keys_differ m n s.key s.count u.count p.node there

-- a tree over numbers has one key
pub key_of_tree : (t : Tree) (ns : List ℕ) (a b : NodeKey) → IsKeyOf t ns a → IsKeyOf t ns b → a ≡ b
key_of_tree t ns a b x y =
    let no_kid : Kid = record { gap = 0; span = 0; node = 0 } in
    let func : a.func ≡ b.func = x.func ∙ sym y.func in
    let dur : a.dur ≡ b.dur = x.dur ∙ sym y.dur in
    let height : a.height ≡ b.height = x.height ∙ sym y.height in
    let len : a.len ≡ b.len = x.len ∙ sym y.len in
    let front : take a.len a.kids ≡ take b.len b.kids = x.kids ∙ sym y.kids in
    let behind : drop a.len a.kids ≡ drop b.len b.kids =
    a.zero_past ∙ ap (λ n. replicate (MAX_KIDS - n) no_kid) len
    ∙ sym b.zero_past in
    let kids : a.kids ≡ b.kids = sym (take-append-drop a.len a.kids) ∙ (λ i. front i ++ behind i)
    ∙ take-append-drop b.len b.kids in
    let tested : same_key a a ≡ same_key a b = λ i. a.func == func i && (a.dur == dur i
    && (a.height == height i && (a.len == len i && pointwise same_kid a.kids (kids i)))) in
    same_key-true a b (sym tested ∙ same_key-equiv.refl a)
