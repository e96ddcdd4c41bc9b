-- What the numbers of a store stand for.
use Rattle.std.proofs.Common.{◌≡◌, inl, inr, ℕ, zero, suc, ◌+◌, ◌<◌, max, fold, List, [], ◌∷◌, length, map}
use Rattle.std.proofs.Common.{Option, Some, refl, sym, ap, ◌∙◌, subst, arith}
use Rattle.std.specs.Option.{option_map_or}
use Rattle.std.proofs.lemmas.Option.{same_Some}
use Rattle.list_lemmas.proofs.Fronts.{cons_head, cons_tail, nil_no_cons}
use Rattle.list_lemmas.proofs.Members.{Contains-from_IsAmong, IsAmong}
use Rattle.list_lemmas.proofs.Sums.{greatest_of}
use Rattle.node_key.specs.Keys.{IsKeyOf, numbered}
use Rattle.node_key.specs.Stands.{KeyAt, KidsStand, Stands}
use Rattle.node_key.specs.Tree.{Kids, Tree, count, height_above, kid, no_kids}
use Rattle.node_key.specs.declared.key.Kid.{Kid}
use Rattle.node_key.specs.declared.key.NodeKey.{NodeKey}
use Rattle.shard_core.specs.Room.{Stored}
use Rattle.store_laws.specs.Store.{IsCanonic, Store, height_in, key_in, kids_in, node_in}
use Rattle.store_laws.proofs.CanonicKeys.{key_of_node, key_of_tree, node_of_key, number_of_key}

one_key : (at : KeyAt) (m n : ℕ) (a b : NodeKey) → m ≡ n → at m ≡ Some a → at n ≡ Some b → a ≡ b
one_key at m n a b same p q = same_Some a b (sym p ∙ ap at same ∙ q)

-- lists of numbers that stand for kids, and are those of one list of kids of a key, stand for the same kids
same_kids_from : (at : KeyAt) (ks ls : Kids) (ns ms : List ℕ) → KidsStand at ns ks → KidsStand at ms ls
    → numbered ks ns ≡ numbered ls ms → ks ≡ ls
same_kids_from at no_kids no_kids ns ms a b e = refl
same_kids_from at no_kids (kid gap func dur inner more) ns [] a b e = absurd b
same_kids_from at no_kids (kid gap func dur inner more) ns (m ∷ ms) a b e = absurd (nil_no_cons _ _ e)
same_kids_from at (kid gap func dur inner more) ls [] ms a b e = absurd a
same_kids_from at (kid gap func dur inner more) no_kids (n ∷ ns) ms a b e = absurd (nil_no_cons _ _ (sym e))
same_kids_from at (kid gap func dur inner more) (kid gap' func' dur' inner' more') (n ∷ ns) [] a b e =
    absurd b
same_kids_from at (kid gap func dur inner more) (kid gap' func' dur' inner' more') (n ∷ ns) (m ∷ ms) a b e =
    let first = cons_head _ _ (numbered more ns) (numbered more' ms) e in
    let gaps : gap ≡ gap' = ap (λ (k : Kid). k.gap) first in
    let durs : dur ≡ dur' = ap (λ (k : Kid). k.span) first in
    let number : n ≡ m = ap (λ (k : Kid). k.node) first in
    let rest = cons_tail _ _ (numbered more ns) (numbered more' ms) e in
    let key = one_key at n m a.0.0 b.0.0 number a.0.2 b.0.2 in
    let funcs : func ≡ func' = sym a.0.3.func ∙ ap (λ (k : NodeKey). k.func) key ∙ b.0.3.func in
    let inners = same_kids_from at inner inner' a.0.1 b.0.1 a.0.4 b.0.4
    (sym a.0.3.kids ∙ ap kids_in key ∙ b.0.3.kids) in
    let mores = same_kids_from at more more' ns ms a.1 b.1 rest in
    λ i. kid (gaps i) (funcs i) (durs i) (inners i) (mores i)

-- a number stands for one tree
pub one_tree : (at : KeyAt) (n : ℕ) (t u : Tree) → Stands at n t → Stands at n u → t ≡ u
one_tree at n t u (a, ns, at_a, of_a, kids_a) (b, ms, at_b, of_b, kids_b) =
    let key = one_key at n n a b refl at_a at_b in
    let func : t.func ≡ u.func = sym of_a.func ∙ ap (λ (k : NodeKey). k.func) key ∙ of_b.func in
    let dur : t.dur ≡ u.dur = sym of_a.dur ∙ ap (λ (k : NodeKey). k.dur) key ∙ of_b.dur in
    let kids = same_kids_from at t.kids u.kids ns ms kids_a kids_b
    (sym of_a.kids ∙ ap kids_in key ∙ of_b.kids) in
    λ i. record { func = func i; dur = dur i; kids = kids i }

-- keys of one tree, over the same numbers, are under one number
number_of_tree : (rooms : Store) (m n : ℕ) (t : Tree) (a b : NodeKey) (ns ms : List ℕ) → IsCanonic rooms
    → ns ≡ ms → key_in rooms m ≡ Some a → IsKeyOf t ns a → key_in rooms n ≡ Some b → IsKeyOf t ms b → m ≡ n
number_of_tree rooms m n t a b ns ms canonic same at_a of_a at_b of_b =
    let key : a ≡ b = key_of_tree t ns a b of_a (subst (λ l. IsKeyOf t l b) (sym same) of_b) in
    let (s, at_s, is_s) = node_of_key rooms m a at_a in
    let (u, at_u, is_u) = node_of_key rooms n b at_b in
    number_of_key rooms m n s u canonic at_s at_u (is_s ∙ key ∙ sym is_u)

-- the numbers that stand for kids are determined
same_numbers : (rooms : Store) (ks : Kids) (ns ms : List ℕ) → IsCanonic rooms → KidsStand (key_in rooms) ns ks
    → KidsStand (key_in rooms) ms ks → ns ≡ ms
same_numbers rooms no_kids ns ms canonic a b = a ∙ sym b
same_numbers rooms (kid gap func dur inner more) [] ms canonic a b = absurd a
same_numbers rooms (kid gap func dur inner more) (n ∷ ns) [] canonic a b = absurd b
same_numbers rooms (kid gap func dur inner more) (n ∷ ns) (m ∷ ms) canonic a b =
    let inners = same_numbers rooms inner a.0.1 b.0.1 canonic a.0.4 b.0.4 in
    let first = number_of_tree rooms n m (record { func = func; dur = dur; kids = inner }) a.0.0 b.0.0 a.0.1
    b.0.1 canonic inners a.0.2 a.0.3 b.0.2 b.0.3 in
    let rest = same_numbers rooms more ns ms canonic a.1 b.1 in
    λ i. first i ∷ rest i

-- nodes that stand for one tree have one number
pub one_number : (rooms : Store) (m n : ℕ) (t : Tree) → IsCanonic rooms → Stands (key_in rooms) m t
    → Stands (key_in rooms) n t → m ≡ n
one_number rooms m n t canonic (a, ns, at_a, of_a, kids_a) (b, ms, at_b, of_b, kids_b) =
    let same = same_numbers rooms t.kids ns ms canonic kids_a kids_b in
    number_of_tree rooms m n t a b ns ms canonic same at_a of_a at_b of_b

-- ---- each node stands for a tree

-- a tree that a key is the key of
pub record Standing (rooms : Store) (key : NodeKey) : Type 0 where
  pub tree : Tree
  pub numbers : List ℕ
  pub key_of : IsKeyOf tree numbers key
  pub kids : KidsStand (key_in rooms) numbers tree.kids

-- a kid's node has such a tree
record KidStanding (rooms : Store) (k : Kid) : Type 0 where
  key : NodeKey
  there : key_in rooms k.node ≡ Some key
  span : key.dur ≡ k.span
  height : height_in rooms k ≡ key.height
  standing : Standing rooms key

-- kids that the kids of a key stand for
record KidsStanding (rooms : Store) (ks : List Kid) : Type 0 where
  kids : Kids
  numbers : List ℕ
  stand : KidsStand (key_in rooms) numbers kids
  numbered_so : numbered kids numbers ≡ ks
  count_is : count kids ≡ length ks
  length_is : length numbers ≡ length ks
  height_is : height_above kids ≡ fold max 0 (map (λ k. height_in rooms k + 1) ks)

kids_standing : (rooms : Store) (ks : List Kid) → ((k : Kid) → IsAmong ks k → KidStanding rooms k)
    → KidsStanding rooms ks
kids_standing rooms [] each = record {
  kids = no_kids;
  numbers = [];
  stand = refl;
  numbered_so = refl;
  count_is = refl;
  length_is = refl;
  height_is = refl;
}
kids_standing rooms (k ∷ ks) each =
    let first = each k (inl refl) in
    let rest = kids_standing rooms ks (λ l h. each l (inr h)) in
    let s = first.standing in
    let span : s.tree.dur ≡ k.span = sym s.key_of.dur ∙ first.span in
    let above : height_in rooms k ≡ height_above s.tree.kids = first.height ∙ s.key_of.height in
    let joined = greatest_of (max 0 (height_in rooms k + 1)) (map (λ l. height_in rooms l + 1) ks) in
    record {
      kids = kid k.gap s.tree.func s.tree.dur s.tree.kids rest.kids;
      numbers = k.node ∷ rest.numbers;
      stand = ((first.key, s.numbers, first.there, s.key_of, s.kids), rest.stand);
      numbered_so = λ i. (let l : Kid = record { gap = k.gap; span = span i; node = k.node } in l)
          ∷ rest.numbered_so i;
      count_is = omega (arith, rest.count_is);
      length_is = ap suc rest.length_is;
      height_is = omega (arith, joined, above, rest.height_is);
    }

-- by recursion on a bound of the height
standing_below : (rooms : Store) (bound n : ℕ) (s : Stored) → IsCanonic rooms → node_in rooms n ≡ Some s
    → s.key.height < bound → Standing rooms s.key
standing_below rooms zero n s canonic is below = absurd (omega (arith, below))
standing_below rooms (suc bound) n s canonic is below =
    let placed = canonic.keys n s is in
    let each = kids_standing rooms (kids_in s.key) (λ k h.
    let under = placed.kids k (Contains-from_IsAmong (kids_in s.key) k h) in
    record {
      key = under.stored.key;
      there = key_of_node rooms k.node under.stored under.there;
      span = under.span;
      height = ap (λ (o : Option Stored). option_map_or (λ (x : Stored). x.key.height) o 0) under.there;
      standing = standing_below rooms bound k.node under.stored canonic under.there
          (omega (arith, below, under.lower));
    }) in
    record {
      tree = record { func = s.key.func; dur = s.key.dur; kids = each.kids };
      numbers = each.numbers;
      key_of = record {
        func = refl;
        dur = refl;
        height = placed.height ∙ sym each.height_is;
        len = sym placed.len ∙ sym each.count_is;
        numbers = each.length_is ∙ sym each.count_is;
        kids = sym each.numbered_so;
      };
      kids = each.stand;
    }

pub tree_of_node : (rooms : Store) (n : ℕ) (s : Stored) → IsCanonic rooms → node_in rooms n ≡ Some s
    → (t : Tree) × Stands (key_in rooms) n t
tree_of_node rooms n s canonic is =
    let standing = standing_below rooms (suc s.key.height) n s canonic is (omega arith) in (
      standing.tree,
      (s.key, standing.numbers, key_of_node rooms n s is, standing.key_of, standing.kids),
    )
