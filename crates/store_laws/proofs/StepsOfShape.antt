-- Keys that are well placed, and stay so where other nodes change.
use Rattle.std.proofs.Common.{◌≡◌, ℕ, zero, suc, ◌+◌, ◌<◌, ◌≤◌, max, List, [], ◌∷◌, length, map, fold, refl}
use Rattle.std.proofs.Common.{sym, ap, ◌∙◌, arith, subst, Contains, Option, Some}
use Rattle.std.proofs.Common.{zero-lt-suc}
use Rattle.std.specs.Option.{option_map_or}
use Rattle.std.proofs.lemmas.List.Elements.{Contains-append_right}
use Rattle.node_key.specs.Keys.{IsKeyOf, numbered}
use Rattle.node_key.specs.Stands.{KidsStand}
use Rattle.node_key.specs.Tree.{Kids, Tree, height_above, kid, no_kids}
use Rattle.node_key.specs.declared.key.Kid.{Kid}
use Rattle.node_key.specs.declared.key.NodeKey.{NodeKey}
use Rattle.node_key.proofs.Numbering.{length-numbered}
use Rattle.shard_core.specs.Room.{Stored}
use Rattle.store_laws.specs.Store.{IsKidBelow, IsWellPlaced, Store, height_in, key_in, kids_in, node_in}
use Rattle.store_laws.proofs.CanonicKeys.{key_of_node, node_of_key}

map_alike : (f g : Kid → ℕ) (ks : List Kid) → ((k : Kid) → Contains ks k → f k ≡ g k) → map f ks ≡ map g ks
map_alike f g [] same = refl
map_alike f g (k ∷ ks) same =
    let here = same k (0, zero-lt-suc (length ks), refl) in
    let rest = map_alike f g ks (λ c there. same c (Contains-append_right (k ∷ []) ks c there)) in
    λ i. here i ∷ rest i

height_of : (rooms : Store) (c : Kid) (s : Stored) → node_in rooms c.node ≡ Some s
    → height_in rooms c ≡ s.key.height
height_of rooms c s is = ap (λ (o : Option Stored). option_map_or (λ (x : Stored). x.key.height) o 0) is

-- ---- a key whose kids keep their keys

pub placed_elsewhere : (rooms after : Store) (key : NodeKey)
    → ((c : Kid) (j : NodeKey) → Contains (kids_in key) c → key_in rooms c.node ≡ Some j
    → key_in after c.node ≡ Some j)
    → IsWellPlaced rooms key → IsWellPlaced after key
placed_elsewhere rooms after key keeps placed = record {
  len = placed.len;
  kids = λ c there.
      let old = placed.kids c there in
      let new = node_of_key after c.node old.stored.key
      (keeps c old.stored.key there (key_of_node rooms c.node old.stored old.there)) in
      record {
        stored = new.0;
        there = new.1;
        span = ap (λ (k : NodeKey). k.dur) new.2 ∙ old.span;
        lower = subst (λ (k : NodeKey). k.height < key.height) (sym new.2) old.lower;
      };
  height = placed.height ∙ ap (fold max 0) (map_alike (λ (c : Kid). height_in rooms c + 1)
      (λ (c : Kid). height_in after c + 1) (kids_in key) (λ c there.
      let old = placed.kids c there in
      let new = node_of_key after c.node old.stored.key
      (keeps c old.stored.key there (key_of_node rooms c.node old.stored old.there)) in
      ap (λ (n : ℕ). n + 1) (height_of rooms c old.stored old.there
      ∙ sym (ap (λ (k : NodeKey). k.height) new.2) ∙ sym (height_of after c new.0 new.1))));
}

-- ---- a key over kids that stand

kid_below : (rooms : Store) (k : Kids) (ns : List ℕ) (high : ℕ) (c : Kid) → KidsStand (key_in rooms) ns k
    → height_above k ≤ high → Contains (numbered k ns) c → IsKidBelow rooms high c
kid_below rooms no_kids ns high c stand low there = absurd (omega (arith, there.1))
kid_below rooms (kid gap func dur inner more) [] high c stand low there = absurd stand
kid_below rooms (kid gap func dur inner more) (n ∷ ns) high c ((key, ms, at, is, kids), rest) low
    (zero, below, same) =
    let s = node_of_key rooms n key at in
    let lower : height_above inner < high = omega (arith, low) in
    subst (λ (x : Kid). IsKidBelow rooms high x) same (record {
      stored = s.0;
      there = s.1;
      span = ap (λ (j : NodeKey). j.dur) s.2 ∙ is.dur;
      lower = subst (λ (h : ℕ). h < high) (sym (ap (λ (j : NodeKey). j.height) s.2 ∙ is.height)) lower;
    })
kid_below rooms (kid gap func dur inner more) (n ∷ ns) high c (here, rest) low (suc i, below, same) =
    kid_below rooms more ns high c rest (omega (arith, low)) (i, omega (arith, below), same)

heights : (rooms : Store) (k : Kids) (ns : List ℕ) (a : ℕ) → KidsStand (key_in rooms) ns k
    → fold max a (map (λ (c : Kid). height_in rooms c + 1) (numbered k ns)) ≡ max a (height_above k)
heights rooms no_kids ns a stand = omega arith
heights rooms (kid gap func dur inner more) [] a stand = absurd stand
heights rooms (kid gap func dur inner more) (n ∷ ns) a ((key, ms, at, is, kids), rest) =
    let s = node_of_key rooms n key at in
    let c : Kid = record { gap = gap; span = dur; node = n } in
    let this : height_in rooms c ≡ height_above inner = height_of rooms c s.0 s.1
    ∙ ap (λ (j : NodeKey). j.height) s.2 ∙ is.height in
    let later = heights rooms more ns (max a (height_in rooms c + 1)) rest in
    omega (arith, this, later)

pub placed_new : (rooms : Store) (t : Tree) (ns : List ℕ) (key : NodeKey) → IsKeyOf t ns key
    → KidsStand (key_in rooms) ns t.kids → IsWellPlaced rooms key
placed_new rooms t ns key is stand =
    let over = ap (λ (l : List Kid). fold max 0 (map (λ (c : Kid). height_in rooms c + 1) l)) is.kids in
    let high = heights rooms t.kids ns 0 stand in
    let highest : height_above t.kids
    ≡ fold max 0 (map (λ (c : Kid). height_in rooms c + 1) (kids_in key)) = omega (arith, over, high) in
    record {
      len = ap length is.kids ∙ (length-numbered t.kids ns is.numbers ∙ sym is.len);
      kids = λ c there. kid_below rooms t.kids ns key.height c stand (omega (arith, is.height))
          (subst (λ (l : List Kid). Contains l c) is.kids there);
      height = is.height ∙ highest;
    }
