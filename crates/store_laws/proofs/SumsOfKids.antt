-- How many kids of a node have a number.
use Rattle.std.proofs.Common.{◌≡◌, ℕ, ◌≤◌, ◌==◌, Contains, count_by, List, [], ◌∷◌, Some}
use Rattle.std.proofs.Common.{get_or, length, refl, ap, ◌∙◌, arith}
use Rattle.std.proofs.lemmas.Bool.{eq-eqb, eqb-true}
use Rattle.std.proofs.lemmas.List.Sums.{get_or-le-sum_by, sum_by-cons}
use Rattle.std.proofs.lemmas.Option.{get_or_from_slice_get, slice_get_within}
use Rattle.list_lemmas.proofs.Booleans.{one_if, true_from_count}
use Rattle.list_lemmas.proofs.Sums.{sum_by-some_term}
use Rattle.node_key.specs.Keys.{numbered}
use Rattle.node_key.specs.Stakes.{IsOverStakes}
use Rattle.node_key.specs.declared.stake.Stake.{Stake}
use Rattle.node_key.specs.Tree.{Kids, Tree, count, kid, no_kids}
use Rattle.node_key.specs.declared.key.Kid.{Kid}
use Rattle.node_key.specs.declared.key.NodeKey.{NodeKey}
use Rattle.shard_core.specs.Room.{Stored}
use Rattle.store_laws.specs.Counted.{kid_places, names_kid, stakes_on}
use Rattle.store_laws.specs.Store.{IsCanonic, Store, kids_in, node_in}
use Rattle.store_laws.proofs.StepsOfKids.{numbers}
use Rattle.store_laws.proofs.SumsFound.{node_of_sum}
use Rattle.store_laws.proofs.SumsOfRooms.{in_the_sum}

named_by_kids : (m : ℕ) (k : Kids) (xs : List Stake) → length (numbers xs) ≡ count k
    → count_by (λ (c : Kid). c.node == m) (numbered k (numbers xs)) ≡ stakes_on m xs
named_by_kids m no_kids [] long = refl
named_by_kids m no_kids (x ∷ xs) long = absurd (omega (arith, long))
named_by_kids m (kid gap func dur inner more) [] long = absurd (omega (arith, long))
named_by_kids m (kid gap func dur inner more) (x ∷ xs) long =
    let here : Kid = record { gap = gap; span = dur; node = x.number } in
    let rest = named_by_kids m more xs (omega (arith, long)) in
    let kids = sum_by-cons (λ (c : Kid). one_if (c.node == m)) here (numbered more (numbers xs)) in
    let stakes = sum_by-cons (λ (z : Stake). one_if (z.number == m)) x xs in
    omega (arith, rest, kids, stakes)

-- a key over stakes has as many kids of a number as there are stakes on it
pub named_by_stakes : (m n c : ℕ) (t : Tree) (xs : List Stake) (key : NodeKey) → IsOverStakes t xs key
    → names_kid m (n, record { key = key; count = c }) ≡ stakes_on m xs
named_by_stakes m n c t xs key over =
    ap (count_by (λ (k : Kid). k.node == m)) over.key_of.kids ∙ named_by_kids m t.kids xs over.key_of.numbers

-- a kid is one of those with its number
pub names_its_kid : (n : ℕ) (s : Stored) (c : Kid) → Contains (kids_in s.key) c → 1 ≤ names_kid c.node (n, s)
names_its_kid n s c (i, below, is) =
    let f = λ (k : Kid). one_if (k.node == c.node) in
    let least = get_or-le-sum_by f (kids_in s.key) i c below in
    let one : f (get_or (kids_in s.key) i c) ≡ 1 =
    ap f is ∙ ap one_if (eq-eqb c.node c.node refl) in
    omega (arith, least, one)

-- where the number is a kid's, it is that of a kid of some node
pub place_of_kid : (rooms : Store) (n : ℕ) (s : Stored) (c : Kid) → node_in rooms n ≡ Some s
    → Contains (kids_in s.key) c → 1 ≤ kid_places rooms c.node
place_of_kid rooms n s c is there =
    let part = in_the_sum (names_kid c.node) rooms n s is in
    let one = names_its_kid n s c there in
    omega (arith, part, one)

kid_from_names : (m n : ℕ) (s : Stored) → 1 ≤ names_kid m (n, s)
    → (c : Kid) × Contains (kids_in s.key) c × (c.node ≡ m)
kid_from_names m n s one =
    let term = sum_by-some_term (λ (k : Kid). one_if (k.node == m)) (kids_in s.key) one in
    let c = term.1 in (
      c,
      (
        term.0,
        slice_get_within (kids_in s.key) term.0 c term.2,
        get_or_from_slice_get (kids_in s.key) term.0 c c term.2,
      ),
      eqb-true c.node m (true_from_count (c.node == m) term.3),
    )

-- a number that stands at a kid's place is that of a kid of a node
pub kid_from_places : (rooms : Store) (m : ℕ) → IsCanonic rooms → 1 ≤ kid_places rooms m
    → (n : ℕ) × (s : Stored) × (node_in rooms n ≡ Some s) × (c : Kid) × Contains (kids_in s.key) c
    × (c.node ≡ m)
kid_from_places rooms m whole one =
    let at = node_of_sum (names_kid m) rooms whole one in
    let c = kid_from_names m at.0 at.1 at.3 in
    (at.0, at.1, at.2, c.0, c.1, c.2)
