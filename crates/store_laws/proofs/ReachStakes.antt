-- Each node of a store is reached: what its count counts is a stake or a kid of a higher node.
use Rattle.std.proofs.Common.{◌≡◌, ◌⊎◌, inl, inr, ℕ, zero, suc, ◌+◌, ◌<◌, ◌≤◌, List, sum_by, Some, sym, ap}
use Rattle.std.proofs.Common.{◌∙◌, subst, arith, nat_eq, eqb-true}
use Rattle.std.proofs.lemmas.Option.{same_Some}
use Rattle.list_lemmas.proofs.Members.{Contains-from_IsAmong, IsAmong, one_that_passes, part-le-sum_by}
use Rattle.list_lemmas.proofs.Members.{part_that_counts}
use Rattle.list_lemmas.proofs.Numbers.{pos_part}
use Rattle.node_key.specs.declared.stake.Stake.{Stake}
use Rattle.node_key.specs.declared.key.Kid.{Kid}
use Rattle.shard_core.specs.Room.{Stored}
use Rattle.store_laws.specs.Counted.{IsStore, kid_places, names_kid, stakes_on}
use Rattle.store_laws.specs.Reached.{IsReached, staked, below}
use Rattle.store_laws.specs.Store.{Store, kids_in, node_in, nodes_in}
use Rattle.store_laws.proofs.CanonicKeys.{room_of_node}
use Rattle.store_laws.proofs.ReachNodes.{node_found, node_listed}

-- no node is higher than all nodes together
pub heights : Store → ℕ
heights rooms = sum_by (λ (e : ℕ × Stored). e.1.key.height) (nodes_in rooms)

height-le-heights : (rooms : Store) (n : ℕ) (s : Stored) → IsAmong (nodes_in rooms) (n, s)
    → s.key.height ≤ heights rooms
unfolding heights
height-le-heights rooms n s h = part-le-sum_by (λ (e : ℕ × Stored). e.1.key.height) (nodes_in rooms) (n, s) h

-- a node's count is that of its causes, and no count is 0
one_cause : (rooms : Store) (held : List Stake) (n : ℕ) (s : Stored) → IsStore rooms held
    → node_in rooms n ≡ Some s → (1 ≤ stakes_on n held) ⊎ (1 ≤ kid_places rooms n)
one_cause rooms held n s store is =
    let (r, p) = room_of_node rooms n s store.canonic is in
    let least = (p.sound.placed n s.key s.count p.node).least in
    pos_part (stakes_on n held) (kid_places rooms n) (omega (arith, store.counted.counts n s is, least))

reached_by_stake : (rooms : Store) (held : List Stake) (n : ℕ) → 1 ≤ stakes_on n held → IsReached rooms held n
reached_by_stake rooms held n some =
    let (x, among, is) = one_that_passes (λ (y : Stake). nat_eq y.number n) held some in
    subst (IsReached rooms held) (eqb-true x.number n is) (staked x (Contains-from_IsAmong held x among))

-- a node that has the number among its kids
named : (rooms : Store) (n : ℕ) → 1 ≤ kid_places rooms n
    → (e : ℕ × Stored) × IsAmong (nodes_in rooms) e × ((k : Kid) × IsAmong (kids_in e.1.key) k × (k.node ≡ n))
named rooms n some =
    let (e, among, names) = part_that_counts (names_kid n) (nodes_in rooms) some in
    let (k, kid_among, is) = one_that_passes (λ (k : Kid). nat_eq k.node n) (kids_in e.1.key) names in
    (e, among, (k, kid_among, eqb-true k.node n is))

-- by recursion on how much higher a node may be
reached_within : (rooms : Store) (held : List Stake) (more n : ℕ) (s : Stored) → IsStore rooms held
    → node_in rooms n ≡ Some s → heights rooms < s.key.height + more → IsReached rooms held n
reached_within rooms held zero n s store is above =
    let low = height-le-heights rooms n s (node_listed rooms n s store.canonic is) in
    absurd (omega (arith, low, above))
reached_within rooms held (suc more) n s store is above = elim (one_cause rooms held n s store is) [
  | inl stakes ↦ reached_by_stake rooms held n stakes
  | inr kids ↦
      let (e, among, (k, kid_among, names)) = named rooms n kids in
      let found = node_found rooms e.0 e.1 store.canonic among in
      let contains = Contains-from_IsAmong (kids_in e.1.key) k kid_among in
      let under = (store.canonic.keys e.0 e.1 found).kids k contains in
      let same : under.stored ≡ s =
      same_Some under.stored s (sym under.there ∙ ap (node_in rooms) names ∙ is) in
      let low : s.key.height < e.1.key.height =
      subst (λ (x : Stored). x.key.height < e.1.key.height) same under.lower in
      subst (IsReached rooms held) names
      (below e.0 e.1 k (reached_within rooms held more e.0 e.1 store found (omega (arith, above, low))) found
      contains)
]

pub reached : (rooms : Store) (held : List Stake) (n : ℕ) (s : Stored) → IsStore rooms held
    → node_in rooms n ≡ Some s → IsReached rooms held n
reached rooms held n s store is = reached_within rooms held (suc (heights rooms)) n s store is (omega arith)
