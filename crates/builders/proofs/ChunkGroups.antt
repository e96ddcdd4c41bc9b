-- A chunk of items as one item.
use Rattle.std.proofs.Common.{◌≡◌, ℕ, ◌<◌, ◌≤◌, List, [], ◌∷◌, map, length, suc, Result, refl, sym, ap, subst}
use Rattle.std.proofs.Common.{arith, get_or, ◌∙◌, append-nil, ◌+◌, Option, Ok, Err, IfOk, IfErr}
use Rattle.std.proofs.lemmas.List.{length-map}
use Rattle.trace_base.specs.Outside.{Told}
use Rattle.trace_base.proofs.Telling.{told_as, told_same}
use Rattle.node_key.specs.Tree.{nodes}
use Rattle.builders.specs.Builds.{AddsNoWork, AddsWork}
use Rattle.node_key.specs.Bound.{group, start_of, stop_of}
use Rattle.node_key.specs.Items.{FitBetween, node}
use Rattle.hall_history.specs.Seat.{ExchangesStakes, Seat}
use Rattle.node_key.specs.Stakes.{stake}
use Rattle.node_key.specs.declared.item.Item.{Item}
use Rattle.call_tree.proofs.Fits.{FitBetween-parts, stop_of-last_end}
use Rattle.hall_trait.specs.declared.answers.HallFault.{HallFault}
use Rattle.builders.specs.Built.{StoredItem, built, items_in, stake_on, stakes_held}
use Rattle.builders.specs.Builds.{BuildsItem, HoldsBetween, WorkOfNodes, nodes_in}
use Rattle.builders.specs.declared.built.BuiltItem.{BuiltItem}
use Rattle.builders.proofs.Bags.{exchanges-none}
use Rattle.builders.proofs.CountingNodes.{grows-group, nodes-node, nodes_in-cons}

-- a chunk of one item is that item
pub one_item : (seat : Seat) (start end : ℕ) (chunk : List BuiltItem) (stored : List StoredItem)
    (d : BuiltItem)
    → HoldsBetween seat start end chunk stored → length chunk ≡ 1
    → (n : ℕ) × (get_or chunk 0 d ≡ built (record { item = group (items_in stored); number = n }))
    × ExchangesStakes seat seat (stakes_held stored) (stake n (group (items_in stored)).tree ∷ [])
one_item seat start end chunk [] d h e = absurd (omega (arith, ap length h.are, e))
one_item seat start end chunk (s ∷ []) d h e = (
  s.number,
  ap (λ (bs : List BuiltItem). get_or bs 0 d) h.are,
  exchanges-none seat seat (stake_on s ∷ []) refl,
)
one_item seat start end chunk (s ∷ t ∷ ss) d h e = absurd (omega (arith, ap length h.are, e))

-- items lie between the start of the first and the end of the last
fit_between_own : (low high : ℕ) (is : List Item) → 0 < length is → FitBetween low high is
    → FitBetween (start_of is) (stop_of is) is
fit_between_own low high [] some fit = absurd (omega arith)
fit_between_own low high (i ∷ is) some fit =
    let parts = FitBetween-parts low high (i ∷ is) []
    (subst (λ (l : List Item). FitBetween low high l) (sym (append-nil (i ∷ is))) fit) in
    let here = subst (λ (n : ℕ). FitBetween low n (i ∷ is)) (sym (stop_of-last_end low (i ∷ is) some)) parts.0
    in
    (omega arith, here.1)

pub length-items : (chunk : List BuiltItem) (stored : List StoredItem) → chunk ≡ map built stored
    → length (items_in stored) ≡ length chunk
length-items chunk stored e = counted stored ∙ ap length (sym e)
  where
    counted : (ss : List StoredItem) → length (items_in ss) ≡ length (map built ss)
    counted [] = refl
    counted (s ∷ ss) = ap suc (counted ss)

-- so they may be put into the group over them
pub held-own : (seat : Seat) (low high start stop : ℕ) (chunk : List BuiltItem) (stored : List StoredItem)
    → HoldsBetween seat low high chunk stored → 0 < length chunk
    → start ≡ start_of (items_in stored) → stop ≡ stop_of (items_in stored)
    → HoldsBetween seat start stop chunk stored
held-own seat low high start stop chunk stored h some is-start is-stop = record {
  are = h.are;
  stakes = h.stakes;
  placed = subst (λ (n : ℕ). FitBetween n stop (items_in stored)) (sym is-start)
      (subst (λ (n : ℕ). FitBetween (start_of (items_in stored)) n (items_in stored)) (sym is-stop)
      (fit_between_own low high (items_in stored) (omega (arith, some, length-items chunk stored h.are))
      h.placed));
  low = h.low;
}

-- the group over several items
group_over : (is : List Item) → 1 < length is
    → group is ≡ record { at = start_of is; tree = node 0 (start_of is) (stop_of is) is }
group_over [] several = absurd (omega arith)
group_over (i ∷ []) several = absurd (omega arith)
group_over (i ∷ j ∷ is) several = refl

pub group_built : (old new : Seat) (start stop : ℕ) (chunk : List BuiltItem) (stored : List StoredItem)
    (answer : Result BuiltItem HallFault) → chunk ≡ map built stored
    → start ≡ start_of (items_in stored) → stop ≡ stop_of (items_in stored) → 1 < length chunk
    → BuildsItem old new (stakes_held stored) (record
    { at = start; tree = node 0 start stop (items_in stored) }) (stakes_held stored) answer
    → BuildsItem old new (stakes_held stored) (group (items_in stored)) (stakes_held stored) answer
group_built old new start stop chunk stored answer are is-start is-stop several h =
    let is = items_in stored in
    let same : group is ≡ record { at = start; tree = node 0 start stop is } =
    group_over is (omega (arith, several, length-items chunk stored are))
    ∙ ap (λ (n : ℕ). let i : Item = record { at = n; tree = node 0 n (stop_of is) is } in i) (sym is-start)
    ∙ ap (λ (n : ℕ). let i : Item = record { at = start; tree = node 0 start n is } in i) (sym is-stop) in
    subst (λ (i : Item). BuildsItem old new (stakes_held stored) i (stakes_held stored) answer) (sym same) h

-- ---- the nodes that it has more than its items

pub one-work : (work : Option ℕ) (chunk : List BuiltItem) (stored : List StoredItem)
    → chunk ≡ map built stored → length chunk ≡ 1
    → Told work work
    (λ was now. now + nodes_in (items_in stored) ≡ was + nodes (group (items_in stored)).tree)
one-work work chunk stored are e =
    told_same (λ was now. now + nodes_in (items_in stored) ≡ was + nodes (group (items_in stored)).tree) work
    work (λ n. ap (λ (k : ℕ). n + k)
    (single stored (omega (arith, ap length are, length-map stored built, e)))) refl
  where
    single : (ss : List StoredItem) → length ss ≡ 1
        → nodes_in (items_in ss) ≡ nodes (group (items_in ss)).tree
    single [] h = absurd (omega (arith, h))
    single (s ∷ []) h = omega (arith, nodes_in-cons s.item [])
    single (s ∷ t ∷ ss) h = absurd (omega (arith, h))

pub group-work : (was work : Option ℕ) (chunk : List BuiltItem) (stored : List StoredItem)
    (answer : Result BuiltItem HallFault) → chunk ≡ map built stored → 1 < length chunk
    → IfOk answer (λ b. AddsWork was work 1) → IfErr answer (λ e. AddsNoWork was work)
    → WorkOfNodes was work (nodes_in (items_in stored)) (nodes (group (items_in stored)).tree) answer
group-work was work chunk stored (Ok b) are several adds idle =
    let is = items_in stored in
    let more : nodes (group is).tree ≡ nodes_in is + 1 =
    ap (λ (i : Item). nodes i.tree) (group_over is (omega (arith, several, length-items chunk stored are)))
    ∙ nodes-node 0 (start_of is) (stop_of is) is in
    told_as (λ was now. now ≡ was + 1) (λ was now. now + nodes_in is ≡ was + nodes (group is).tree) was work
    (λ x y p. omega (arith, p, more)) adds
group-work was work chunk stored (Err e) are several adds idle =
    let is = items_in stored in
    told_same (λ was now. now + nodes_in is ≤ was + nodes (group is).tree) was work
    (λ n. omega (arith, grows-group is)) idle
