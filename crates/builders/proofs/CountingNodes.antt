-- The nodes of trees, each as often as it stands there: of groups, of nodes over items, of what lies in open
-- calls.
use Rattle.std.proofs.Common.{◌≡◌, ℕ, ◌+◌, ◌≤◌, ◌<◌, List, [], ◌∷◌, ◌++◌, length, take, drop, sum_by}
use Rattle.std.proofs.Common.{Option, Result, Ok, Err, refl, sym, ap, subst, arith, reverse}
use Rattle.std.proofs.lemmas.List.{length-reverse, nil_from_length}
use Rattle.std.proofs.lemmas.List.Sums.{sum_by-append, sum_by-cons, sum_by-take-drop, sum_by_push}
use Rattle.trace_base.specs.Outside.{Told}
use Rattle.trace_base.specs.Stream.{IsLegal}
use Rattle.trace_base.specs.declared.stream.Event.{Event}
use Rattle.trace_base.specs.declared.stream.Event.TheVariants.{Enter, Leave}
use Rattle.trace_base.specs.declared.stream.TrackStream.{TrackStream}
use Rattle.trace_base.proofs.Telling.{told_as, told_same}
use Rattle.node_key.specs.Tree.{nodes, nodes_below}
use Rattle.node_key.specs.Branches.{kids_of}
use Rattle.node_key.specs.Bound.{bound, group, grouped, stop_of}
use Rattle.node_key.specs.Items.{branches_from, end_of, node}
use Rattle.node_key.specs.Trees.{tree}
use Rattle.node_key.specs.declared.item.Item.{Item}
use Rattle.call_tree.specs.Passing.{MayCome, PassesEvent, closed_item}
use Rattle.call_tree.specs.declared.pass.Open.{Open}
use Rattle.call_tree.proofs.Chunks.{by_chunks, grouped-some}
use Rattle.call_tree.proofs.Fits.{by_bound}
use Rattle.call_tree.proofs.Passing.{Passing, Passing-end, Passing-may_come, Passing-step}
use Rattle.hall_trait.specs.declared.answers.HallFault.{HallFault}
use Rattle.builders.specs.Builds.{WorkOfNodes, nodes_in}
use Rattle.builders.specs.Calls.{WorkOfEvent, nodes_open}
use Rattle.builders.specs.declared.built.OpenCall.{OpenCall}

-- ---- items

abbrev weight : Item → ℕ
weight i = nodes i.tree

-- a node over items is one more than theirs
below-node : (from : ℕ) (is : List Item) → nodes_below (kids_of (branches_from from is)) ≡ nodes_in is
below-node from [] = refl
below-node from (i ∷ is) = omega (arith, below-node (end_of i) is, sum_by-cons weight i is)

pub nodes-node : (func start end : ℕ) (is : List Item) → nodes (node func start end is) ≡ nodes_in is + 1
nodes-node func start end is = omega (arith, below-node start is)

pub nodes_in-cons : (i : Item) (is : List Item) → nodes_in (i ∷ is) ≡ nodes i.tree + nodes_in is
nodes_in-cons i is = sum_by-cons weight i is

pub nodes_in-append : (is js : List Item) → nodes_in (is ++ js) ≡ nodes_in is + nodes_in js
nodes_in-append is js = sum_by-append weight is js

pub nodes_in-push : (is : List Item) (i : Item) → nodes_in (is ++ i ∷ []) ≡ nodes_in is + nodes i.tree
nodes_in-push is i = sum_by_push weight is i

pub nodes_in-cut : (is : List Item) → nodes_in (take 8 is) + nodes_in (drop 8 is) ≡ nodes_in is
nodes_in-cut is = sum_by-take-drop weight is 8

-- groups only add to them
pub grows-group : (c : List Item) → nodes_in c ≤ nodes (group c).tree
grows-group [] = omega arith
grows-group (i ∷ []) = omega (arith, nodes_in-cons i [])
grows-group (i ∷ j ∷ is) = omega (arith, nodes-node 0 i.at (stop_of (i ∷ j ∷ is)) (i ∷ j ∷ is))

pub grows-grouped : (is : List Item) → nodes_in is ≤ nodes_in (grouped is)
grows-grouped is =
    by_chunks (λ is. nodes_in is ≤ nodes_in (grouped is)) (omega arith)
    (λ is some more. omega (
      arith,
      ap nodes_in (grouped-some is some),
      nodes_in-cons (group (take 8 is)) (grouped (drop 8 is)),
      grows-group (take 8 is),
      more,
      nodes_in-cut is,
    )) (length is) is (omega arith)

pub grows-bound : (is : List Item) → nodes_in is ≤ nodes_in (bound is)
grows-bound is =
    by_bound (λ js. nodes_in is ≤ nodes_in js) (λ js p. omega (arith, grows-grouped js, p)) (length is) is
    (omega arith) (omega arith)

-- ---- what was interned

-- nothing more is interned, whatever is answered
pub work-kept : {X : Type 0} (was work work' : Option ℕ) (first made : ℕ) (answer : Result X HallFault)
    → Told was work (λ was now. now + first ≡ was + made) → work' ≡ work
    → WorkOfNodes was work' first made answer
work-kept was work work' first made (Ok x) told e =
    subst (λ (w : Option ℕ). Told was w (λ was now. now + first ≡ was + made)) (sym e) told
work-kept was work work' first made (Err f) told e =
    subst (λ (w : Option ℕ). Told was w (λ was now. now + first ≤ was + made)) (sym e)
    (told_as (λ was now. now + first ≡ was + made) (λ was now. now + first ≤ was + made) was work
    (λ x y p. omega (arith, p)) told)

-- and on a fault
pub work-refused : (was work work' : Option ℕ) (first made : ℕ)
    → Told was work (λ was now. now + first ≤ was + made) → work' ≡ work
    → Told was work' (λ was now. now + first ≤ was + made)
work-refused was work work' first made told same =
    subst (λ (w : Option ℕ). Told was w (λ was now. now + first ≤ was + made)) (sym same) told

-- ---- events

around-more : (around : List Open) (o : Open)
    → sum_by (λ (c : Open). nodes_in c.items) (around ++ o ∷ [])
    ≡ sum_by (λ (c : Open). nodes_in c.items) around + nodes_in o.items
around-more around o = sum_by_push (λ (c : Open). nodes_in c.items) around o

-- an Enter makes no node
entered-same : (around around' : List Open) (innermost innermost' : Open) (f t : ℕ)
    → PassesEvent around innermost (Enter f t) around' innermost'
    → nodes_open around' innermost' ≡ nodes_open around innermost
entered-same around around' innermost innermost' f t p =
    omega (
      arith,
      ap (sum_by (λ (c : Open). nodes_in c.items)) p.0,
      around-more around innermost,
      ap (λ (o : Open). nodes_in o.items) p.1,
    )

pub enter-work : (work work' : Option ℕ) (around : List Open) (innermost : Open) (f t : ℕ)
    (answer : Result OpenCall HallFault) → work' ≡ work
    → WorkOfEvent work work' around innermost (Enter f t) answer
enter-work work work' around innermost f t answer e around' innermost' p =
    work-kept work work work' (nodes_open around innermost) (nodes_open around' innermost') answer
    (told_same (λ was now. now + nodes_open around innermost ≡ was + nodes_open around' innermost') work work
    (λ n. omega (arith, entered-same around around' innermost innermost' f t p)) refl) e

-- a Leave makes those of the call that is closed
left-more : (around around' : List Open) (innermost innermost' : Open) (u : ℕ)
    → PassesEvent around innermost (Leave u) around' innermost'
    → nodes_open around' innermost' + nodes_in innermost.items
    ≡ nodes_open around innermost + nodes (closed_item innermost u).tree
left-more around around' innermost innermost' u p =
    omega (
      arith,
      ap (sum_by (λ (c : Open). nodes_in c.items)) p.1,
      around-more around' p.0,
      ap (λ (o : Open). nodes_in o.items) p.2,
      nodes_in-push p.0.items (closed_item innermost u),
    )

pub leave-work : (was work : Option ℕ) (around : List Open) (innermost : Open) (u : ℕ)
    (answer : Result OpenCall HallFault)
    → WorkOfNodes was work (nodes_in innermost.items) (nodes (closed_item innermost u).tree) answer
    → WorkOfEvent was work around innermost (Leave u) answer
leave-work was work around innermost u (Ok c) told around' innermost' p =
    told_as (λ was now. now + nodes_in innermost.items ≡ was + nodes (closed_item innermost u).tree)
    (λ was now. now + nodes_open around innermost ≡ was + nodes_open around' innermost') was work
    (λ x y q. omega (arith, q, left-more around around' innermost innermost' u p)) told
leave-work was work around innermost u (Err e) told around' innermost' p =
    told_as (λ was now. now + nodes_in innermost.items ≤ was + nodes (closed_item innermost u).tree)
    (λ was now. now + nodes_open around innermost ≤ was + nodes_open around' innermost') was work
    (λ x y q. omega (arith, q, left-more around around' innermost innermost' u p)) told

-- ---- what lies in the open calls is part of the whole tree

last_of : (around : List Open) → 0 < length around
    → (front : List Open) × (o : Open) × (around ≡ front ++ o ∷ [])
last_of [] some = absurd (omega arith)
last_of (o ∷ []) some = ([], o, refl)
last_of (o ∷ p ∷ os) some =
    let more = last_of (p ∷ os) (omega arith) in
    (o ∷ more.0, more.1, ap (λ (l : List Open). o ∷ l) more.2)

-- the calls that are open after an event that may come
pub passed_to : (around : List Open) (innermost : Open) (event : Event) → MayCome event around innermost
    → (around' : List Open) × (innermost' : Open) × PassesEvent around innermost event around' innermost'
passed_to around innermost (Enter f t) may =
    (around ++ innermost ∷ [], record { func = f; start = t; items = [] }, (refl, refl))
passed_to around innermost (Leave u) may =
    let split = last_of around may.0 in (
      split.0,
      record {
        func = split.1.func;
        start = split.1.start;
        items = split.1.items ++ closed_item innermost u ∷ [];
      },
      (split.1, split.2, refl),
    )

closed-grows : (innermost : Open) (u : ℕ) → nodes_in innermost.items ≤ nodes (closed_item innermost u).tree
closed-grows innermost u =
    omega (
      arith,
      nodes-node innermost.func innermost.start u (bound innermost.items),
      grows-bound innermost.items,
    )

passes-grows : (around around' : List Open) (innermost innermost' : Open) (event : Event)
    → PassesEvent around innermost event around' innermost'
    → nodes_open around innermost ≤ nodes_open around' innermost'
passes-grows around around' innermost innermost' (Enter f t) p =
    omega (arith, entered-same around around' innermost innermost' f t p)
passes-grows around around' innermost innermost' (Leave u) p =
    omega (arith, left-more around around' innermost innermost' u p, closed-grows innermost u)

part_at_end : (s : TrackStream) (around : List Open) (innermost : Open) → IsLegal s
    → Passing s (reverse around) innermost [] → nodes_open around innermost ≤ nodes (tree s)
part_at_end s around innermost legal p =
    let closed : around ≡ [] = nil_from_length around (omega (arith, p.fine.0, length-reverse around)) in
    omega (
      arith,
      ap (sum_by (λ (c : Open). nodes_in c.items)) closed,
      closed-grows innermost s.end,
      ap nodes (Passing-end s (reverse around) innermost legal p).1,
    )

pub part_of_tree : (s : TrackStream) (around : List Open) (innermost : Open) (rest : List Event) → IsLegal s
    → Passing s (reverse around) innermost rest → nodes_open around innermost ≤ nodes (tree s)
part_of_tree s around innermost [] legal p = part_at_end s around innermost legal p
part_of_tree s around innermost (e ∷ rest) legal p =
    let next = passed_to around innermost e (Passing-may_come s around innermost e rest legal p) in
    omega (
      arith,
      passes-grows around next.0 innermost next.1 e next.2,
      part_of_tree s next.0 next.1 rest legal
          (Passing-step s around next.0 innermost next.1 e rest p next.2),
    )
