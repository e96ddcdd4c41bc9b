-- The tree of a legal stream is timed.
use Rattle.std.proofs.Common.{ℕ, ◌<◌, List, [], ◌∷◌, ◌++◌, length, take, drop, refl, sym}
use Rattle.std.proofs.Common.{subst, arith, append-nil, length-take, take-append-drop}
use Rattle.call_tree.proofs.Chunks.{by_chunks, grouped-none, grouped-some}
use Rattle.call_tree.proofs.Fits.{FitBetween-grouped, FitBetween-parts, by_bound, last_end}
use Rattle.call_tree.proofs.Fits.{stop_of-last_end}
use Rattle.call_tree.proofs.Forest.{Forest, call, items_of, none}
use Rattle.call_tree.proofs.Parsing.{Sound, legal_calls, parse}
use Rattle.call_tree.proofs.StreamTrees.{FitBetween-items, tree-calls}
use Rattle.node_key.proofs.Kids.{total-branches_from}
use Rattle.node_key.specs.Bound.{bound, group, grouped, stop_of}
use Rattle.node_key.specs.Branches.{kids_of}
use Rattle.node_key.specs.Items.{FitBetween, branches_from, end_of, node}
use Rattle.node_key.specs.Trees.{tree}
use Rattle.node_key.specs.declared.item.Item.{Item}
use Rattle.profile_laws.specs.Parts.{AreTimed, IsTimed}
use Rattle.trace_base.specs.Stream.{IsLegal}
use Rattle.trace_base.specs.declared.stream.TrackStream.{TrackStream}

-- the trees of the items are timed
abbrev ItemsTimed : List Item → Type 0
ItemsTimed [] = Unit {0}
ItemsTimed (i ∷ is) = IsTimed i.tree × ItemsTimed is

timed_parts : (is js : List Item) → ItemsTimed (is ++ js) → ItemsTimed is × ItemsTimed js
timed_parts [] js w = (tt, w)
timed_parts (i ∷ is) js w = let rest = timed_parts is js w.1 in ((w.0, rest.0), rest.1)

timed-kids : (from : ℕ) (is : List Item) → ItemsTimed is → AreTimed (kids_of (branches_from from is))
timed-kids from [] w = tt
timed-kids from (i ∷ is) w = (w.0.0, w.0.1, timed-kids (end_of i) is w.1)

-- a node over items that lie between its start and its end
timed-node : (func start end : ℕ) (is : List Item) → FitBetween start end is → ItemsTimed is
    → IsTimed (node func start end is)
timed-node func start end is fit w =
    (omega (arith, total-branches_from start end is fit), timed-kids start is w)

timed-group : (low high : ℕ) (c : List Item) → 0 < length c → FitBetween low high c → ItemsTimed c
    → IsTimed (group c).tree
timed-group low high [] some fit w = absurd (omega arith)
timed-group low high (i ∷ []) some fit w = w.0
timed-group low high (i ∷ j ∷ is) some fit w =
    let parts = FitBetween-parts i.at high (i ∷ j ∷ is) []
    (subst (λ (l : List Item). FitBetween i.at high l) (sym (append-nil (i ∷ j ∷ is)))
    (omega arith, fit.1)) in
    timed-node 0 i.at (stop_of (i ∷ j ∷ is)) (i ∷ j ∷ is)
    (subst (λ (n : ℕ). FitBetween i.at n (i ∷ j ∷ is))
    (sym (stop_of-last_end i.at (i ∷ j ∷ is) (omega arith))) parts.0) w

one_chunk : (is : List Item) → 0 < length is → (low high : ℕ)
    → ((low high : ℕ) → FitBetween low high (drop 8 is) → ItemsTimed (drop 8 is)
    → ItemsTimed (grouped (drop 8 is)))
    → FitBetween low high is → ItemsTimed is → ItemsTimed (grouped is)
one_chunk is some low high more fit w =
    let parts = FitBetween-parts low high (take 8 is) (drop 8 is)
    (subst (λ (l : List Item). FitBetween low high l) (sym (take-append-drop 8 is)) fit) in
    let split_up = timed_parts (take 8 is) (drop 8 is) (subst ItemsTimed (sym (take-append-drop 8 is)) w) in
    subst ItemsTimed (sym (grouped-some is some)) (
      timed-group low (last_end low (take 8 is)) (take 8 is) (omega (arith, length-take 8 is, some)) parts.0
          split_up.0,
      more (last_end low (take 8 is)) high parts.1 split_up.1,
    )

timed-grouped : (is : List Item) (low high : ℕ) → FitBetween low high is → ItemsTimed is
    → ItemsTimed (grouped is)
timed-grouped is =
    by_chunks (λ is. (low high : ℕ) → FitBetween low high is → ItemsTimed is → ItemsTimed (grouped is))
    (λ low high fit w. subst ItemsTimed (sym (grouped-none [] refl)) tt)
    (λ is some more low high fit w. one_chunk is some low high more fit w) (length is) is (omega arith)

timed-bound : (low high : ℕ) (is : List Item) → FitBetween low high is → ItemsTimed is
    → FitBetween low high (bound is) × ItemsTimed (bound is)
timed-bound low high is fit w =
    by_bound (λ js. FitBetween low high js × ItemsTimed js)
    (λ js p. (FitBetween-grouped js low high p.0, timed-grouped js low high p.0 p.1)) (length is) is
    (omega arith) (fit, w)

timed-items : (F : Forest) (low high : ℕ) → Sound low F high → ItemsTimed (items_of F)
timed-items none low high s = tt
timed-items (call f t A u B) low high s =
    let inner = timed-bound t u (items_of A) (FitBetween-items A t u s.2) (timed-items A t u s.2) in
    (timed-node f t u (bound (items_of A)) inner.0 inner.1, timed-items B u high s.3)

pub timed-tree : (s : TrackStream) → IsLegal s → IsTimed (tree s)
timed-tree s legal =
    let F = (parse s.events).now in
    let calls = legal_calls s legal in
    let fit = FitBetween-items F s.start s.end calls.sound in
    let all = timed-bound s.start s.end (items_of F) fit (timed-items F s.start s.end calls.sound) in
    subst IsTimed (sym (tree-calls s F calls.events))
    (timed-node 0 s.start s.end (bound (items_of F)) all.0 all.1)
