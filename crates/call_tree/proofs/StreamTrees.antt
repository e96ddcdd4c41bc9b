-- The tree of a stream over the calls of the stream, and the events of a tree.
use Rattle.std.proofs.Common.{◌≡◌, ℕ, ◌+◌, ◌-◌, ◌<◌, ◌≤◌, List, [], ◌∷◌, ◌++◌, length, take, drop}
use Rattle.std.proofs.Common.{map, refl, sym, ap, subst}
use Rattle.std.proofs.Common.{◌∙◌, arith, append_assoc, append-nil, take-append-drop, length-take, Bool}
use Rattle.std.proofs.Common.{false, cond, eqb, inl, inr}
use Rattle.std.proofs.lemmas.Bool.Decides.{eqb_tells}
use Rattle.trace_base.specs.Stream.{IsLegal}
use Rattle.trace_base.specs.declared.stream.Event.{Event}
use Rattle.trace_base.specs.declared.stream.Event.TheVariants.{Enter, Leave}
use Rattle.trace_base.specs.declared.stream.TrackStream.{TrackStream}
use Rattle.node_key.specs.Tree.{Tree}
use Rattle.node_key.specs.Branches.{kids_of}
use Rattle.node_key.specs.Items.{end_of, branches_from, FitBetween, node}
use Rattle.node_key.specs.declared.item.Item.{Item}
use Rattle.node_key.specs.Bound.{group, grouped, bound}
use Rattle.node_key.specs.Trees.{call_item, tree}
use Rattle.node_key.specs.Calls.{outermost_calls}
use Rattle.node_key.specs.Events.{events, events_below}
use Rattle.call_tree.proofs.Chunks.{grouped-some, grouped-none, by_chunks}
use Rattle.call_tree.proofs.Fits.{last_end, FitBetween-parts, FitBetween-grouped, by_bound}
use Rattle.call_tree.proofs.Forest.{Forest, none, call, flat, items_of}
use Rattle.call_tree.proofs.Positions.{tops, outer_calls-flat, items-flat}
use Rattle.call_tree.proofs.Parsing.{Sound, Sound-le, legal_calls, parse}

-- the tree of a stream is that of its calls
pub tree-calls : (s : TrackStream) (F : Forest) → s.events ≡ flat F
    → tree s ≡ node 0 s.start s.end (bound (items_of F))
unfolding tree
tree-calls s F e =
    let whole : s.events ≡ [] ++ (flat F ++ []) = e ∙ sym (append-nil (flat F)) in
    let outermost : outermost_calls s.events ≡ tops 0 F =
    outer_calls-flat F s.events [] [] 0 (length s.events) whole refl (omega (arith, ap length e)) in
    let items = ap (map (call_item (length s.events) s.events)) outermost
    ∙ items-flat F (length s.events) s.events [] [] 0 whole refl (omega (arith, ap length e)) in
    ap (λ (is : List Item). node 0 s.start s.end (bound is)) items

-- items of sound calls lie where the calls do
pub FitBetween-items : (F : Forest) (low high : ℕ) → Sound low F high → FitBetween low high (items_of F)
FitBetween-items none low high s = s
FitBetween-items (call f t A u B) low high s =
    let ends : t + (u - t) ≡ u = omega (arith, Sound-le A t u s.2) in
    (s.1, subst (λ (n : ℕ). FitBetween n high (items_of B)) (sym ends) (FitBetween-items B u high s.3))

-- the events of items, one after the other
abbrev pub events_of_items : List Item → List Event
events_of_items [] = []
events_of_items (i ∷ is) = events i.tree i.at ++ events_of_items is

events_of_items-append : (is js : List Item) → events_of_items (is ++ js) ≡ events_of_items is
    ++ events_of_items js
events_of_items-append [] js = refl
events_of_items-append (i ∷ is) js =
    ap (λ (es : List Event). events i.tree i.at ++ es) (events_of_items-append is js)
    ∙ sym (append_assoc (events i.tree i.at) (events_of_items is) (events_of_items js))

-- the events below a node are those of its items
pub events_below-items : (start end : ℕ) (is : List Item) → FitBetween start end is
    → events_below start (kids_of (branches_from start is)) ≡ events_of_items is
unfolding events
events_below-items start end [] fit = refl
events_below-items start end (i ∷ is) fit =
    let begins : start + (i.at - start) ≡ i.at = omega (arith, fit.0) in
    ap (λ (n : ℕ). events i.tree n ++ events_below (n + i.tree.dur) (kids_of (branches_from (end_of i) is)))
    begins
    ∙ ap (λ (es : List Event). events i.tree i.at ++ es) (events_below-items (end_of i) end is fit.1)

-- a group has the events of its items
events-group : (low high : ℕ) (c : List Item) → 0 < length c → FitBetween low high c
    → events (group c).tree (group c).at ≡ events_of_items c
unfolding events
events-group low high [] some fit = absurd (omega arith)
events-group low high (i ∷ []) some fit = sym (append-nil (events i.tree i.at))
events-group low high (i ∷ j ∷ is) some fit = events_below-items i.at high (i ∷ j ∷ is) (omega arith, fit.1)

one_chunk : (is : List Item) → 0 < length is → (low high : ℕ)
    → ((low high : ℕ) → FitBetween low high (drop 8 is) → events_of_items (grouped (drop 8 is)) ≡
    events_of_items (drop 8 is))
    → FitBetween low high is → events_of_items (grouped is) ≡ events_of_items is
one_chunk is some low high more fit =
    let parts = FitBetween-parts low high (take 8 is) (drop 8 is)
    (subst (λ (l : List Item). FitBetween low high l) (sym (take-append-drop 8 is)) fit) in
    let nonempty : 0 < length (take 8 is) = omega (arith, length-take 8 is, some) in
    ap events_of_items (grouped-some is some)
    ∙ ap (λ (es : List Event). es ++ events_of_items (grouped (drop 8 is)))
    (events-group low (last_end low (take 8 is)) (take 8 is) nonempty parts.0)
    ∙ ap (λ (es : List Event). events_of_items (take 8 is) ++ es)
    (more (last_end low (take 8 is)) high parts.1)
    ∙ sym (events_of_items-append (take 8 is) (drop 8 is)) ∙ ap events_of_items (take-append-drop 8 is)

events-grouped : (is : List Item) (low high : ℕ) → FitBetween low high is
    → events_of_items (grouped is) ≡ events_of_items is
events-grouped is =
    by_chunks (λ is. (low high : ℕ) → FitBetween low high is → events_of_items (grouped is) ≡ events_of_items
    is)
    (λ low high fit. ap events_of_items (grouped-none [] refl))
    (λ is some more low high fit. one_chunk is some low high more fit) (length is) is (omega arith)

-- a bounded list has the events of the list
pub events-bound : (low high : ℕ) (is : List Item) → FitBetween low high is
    → FitBetween low high (bound is) × (events_of_items (bound is) ≡ events_of_items is)
events-bound low high is fit =
    by_bound (λ js. FitBetween low high js × (events_of_items js ≡ events_of_items is))
    (λ js p. (FitBetween-grouped js low high p.0, events-grouped js low high p.0 ∙ p.1)) (length is) is
    (omega arith) (fit, refl)

-- a call's own events stand round those of its kids
events-call : (f t u : ℕ) (is : List Item) → 1 ≤ f → t ≤ u → FitBetween t u is
    → events (node f t u is) t ≡ Enter f t ∷ events_of_items is ++ Leave u ∷ []
unfolding events
events-call f t u is h k fit =
    let named : eqb f 0 ≡ false = elim (eqb_tells f 0) [ inl p ↦ absurd (omega (arith, p.1)) | inr p ↦ p.0 ]
    in
    let ends : t + (u - t) ≡ u = omega arith in
    let below = events_below t (kids_of (branches_from t is)) in
    ap (λ (b : Bool). cond b below (Enter f t ∷ below ++ Leave (t + (u - t)) ∷ [])) named
    ∙ ap (λ (n : ℕ). Enter f t ∷ below ++ Leave n ∷ []) ends
    ∙ ap (λ (es : List Event). Enter f t ∷ es ++ Leave u ∷ []) (events_below-items t u is fit)

pub events-items : (F : Forest) (low high : ℕ) → Sound low F high → events_of_items (items_of F) ≡ flat F
events-items none low high s = refl
events-items (call f t A u B) low high s =
    let bounded = events-bound t u (items_of A) (FitBetween-items A t u s.2) in
    let inner = bounded.1 ∙ events-items A t u s.2 in
    ap (λ (es : List Event). es ++ events_of_items (items_of B))
    (events-call f t u (bound (items_of A)) s.0 (Sound-le A t u s.2) bounded.0
    ∙ ap (λ (es : List Event). Enter f t ∷ es ++ Leave u ∷ []) inner)
    ∙ ap (λ (es : List Event). (Enter f t ∷ flat A ++ Leave u ∷ []) ++ es) (events-items B u high s.3)
    ∙ ap (λ (es : List Event). Enter f t ∷ es) (append_assoc (flat A) (Leave u ∷ []) (flat B))

-- the events of a legal stream's tree are the stream's
pub events-tree : (s : TrackStream) → IsLegal s → events (tree s) s.start ≡ s.events
unfolding events
events-tree s legal =
    let F = (parse s.events).now in
    let calls = legal_calls s legal in
    let bounded = events-bound s.start s.end (items_of F) (FitBetween-items F s.start s.end calls.sound) in
    ap (λ (t : Tree). events t s.start) (tree-calls s F calls.events)
    ∙ events_below-items s.start s.end (bound (items_of F)) bounded.0 ∙ bounded.1
    ∙ events-items F s.start s.end calls.sound ∙ sym calls.events
