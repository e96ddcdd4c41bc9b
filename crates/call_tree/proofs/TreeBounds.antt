-- How large the tree of a legal stream is.
use Rattle.std.proofs.Common.{◌≡◌, ℕ, ◌+◌, ◌-◌, ◌*◌, ◌<◌, ◌≤◌, max, List, [], ◌∷◌, ◌++◌}
use Rattle.std.proofs.Common.{length, take, drop, refl, sym, ap, subst}
use Rattle.std.proofs.Common.{arith, length-append, length-take, take-append-drop, append-nil}
use Rattle.trace_base.specs.declared.stream.Event.{Event}
use Rattle.trace_base.specs.declared.stream.Event.TheVariants.{Enter, Leave}
use Rattle.trace_base.specs.declared.limits.TheConstants.{MAX_TIME}
use Rattle.node_key.specs.Tree.{height, nodes, nodes_below}
use Rattle.node_key.specs.Branches.{kids_of}
use Rattle.node_key.specs.Items.{end_of, branches_from, FitBetween, node}
use Rattle.node_key.specs.declared.item.Item.{Item}
use Rattle.node_key.proofs.Kids.{count-kids_of, length-branches_from, FitBetween-le}
use Rattle.node_key.specs.Bound.{group, grouped, bound, stop_of}
use Rattle.call_tree.specs.Bounds.{KidsWithin, IsWithinBounds, TreesAreBounded}
use Rattle.call_tree.proofs.Chunks.{grouped-some, grouped-none, length-grouped, by_chunks}
use Rattle.call_tree.proofs.Fits.{Low, Low-nil, Low-cons, Low-weaker, Low-bound, height_above-low}
use Rattle.call_tree.proofs.Fits.{last_end, FitBetween-parts}
use Rattle.call_tree.proofs.Fits.{FitBetween-grouped, length-bound-le, by_bound}
use Rattle.call_tree.proofs.Fits.{stop_of-last_end, last_end-le}
use Rattle.call_tree.proofs.Forest.{Forest, none, call, flat, items_of, enters, enters-append}
use Rattle.call_tree.proofs.Parsing.{Fine, Closer, entered, parse, parse-is, Sound, Sound-le, legal_fine}
use Rattle.call_tree.proofs.Parsing.{legal_calls, enters-filter}
use Rattle.call_tree.proofs.StreamTrees.{tree-calls, FitBetween-items}

-- no more than 256 calls lie in one another, where d are open already
abbrev Deep : ℕ → Forest → Type 0
Deep d none = Unit {0}
Deep d (call f t A u B) = (d < 256) × Deep (d + 1) A × Deep d B

abbrev DeepAll : ℕ → Forest → List Closer → Type 0
DeepAll d F [] = Deep d F
DeepAll d F (c ∷ cs) = Deep d F × DeepAll (d - 1) c.behind cs

deep_enter : (d f t : ℕ) (F : Forest) (later : List Closer) → d < 256 → length later ≡ d + 1
    → DeepAll (d + 1) F later
    → DeepAll d (entered f t F later).now (entered f t F later).later
deep_enter d f t F [] h n deep = absurd (omega arith)
deep_enter d f t F (c ∷ []) h n deep =
    let back : d + 1 - 1 ≡ d = omega arith in (h, deep.0, subst (λ (x : ℕ). Deep x c.behind) back deep.1)
deep_enter d f t F (c ∷ b ∷ cs) h n deep =
    let back : d + 1 - 1 ≡ d = omega arith in
    let behind = subst (λ (x : ℕ). DeepAll x c.behind (b ∷ cs)) back deep.1
    in ((h, deep.0, behind.0), behind.1)

deep_parse : (es : List Event) (d now end : ℕ) → Fine d now end es → DeepAll d (parse es).now (parse es).later
deep_parse [] d now end h = tt
deep_parse (Enter f t ∷ es) d now end h =
    deep_enter d f t (parse es).now (parse es).later h.1 (parse-is es (d + 1) t end h.3).number
    (deep_parse es (d + 1) t end h.3)
deep_parse (Leave t ∷ es) d now end h = (tt, deep_parse es (d - 1) t end h.2)

deep_all : (d : ℕ) (F : Forest) (later : List Closer) → DeepAll d F later → Deep d F
deep_all d F [] deep = deep
deep_all d F (c ∷ cs) deep = deep.0

length-items_of : (F : Forest) → length (items_of F) ≤ enters (flat F)
length-items_of none = omega arith
length-items_of (call f t A u B) = omega (arith, enters-append (flat A) (Leave u ∷ flat B), length-items_of B)

low_items : (F : Forest) (d : ℕ) → Deep d F → enters (flat F) ≤ 4194304 → Low (8 * d) 2040 (items_of F)
low_items none d deep few = Low-nil (8 * d) 2040
low_items (call f t A u B) d deep few =
    let number = enters-append (flat A) (Leave u ∷ flat B) in
    let inner = low_items A (d + 1) deep.1 (omega (arith, number, few)) in
    let bounded = Low-bound 7 (8 * d + 1) 2040 (items_of A) (omega (arith, length-items_of A, number, few))
    (Low-weaker (8 * (d + 1)) (8 * d + 1 + 7) 2040 2040 (items_of A) (λ h q. omega arith) inner) in
    Low-cons (8 * d) 2040 (record { at = t; tree = node f t u (bound (items_of A)) }) (items_of B)
    (height_above-low t (8 * d) 2040 (bound (items_of A)) (omega (arith, deep.0)) bounded)
    (low_items B d deep.2 (omega (arith, number, few)))

-- what lies in the items is within the limits
abbrev ItemsWithin : List Item → Type 0
ItemsWithin [] = Unit {0}
ItemsWithin (i ∷ is) = IsWithinBounds i.tree × ItemsWithin is

within_parts : (is js : List Item) → ItemsWithin (is ++ js) → ItemsWithin is × ItemsWithin js
within_parts [] js w = (tt, w)
within_parts (i ∷ is) js w = let rest = within_parts is js w.1 in ((w.0, rest.0), rest.1)

kids_within : (start end : ℕ) (is : List Item) → FitBetween start end is → end ≤ MAX_TIME → ItemsWithin is
    → KidsWithin (kids_of (branches_from start is))
kids_within start end [] fit h w = tt
kids_within start end (i ∷ is) fit h w =
    let after = FitBetween-le (end_of i) end is fit.1 in
    (omega (arith, fit.0, after), w.0.1, w.0.0, w.0.2, kids_within (end_of i) end is fit.1 h w.1)

node_within : (func start end : ℕ) (is : List Item) → FitBetween start end is → end ≤ MAX_TIME → length is ≤ 8
    → ItemsWithin is
    → IsWithinBounds (node func start end is)
node_within func start end is fit h few w = (
  omega (arith, count-kids_of (branches_from start is), length-branches_from start is, few),
  omega arith,
  kids_within start end is fit h w,
)

-- items lie from the first one's start to the last one's end
group_fit : (low high : ℕ) (i : Item) (is : List Item) → FitBetween low high (i ∷ is)
    → FitBetween i.at (stop_of (i ∷ is)) (i ∷ is)
group_fit low high i is fit =
    let parts = FitBetween-parts i.at high (i ∷ is) []
    (subst (λ (l : List Item). FitBetween i.at high l) (sym (append-nil (i ∷ is))) (omega arith, fit.1))
    in
    subst (λ (n : ℕ). FitBetween i.at n (i ∷ is)) (sym (stop_of-last_end i.at (i ∷ is) (omega arith))) parts.0

group_within : (low high : ℕ) (c : List Item) → 0 < length c → FitBetween low high c → high ≤ MAX_TIME
    → length c ≤ 8 → ItemsWithin c
    → IsWithinBounds (group c).tree
group_within low high [] some fit h few w = absurd (omega arith)
group_within low high (i ∷ []) some fit h few w = w.0
group_within low high (i ∷ j ∷ is) some fit h few w =
    let ends = last_end-le low high (i ∷ j ∷ is) fit in
    node_within 0 i.at (stop_of (i ∷ j ∷ is)) (i ∷ j ∷ is) (group_fit low high i (j ∷ is) fit)
    (omega (arith, stop_of-last_end low (i ∷ j ∷ is) (omega arith), ends, h)) few w

one_chunk : (is : List Item) → 0 < length is → (low high : ℕ)
    → ((low high : ℕ) → FitBetween low high (drop 8 is) → high ≤ MAX_TIME → ItemsWithin (drop 8 is)
    → ItemsWithin (grouped (drop 8 is)))
    → FitBetween low high is → high ≤ MAX_TIME → ItemsWithin is → ItemsWithin (grouped is)
one_chunk is some low high more fit h w =
    let parts = FitBetween-parts low high (take 8 is) (drop 8 is)
    (subst (λ (l : List Item). FitBetween low high l) (sym (take-append-drop 8 is)) fit) in
    let split_up = within_parts (take 8 is) (drop 8 is) (subst ItemsWithin (sym (take-append-drop 8 is)) w) in
    let end = FitBetween-le (last_end low (take 8 is)) high (drop 8 is) parts.1 in
    subst ItemsWithin (sym (grouped-some is some)) (
      group_within low (last_end low (take 8 is)) (take 8 is) (omega (arith, length-take 8 is, some)) parts.0
          (omega (arith, end, h))
          (omega (arith, length-take 8 is)) split_up.0,
      more (last_end low (take 8 is)) high parts.1 h split_up.1,
    )

grouped_within : (is : List Item) (low high : ℕ) → FitBetween low high is → high ≤ MAX_TIME → ItemsWithin is
    → ItemsWithin (grouped is)
grouped_within is =
    by_chunks (λ is. (low high : ℕ) → FitBetween low high is → high ≤ MAX_TIME → ItemsWithin is
    → ItemsWithin (grouped is))
    (λ low high fit h w. subst ItemsWithin (sym (grouped-none [] refl)) tt)
    (λ is some more low high fit h w. one_chunk is some low high more fit h w) (length is) is (omega arith)

bound_within_limits : (low high : ℕ) (is : List Item) → FitBetween low high is → high ≤ MAX_TIME
    → ItemsWithin is
    → FitBetween low high (bound is) × ItemsWithin (bound is)
bound_within_limits low high is fit h w =
    by_bound (λ js. FitBetween low high js × ItemsWithin js)
    (λ js p. (FitBetween-grouped js low high p.0, grouped_within js low high p.0 h p.1)) (length is) is
    (omega arith) (fit, w)

items_within : (F : Forest) (low high : ℕ) → Sound low F high → high ≤ MAX_TIME → ItemsWithin (items_of F)
items_within none low high s h = tt
items_within (call f t A u B) low high s h =
    let stop : u ≤ MAX_TIME = omega (arith, Sound-le B u high s.3, h) in
    let inner = bound_within_limits t u (items_of A) (FitBetween-items A t u s.2) stop
    (items_within A t u s.2 stop) in (
      node_within f t u (bound (items_of A)) inner.0 stop
          (length-bound-le (length (items_of A)) (items_of A) (omega arith)) inner.1,
      items_within B u high s.3 h,
    )

-- the nodes of the items and their number
abbrev weight : List Item → ℕ
weight [] = 0
weight (i ∷ is) = nodes i.tree + 1 + weight is

weight-append : (is js : List Item) → weight (is ++ js) ≡ weight is + weight js
weight-append [] js = omega arith
weight-append (i ∷ is) js = omega (arith, weight-append is js)

nodes_below-weight : (from : ℕ) (is : List Item) → nodes_below (kids_of (branches_from from is))
    + length is ≡ weight is
nodes_below-weight from [] = refl
nodes_below-weight from (i ∷ is) = omega (arith, nodes_below-weight (end_of i) is)

weight-group : (c : List Item) → 0 < length c → nodes (group c).tree + 1 ≤ weight c
weight-group [] some = absurd (omega arith)
weight-group (i ∷ []) some = omega arith
weight-group (i ∷ j ∷ is) some = omega (arith, nodes_below-weight i.at (i ∷ j ∷ is))

weight-grouped : (is : List Item) → weight (grouped is) ≤ weight is
weight-grouped is =
    by_chunks (λ is. weight (grouped is) ≤ weight is) (omega (arith, ap weight (grouped-none [] refl)))
    (λ is some more. omega (
      arith,
      ap weight (grouped-some is some),
      weight-group (take 8 is) (omega (arith, length-take 8 is, some)),
      more,
      weight-append (take 8 is) (drop 8 is),
      ap weight (take-append-drop 8 is),
    )) (length is) is (omega arith)

weight-bound : (is : List Item) → weight (bound is) ≤ weight is
weight-bound is =
    by_bound (λ js. weight js ≤ weight is) (λ js p. omega (arith, weight-grouped js, p)) (length is) is
    (omega arith) (omega arith)

pub some_bound : (is : List Item) → 0 < length is → 0 < length (bound is)
some_bound is some =
    by_bound (λ js. 0 < length js) (λ js p. omega (arith, length-grouped js, p)) (length is) is (omega arith)
    some

weight-items_of : (F : Forest) → weight (items_of F) ≤ length (flat F)
weight-items_of none = omega arith
weight-items_of (call f t A u B) =
    omega (
      arith,
      length-append (flat A) (Leave u ∷ flat B),
      nodes_below-weight t (bound (items_of A)),
      weight-bound (items_of A),
      weight-items_of A,
      weight-items_of B,
    )

nodes-root : (start end : ℕ) (F : Forest) → nodes (node 0 start end (bound (items_of F))) ≤ max 1
    (length (flat F))
nodes-root start end none =
    omega (arith, nodes_below-weight start (bound []), weight-bound [])
nodes-root start end (call f t A u B) =
    omega (
      arith,
      nodes_below-weight start (bound (items_of (call f t A u B))),
      weight-bound (items_of (call f t A u B)),
      weight-items_of (call f t A u B),
      some_bound (items_of (call f t A u B)) (omega arith),
    )

pub trees_are_bounded : TreesAreBounded
trees_are_bounded s legal =
    let F = (parse s.events).now in
    let calls = legal_calls s legal in
    let whole = tree-calls s F calls.events in
    let fine = legal_fine s legal in
    let few : enters (flat F) ≤ 4194304 = omega (
      arith,
      ap enters calls.events,
      enters-filter s.events,
      legal.calls,
    ) in
    let deep = deep_all 0 F (parse s.events).later (deep_parse s.events 0 s.start s.end fine) in
    let low = low_items F 0 deep few in
    let bounded = Low-bound 7 0 2047 (items_of F) (omega (arith, length-items_of F, few))
    (Low-weaker (8 * 0) (0 + 7) 2040 2047 (items_of F) (λ h q. omega arith) low) in
    let inner = bound_within_limits s.start s.end (items_of F) (FitBetween-items F s.start s.end calls.sound)
    legal.in_time
    (items_within F s.start s.end calls.sound legal.in_time) in
    let high = height_above-low s.start 0 2048 (bound (items_of F)) (omega arith)
    (Low-weaker 0 (0 + 1) 2047 2048 (bound (items_of F)) (λ h q. omega arith) bounded) in (
      subst IsWithinBounds (sym whole)
          (node_within 0 s.start s.end (bound (items_of F)) inner.0 legal.in_time
          (length-bound-le (length (items_of F)) (items_of F) (omega arith)) inner.1),
      omega (arith, ap height whole, high),
      omega (arith, ap nodes whole, nodes-root s.start s.end F, ap length calls.events),
    )
