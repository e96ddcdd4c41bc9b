-- How many nodes a store has that no stakes are on but those of the roots: those of the trees of the traces
-- that are open or pinned.
use Rattle.std.proofs.Common.{◌≡◌, ℕ, ◌+◌, ◌<◌, ◌≤◌, ◌&&◌, ◌||◌, Bool, true, false, not, cond, eqb, suc, zero, List, []}
use Rattle.std.proofs.Common.{◌∷◌, ◌++◌, length, map, take, get_or, find, Option, None, Some, inl, inr, refl, sym, ap}
use Rattle.std.proofs.Common.{ap₂, ◌∙◌, subst, arith, add-one, eqb-true, All}
use Rattle.std.specs.Prelude.{is_some, slice_get}
use Rattle.std.specs.List.{cons_option, filter_map, list_any}
use Rattle.std.specs.Option.{option_map, option_or, option_to_list}
use Rattle.std.proofs.Math.Seq.{take-suc}
use Rattle.std.proofs.lemmas.Bool.{and_parts, cases_Bool, or_cases, or_left, or_right}
use Rattle.std.proofs.lemmas.List.Elements.{All-contains}
use Rattle.std.proofs.lemmas.Option.{cond_some, get_or_from_slice_get, same_Some, slice_get_within}
use Rattle.list_lemmas.proofs.All.{All-found}
use Rattle.list_lemmas.proofs.Booleans.{one_if}
use Rattle.list_lemmas.proofs.Filters.{count_by-cons}
use Rattle.list_lemmas.proofs.Found.{given_from_first}
use Rattle.list_lemmas.proofs.Members.{Contains-from_IsAmong, IsAmong, IsAmong-flat_map, IsAmong-flat_map_cases}
use Rattle.list_lemmas.proofs.Members.{IsAmong-map, IsAmong-map_cases, length-le_from_own}
use Rattle.list_lemmas.proofs.Options.{given_some}
use Rattle.hall_history.specs.History.{Entry, EntryOf, IsLegalHistory, PublishedTree, is_open, published_as}
use Rattle.hall_history.specs.History.{Asked, Closed, Dropped, Opened, Published, Sealed, published_of}
use Rattle.hall_history.specs.Left.{published_if}
use Rattle.hall_history.specs.declared.asks.AskIds.{AskIds}
use Rattle.hall_history.specs.declared.asks.AskIds.TheVariants.{One, Two}
use Rattle.hall_history.specs.declared.left.Left.{Left}
use Rattle.hall_history.specs.declared.seat.PinView.{PinView}
use Rattle.hall_history.proofs.HistoryFronts.{published_stays}
use Rattle.hall_history.proofs.HistoryMore.{published_more}
use Rattle.hall_history.specs.Asks.{first_id, second_id}
use Rattle.node_key.specs.Keys.{different, different_subtrees, distinct, subtrees}
use Rattle.node_key.specs.Stands.{KeyAt}
use Rattle.node_key.specs.Tree.{Tree}
use Rattle.node_key.specs.declared.stake.Stake.{Stake}
use Rattle.node_store.proofs.TreesUnder.{tree_is}
use Rattle.node_store.specs.Given.{ever, stakes_of}
use Rattle.node_store.specs.Kept.{NodesKept}
use Rattle.node_store.specs.TreeUnder.{tree_under}
use Rattle.registry_core.proofs.KeptTraces.{kept_each, kept_id}
use Rattle.registry_core.proofs.OneTrace.{kept-some, open-kept}
use Rattle.registry_core.proofs.OpenRows.{open_count_told}
use Rattle.registry_core.proofs.ToldTracks.{none_past_slots}
use Rattle.registry_core.proofs.UsedByQueries.{HasUsers, named-first}
use Rattle.registry_core.specs.Asking.{times_asked}
use Rattle.registry_core.specs.Registry.{RegistryValue, has_id, kept_trace, open_count}
use Rattle.registry_core.specs.Roots.{roots_kept}
use Rattle.registry_core.specs.Standing.{AreTrees, KeepsTrack}
use Rattle.registry_core.specs.Trace.{IsSoundTrace, Trace, roots_in}
use Rattle.registry_core.specs.UsedBy.{times_named}
use Rattle.registry_core.specs.declared.track_root.TrackRoot.{TrackRoot}
use Rattle.store_laws.proofs.SubtreesCount.{as_many_nodes}
use Rattle.store_laws.proofs.SubtreesDifferent.{IsAmong-different, IsAmong-from_different, IsApart-different}
use Rattle.store_laws.specs.Store.{nodes_in}
use Rattle.plain_hall.specs.Holding.{is_kept_for, is_of_pin, left_with, published_kept}
use Rattle.plain_hall.specs.PlainSeat.{kept_view, queries_of}
use Rattle.plain_hall.specs.Rooted.{stakes_under, with_trees}
use Rattle.plain_hall.specs.Whole.{IsSoundHall, at_first}
use Rattle.plain_hall.specs.declared.kept_pin.KeptPin.{KeptPin}
use Rattle.plain_hall.specs.declared.root.Root.{Root}
use Rattle.plain_hall.proofs.PinFacts.{first_asked, second_asked}

-- ---- lists that have the same items

found_among : {X : Type 0} (p : X → Bool) (xs : List X) (x : X) → find p xs ≡ Some x → IsAmong xs x
found_among p [] x found = absurd cc
found_among p (y ∷ ys) x found = elim (p y) as (λ b. cond b (Some y) (find p ys) ≡ Some x → IsAmong (y ∷ ys) x) [
  | true ↦ λ here. inl (same_Some y x here)
  | false ↦ λ later. inr (found_among p ys x later)
] found

given_among : {X Y : Type 0} (h : X → Option Y) (xs : List X) (i : ℕ) (x : X) (y : Y) → slice_get xs i ≡ Some x
    → h x ≡ Some y → IsAmong (filter_map h xs) y
given_among h [] i x y at gives = absurd cc
given_among {X} {Y} h (z ∷ zs) zero x y at gives =
    let here : h z ≡ Some y = ap h (same_Some z x at) ∙ gives in
    subst (λ (o : Option Y). IsAmong (cons_option o (filter_map h zs)) y) (sym here) (inl refl)
given_among {X} {Y} h (z ∷ zs) (suc i) x y at gives =
    let rest = given_among h zs i x y at gives in
    elim (h z) as (λ o. IsAmong (cons_option o (filter_map h zs)) y) [ None ↦ rest | Some w ↦ inr rest ]

among_given : {X Y : Type 0} (h : X → Option Y) (xs : List X) (y : Y) → IsAmong (filter_map h xs) y
    → (i : ℕ) × (x : X) × (slice_get xs i ≡ Some x) × (h x ≡ Some y)
among_given h [] y there = absurd there
among_given {X} {Y} h (z ∷ zs) y there = by (h z) refl (λ rest. among_given h zs y rest) there
  where
    by : (o : Option Y) → h z ≡ o
        → (IsAmong (filter_map h zs) y → (i : ℕ) × (x : X) × (slice_get zs i ≡ Some x) × (h x ≡ Some y))
        → IsAmong (cons_option o (filter_map h zs)) y
        → (i : ℕ) × (x : X) × (slice_get (z ∷ zs) i ≡ Some x) × (h x ≡ Some y)
    by None is later rest = let (i, x, at, gives) = later rest in (suc i, x, at, gives)
    by (Some w) is later (inl same) = (zero, z, refl, is ∙ ap Some same)
    by (Some w) is later (inr rest) = let (i, x, at, gives) = later rest in (suc i, x, at, gives)

-- no more different subtrees, where each tree is among others
fewer_subtrees : (xs ys : List Tree) → ((t : Tree) → IsAmong xs t → IsAmong ys t) → distinct xs ≤ distinct ys
unfolding different_subtrees
fewer_subtrees xs ys into = length-le_from_own (λ (t u : Tree). t ≡ u)
    (different (Rattle.std.specs.List.flat_map subtrees xs)) (different (Rattle.std.specs.List.flat_map subtrees ys))
    (IsApart-different (Rattle.std.specs.List.flat_map subtrees xs))
    (λ t h.
    let (x, among, below) = IsAmong-flat_map_cases subtrees xs t
    (IsAmong-from_different (Rattle.std.specs.List.flat_map subtrees xs) t h) in (
      t,
      IsAmong-different (Rattle.std.specs.List.flat_map subtrees ys) t
          (IsAmong-flat_map subtrees ys x t (into x among) below),
      refl,
    )) (λ t u v a b. a ∙ sym b)

-- ---- roots and slots

-- a root stands in a slot
root_slot : (slots : List (Option TrackRoot)) (n : ℕ) → IsAmong (roots_in slots) n
    → (k : ℕ) × (q : TrackRoot) × (slice_get slots k ≡ Some (Some q)) × (q.root ≡ n)
root_slot [] n there = absurd there
root_slot (None ∷ slots) n there = let (k, q, at, is) = root_slot slots n there in (suc k, q, at, is)
root_slot (Some q ∷ slots) n (inl same) = (zero, q, refl, same)
root_slot (Some q ∷ slots) n (inr there) = let (k, p, at, is) = root_slot slots n there in (suc k, p, at, is)

slot_root : (slots : List (Option TrackRoot)) (k : ℕ) (q : TrackRoot) → slice_get slots k ≡ Some (Some q)
    → IsAmong (roots_in slots) q.root
slot_root slots k q at = given_among (option_map (λ (r : TrackRoot). r.root)) slots k (Some q) q.root at refl

-- ---- entries and tests

passes_test : (test : ℕ → Bool) (id track : ℕ) (e : Entry) (p : PublishedTree) → test id ≡ true
    → published_as id track e ≡ Some p → published_if test e ≡ Some p
passes_test test id track (Published other which q) p passes gives =
    let both = cond_some (eqb other id && eqb which track) q p gives in
    let same : other ≡ id = eqb-true other id (and_parts (eqb other id) (eqb which track) both.0).0 in
    let test_other : test other ≡ true = ap test same ∙ passes in
    ap (λ b. cond b (Some q) None) test_other ∙ ap Some both.1
passes_test test id track (Opened other info) p passes gives = absurd cc
passes_test test id track (Sealed other) p passes gives = absurd cc
passes_test test id track (Dropped other) p passes gives = absurd cc
passes_test test id track (Closed other) p passes gives = absurd cc
passes_test test id track Asked p passes gives = absurd cc

-- the entry publishes it as a track of a trace that passes
record IsPassed (test : ℕ → Bool) (e : Entry) (p : PublishedTree) : Type 0 where
  id : ℕ
  track : ℕ
  is : e ≡ Published id track p
  passes : test id ≡ true

passed_test : (test : ℕ → Bool) (e : Entry) (p : PublishedTree) → published_if test e ≡ Some p → IsPassed test e p
passed_test test (Published id track q) p gives =
    let both = cond_some (test id) q p gives in
    record { id = id; track = track; is = ap (Published id track) both.1; passes = both.0 }
passed_test test (Opened other info) p gives = absurd cc
passed_test test (Sealed other) p gives = absurd cc
passed_test test (Dropped other) p gives = absurd cc
passed_test test (Closed other) p gives = absurd cc
passed_test test Asked p gives = absurd cc

-- what an entry of a legal history publishes is what is published as its track
entry_told : (entries : List Entry) (i id track : ℕ) (p : PublishedTree) → IsLegalHistory entries
    → slice_get entries i ≡ Some (Published id track p) → published_of entries id track ≡ Some p
entry_told entries i id track p legal at =
    let e : Entry = Published id track p in
    let none : published_of (take i entries) id track ≡ None = (legal i e at).1 in
    let front : take (suc i) entries ≡ take i entries ++ e ∷ [] =
    take-suc entries i e (slice_get_within entries i e at)
    ∙ ap (λ x. take i entries ++ x ∷ []) (get_or_from_slice_get entries i e e at) in
    let here : (eqb id id && eqb track track) ≡ true =
    ap₂ ◌&&◌ (Rattle.std.proofs.Common.eq-eqb id id refl) (Rattle.std.proofs.Common.eq-eqb track track refl) in
    published_stays entries (suc i) id track p (ap (λ (es : List Entry). published_of es id track) front
    ∙ published_more (take i entries) e id track
    ∙ ap₂ (λ o b. option_or o (cond b (Some p) None)) none here)

-- ---- which traces are kept

-- the queries of a pin name its traces
named_pinned : (o : Option KeptPin) (id : ℕ) → 0 < times_named (queries_of o) id
    → list_any (is_of_pin id) (map kept_view (option_to_list o)) ≡ true
named_pinned None id named = absurd (omega (arith, named))
named_pinned (Some p) id named = or_left (is_of_pin id (kept_view p)) false (by p.ids named)
  where
    by : (ids : AskIds) → 0 < times_named (ids ∷ []) id → (eqb (first_id ids) id || eqb (second_id ids) id) ≡ true
    by (One a) some = elim (cases_Bool (eqb a id)) [
      | inl hit ↦ or_left (eqb a id) (eqb a id) hit
      | inr miss ↦ absurd (omega (
        arith,
        some,
        named-first (One a) [] id,
        count_by-cons (λ x. eqb x id) a [],
        ap one_if miss,
      ))
    ]
    by (Two a b) some = elim (cases_Bool (eqb a id)) [
      | inl hit ↦ or_left (eqb a id) (eqb b id) hit
      | inr miss ↦ elim (cases_Bool (eqb b id)) [
        | inl other ↦ or_right (eqb a id) (eqb b id) other
        | inr none ↦ absurd (omega (
          arith,
          some,
          named-first (Two a b) [] id,
          count_by-cons (λ x. eqb x id) a (b ∷ []),
          count_by-cons (λ x. eqb x id) b [],
          ap one_if miss,
          ap one_if none,
        ))
      ]
    ]

pinned_named : (o : Option KeptPin) (id : ℕ) → list_any (is_of_pin id) (map kept_view (option_to_list o)) ≡ true
    → 0 < times_named (queries_of o) id
pinned_named None id pinned = absurd cc
pinned_named (Some p) id pinned = elim (or_cases (is_of_pin id (kept_view p)) false pinned) [
  | inl here ↦
      let asked : 0 < times_asked p.ids id = elim (or_cases (eqb (first_id p.ids) id) (eqb (second_id p.ids) id) here) [
        | inl first ↦ subst (λ (n : ℕ). 0 < times_asked p.ids n) (eqb-true (first_id p.ids) id first)
            (first_asked p.ids)
        | inr second ↦ subst (λ (n : ℕ). 0 < times_asked p.ids n) (eqb-true (second_id p.ids) id second)
            (second_asked p.ids)
      ] in
      omega (arith, asked, named-first p.ids [] id)
  | inr none ↦ absurd cc
]

-- a kept trace is open or pinned
kept_passes : (s : NodesKept) (r : RegistryValue) (entries : List (EntryOf Root)) (pin : Option KeptPin)
    (t : Trace) → IsSoundHall s r entries (queries_of pin) → kept_trace r.traces t.id ≡ Some t
    → is_kept_for (map kept_view (option_to_list pin)) (with_trees (ever s.given) entries) t.id ≡ true
kept_passes s r entries pin t whole kept = by t.closing refl
  where
    seen : List Entry
    seen = with_trees (ever s.given) entries

    by : (b : Bool) → t.closing ≡ b
        → is_kept_for (map kept_view (option_to_list pin)) seen t.id ≡ true
    by true is =
        let sound = All-found (IsSoundTrace r.place) (has_id t.id) r.traces t whole.stands.sound.each kept in
        let has = All-found (HasUsers (queries_of pin)) (has_id t.id) r.traces t whole.used.users kept in
        or_right (is_open seen t.id) _ (named_pinned pin t.id (omega (arith, has, sound.used is)))
    by false is = or_left (is_open seen t.id) _ (whole.stands.opens t.id
        ∙ ap is_some (open-kept r.traces t.id t whole.stands.sound.rising kept
        ∙ ap (λ b. cond (not b) (Some t) None) is))

-- and a trace that is open or pinned is kept
passes_kept : (s : NodesKept) (r : RegistryValue) (entries : List (EntryOf Root)) (pin : Option KeptPin) (id : ℕ)
    → IsSoundHall s r entries (queries_of pin)
    → is_kept_for (map kept_view (option_to_list pin)) (with_trees (ever s.given) entries) id ≡ true
    → is_some (kept_trace r.traces id) ≡ true
passes_kept s r entries pin id whole passes = elim (or_cases (is_open (with_trees (ever s.given) entries) id)
    (list_any (is_of_pin id) (map kept_view (option_to_list pin))) passes) [
      | inl on ↦ kept-some r.traces id (sym on ∙ whole.stands.opens id)
      | inr pinned ↦ whole.used.kept id (pinned_named pin id pinned)
    ]

-- ---- the trees of roots are those that are published

trees_of_roots : (s : NodesKept) (r : RegistryValue) (entries : List (EntryOf Root)) (pin : Option KeptPin)
    (tree : Tree) → IsSoundHall s r entries (queries_of pin)
    → IsAmong (map (λ (x : Stake). x.tree) (stakes_under (ever s.given) (roots_kept r.traces))) tree
    → IsAmong (map (λ (p : PublishedTree). p.tree) (published_kept (map kept_view (option_to_list pin))
    (with_trees (ever s.given) entries))) tree
unfolding published_of
trees_of_roots s r entries pin tree whole there =
    let key_at = ever s.given in
    let seen = with_trees key_at entries in
    let pins = map kept_view (option_to_list pin) in
    let (x, among, of_x) = IsAmong-map_cases (λ (x : Stake). x.tree) (stakes_under key_at (roots_kept r.traces)) tree
    there in
    let (n, root, of_n) = IsAmong-map_cases
    (λ m. Rattle.node_key.specs.Stakes.stake m (tree_under key_at m)) (roots_kept r.traces) x among in
    let (t, of_traces, in_t) = IsAmong-flat_map_cases (λ (t : Trace). roots_in t.tracks) r.traces n root in
    let kept : kept_trace r.traces t.id ≡ Some t = All-contains (λ (t : Trace). kept_trace r.traces t.id ≡ Some t)
    r.traces t (kept_each r.traces whole.stands.sound.rising) (Contains-from_IsAmong r.traces t of_traces) in
    let (k, q, at, is) = root_slot t.tracks n in_t in
    let (what, (begins, stands), since, by) = (whole.stands.traces t.id t kept).tracks k (Some q) at in
    let told : published_of seen t.id k ≡ Some what = published_stays seen _ t.id k what by.from in
    let (i, e, at_i, gives) = given_from_first (published_as t.id k) seen what told in
    let passes = passes_test (is_kept_for pins seen) t.id k e what
    (kept_passes s r entries pin t whole kept) gives in
    let same : what.tree ≡ tree = sym (tree_is key_at q.root what.tree stands)
    ∙ ap (tree_under key_at) is ∙ ap (λ (y : Stake). y.tree) of_n ∙ of_x in
    subst (λ (u : Tree). IsAmong (map (λ (p : PublishedTree). p.tree) (published_kept pins seen)) u) same
    (IsAmong-map (λ (p : PublishedTree). p.tree) (published_kept pins seen) what
    (given_among (published_if (is_kept_for pins seen)) seen i e what at_i passes))

roots_of_trees : (s : NodesKept) (r : RegistryValue) (entries : List (EntryOf Root)) (pin : Option KeptPin)
    (tree : Tree) → IsSoundHall s r entries (queries_of pin)
    → IsAmong (map (λ (p : PublishedTree). p.tree) (published_kept (map kept_view (option_to_list pin))
    (with_trees (ever s.given) entries))) tree
    → IsAmong (map (λ (x : Stake). x.tree) (stakes_under (ever s.given) (roots_kept r.traces))) tree
roots_of_trees s r entries pin tree whole there =
    let (p, among, of_p) = IsAmong-map_cases (λ (p : PublishedTree). p.tree) (published_kept pins seen) tree there in
    let (i, e, at, gives) = among_given (published_if (is_kept_for pins seen)) seen p among in
    let passed = passed_test (is_kept_for pins seen) e p gives in
    let told : published_of seen passed.id passed.track ≡ Some p = entry_told seen i passed.id passed.track p
    whole.legal (at ∙ ap Some passed.is) in
    let (t, kept) = given_some (kept_trace r.traces passed.id)
    (passes_kept s r entries pin passed.id whole passed.passes) in
    let own : t.id ≡ passed.id = kept_id r.traces passed.id t kept in
    let told_own : published_of seen t.id passed.track ≡ Some p =
    ap (λ n. published_of seen n passed.track) own ∙ told in
    let (q, at_slot, stands) = by_slot t passed.track p kept own told_own (slice_get t.tracks passed.track) refl in
    let root = IsAmong-flat_map (λ (t : Trace). roots_in t.tracks) r.traces t q.root
    (found_among (has_id passed.id) r.traces t kept) (slot_root t.tracks passed.track q at_slot) in
    subst (λ (u : Tree). IsAmong (map (λ (x : Stake). x.tree) (stakes_under key_at (roots_kept r.traces))) u)
    (stands ∙ of_p)
    (IsAmong-map (λ (x : Stake). x.tree) (stakes_under key_at (roots_kept r.traces)) _
    (IsAmong-map (λ m. Rattle.node_key.specs.Stakes.stake m (tree_under key_at m)) (roots_kept r.traces) q.root root))
  where
    key_at : KeyAt
    key_at = ever s.given

    seen : List Entry
    seen = with_trees key_at entries

    pins : List PinView
    pins = map kept_view (option_to_list pin)

    by_track : (t : Trace) (track : ℕ) (p : PublishedTree) (q : TrackRoot)
        → KeepsTrack (AreTrees key_at) at_first seen t.id track (Some q) → published_of seen t.id track ≡ Some p
        → tree_under key_at q.root ≡ p.tree
    by_track t track p q (what, (begins, stands), since, by) told =
        let same : what ≡ p = same_Some what p (sym (published_stays seen _ t.id track what by.from) ∙ told) in
        tree_is key_at q.root what.tree stands ∙ ap (λ (w : PublishedTree). w.tree) same

    by_slot : (t : Trace) (track : ℕ) (p : PublishedTree) {id : ℕ} → kept_trace r.traces id ≡ Some t → t.id ≡ id
        → published_of seen t.id track ≡ Some p → (o : Option (Option TrackRoot)) → slice_get t.tracks track ≡ o
        → (q : TrackRoot) × (slice_get t.tracks track ≡ Some (Some q)) × (tree_under key_at q.root ≡ p.tree)
    by_slot t track p {id} kept own told None at =
        let past = Rattle.list_lemmas.proofs.Positions.past_end t.tracks track at in
        let none = none_past_slots (AreTrees key_at) at_first seen t track (whole.stands.traces id t kept) past in
        let no : ◌≡◌ {A = Option PublishedTree} None (Some p) = sym none ∙ told in
        absurd cc
    by_slot t track p {id} kept own told (Some None) at =
        let none : published_of seen t.id track ≡ None = (whole.stands.traces id t kept).tracks track None at in
        let no : ◌≡◌ {A = Option PublishedTree} None (Some p) = sym none ∙ told in
        absurd cc
    by_slot t track p {id} kept own told (Some (Some q)) at =
        (q, at, by_track t track p q ((whole.stands.traces id t kept).tracks track (Some q) at) told)

-- ---- what is left

pub left_counted : (s : NodesKept) (r : RegistryValue) (entries : List (EntryOf Root)) (pin : Option KeptPin)
    (traces nodes : ℕ) → IsSoundHall s r entries (queries_of pin) → stakes_of s.given ≡ []
    → traces ≡ open_count r.traces → nodes ≡ length (nodes_in s.rooms)
    → ◌≡◌ {A = Left} (record { traces = traces; nodes = nodes })
    (left_with (map kept_view (option_to_list pin)) (with_trees (ever s.given) entries))
left_counted s r entries pin traces nodes whole none open_traces counted =
    let seen = with_trees (ever s.given) entries in
    let pins = map kept_view (option_to_list pin) in
    let roots = map (λ (x : Stake). x.tree) (stakes_under (ever s.given) (roots_kept r.traces)) in
    let trees = map (λ (p : PublishedTree). p.tree) (published_kept pins seen) in
    let many : nodes ≡ distinct roots = counted ∙ as_many_nodes s.rooms _ whole.roots
    ∙ ap (λ (xs : List Stake). distinct (map (λ (x : Stake). x.tree)
    (xs ++ stakes_under (ever s.given) (roots_kept r.traces)))) none in
    let same : nodes ≡ distinct trees = omega (
      arith,
      many,
      fewer_subtrees roots trees (λ t there. trees_of_roots s r entries pin t whole there),
      fewer_subtrees trees roots (λ t there. roots_of_trees s r entries pin t whole there),
    ) in
    let on = open_traces ∙ open_count_told (AreTrees (ever s.given)) at_first r seen whole.stands in
    λ i. record { traces = on i; nodes = same i }
