-- Calls, items and events that are moved to a later time.
use Rattle.std.proofs.Common.{◌≡◌, ℕ, ◌+◌, ◌-◌, ◌<◌, ◌≤◌, zero, suc, List, [], ◌∷◌, ◌++◌, length}
use Rattle.std.proofs.Common.{take, drop, map, refl, sym, ap, subst}
use Rattle.std.proofs.Common.{◌∙◌, arith, length-take, Bool, true}
use Rattle.std.proofs.Common.{false, cond, eqb, inl, inr, fold, filter, Some, slice_get, Option}
use Rattle.std.proofs.Common.{◌^◌}
use Rattle.std.proofs.lemmas.Bool.{cases_lt}
use Rattle.std.proofs.lemmas.List.{length-map}
use Rattle.std.specs.List.Sorted.{IsNonDecreasing}
use Rattle.std.proofs.lemmas.List.{map-append}
use Rattle.std.proofs.lemmas.Option.{none-some}
use Rattle.list_lemmas.proofs.InOrder.{IsNonDecreasing-map_plus}
use Rattle.trace_base.specs.Stream.{time_of, is_enter, stack_step, stack_after, IsLegal}
use Rattle.trace_base.specs.declared.stream.Event.{Event}
use Rattle.trace_base.specs.declared.stream.Event.TheVariants.{Enter, Leave}
use Rattle.trace_base.specs.declared.stream.TrackStream.{TrackStream}
use Rattle.node_key.specs.Tree.{Tree, Kids, no_kids, kid}
use Rattle.node_key.specs.Branches.{kids_of}
use Rattle.node_key.specs.Items.{end_of, branches_from, node}
use Rattle.node_key.specs.declared.item.Item.{Item}
use Rattle.node_key.specs.declared.tree.Branch.{Branch}
use Rattle.node_key.specs.Bound.{group, grouped, bound, stop_of}
use Rattle.node_key.specs.Events.{events, events_below, enclosed}
use Rattle.call_tree.specs.Laws.{moved, since}
use Rattle.call_tree.proofs.Chunks.{grouped-some, grouped-none, length-grouped, by_chunks, bound-few}
use Rattle.call_tree.proofs.Chunks.{bound-more}
use Rattle.call_tree.proofs.Forest.{Forest, none, call, flat, items_of}

enclosed-moved : (group : Bool) (func start end a : ℕ) (es : List Event)
    → cond group (map (moved a) es) (Enter func (start + a) ∷ map (moved a) es ++ Leave (end + a) ∷ [])
    ≡ map (moved a) (cond group es (Enter func start ∷ es ++ Leave end ∷ []))
enclosed-moved true func start end a es = refl
enclosed-moved false func start end a es =
    ap (λ (l : List Event). Enter func (start + a) ∷ l) (sym (map-append (moved a) es (Leave end ∷ [])))

-- the events of moved kids are the moved events
pub events_below-moved : (a from : ℕ) (k : Kids) → events_below (from + a) k ≡ map (moved a)
    (events_below from k)
events_below-moved a from no_kids = refl
events_below-moved a from (kid gap func dur inner more) =
    let begins : from + a + gap ≡ from + gap + a = omega arith in
    let ends : from + gap + a + dur ≡ from + gap + dur + a = omega arith in
    ap (λ (n : ℕ). enclosed func n (n + dur) (events_below n inner) ++ events_below (n + dur) more) begins
    ∙ ap (λ (n : ℕ). enclosed func (from + gap + a) n (events_below (from + gap + a) inner)
    ++ events_below n more) ends
    ∙ ap (λ (es : List Event). enclosed func (from + gap + a) (from + gap + dur + a) es
    ++ events_below (from + gap + dur + a) more) (events_below-moved a (from + gap) inner)
    ∙ ap (λ (es : List Event). enclosed func (from + gap + a) (from + gap + dur + a)
    (map (moved a) (events_below (from + gap) inner)) ++ es)
    (events_below-moved a (from + gap + dur) more)
    ∙ ap (λ (es : List Event). es ++ map (moved a) (events_below (from + gap + dur) more))
    (enclosed-moved (eqb func 0) func (from + gap) (from + gap + dur) a (events_below (from + gap) inner))
    ∙ sym (map-append (moved a) (enclosed func (from + gap) (from + gap + dur)
    (events_below (from + gap) inner)) (events_below (from + gap + dur) more))

-- the events of a tree that begins later
pub events-moved : (t : Tree) (a at : ℕ) → events t (at + a) ≡ map (moved a) (events t at)
unfolding events
events-moved t a at =
    let ends : at + a + t.dur ≡ at + t.dur + a = omega arith in
    ap (λ (n : ℕ). enclosed t.func (at + a) n (events_below (at + a) t.kids)) ends
    ∙ ap (λ (es : List Event). enclosed t.func (at + a) (at + t.dur + a) es) (events_below-moved a at t.kids)
    ∙ enclosed-moved (eqb t.func 0) t.func at (at + t.dur) a (events_below at t.kids)

-- an item that begins later
abbrev pub later : ℕ → Item → Item
later a i = record { at = i.at + a; tree = i.tree }

branches-later : (a from : ℕ) (is : List Item) → branches_from (from + a) (map (later a) is) ≡ branches_from
    from is
branches-later a from [] = refl
branches-later a from (i ∷ is) =
    let gap : i.at + a - (from + a) ≡ i.at - from = omega arith in
    let ends : i.at + a + i.tree.dur ≡ end_of i + a = omega arith in
    ap (λ (n : ℕ). let b : Branch = record { gap = n; tree = i.tree } in b
    ∷ branches_from (i.at + a + i.tree.dur) (map (later a) is)) gap
    ∙ ap (λ (n : ℕ). let b : Branch = record { gap = i.at - from; tree = i.tree } in b
    ∷ branches_from n (map (later a) is)) ends
    ∙ ap (λ (bs : List Branch). let b : Branch = record { gap = i.at - from; tree = i.tree } in b ∷ bs)
    (branches-later a (end_of i) is)

-- a node over items that begin later is the node over the items
pub node-later : (func start end a : ℕ) (is : List Item) → node func (start + a) (end + a) (map (later a) is)
    ≡ node func start end is
node-later func start end a is =
    let dur : end + a - (start + a) ≡ end - start = omega arith in
    ap (λ (n : ℕ). let t : Tree = record {
      func = func;
      dur = n;
      kids = kids_of (branches_from (start + a) (map (later a) is));
    } in t) dur
    ∙ ap (λ (bs : List Branch). let t : Tree = record { func = func; dur = end - start; kids = kids_of bs }
    in t) (branches-later a start is)

stop_of-later : (a : ℕ) (i : Item) (is : List Item) → stop_of (map (later a) (i ∷ is)) ≡ stop_of (i ∷ is) + a
stop_of-later a i [] = omega arith
stop_of-later a i (j ∷ is) = stop_of-later a j is

group-later : (a : ℕ) (c : List Item) → 0 < length c → group (map (later a) c) ≡ later a (group c)
group-later a [] some = absurd (omega arith)
group-later a (i ∷ []) some = refl
group-later a (i ∷ j ∷ is) some =
    ap (λ (n : ℕ). let x : Item = record {
      at = i.at
          + a;
      tree = node 0 (i.at + a) n (map (later a) (i ∷ j ∷ is));
    } in x) (stop_of-later a i (j ∷ is))
    ∙ ap (λ (t : Tree). let x : Item = record { at = i.at + a; tree = t } in x)
    (node-later 0 i.at (stop_of (i ∷ j ∷ is)) a (i ∷ j ∷ is))

map-take : (f : Item → Item) (n : ℕ) (xs : List Item) → map f (take n xs) ≡ take n (map f xs)
map-take f zero xs = refl
map-take f (suc n) [] = refl
map-take f (suc n) (x ∷ xs) = ap (λ (l : List Item). f x ∷ l) (map-take f n xs)

map-drop : (f : Item → Item) (n : ℕ) (xs : List Item) → map f (drop n xs) ≡ drop n (map f xs)
map-drop f zero xs = refl
map-drop f (suc n) [] = refl
map-drop f (suc n) (x ∷ xs) = map-drop f n xs

grouped-later : (a : ℕ) (is : List Item) → grouped (map (later a) is) ≡ map (later a) (grouped is)
grouped-later a is =
    by_chunks (λ is. grouped (map (later a) is) ≡ map (later a) (grouped is))
    (grouped-none [] refl ∙ ap (map (later a)) (sym (grouped-none [] refl)))
    (λ is some more. grouped-some (map (later a) is) (omega (arith, some, length-map is (later a)))
    ∙ ap (λ (c : List Item). group c ∷ grouped (drop 8 (map (later a) is))) (sym (map-take (later a) 8 is))
    ∙ ap (λ (l : List Item). group (map (later a) (take 8 is)) ∷ grouped l) (sym (map-drop (later a) 8 is))
    ∙ ap (λ (i : Item). i ∷ grouped (map (later a) (drop 8 is)))
    (group-later a (take 8 is) (omega (arith, some, length-take 8 is)))
    ∙ ap (λ (l : List Item). later a (group (take 8 is)) ∷ l) more ∙ ap (map (later a))
    (sym (grouped-some is some)))
    (length is) is (omega arith)

bound-later : (a n : ℕ) (is : List Item) → length is ≤ n → bound (map (later a) is) ≡ map (later a) (bound is)
bound-later a zero is few =
    bound-few (map (later a) is) (omega (arith, few, length-map is (later a))) ∙ ap (map (later a))
    (sym (bound-few is (omega (arith, few))))
bound-later a (suc n) is few =
    elim (cases_lt 8 (length is)) [
      | inl more ↦ bound-more (map (later a) is) (omega (arith, more, length-map is (later a)))
          ∙ ap bound (grouped-later a is) ∙ bound-later a n (grouped is)
          (omega (arith, few, length-grouped is))
          ∙ ap (map (later a)) (sym (bound-more is more))
      | inr short ↦ bound-few (map (later a) is) (omega (arith, short, length-map is (later a))) ∙ ap
          (map (later a)) (sym (bound-few is short))
    ]

-- calls that begin later
abbrev pub moved_calls : ℕ → Forest → Forest
moved_calls a none = none
moved_calls a (call f t A u B) = call f (t + a) (moved_calls a A) (u + a) (moved_calls a B)

-- calls that begin earlier
abbrev pub lowered : ℕ → Forest → Forest
lowered a none = none
lowered a (call f t A u B) = call f (t - a) (lowered a A) (u - a) (lowered a B)

pub flat-moved : (a : ℕ) (F : Forest) → flat (moved_calls a F) ≡ map (moved a) (flat F)
flat-moved a none = refl
flat-moved a (call f t A u B) =
    ap (λ (es : List Event). Enter f (t + a) ∷ es ++ Leave (u + a) ∷ flat (moved_calls a B)) (flat-moved a A)
    ∙ ap (λ (es : List Event). Enter f (t + a) ∷ map (moved a) (flat A) ++ Leave (u + a) ∷ es)
    (flat-moved a B)
    ∙ ap (λ (es : List Event). Enter f (t + a) ∷ es) (sym (map-append (moved a) (flat A) (Leave u ∷ flat B)))

flat-lowered : (a : ℕ) (F : Forest) → flat (lowered a F) ≡ map (since a) (flat F)
flat-lowered a none = refl
flat-lowered a (call f t A u B) =
    ap (λ (es : List Event). Enter f (t - a) ∷ es ++ Leave (u - a) ∷ flat (lowered a B)) (flat-lowered a A)
    ∙ ap (λ (es : List Event). Enter f (t - a) ∷ map (since a) (flat A) ++ Leave (u - a) ∷ es)
    (flat-lowered a B)
    ∙ ap (λ (es : List Event). Enter f (t - a) ∷ es) (sym (map-append (since a) (flat A) (Leave u ∷ flat B)))

pub back-moved : (a : ℕ) (es : List Event) → map (since a) (map (moved a) es) ≡ es
back-moved a [] = refl
back-moved a (Enter f t ∷ es) =
    let same : t + a - a ≡ t = omega arith in
    ap (λ (n : ℕ). Enter f n ∷ map (since a) (map (moved a) es)) same ∙ ap (λ (l : List Event). Enter f t ∷ l)
    (back-moved a es)
back-moved a (Leave t ∷ es) =
    let same : t + a - a ≡ t = omega arith in
    ap (λ (n : ℕ). Leave n ∷ map (since a) (map (moved a) es)) same ∙ ap (λ (l : List Event). Leave t ∷ l)
    (back-moved a es)

-- events that are those of calls when they are moved are those of calls
pub lowered-flat : (a : ℕ) (es : List Event) (F : Forest) → map (moved a) es ≡ flat F
    → es ≡ flat (lowered a F)
lowered-flat a es F e = sym (back-moved a es) ∙ ap (map (since a)) e ∙ sym (flat-lowered a F)

pub items-moved : (a : ℕ) (F : Forest) → items_of (moved_calls a F) ≡ map (later a) (items_of F)
items-moved a none = refl
items-moved a (call f t A u B) =
    let inner : bound (items_of (moved_calls a A)) ≡ map (later a) (bound (items_of A)) =
    ap bound (items-moved a A) ∙ bound-later a (length (items_of A)) (items_of A) (omega arith) in
    ap (λ (is : List Item). let i : Item = record { at = t + a; tree = node f (t + a) (u + a) is } in i
    ∷ items_of (moved_calls a B)) inner
    ∙ ap (λ (x : Tree). let i : Item = record { at = t + a; tree = x } in i ∷ items_of (moved_calls a B))
    (node-later f t u a (bound (items_of A)))
    ∙ ap (λ (is : List Item). let i : Item = record { at = t + a; tree = node f t u (bound (items_of A)) }
    in i ∷ is) (items-moved a B)

-- the tree over moved calls is that over the calls
pub tree-moved : (a dur : ℕ) (F : Forest)
    → node 0 (0 + a) (dur + a) (bound (items_of (moved_calls a F))) ≡ node 0 0 dur (bound (items_of F))
tree-moved a dur F =
    ap (λ (is : List Item). node 0 (0 + a) (dur + a) is)
    (ap bound (items-moved a F) ∙ bound-later a (length (items_of F)) (items_of F) (omega arith))
    ∙ node-later 0 0 dur a (bound (items_of F))

-- moving changes no stack
stack-moved : (a : ℕ) (es : List Event) (stack : List ℕ) → fold stack_step stack (map (moved a) es) ≡ fold
    stack_step stack es
stack-moved a [] stack = refl
stack-moved a (Enter f t ∷ es) stack = stack-moved a es (stack ++ f ∷ [])
stack-moved a (Leave t ∷ es) stack = stack-moved a es (take (length stack - 1) stack)

take-moved : (a i : ℕ) (es : List Event) → take i (map (moved a) es) ≡ map (moved a) (take i es)
take-moved a zero es = refl
take-moved a (suc i) [] = refl
take-moved a (suc i) (e ∷ es) = ap (λ (l : List Event). moved a e ∷ l) (take-moved a i es)

front-moved : (a i : ℕ) (es : List Event) → fold stack_step [] (take i (map (moved a) es)) ≡ fold stack_step
    [] (take i es)
front-moved a i es = ap (λ (l : List Event). fold stack_step [] l) (take-moved a i es) ∙ stack-moved a
    (take i es) []

enter_leave : {f t u : ℕ} → Some (Enter f t) ≡ Some (Leave u) → ⊥
enter_leave e = cc

leave_enter : {f t u : ℕ} → Some (Leave u) ≡ Some (Enter f t) → ⊥
leave_enter e = cc

slice_moved : (a i : ℕ) (es : List Event) (e : Event) → slice_get es i ≡ Some e
    → slice_get (map (moved a) es) i ≡ Some (moved a e)
slice_moved a i [] e h = absurd (none-some _ h)
slice_moved a zero (x ∷ xs) e h = ap (λ (y : Event). let o : Option Event = Some (moved a y) in o)
    (let same : x ≡ e = cc in same)
slice_moved a (suc i) (x ∷ xs) e h = slice_moved a i xs e h

-- which event a moved one comes from
leave-moved : (a i t : ℕ) (es : List Event) → slice_get (map (moved a) es) i ≡ Some (Leave t) → (u : ℕ)
    × (slice_get es i ≡ Some (Leave u))
leave-moved a i t [] e = absurd (none-some _ e)
leave-moved a zero t (Enter f u ∷ es) e = absurd (enter_leave e)
leave-moved a zero t (Leave u ∷ es) e = (u, refl)
leave-moved a (suc i) t (e' ∷ es) e = leave-moved a i t es e

enter-moved : (a i f t : ℕ) (es : List Event) → slice_get (map (moved a) es) i ≡ Some (Enter f t) → (u : ℕ)
    × (slice_get es i ≡ Some (Enter f u))
enter-moved a i f t [] e = absurd (none-some _ e)
enter-moved a zero f t (Enter g u ∷ es) e =
    (u, ap (λ (n : ℕ). let o : Option Event = Some (Enter n u) in o) (let same : g ≡ f = cc in same))
enter-moved a zero f t (Leave u ∷ es) e = absurd (leave_enter e)
enter-moved a (suc i) f t (e' ∷ es) e = enter-moved a i f t es e

calls-moved : (a : ℕ) (es : List Event) → length (filter is_enter (map (moved a) es)) ≡ length
    (filter is_enter es)
calls-moved a [] = refl
calls-moved a (Enter f t ∷ es) = omega (arith, calls-moved a es)
calls-moved a (Leave t ∷ es) = calls-moved a es

-- the times of a stream of moved events
moments-moved : (a dur : ℕ) (es : List Event)
    → a ∷ map time_of (map (moved a) es) ++ (dur + a) ∷ [] ≡ map (λ n. n + a) (0 ∷ map time_of es ++ dur ∷ [])
moments-moved a dur es =
    let zero_on : a ≡ 0 + a = omega arith in
    ap (λ (n : ℕ). n ∷ map time_of (map (moved a) es) ++ (dur + a) ∷ []) zero_on ∙ ap (λ (l : List ℕ). (0 + a)
    ∷ l) (times es)
  where
    times : (es : List Event) → map time_of (map (moved a) es) ++ (dur + a)
        ∷ [] ≡ map (λ n. n + a) (map time_of es ++ dur ∷ [])
    times [] = refl
    times (Enter f t ∷ es) = ap (λ (l : List ℕ). (t + a) ∷ l) (times es)
    times (Leave t ∷ es) = ap (λ (l : List ℕ). (t + a) ∷ l) (times es)

-- a legal stream stays one when it is moved to another start
pub IsLegal-moved : (s u : TrackStream) (dur : ℕ) (es : List Event) → IsLegal s
    → s.events ≡ map (moved s.start) es → s.end ≡ dur + s.start
    → u.events ≡ map (moved u.start) es → u.end ≡ dur + u.start → u.end ≤ 2 ^ 62 → IsLegal u
unfolding stack_after
IsLegal-moved s u dur es legal e n f m h =
    let fronts : (i : ℕ) → fold stack_step [] (take i u.events) ≡ fold stack_step [] (take i s.events) =
    λ i. ap (λ (l : List Event). fold stack_step [] (take i l)) f ∙ front-moved u.start i es
    ∙ sym (ap (λ (l : List Event). fold stack_step [] (take i l)) e ∙ front-moved s.start i es) in
    let times_s : s.start ∷ map time_of s.events ++ s.end
    ∷ [] ≡ map (λ n. n + s.start) (0 ∷ map time_of es ++ dur ∷ []) =
    ap (λ (l : List Event). s.start ∷ map time_of l ++ s.end ∷ []) e
    ∙ ap (λ (x : ℕ). s.start ∷ map time_of (map (moved s.start) es) ++ x ∷ []) n ∙ moments-moved s.start dur
    es in
    let times_u : u.start ∷ map time_of u.events ++ u.end
    ∷ [] ≡ map (λ n. n + u.start) (0 ∷ map time_of es ++ dur ∷ []) =
    ap (λ (l : List Event). u.start ∷ map time_of l ++ u.end ∷ []) f
    ∙ ap (λ (x : ℕ). u.start ∷ map time_of (map (moved u.start) es) ++ x ∷ []) m ∙ moments-moved u.start dur
    es in
    record {
      in_time = h;
      in_order = subst IsNonDecreasing (sym times_u)
          (IsNonDecreasing-map_plus s.start u.start (0 ∷ map time_of es ++ dur ∷ [])
          (subst IsNonDecreasing times_s legal.in_order));
      closes_open = λ i t k. (let was = leave-moved u.start i t es
          (subst (λ (l : List Event). slice_get l i ≡ Some (Leave t)) f k) in
          let there = slice_moved s.start i es (Leave was.0) was.1 in
          λ none_open. legal.closes_open i (was.0 + s.start)
          (ap (λ (l : List Event). slice_get l i) e ∙ there) (sym (fronts i) ∙ none_open));
      all_closed = ap (λ (l : List Event). fold stack_step [] l) f ∙ stack-moved u.start es []
          ∙ sym (ap (λ (l : List Event). fold stack_step [] l) e ∙ stack-moved s.start es []) ∙
          legal.all_closed;
      depth = λ i. omega (arith, ap length (fronts i), legal.depth i);
      calls = omega (
        arith,
        ap (λ (l : List Event). length (filter is_enter l)) f,
        calls-moved u.start es,
        ap (λ (l : List Event). length (filter is_enter l)) e,
        calls-moved s.start es,
        legal.calls,
      );
      functions = λ i g t k. (let was = enter-moved u.start i g t es
          (subst (λ (l : List Event). slice_get l i ≡ Some (Enter g t)) f k) in
          let there = slice_moved s.start i es (Enter g was.0) was.1 in
          legal.functions i g (was.0 + s.start) (ap (λ (l : List Event). slice_get l i) e ∙ there));
    }
