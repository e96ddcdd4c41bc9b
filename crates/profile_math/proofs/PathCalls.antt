-- The call-tree profile of a call is the closing of the profile of what it encloses.
use Rattle.std.proofs.Common.{◌≡◌, ◌≢◌, ℕ, ◌+◌, ◌<◌, ◌==◌, suc, Bool, true, false, cond, ◌&&◌}
use Rattle.std.proofs.Common.{◌||◌, not, List, [], ◌∷◌, ◌++◌, length, take, get_or, map, filter, fold, sum_by}
use Rattle.std.proofs.Common.{nat_lt, Option, Some, refl, ap, sym, subst, ◌∙◌, ◌⊎◌, inl, inr, arith, add-zero}
use Rattle.std.proofs.Common.{zero-add, add-one, length-append, slice_get}
use Rattle.std.specs.List.{AllByRecursion, Contains, list_any, range_with_len}
use Rattle.std.specs.Option.{option_map_or}
use Rattle.std.specs.Ordering.{is_eq}
use Rattle.std.specs.declared.cmp.Ordering.TheVariants.{Less}
use Rattle.std.proofs.lemmas.Bool.{cases_Bool, cases_eq, cases_lt, cond-true, cond-false, false_from_ne_true}
use Rattle.std.proofs.lemmas.Bool.{eqb-true, ltb-false, true≢false, true_from_ne_false}
use Rattle.std.proofs.lemmas.Cmp.{nat_list_cmp_total}
use Rattle.std.proofs.lemmas.List.{get_or_append_left, get_or_at, nil_from_length, take_all}
use Rattle.std.proofs.lemmas.List.Elements.{filter_agree}
use Rattle.std.proofs.lemmas.List.Folds.{list_any_at}
use Rattle.std.proofs.lemmas.List.Sums.{fold_more, sum_by-append, sum_by-cons}
use Rattle.std.proofs.lemmas.Option.{slice_get-get_or}
use Rattle.std.proofs.lemmas.Bool.{not-false, or_parts}
use Rattle.std.specs.Cmp.{both_ways}
use Rattle.list_lemmas.proofs.Booleans.{cond_empty, count_and-false, count_and_no, count_and_yes}
use Rattle.list_lemmas.proofs.Booleans.{false_from_count, one_if}
use Rattle.list_lemmas.proofs.Each.{all_from}
use Rattle.list_lemmas.proofs.Filters.{filter-map, filter_none}
use Rattle.list_lemmas.proofs.Found.{any_none}
use Rattle.list_lemmas.proofs.Fronts.{cons_head, cons_tail, push_not_nil}
use Rattle.list_lemmas.proofs.Members.{has_here}
use Rattle.list_lemmas.proofs.Numbers.{either_pos-same, neither_pos}
use Rattle.list_lemmas.proofs.Ranges.{range_sum-next, range_sum-same, range_with_len-more}
use Rattle.list_lemmas.proofs.Sums.{sum_by-filter, sum_by-has, sum_by-map, sum_by-same, sum_by-some}
use Rattle.list_lemmas.proofs.Sums.{sum_by-zero}
use Rattle.trace_base.proofs.CallPaths.{call_paths-rising}
use Rattle.trace_base.specs.Flat.{is_bare, is_within, time_with}
use Rattle.trace_base.specs.Paths.{call_paths, calls_making, is_path, is_under, makes, path_stands, paths}
use Rattle.trace_base.specs.Stream.{is_enter, stack_after, stack_step, time_of}
use Rattle.profile_math.specs.Laws.{IsComplete}
use Rattle.trace_base.specs.declared.profile.PathProfile.{PathProfile}
use Rattle.trace_base.specs.declared.profile.PathRow.{PathRow}
use Rattle.trace_base.specs.declared.stream.Event.{Event}
use Rattle.trace_base.specs.declared.stream.Event.TheVariants.{Enter, Leave}
use Rattle.trace_base.specs.declared.stream.TrackStream.{TrackStream}
use Rattle.profile_math.specs.Laws.{call_of}
use Rattle.profile_math.specs.PathClosing.{call_numbers, under_call, call_stands, closed_paths}
use Rattle.profile_math.specs.PathSum.{PathNumbers, numbers_of, row_of_path}
use Rattle.profile_math.proofs.CallTimes.{stack-call, time-call}
use Rattle.profile_math.proofs.FlatCalls.{is_bare-cons, one_sum}
use Rattle.profile_math.proofs.Keyed.{at, Climbs, at-no, at-yes, one_list}
use Rattle.profile_math.proofs.PathClosings.{all-some, all-under, climbs-under, lex-under}
use Rattle.profile_math.proofs.PathLaws.{making-le, numbers_same, one-excl, path-of, path-one, path-same}
use Rattle.profile_math.proofs.PathLaws.{path_numbers}
use Rattle.profile_math.proofs.PathLaws.{paths-bare, same_is, stands-one}
use Rattle.profile_math.proofs.PathLaws.{paths-depth-first, paths-numbers, paths-rows, paths-told, same-path}
use Rattle.profile_math.proofs.PathLaws.{take-under, under-take}
use Rattle.profile_math.proofs.PathMerging.{lex, path_of}
use Rattle.profile_math.proofs.PathSums.{climbs-of}
use Rattle.profile_math.proofs.Shares.{time-same, time-split}
use Rattle.profile_math.proofs.Times.{time-le, time-none}
use Rattle.profile_math.proofs.Told.{kept, same_path, told, told-at, told-climbs, told-is, told-nil}

-- ---- calls that make a call stack with a property

-- An Enter makes a call stack that isn't bare: properties that such stacks have alike.
making-some : (has more : List ℕ → Bool) → ((q : List ℕ) → q ≢ [] → has q ≡ more q) → (a b : ℕ)
    (s : TrackStream) → calls_making has a b s ≡ calls_making more a b s
unfolding calls_making stack_after
making-some has more h a b s = range_sum-same (λ i. one_if (makes has a b s i)) (λ i. one_if (makes more a b s
    i))
    0 (length s.events) (λ i l m. each i (omega arith))
  where
    by : (e : Event) (st : List ℕ)
        → one_if ((is_enter e && is_within a b (time_of e)) && has (stack_step st e))
        ≡ one_if ((is_enter e && is_within a b (time_of e)) && more (stack_step st e))
    by (Enter g t) st = ap {B = ℕ} (λ (u : Bool). one_if (is_within a b t && u))
        (h (st ++ g ∷ []) (push_not_nil st g))
    by (Leave t) st = refl

    each : (i : ℕ) → i < length s.events → one_if (makes has a b s i) ≡ one_if (makes more a b s i)
    each i l =
        let d : Event = Leave 0 in
        let e : Event = get_or s.events i d in
        let st : List ℕ = fold stack_step [] (take i s.events) in
        let got : slice_get s.events i ≡ Some e = slice_get-get_or s.events i d l in
        let step : fold stack_step [] (take (i + 1) s.events) ≡ stack_step st e =
        fold_more stack_step [] s.events i d l in
        let read : (p : List ℕ → Bool) → one_if (makes p a b s i)
        ≡ one_if ((is_enter e && is_within a b (time_of e)) && p (stack_step st e)) =
        λ (p : List ℕ → Bool). ap {B = ℕ} (λ (o : Option Event).
        one_if (option_map_or (λ x. is_enter x && is_within a b (time_of x)) o false
        && p (fold stack_step [] (take (i + 1) s.events)))) got
        ∙ ap {B = ℕ} (λ (q : List ℕ). one_if ((is_enter e && is_within a b (time_of e)) && p q)) step in
        read has ∙ by e st ∙ sym (read more)

making-none : (has : List ℕ → Bool) → ((q : List ℕ) → q ≢ [] → has q ≡ false) → (a b : ℕ) (s : TrackStream)
    → calls_making has a b s ≡ 0
unfolding calls_making
making-none has h a b s = making-some has (λ q. false) h a b s
    ∙ sum_by-same (λ i. one_if (makes (λ q. false) a b s i)) (λ i. 0)
    (λ i. count_and-false (option_map_or (λ e. is_enter e && is_within a b (time_of e)) (slice_get s.events i)
    false))
    (range_with_len 0 (length s.events))
    ∙ sum_by-zero (range_with_len 0 (length s.events))

-- where a call makes a stack that isn't bare, that stack's own path has a call
making-path : (a b : ℕ) (s : TrackStream) → 0 < calls_making (λ q. true) a b s
    → (k : List ℕ) × (k ≢ []) × (0 < calls_making (is_under k) a b s)
unfolding calls_making
making-path a b s h =
    let full : 0 < calls_making (λ q. not (is_bare q)) a b s = omega (
      arith,
      h,
      making-some (λ q. true)
          (λ q. not (is_bare q)) (λ q n. not_bare q n) a b s,
    ) in
    let place = sum_by-some (λ i. one_if (makes (λ q. not (is_bare q)) a b s i))
    (range_with_len 0 (length s.events)) full in
    let k : List ℕ = stack_after (take (place.0 + 1) s.events) in
    let within : Bool =
    option_map_or (λ e. is_enter e && is_within a b (time_of e)) (slice_get s.events place.0) false in
    let both = parts within (not (is_bare k)) place.2 in (
      k,
      bare_not k both.1,
      sum_by-has (λ i. one_if (makes (is_under k) a b s i)) (range_with_len 0 (length s.events)) place.0
          place.1
          (whole_of within (is_under k k) both.0
          (take-under k k (sym (take_all (length k) k (omega arith))))),
    )
  where
    not_bare : (q : List ℕ) → q ≢ [] → true ≡ not (is_bare q)
    not_bare [] n = absurd (n refl)
    not_bare (x ∷ q) n = sym (ap not (is_bare-cons x q))

    bare_not : (q : List ℕ) → not (is_bare q) ≡ true → q ≢ []
    bare_not q e h = true≢false (sym e ∙ ap (λ (p : List ℕ). not (is_bare p)) h)

    parts : (x y : Bool) → 0 < one_if (x && y) → (x ≡ true) × (y ≡ true)
    parts true true l = (refl, refl)
    parts true false l = absurd (omega (arith, l))
    parts false y l = absurd (omega (arith, l))

    whole_of : (x y : Bool) → x ≡ true → y ≡ true → 0 < one_if (x && y)
    whole_of true true e g = omega arith
    whole_of true false e g = absurd (true≢false (sym g))
    whole_of false y e g = absurd (true≢false (sym e))

-- the calls in the call: its own, and those of the stream with the call under them
making-call : (has : List ℕ → Bool) (f a b : ℕ) (s : TrackStream) → IsComplete s
    → calls_making has a b (call_of f s) ≡ one_if (is_within a b s.start && has (f ∷ []))
    + calls_making (λ q. has (f ∷ q)) a b s
unfolding calls_making stack_after
making-call has f a b s complete =
    let n : ℕ = length s.events in
    let g : ℕ → ℕ = λ i. one_if (makes has a b (call_of f s) i) in
    let long : length ((call_of f s).events) ≡ suc (n + 1) =
    omega (arith, length-append s.events (Leave s.end ∷ [])) in
    ap (λ m. sum_by g (range_with_len 0 m)) long
    ∙ sum_by-cons g 0 (range_with_len (0 + 1) (n + 1))
    ∙ ap (λ m. g 0 + m) (range_sum-next g 0 (n + 1)
    ∙ ap (sum_by (λ i. g (i + 1))) (range_with_len-more 0 n n (omega arith))
    ∙ sum_by-append (λ i. g (i + 1)) (range_with_len 0 n) (n ∷ [])
    ∙ ap (λ m. sum_by (λ i. g (i + 1)) (range_with_len 0 n) + m) (zero-add (g (n + 1)) ∙ last)
    ∙ add-zero (sum_by (λ i. g (i + 1)) (range_with_len 0 n))
    ∙ range_sum-same (λ i. g (i + 1)) (λ i. one_if (makes (λ q. has (f ∷ q)) a b s i)) 0 n
    (λ i l m. each i (omega arith)))
  where
    read : (i : ℕ) (o : Option Event) (q : List ℕ) → slice_get ((call_of f s).events) i ≡ o
        → stack_after (take (i + 1) ((call_of f s).events)) ≡ q
        → one_if (makes has a b (call_of f s) i)
        ≡ one_if (option_map_or (λ e. is_enter e && is_within a b (time_of e)) o false && has q)
    read i o q eo eq = ap {B = ℕ} (λ (p : Option Event). one_if (option_map_or
        (λ e. is_enter e && is_within a b (time_of e)) p false
        && has (stack_after (take (i + 1) ((call_of f s).events))))) eo
        ∙ ap {B = ℕ} (λ (r : List ℕ). one_if (option_map_or (λ e. is_enter e && is_within a b (time_of e)) o
        false
        && has r)) eq

    last : one_if (makes has a b (call_of f s) (length s.events + 1)) ≡ 0
    last =
        let d : Event = Leave 0 in
        let n : ℕ = length s.events in
        read (n + 1) (Some (Leave s.end)) (stack_after (take (n + 1 + 1) ((call_of f s).events)))
        (slice_get-get_or ((call_of f s).events) (n + 1) d
        (omega (arith, length-append s.events (Leave s.end ∷ [])))
        ∙ ap Some (ap (λ m. get_or ((call_of f s).events) m d) (add-one n)
        ∙ get_or_at s.events (Leave s.end) [] d n refl)) refl

    each : (i : ℕ) → i < length s.events → one_if (makes has a b (call_of f s) (i + 1))
        ≡ one_if (makes (λ q. has (f ∷ q)) a b s i)
    each i l =
        let d : Event = Leave 0 in
        read (i + 1) (slice_get s.events i) (f ∷ stack_after (take (i + 1) s.events))
        (slice_get-get_or ((call_of f s).events) (i + 1) d
        (omega (arith, l, length-append s.events (Leave s.end ∷ [])))
        ∙ ap Some (ap (λ m. get_or ((call_of f s).events) m d) (add-one i)
        ∙ get_or_append_left s.events (Leave s.end ∷ []) d i l)
        ∙ sym (slice_get-get_or s.events i d l))
        (stack-call f s complete (i + 1) (omega arith))

-- ---- paths under the call

under-cons : (f : ℕ) (k q : List ℕ) → is_under (f ∷ k) (f ∷ q) ≡ is_under k q
under-cons f k q = both_ways (is_under (f ∷ k) (f ∷ q)) (is_under k q)
    (λ e. take-under k q (cons_tail f f k (take (length k) q) (under-take (f ∷ k) (f ∷ q) e)))
    (λ e. take-under (f ∷ k) (f ∷ q) (ap (λ (r : List ℕ). f ∷ r) (under-take k q e)))

under-other : (f g : ℕ) (k q : List ℕ) → g ≢ f → is_under (g ∷ k) (f ∷ q) ≡ false
under-other f g k q n = false_from_ne_true (is_under (g ∷ k) (f ∷ q))
    (λ e. n (cons_head g f k (take (length k) q) (under-take (g ∷ k) (f ∷ q) e)))

under-all : (f : ℕ) (q : List ℕ) → is_under (f ∷ []) (f ∷ q) ≡ true
under-all f q = take-under (f ∷ []) (f ∷ q) refl

under-some : (k : List ℕ) → k ≢ [] → is_under k [] ≡ false
under-some [] n = absurd (n refl)
under-some (x ∷ k) n = false_from_ne_true (is_under (x ∷ k) []) (λ e. n (under-take (x ∷ k) [] e))

path-cons : (f : ℕ) (k q : List ℕ) → is_path (f ∷ k) (f ∷ q) ≡ is_path k q
path-cons f k q = both_ways (is_path (f ∷ k) (f ∷ q)) (is_path k q)
    (λ e. same-path k q (cons_tail f f q k (path-same (f ∷ k) (f ∷ q) e)))
    (λ e. same-path (f ∷ k) (f ∷ q) (ap (λ (r : List ℕ). f ∷ r) (path-same k q e)))

path-bare : (q : List ℕ) → is_path [] q ≡ is_bare q
path-bare [] = same-path [] [] refl
path-bare (x ∷ q) = false_from_ne_true (is_path [] (x ∷ q)) (λ e. (let no_end = path-same [] (x ∷ q) e in cc))
    ∙ sym (is_bare-cons x q)

path-some : (k : List ℕ) → k ≢ [] → is_path k [] ≡ false
path-some k n = false_from_ne_true (is_path k []) (λ e. n (sym (path-same k [] e)))

making-same : (has more : List ℕ → Bool) → ((q : List ℕ) → has q ≡ more q) → (a b : ℕ) (s : TrackStream)
    → calls_making has a b s ≡ calls_making more a b s
making-same has more h a b s = making-some has more (λ q n. h q) a b s

-- calls and time in the call, by path
making-under : (f a b : ℕ) (s : TrackStream) (k : List ℕ) → IsComplete s → k ≢ []
    → calls_making (is_under (f ∷ k)) a b (call_of f s) ≡ calls_making (is_under k) a b s
making-under f a b s k complete n = making-call (is_under (f ∷ k)) f a b s complete
    ∙ ap (λ m. m + calls_making (λ q. is_under (f ∷ k) (f ∷ q)) a b s)
    (count_and_no (is_within a b s.start) (is_under (f ∷ k) (f ∷ [])) (under-cons f k [] ∙ under-some k n))
    ∙ zero-add (calls_making (λ q. is_under (f ∷ k) (f ∷ q)) a b s)
    ∙ making-same (λ q. is_under (f ∷ k) (f ∷ q)) (is_under k) (under-cons f k) a b s

making-exact : (f a b : ℕ) (s : TrackStream) (k : List ℕ) → IsComplete s → k ≢ []
    → calls_making (is_path (f ∷ k)) a b (call_of f s) ≡ calls_making (is_path k) a b s
making-exact f a b s k complete n = making-call (is_path (f ∷ k)) f a b s complete
    ∙ ap (λ m. m + calls_making (λ q. is_path (f ∷ k) (f ∷ q)) a b s)
    (count_and_no (is_within a b s.start) (is_path (f ∷ k) (f ∷ [])) (path-cons f k [] ∙ path-some k n))
    ∙ zero-add (calls_making (λ q. is_path (f ∷ k) (f ∷ q)) a b s)
    ∙ making-same (λ q. is_path (f ∷ k) (f ∷ q)) (is_path k) (path-cons f k) a b s

time-under : (f a b : ℕ) (s : TrackStream) (k : List ℕ) → IsComplete s
    → time_with (is_under (f ∷ k)) a b (call_of f s) ≡ time_with (is_under k) a b s
time-under f a b s k complete = time-call (is_under (f ∷ k)) f a b s complete
    ∙ time-same (λ q. is_under (f ∷ k) (f ∷ q)) (is_under k) a b s
    (λ i. under-cons f k (stack_after (take i s.events)))

time-exact : (f a b : ℕ) (s : TrackStream) (k : List ℕ) → IsComplete s
    → time_with (is_path (f ∷ k)) a b (call_of f s) ≡ time_with (is_path k) a b s
time-exact f a b s k complete = time-call (is_path (f ∷ k)) f a b s complete
    ∙ time-same (λ q. is_path (f ∷ k) (f ∷ q)) (is_path k) a b s
    (λ i. path-cons f k (stack_after (take i s.events)))

-- the call's own
making-own : (f a b : ℕ) (s : TrackStream) → IsComplete s
    → calls_making (is_under (f ∷ [])) a b (call_of f s) ≡ one_if (is_within a b s.start)
    + calls_making (λ q. true) a b s
making-own f a b s complete = making-call (is_under (f ∷ [])) f a b s complete
    ∙ ap (λ m. m + calls_making (λ q. is_under (f ∷ []) (f ∷ q)) a b s)
    (count_and_yes (is_within a b s.start) (is_under (f ∷ []) (f ∷ [])) (under-all f []))
    ∙ ap (λ m. one_if (is_within a b s.start) + m)
    (making-same (λ q. is_under (f ∷ []) (f ∷ q)) (λ q. true) (under-all f) a b s)

making-once : (f a b : ℕ) (s : TrackStream) → IsComplete s
    → calls_making (is_path (f ∷ [])) a b (call_of f s) ≡ one_if (is_within a b s.start)
making-once f a b s complete = making-call (is_path (f ∷ [])) f a b s complete
    ∙ ap (λ m. m + calls_making (λ q. is_path (f ∷ []) (f ∷ q)) a b s)
    (count_and_yes (is_within a b s.start) (is_path (f ∷ []) (f ∷ [])) (same-path (f ∷ []) (f ∷ []) refl))
    ∙ ap (λ m. one_if (is_within a b s.start) + m)
    (making-none (λ q. is_path (f ∷ []) (f ∷ q)) (λ q n. path-cons f [] q ∙ path-bare q ∙ not_bare q n) a b s)
    ∙ add-zero (one_if (is_within a b s.start))
  where
    not_bare : (q : List ℕ) → q ≢ [] → is_bare q ≡ false
    not_bare [] n = absurd (n refl)
    not_bare (x ∷ q) n = is_bare-cons x q

time-own : (f a b : ℕ) (s : TrackStream) → IsComplete s
    → time_with (is_under (f ∷ [])) a b (call_of f s) ≡ time_with (λ q. true) a b s
time-own f a b s complete = time-call (is_under (f ∷ [])) f a b s complete
    ∙ time-same (λ q. is_under (f ∷ []) (f ∷ q)) (λ q. true) a b s
    (λ i. under-all f (stack_after (take i s.events)))

time-bare : (f a b : ℕ) (s : TrackStream) → IsComplete s
    → time_with (is_path (f ∷ [])) a b (call_of f s) ≡ time_with is_bare a b s
time-bare f a b s complete = time-exact f a b s [] complete
    ∙ time-same (is_path []) is_bare a b s (λ i. path-bare (stack_after (take i s.events)))

-- ---- all time of the content is bare or some path's own

above-none : (k q : List ℕ) (ks : List (List ℕ)) → AllByRecursion (λ j. lex k j ≡ Less) ks → q ≡ k
    → AllByRecursion (λ j. is_path j q ≡ false) ks
above-none k q [] h e = tt
above-none k q (j ∷ ks) h e = (
  false_from_ne_true (is_path j q) (λ i. (
      let less : lex k k ≡ Less = subst (λ (r : List ℕ). lex k r ≡ Less) (sym (path-same j q i) ∙ e) h.0 in
      let tie : is_eq (lex k k) ≡ true = same_is k k refl in
      true≢false (sym tie ∙ ap is_eq less))),
  above-none k q ks h.1 e,
)

first-or : (k q : List ℕ) (ks : List (List ℕ)) (c : ℕ) → AllByRecursion (λ j. lex k j ≡ Less) ks
    → cond (is_path k q || list_any (λ j. is_path j q) ks) c 0 ≡ cond (is_path k q) c 0
    + cond (list_any (λ j. is_path j q) ks) c 0
first-or k q ks c h =
    let rest : Bool = list_any (λ j. is_path j q) ks in
    elim (cases_Bool (is_path k q)) [
      | inl e ↦
          (let none : rest ≡ false = any_none (λ j. is_path j q) ks (above-none k q ks h (path-same k q e)) in
          split (is_path k q) rest (inr none))
      | inr e ↦ split (is_path k q) rest (inl e)
    ]
  where
    split : (x y : Bool) → (x ≡ false) ⊎ (y ≡ false) → cond (x || y) c 0 ≡ cond x c 0 + cond y c 0
    split true true (inl e) = absurd (true≢false e)
    split true true (inr e) = absurd (true≢false e)
    split true false e = sym (add-zero c)
    split false y e = sym (zero-add (cond y c 0))

time-any : (a b : ℕ) (s : TrackStream) (ks : List (List ℕ)) → Climbs lex (λ k. k) ks
    → time_with (λ q. list_any (λ k. is_path k q) ks) a b s ≡ sum_by (λ k. time_with (is_path k) a b s) ks
time-any a b s [] up = time-none (λ q. false) a b s (λ i. refl)
time-any a b s (k ∷ ks) up = time-split (λ q. list_any (λ j. is_path j q) (k ∷ ks)) (is_path k)
    (λ q. list_any (λ j. is_path j q) ks) a b s (λ i c. first-or k (stack_after (take i s.events)) ks c up.0)
    ∙ ap (λ m. time_with (is_path k) a b s + m) (time-any a b s ks up.1)
    ∙ sym (sum_by-cons (λ j. time_with (is_path j) a b s) k ks)

-- each call stack is bare or a path
stack-any : (s : TrackStream) (i : ℕ) (c : ℕ)
    → c ≡ cond (is_bare (stack_after (take i s.events))) c 0
    + cond (list_any (λ k. is_path k (stack_after (take i s.events))) (call_paths (s ∷ []))) c 0
stack-any s i c = by (stack_after (take i s.events)) refl
  where
    ks : List (List ℕ)
    ks = call_paths (s ∷ [])

    by : (q : List ℕ) → stack_after (take i s.events) ≡ q
        → c ≡ cond (is_bare q) c 0 + cond (list_any (λ k. is_path k q) (call_paths (s ∷ []))) c 0
    by [] e = sym (ap {B = ℕ} (λ (t : Bool). c + cond t c 0) (any_none (λ k. is_path k [])
        (call_paths (s ∷ []))
        (all_from (λ k. is_path k [] ≡ false) (call_paths (s ∷ []))
        (λ k h. path-some k (((call_paths-rising (s ∷ [])).exact k).0 h).some)))
        ∙ add-zero c)
    by (x ∷ q) e =
        let k : List ℕ = x ∷ q in
        let some : k ≢ [] = λ g. cc in
        let has : Contains (call_paths (s ∷ [])) k = ((call_paths-rising (s ∷ [])).exact k).1
        (path-of (s ∷ []) s k i (has_here s []) some (take-under k (stack_after (take i s.events))
        (sym (ap (take (length k)) e ∙ take_all (length k) k (omega arith))))) in
        sym (ap {B = ℕ} (λ (t : Bool). cond t c 0 + cond (list_any (λ j. is_path j k) (call_paths (s ∷ []))) c
        0)
        (is_bare-cons x q)
        ∙ ap {B = ℕ} (λ (t : Bool). 0 + cond t c 0)
        (list_any_at (λ j. is_path j k) (call_paths (s ∷ [])) has.0 k
        has.1 (same-path (get_or (call_paths (s ∷ [])) has.0 k) k (sym has.2)))
        ∙ zero-add c)

all-paths : (a b : ℕ) (s : TrackStream) → time_with (λ q. true) a b s ≡ time_with is_bare a b s
    + sum_by (λ k. time_with (is_path k) a b s) (call_paths (s ∷ []))
all-paths a b s = time-split (λ q. true) is_bare (λ q. list_any (λ k. is_path k q) (call_paths (s ∷ []))) a b
    s
    (stack-any s)
    ∙ ap (λ m. time_with is_bare a b s + m) (time-any a b s (call_paths (s ∷ []))
    (paths-told (s ∷ []) a b).rising)

-- the rows' exclusive times
rows-excl : (a b : ℕ) (s : TrackStream) → sum_by (λ r. r.excl) (paths (s ∷ []) a b).rows
    ≡ sum_by (λ k. time_with (is_path k) a b s) (call_paths (s ∷ []))
rows-excl a b s =
    let n : List ℕ → PathNumbers = path_numbers (s ∷ []) a b in
    let h : List ℕ → Bool = path_stands (s ∷ []) a b in
    let ks : List (List ℕ) = call_paths (s ∷ []) in
    ap (λ (rs : List PathRow). sum_by (λ r. r.excl) rs) (paths-rows (s ∷ []) a b)
    ∙ sum_by-map (λ (r : PathRow). r.excl) row_of_path (told n h ks)
    ∙ ap (λ (ns : List PathNumbers). sum_by (λ m. m.excl) ns) (told-is n h ks)
    ∙ sum_by-map (λ (m : PathNumbers). m.excl) n (filter h ks)
    ∙ sum_by-filter (λ k. (n k).excl) h ks
    ∙ sum_by-same (λ k. cond (h k) (n k).excl 0) (λ k. time_with (is_path k) a b s) each ks
  where
    each : (k : List ℕ) → cond (path_stands (s ∷ []) a b k) (path_numbers (s ∷ []) a b k).excl 0
        ≡ time_with (is_path k) a b s
    each k = elim (cases_Bool (path_stands (s ∷ []) a b k)) [
      | inl e ↦ cond-true (path_stands (s ∷ []) a b k) (path_numbers (s ∷ []) a b k).excl 0 e ∙ one-excl s a b
          k
      | inr e ↦ cond-false (path_stands (s ∷ []) a b k) (path_numbers (s ∷ []) a b k).excl 0 e
          ∙ sym (ap (λ (m : PathNumbers). m.excl) ((paths-told (s ∷ []) a b).none k e))
          ∙ one-excl s a b k
    ]

total-time : (a b : ℕ) (s : TrackStream) → time_with (λ q. true) a b s ≡ (paths (s ∷ []) a b).bare
    + sum_by (λ r. r.excl) (paths (s ∷ []) a b).rows
total-time a b s = all-paths a b s
    ∙ sym (ap (λ m. m + sum_by (λ r. r.excl) (paths (s ∷ []) a b).rows) (paths-bare (s ∷ []) a b
    ∙ one_sum (time_with is_bare a b) s)
    ∙ ap (λ m. time_with is_bare a b s + m) (rows-excl a b s))

-- ---- each path of the call

numbers-under : (f a b : ℕ) (s : TrackStream) (k : List ℕ) → IsComplete s → k ≢ []
    → path_numbers (call_of f s ∷ []) a b (f ∷ k) ≡ under_call f (path_numbers (s ∷ []) a b k)
numbers-under f a b s k complete n = path-one (call_of f s) a b (f ∷ k)
    ∙ numbers_same (f ∷ k) (calls_making (is_path (f ∷ k)) a b (call_of f s)) (calls_making (is_path k) a b s)
    (time_with (is_under (f ∷ k)) a b (call_of f s)) (time_with (is_under k) a b s)
    (time_with (is_path (f ∷ k)) a b (call_of f s)) (time_with (is_path k) a b s)
    (making-exact f a b s k complete n) (time-under f a b s k complete) (time-exact f a b s k complete)
    ∙ sym (ap (under_call f) (path-one s a b k))

numbers-own : (f a b : ℕ) (s : TrackStream) → IsComplete s
    → path_numbers (call_of f s ∷ []) a b (f ∷ []) ≡ call_numbers f (is_within a b s.start)
    (paths (s ∷ []) a b)
numbers-own f a b s complete =
    let p : PathProfile = paths (s ∷ []) a b in
    let bare : time_with is_bare a b s ≡ p.bare =
    sym (paths-bare (s ∷ []) a b ∙ zero-add (time_with is_bare a b s)) in
    path-one (call_of f s) a b (f ∷ [])
    ∙ numbers_same (f ∷ []) (calls_making (is_path (f ∷ [])) a b (call_of f s))
    (one_if (is_within a b s.start))
    (time_with (is_under (f ∷ [])) a b (call_of f s)) (p.bare + sum_by (λ r. r.excl) p.rows)
    (time_with (is_path (f ∷ [])) a b (call_of f s)) p.bare
    (making-once f a b s complete) (time-own f a b s complete ∙ total-time a b s) (time-bare f a b s complete ∙ bare)

stands-under : (f a b : ℕ) (s : TrackStream) (k : List ℕ) → IsComplete s → k ≢ []
    → path_stands (call_of f s ∷ []) a b (f ∷ k) ≡ path_stands (s ∷ []) a b k
stands-under f a b s k complete n = stands-one (call_of f s) a b (f ∷ k)
    ∙ either_pos-same (calls_making (is_under (f ∷ k)) a b (call_of f s)) (calls_making (is_under k) a b s)
    (time_with (is_under (f ∷ k)) a b (call_of f s)) (time_with (is_under k) a b s)
    (making-under f a b s k complete n) (time-under f a b s k complete)
    ∙ sym (stands-one s a b k)

stands-other : (f g a b : ℕ) (s : TrackStream) (k : List ℕ) → IsComplete s → g ≢ f
    → path_stands (call_of f s ∷ []) a b (g ∷ k) ≡ false
stands-other f g a b s k complete n = stands-one (call_of f s) a b (g ∷ k)
    ∙ either_pos-same (calls_making (is_under (g ∷ k)) a b (call_of f s)) 0
    (time_with (is_under (g ∷ k)) a b (call_of f s)) 0
    (making-call (is_under (g ∷ k)) f a b s complete
    ∙ ap (λ m. m + calls_making (λ q. is_under (g ∷ k) (f ∷ q)) a b s)
    (count_and_no (is_within a b s.start) (is_under (g ∷ k) (f ∷ [])) (under-other f g k [] n))
    ∙ zero-add (calls_making (λ q. is_under (g ∷ k) (f ∷ q)) a b s)
    ∙ making-none (λ q. is_under (g ∷ k) (f ∷ q)) (λ q m. under-other f g k q n) a b s)
    (time-call (is_under (g ∷ k)) f a b s complete
    ∙ time-none (λ q. is_under (g ∷ k) (f ∷ q)) a b s
    (λ i. under-other f g k (stack_after (take i s.events)) n))

-- where no path stands, there is no row
rows-none : (a b : ℕ) (s : TrackStream) → ((k : List ℕ) → path_stands (s ∷ []) a b k ≡ false)
    → (paths (s ∷ []) a b).rows ≡ []
rows-none a b s h =
    let ks : List (List ℕ) = call_paths (s ∷ []) in
    paths-rows (s ∷ []) a b
    ∙ ap (map row_of_path) (told-is (path_numbers (s ∷ []) a b) (path_stands (s ∷ []) a b) ks
    ∙ ap (map (path_numbers (s ∷ []) a b)) (filter_none (path_stands (s ∷ []) a b) ks
    (all_from (λ k. path_stands (s ∷ []) a b k ≡ false) ks (λ k c. h k))))

told-none : (a b : ℕ) (s : TrackStream) → (paths (s ∷ []) a b).rows ≡ [] → (k : List ℕ) → k ≢ []
    → path_stands (s ∷ []) a b k ≡ false
unfolding numbers_of
told-none a b s e k n =
    let is : [] ≡ kept (path_stands (s ∷ []) a b k) (path_numbers (s ∷ []) a b k) =
    sym (ap (λ rs. at lex path_of k (numbers_of rs)) e)
    ∙ ap (at lex path_of k) (paths-numbers (s ∷ []) a b)
    ∙ told-at (path_numbers (s ∷ []) a b) (path_stands (s ∷ []) a b) (call_paths (s ∷ []))
    (paths-told (s ∷ []) a b) k n in
    by (path_stands (s ∷ []) a b k) (path_numbers (s ∷ []) a b k) is
  where
    by : (t : Bool) (m : PathNumbers) → [] ≡ kept t m → t ≡ false
    by true m e = cc
    by false m e = refl

-- the call has a row where it is counted, has time, or has rows under it
stands-own : (f a b : ℕ) (s : TrackStream) → IsComplete s → path_stands (call_of f s ∷ []) a b (f ∷ [])
    ≡ call_stands (is_within a b s.start) (paths (s ∷ []) a b)
stands-own f a b s complete =
    let p : PathProfile = paths (s ∷ []) a b in
    let begun : Bool = is_within a b s.start in
    let calls : ℕ = calls_making (λ q. true) a b s in
    let time : ℕ = time_with (λ q. true) a b s in
    let is : path_stands (call_of f s ∷ []) a b (f ∷ []) ≡ (nat_lt 0 (one_if begun + calls)
    || nat_lt 0 time) =
    stands-one (call_of f s) a b (f ∷ [])
    ∙ either_pos-same (calls_making (is_under (f ∷ [])) a b (call_of f s)) (one_if begun + calls)
    (time_with (is_under (f ∷ [])) a b (call_of f s)) time (making-own f a b s complete) (time-own f a b s complete)
    in
    is ∙ elim (cases_Bool (call_stands begun p)) [
      | inl e ↦ true_from_ne_false (nat_lt 0 (one_if begun + calls) || nat_lt 0 time)
          (λ z. true≢false (sym e ∙ empty (neither_pos (one_if begun + calls) time z))) ∙ sym e
      | inr e ↦ nothing e ∙ sym e
    ]
  where
    empty : (one_if (is_within a b s.start) + calls_making (λ q. true) a b s ≡ 0)
        × (time_with (λ q. true) a b s ≡ 0) → call_stands (is_within a b s.start) (paths (s ∷ []) a b) ≡ false
    empty h =
        let p : PathProfile = paths (s ∷ []) a b in
        let total = total-time a b s in
        let calls : calls_making (λ q. true) a b s ≡ 0 = omega (arith, h.0) in
        let no_bare : p.bare ≡ 0 = omega (arith, total, h.1) in
        let not_begun : is_within a b s.start ≡ false = false_from_count (is_within a b s.start)
        (omega (arith, h.0)) in
        let no_rows : p.rows ≡ [] = rows-none a b s (λ k. stands-one s a b k
        ∙ either_pos-same (calls_making (is_under k) a b s) 0 (time_with (is_under k) a b s) 0
        (omega (arith, calls, making-le (is_under k) (λ q. true) (λ q g. refl) a b s))
        (omega (arith, h.1, time-le (is_under k) (λ q. true) (λ q g. refl) a b s))) in
        ap {B = Bool} (λ (t : Bool). (t || nat_lt 0 p.bare) || not (length p.rows == 0)) not_begun
        ∙ ap {B = Bool} (λ n. nat_lt 0 n || not (length p.rows == 0)) no_bare
        ∙ ap {B = Bool} (λ (rs : List PathRow). not (length rs == 0)) no_rows

    nothing : call_stands (is_within a b s.start) (paths (s ∷ []) a b) ≡ false
        → (nat_lt 0 (one_if (is_within a b s.start) + calls_making (λ q. true) a b s)
        || nat_lt 0 (time_with (λ q. true) a b s)) ≡ false
    nothing e =
        let p : PathProfile = paths (s ∷ []) a b in
        let none = or_parts (is_within a b s.start || nat_lt 0 p.bare) (not (length p.rows == 0)) e in
        let own = or_parts (is_within a b s.start) (nat_lt 0 p.bare) none.0 in
        let no_bare : p.bare ≡ 0 = omega (arith, ltb-false 0 p.bare own.1) in
        let no_rows : p.rows ≡ [] = nil_from_length p.rows (eqb-true (length p.rows) 0
        (not-false (length p.rows == 0) none.1)) in
        let no_excl : sum_by (λ r. r.excl) p.rows ≡ 0 = ap (λ (rs : List PathRow). sum_by (λ r. r.excl) rs)
        no_rows in
        let no_time : time_with (λ q. true) a b s ≡ 0 = omega (arith, total-time a b s, no_bare, no_excl) in
        let no_calls : calls_making (λ q. true) a b s ≡ 0 = elim (cases_lt 0 (calls_making (λ q. true) a b s)) [
          | inl l ↦
              (let found = making-path a b s l in
              let c : (calls_making (is_under found.0) a b s ≡ 0) × (time_with (is_under found.0) a b s ≡ 0) =
              neither_pos (calls_making (is_under found.0) a b s) (time_with (is_under found.0) a b s)
              (sym (stands-one s a b found.0) ∙ told-none a b s no_rows found.0 found.1) in
              absurd (omega (arith, found.2, c.0)))
          | inr z ↦ omega (arith, z)
        ] in
        either_pos-same (one_if (is_within a b s.start) + calls_making (λ q. true) a b s) 0
        (time_with (λ q. true) a b s) 0
        (ap {B = ℕ} (λ (t : Bool). one_if t + calls_making (λ q. true) a b s) own.0 ∙ zero-add _ ∙ no_calls)
        no_time

-- ---- the rows of the closing

-- what is under the call, at each path
at-under : (f : ℕ) (k : List ℕ) (ns : List PathNumbers)
    → at lex path_of (f ∷ k) (map (under_call f) ns) ≡ map (under_call f) (at lex path_of k ns)
at-under f k ns = filter-map (λ n. is_eq (lex (path_of n) (f ∷ k))) (under_call f) ns
    ∙ ap (map (under_call f)) (filter_agree (λ (n : PathNumbers). is_eq (lex (f ∷ n.path) (f ∷ k)))
    (λ n. is_eq (lex n.path k)) (λ n. ap is_eq (lex-under f n.path k)) ns)

at-nil : (f : ℕ) (ns : List PathNumbers) → at lex path_of [] (map (under_call f) ns) ≡ []
at-nil f [] = refl
at-nil f (n ∷ ns) = at-no lex path_of [] (under_call f n) (map (under_call f) ns) refl ∙ at-nil f ns

other_path : (f g : ℕ) (p k : List ℕ) → g ≢ f → is_eq (lex (f ∷ p) (g ∷ k)) ≡ false
other_path f g p k n = false_from_ne_true (is_eq (lex (f ∷ p) (g ∷ k)))
    (λ e. n (sym (cons_head f g p k (same_path (f ∷ p) (g ∷ k) e))))

at-other : (f g : ℕ) (k : List ℕ) (ns : List PathNumbers) → g ≢ f
    → at lex path_of (g ∷ k) (map (under_call f) ns) ≡ []
at-other f g k [] h = refl
at-other f g k (n ∷ ns) h = at-no lex path_of (g ∷ k) (under_call f n) (map (under_call f) ns)
    (other_path f g n.path k h) ∙ at-other f g k ns h

-- the numbers of the call over those of its content, where the call has a row
over : Bool → PathNumbers → ℕ → List PathNumbers → List PathNumbers
over t call f ns = cond t (call ∷ map (under_call f) ns) []

over-at : (t : Bool) (call : PathNumbers) (f : ℕ) (ns : List PathNumbers) (k : List ℕ)
    → at lex path_of k (over t call f ns) ≡ cond t (at lex path_of k (call ∷ map (under_call f) ns)) []
unfolding over
over-at true call f ns k = refl
over-at false call f ns k = refl

over-climbs : (f a b : ℕ) (s : TrackStream) (t : Bool) (call : PathNumbers) → call.path ≡ f ∷ []
    → Climbs lex path_of (over t call f (numbers_of (paths (s ∷ []) a b).rows))
unfolding over numbers_of
over-climbs f a b s false call e = tt
over-climbs f a b s true call e =
    let rows : List PathRow = (paths (s ∷ []) a b).rows in (
      subst (λ (q : List ℕ). AllByRecursion (λ (n : PathNumbers). lex q n.path ≡ Less)
          (map (under_call f) (numbers_of rows))) (sym e)
          (all-under f [] (numbers_of rows) (all-some [] rows)),
      climbs-under f (numbers_of rows) (climbs-of rows (paths-depth-first (s ∷ []) a b)),
    )

map-kept : (f : ℕ) (t : Bool) (n : PathNumbers) → map (under_call f) (kept t n) ≡ kept t (under_call f n)
map-kept f true n = refl
map-kept f false n = refl

cond-kept : (t u : Bool) (n : PathNumbers) → (t ≡ false → u ≡ false) → cond t (kept u n) [] ≡ kept u n
cond-kept true u n h = refl
cond-kept false u n h = ap (λ v. kept v n) (sym (h refl))

no-rows : (begun : Bool) (p : PathProfile) → call_stands begun p ≡ false → p.rows ≡ []
no-rows begun p e = nil_from_length p.rows (eqb-true (length p.rows) 0 (not-false (length p.rows == 0)
    (or_parts (begun || nat_lt 0 p.bare) (not (length p.rows == 0)) e).1))

call-at : (f a b : ℕ) (s : TrackStream) → IsComplete s → (k : List ℕ)
    → at lex path_of k (told (path_numbers (call_of f s ∷ []) a b) (path_stands (call_of f s ∷ []) a b)
    (call_paths (call_of f s ∷ [])))
    ≡ at lex path_of k (over (call_stands (is_within a b s.start) (paths (s ∷ []) a b))
    (call_numbers f (is_within a b s.start) (paths (s ∷ []) a b)) f (numbers_of (paths (s ∷ []) a b).rows))
call-at f a b s complete [] =
    let p : PathProfile = paths (s ∷ []) a b in
    let begun : Bool = is_within a b s.start in
    let call : PathNumbers = call_numbers f begun p in
    let ns : List PathNumbers = numbers_of p.rows in
    told-nil (path_numbers (call_of f s ∷ []) a b) (path_stands (call_of f s ∷ []) a b)
    (call_paths (call_of f s ∷ [])) (paths-told (call_of f s ∷ []) a b)
    ∙ sym (over-at (call_stands begun p) call f ns []
    ∙ cond_empty (call_stands begun p) (at lex path_of [] (call ∷ map (under_call f) ns))
    (at-no lex path_of [] call (map (under_call f) ns) refl ∙ at-nil f ns))
call-at f a b s complete (g ∷ k) =
    let p : PathProfile = paths (s ∷ []) a b in
    let begun : Bool = is_within a b s.start in
    let call : PathNumbers = call_numbers f begun p in
    let t : Bool = call_stands begun p in
    let ns : List PathNumbers = numbers_of p.rows in
    let some : g ∷ k ≢ [] = λ e. cc in
    let here = told-at (path_numbers (call_of f s ∷ []) a b) (path_stands (call_of f s ∷ []) a b)
    (call_paths (call_of f s ∷ [])) (paths-told (call_of f s ∷ []) a b) (g ∷ k) some in
    elim (cases_eq g f) [
      | inr n ↦ here
          ∙ ap (λ u. kept u (path_numbers (call_of f s ∷ []) a b (g ∷ k))) (stands-other f g a b s k complete n)
          ∙ sym (over-at t call f ns (g ∷ k)
          ∙ cond_empty t (at lex path_of (g ∷ k) (call ∷ map (under_call f) ns))
          (at-no lex path_of (g ∷ k) call (map (under_call f) ns) (other_path f g [] k n)
          ∙ at-other f g k ns n))
      | inl e ↦ here
          ∙ ap (λ h. kept (path_stands (call_of f s ∷ []) a b (h ∷ k))
          (path_numbers (call_of f s ∷ []) a b (h ∷ k))) e
          ∙ own k
          ∙ ap (λ h. at lex path_of (h ∷ k) (over t call f ns)) (sym e)
    ]
  where
    own : (q : List ℕ) → kept (path_stands (call_of f s ∷ []) a b (f ∷ q))
        (path_numbers (call_of f s ∷ []) a b (f ∷ q))
        ≡ at lex path_of (f ∷ q) (over (call_stands (is_within a b s.start) (paths (s ∷ []) a b))
        (call_numbers f (is_within a b s.start) (paths (s ∷ []) a b)) f
        (numbers_of (paths (s ∷ []) a b).rows))
    own [] =
        let p : PathProfile = paths (s ∷ []) a b in
        let begun : Bool = is_within a b s.start in
        let call : PathNumbers = call_numbers f begun p in
        let ns : List PathNumbers = numbers_of p.rows in
        ap (λ t. kept t (path_numbers (call_of f s ∷ []) a b (f ∷ []))) (stands-own f a b s complete)
        ∙ ap (kept (call_stands begun p)) (numbers-own f a b s complete)
        ∙ sym (over-at (call_stands begun p) call f ns (f ∷ [])
        ∙ ap (λ (us : List PathNumbers). cond (call_stands begun p) us [])
        (at-yes lex path_of (f ∷ []) call (map (under_call f) ns) (same_is (f ∷ []) (f ∷ []) refl)
        ∙ ap (λ (us : List PathNumbers). call ∷ us) (at-under f [] ns
        ∙ ap (map (under_call f)) (ap (at lex path_of []) (paths-numbers (s ∷ []) a b)
        ∙ told-nil (path_numbers (s ∷ []) a b) (path_stands (s ∷ []) a b) (call_paths (s ∷ []))
        (paths-told (s ∷ []) a b)))))
    own (x ∷ q) =
        let k : List ℕ = x ∷ q in
        let some : k ≢ [] = λ e. cc in
        let p : PathProfile = paths (s ∷ []) a b in
        let begun : Bool = is_within a b s.start in
        let call : PathNumbers = call_numbers f begun p in
        let t : Bool = call_stands begun p in
        let ns : List PathNumbers = numbers_of p.rows in
        ap (λ u. kept u (path_numbers (call_of f s ∷ []) a b (f ∷ k))) (stands-under f a b s k complete some)
        ∙ ap (kept (path_stands (s ∷ []) a b k)) (numbers-under f a b s k complete some)
        ∙ sym (over-at t call f ns (f ∷ k)
        ∙ ap (λ (us : List PathNumbers). cond t us [])
        (at-no lex path_of (f ∷ k) call (map (under_call f) ns) (ap is_eq (lex-under f [] k))
        ∙ at-under f k ns
        ∙ ap (map (under_call f)) (ap (at lex path_of k) (paths-numbers (s ∷ []) a b)
        ∙ told-at (path_numbers (s ∷ []) a b) (path_stands (s ∷ []) a b) (call_paths (s ∷ []))
        (paths-told (s ∷ []) a b) k some)
        ∙ map-kept f (path_stands (s ∷ []) a b k) (path_numbers (s ∷ []) a b k))
        ∙ cond-kept t (path_stands (s ∷ []) a b k) (under_call f (path_numbers (s ∷ []) a b k))
        (λ e. told-none a b s (no-rows begun p e) k some))

over-rows : (t : Bool) (call : PathNumbers) (f : ℕ) (ns : List PathNumbers)
    → map row_of_path (over t call f ns)
    ≡ cond t (map row_of_path (call ∷ map (under_call f) ns)) []
unfolding over
over-rows true call f ns = refl
over-rows false call f ns = refl

path_profile_made : (p : PathProfile) (rows : List PathRow) → p.bare ≡ 0 → p.rows ≡ rows
    → (let q : PathProfile = record { bare = 0; rows = rows } in p ≡ q)
path_profile_made p rows e g = ap (λ n. let x : PathProfile = record { bare = n; rows = p.rows } in x) e
    ∙ ap (λ us. let x : PathProfile = record { bare = 0; rows = us } in x) g

pub path_call : (s : TrackStream) (f a b : ℕ) → IsComplete s → paths (call_of f s ∷ []) a b ≡ closed_paths f
    (is_within a b s.start) (paths (s ∷ []) a b)
unfolding closed_paths
path_call s f a b complete =
    let p : PathProfile = paths (s ∷ []) a b in
    let begun : Bool = is_within a b s.start in
    let call : PathNumbers = call_numbers f begun p in
    let ns : List PathNumbers = numbers_of p.rows in
    path_profile_made (paths (call_of f s ∷ []) a b)
    (cond (call_stands begun p) (map row_of_path (call ∷ map (under_call f) ns)) [])
    (paths-bare (call_of f s ∷ []) a b ∙ zero-add (time_with is_bare a b (call_of f s))
    ∙ time-call is_bare f a b s complete
    ∙ time-none (λ q. is_bare (f ∷ q)) a b s (λ i. is_bare-cons f (stack_after (take i s.events))))
    (paths-rows (call_of f s ∷ []) a b
    ∙ ap (map row_of_path) (one_list lex nat_list_cmp_total path_of
    (told (path_numbers (call_of f s ∷ []) a b) (path_stands (call_of f s ∷ []) a b)
    (call_paths (call_of f s ∷ []))) (over (call_stands begun p) call f ns)
    (told-climbs (path_numbers (call_of f s ∷ []) a b) (path_stands (call_of f s ∷ []) a b)
    (call_paths (call_of f s ∷ [])) (paths-told (call_of f s ∷ []) a b))
    (over-climbs f a b s (call_stands begun p) call refl) (call-at f a b s complete))
    ∙ over-rows (call_stands begun p) call f ns)
