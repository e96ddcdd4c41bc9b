-- The front of a stream after one event more, and of a legal stream.
use Rattle.std.proofs.Common.{◌≡◌, ◌≢◌, inl, inr, ℕ, zero, suc, ◌+◌, ◌-◌, ◌<◌, ◌≤◌, List, [], ◌∷◌, ◌++◌}
use Rattle.std.proofs.Common.{length, drop, take, filter, map, Some, slice_get, get_or, refl, sym, ap, subst, arith}
use Rattle.std.proofs.Common.{◌∙◌, length-append}
use Rattle.std.proofs.lemmas.Bool.{cases_lt}
use Rattle.std.proofs.lemmas.List.{get_or_append_left, get_or_push, length-map, map-append, take-append-drop}
use Rattle.std.proofs.lemmas.List.{take-append-le, take_all, take_more}
use Rattle.std.proofs.lemmas.List.Elements.{filter-append}
use Rattle.std.proofs.Math.Seq.{take-append_seam}
use Rattle.std.proofs.lemmas.List.Sorted.{IsNonDecreasingBy-push, IsNonDecreasingBy-short}
use Rattle.std.proofs.lemmas.List.Sums.{fold-append}
use Rattle.std.proofs.lemmas.Option.{get_or_from_slice_get, none-some, same_Some}
use Rattle.std.proofs.lemmas.Option.{slice_get-get_or, slice_get_within}
use Rattle.std.specs.List.Sorted.{IsNonDecreasing}
use Rattle.list_lemmas.proofs.Fronts.{length_pop, no_items, not_nil, one_from_nonempty, take_none}
use Rattle.list_lemmas.proofs.Positions.{last_or_before}
use Rattle.trace_base.specs.Stream.{IsLegal, is_enter, moments, stack_after, stack_step, time_of}
use Rattle.trace_base.specs.declared.limits.TheConstants.{MAX_FUNCTIONS, MAX_OPEN_CALLS, MAX_STATE_EVENTS}
use Rattle.trace_base.specs.declared.stream.Event.{Event}
use Rattle.trace_base.specs.declared.stream.Event.TheVariants.{Enter, Leave}
use Rattle.trace_base.specs.declared.stream.TrackStream.{TrackStream}
use Rattle.event_checks.specs.Front.{IsFront, MayCome, MayEnd, front_after}
use Rattle.event_checks.specs.declared.front.Front.{Front}

-- ---- one event more

stack-push : (events : List Event) (e : Event) → stack_after (events ++ e ∷ [])
    ≡ stack_step (stack_after events) e
unfolding stack_after
stack-push events e = fold-append stack_step [] events (e ∷ [])

-- what holds of the stacks of a front's fronts, and of the whole, holds of those with the event
each_stack : (P : List ℕ → Type 0) (events : List Event) (e : Event)
    → ((i : ℕ) → P (stack_after (take i events))) → P (stack_after (events ++ e ∷ [])) → (i : ℕ)
    → P (stack_after (take i (events ++ e ∷ [])))
each_stack P events e before now i =
    elim (cases_lt (length events) i) [
      | inl past ↦ subst (λ (l : List Event). P (stack_after l))
          (sym (take_all i (events ++ e ∷ []) (omega (arith, length-append events (e ∷ []), past)))) now
      | inr within ↦ subst (λ (l : List Event). P (stack_after l))
          (sym (take-append-le i events (e ∷ []) within)) (before i)
    ]

-- the stack before an event that stands in the front
stack_before : (events : List Event) (e x : Event) (i : ℕ) → slice_get events i ≡ Some x
    → stack_after (take i (events ++ e ∷ [])) ≡ stack_after (take i events)
stack_before events e x i is =
    ap stack_after (take-append-le i events (e ∷ []) (omega (arith, slice_get_within events i x is)))

order_push : (start last : ℕ) (events : List Event) (e : Event) → IsNonDecreasing (start ∷ map time_of events)
    → ((d : ℕ) → get_or (start ∷ map time_of events) (length events) d ≡ last) → last ≤ time_of e
    → IsNonDecreasing (start ∷ map time_of (events ++ e ∷ []))
order_push start last events e order at le =
    subst (λ (l : List ℕ). IsNonDecreasing (start ∷ l)) (sym (map-append time_of events (e ∷ [])))
    (IsNonDecreasingBy-push (λ x. x) (start ∷ map time_of events) (time_of e) order
    (λ d some. omega (
      arith,
      at d,
      ap (λ i. get_or (start ∷ map time_of events) i d) (same_length events),
      le,
    )))
  where
    same_length : (events : List Event) → length (start ∷ map time_of events) - 1 ≡ length events
    same_length events = omega (arith, length-map events time_of)

last_push : (start : ℕ) (events : List Event) (e : Event) (d : ℕ)
    → get_or (start ∷ map time_of (events ++ e ∷ [])) (length (events ++ e ∷ [])) d ≡ time_of e
last_push start events e d =
    ap (λ (l : List ℕ). get_or (start ∷ l) (length (events ++ e ∷ [])) d) (map-append time_of events (e ∷ []))
    ∙ get_or_push (start ∷ map time_of events) (time_of e) d (length (events ++ e ∷ []))
    (omega (arith, length-map events time_of, length-append events (e ∷ [])))

-- what is needed of the event, in words of the stack
record Comes (events : List Event) (front : Front) (e : Event) (next : Front) : Type 0 where
  pub later : front.last ≤ time_of e
  pub last : next.last ≡ time_of e
  pub depth : next.depth ≡ length (stack_step (stack_after events) e)
  pub deep : next.depth ≤ MAX_OPEN_CALLS
  pub calls : next.calls ≡ front.calls + length (filter is_enter (e ∷ []))
  pub few : next.calls ≤ MAX_STATE_EVENTS
  pub closes : (t : ℕ) → Leave t ≡ e → stack_after events ≢ []
  pub function : (f t : ℕ) → Enter f t ≡ e → (1 ≤ f) × (f ≤ MAX_FUNCTIONS)

front_push : (start : ℕ) (events : List Event) (front : Front) (e : Event) (next : Front)
    → IsFront start events front → Comes events front e next → IsFront start (events ++ e ∷ []) next
front_push start events front e next is comes = record {
  open_calls = comes.depth ∙ ap length (sym (stack-push events e));
  all_calls = omega (
    arith,
    comes.calls,
    is.all_calls,
    ap length (filter-append is_enter events (e ∷ [])),
    length-append (filter is_enter events) (filter is_enter (e ∷ [])),
  );
  last_time = λ d. last_push start events e d ∙ sym comes.last;
  in_order = order_push start front.last events e is.in_order is.last_time comes.later;
  closes_open = λ i t at. elim (last_or_before events e i (Leave t) at) [
    | inl before ↦ subst (λ (l : List ℕ). l ≢ []) (sym (stack_before events e (Leave t) i before))
        (is.closes_open i t before)
    | inr (here, same) ↦ subst (λ (l : List Event). stack_after l ≢ [])
        (sym (ap (λ j. take j (events ++ e ∷ [])) here ∙ take-append_seam events (e ∷ [])))
        (comes.closes t same)
  ];
  depth = each_stack (λ l. length l ≤ MAX_OPEN_CALLS) events e is.depth
      (omega (arith, comes.depth, comes.deep, ap length (stack-push events e)));
  few = comes.few;
  functions = λ i f t at. elim (last_or_before events e i (Enter f t) at) [
    | inl before ↦ is.functions i f t before
    | inr (here, same) ↦ comes.function f t same
  ];
}

not_leave : (f u t : ℕ) → Leave t ≡ Enter f u → ⊥
not_leave f u t e = cc

comes_next : (start : ℕ) (events : List Event) (front : Front) (e : Event) → IsFront start events front
    → MayCome front e → Comes events front e (front_after front e)
comes_next start events front (Enter f t) is (later, named, numbered, shallow, few) = record {
  later = later;
  last = refl;
  depth = omega (arith, is.open_calls, length-append (stack_after events) (f ∷ []));
  deep = omega (arith, shallow);
  calls = refl;
  few = omega (arith, few);
  closes = λ u same. absurd (not_leave f t u same);
  function = λ g u same. (
    omega (arith, named, same_function g u same),
    omega (
      arith,
      numbered,
      same_function g
          u same,
    ),
  );
}
  where
    same_function : (g u : ℕ) → Enter g u ≡ Enter f t → g ≡ f
    same_function g u same = cc
comes_next start events front (Leave t) is (later, some) = record {
  later = later;
  last = refl;
  depth = omega (arith, is.open_calls, length_pop (stack_after events));
  deep = omega (arith, at_depth start events front is);
  calls = omega arith;
  few = is.few;
  closes = λ u same. not_nil (stack_after events) (omega (arith, some, is.open_calls));
  function = λ g u same. absurd (not_leave g u t (sym same));
}
  where
    at_depth : (start : ℕ) (events : List Event) (front : Front) → IsFront start events front
        → front.depth ≤ MAX_OPEN_CALLS
    at_depth start events front is = omega (
      arith,
      is.open_calls,
      is.depth (length events),
      ap (λ (l : List Event). length (stack_after l)) (take_all (length events) events (omega arith)),
    )

-- a front with an event that may come
pub front_more : (start : ℕ) (events : List Event) (front : Front) (e : Event) → IsFront start events front
    → MayCome front e → IsFront start (events ++ e ∷ []) (front_after front e)
front_more start events front e is may =
    front_push start events front e (front_after front e) is (comes_next start events front e is may)

-- no events
pub front_none : (start : ℕ) → IsFront start [] (record { depth = 0; last = start; calls = 0 })
unfolding stack_after
front_none start = record {
  open_calls = refl;
  all_calls = refl;
  last_time = λ d. refl;
  in_order = IsNonDecreasingBy-short (λ x. x) (start ∷ []) (omega arith);
  closes_open = λ i t at. absurd (none-some (Leave t) at);
  depth = λ i. omega (arith, ap (λ (l : List Event). length (stack_after l)) (take_none i [] refl));
  few = omega arith;
  functions = λ i f t at. absurd (none-some (Enter f t) at);
}

-- ---- a legal stream

-- the last moment of a front is a moment of the stream
moment_before : (start : ℕ) (events : List Event) (more : List ℕ) (i d : ℕ) → i ≤ length events
    → get_or (start ∷ map time_of (take i events)) (length (take i events)) d
    ≡ get_or (start ∷ map time_of events ++ more) i d
moment_before start events more zero d within = refl
moment_before start [] more (suc i) d within = absurd (omega (arith, within))
moment_before start (e ∷ events) more (suc i) d within =
    moment_before (time_of e) events more i d (omega (arith, within))

moment_at : (events : List Event) (e : Event) (more : List ℕ) (i d : ℕ) → slice_get events i ≡ Some e
    → get_or (map time_of events ++ more) i d ≡ time_of e
moment_at [] e more i d is = absurd (none-some e is)
moment_at (x ∷ events) e more zero d is = ap time_of (same_Some x e is)
moment_at (x ∷ events) e more (suc i) d is = moment_at events e more i d is

length_moments : (s : TrackStream) → length (moments s) ≡ length s.events + 2
length_moments s = omega (
  arith,
  length-append (map time_of s.events) (s.end ∷ []),
  length-map s.events time_of,
)

take_next : (events : List Event) (i : ℕ) (e : Event) → slice_get events i ≡ Some e
    → take (i + 1) events ≡ take i events ++ e ∷ []
take_next events i e is =
    take_more events i e (slice_get_within events i e is)
    ∙ ap (λ x. take i events ++ x ∷ []) (get_or_from_slice_get events i e e is)

comes_later : (s : TrackStream) (i : ℕ) (e : Event) (front : Front) → IsLegal s
    → IsFront s.start (take i s.events) front → slice_get s.events i ≡ Some e → front.last ≤ time_of e
comes_later s i e front legal is at =
    let within = slice_get_within s.events i e at in
    let order = legal.in_order i (suc i) 0 (omega arith) (omega (arith, within, length_moments s)) in
    omega (
      arith,
      order,
      is.last_time 0,
      moment_before s.start s.events (s.end ∷ []) i 0 (omega (arith, within)),
      moment_at s.events e (s.end ∷ []) i 0 at,
    )

few_calls : (s : TrackStream) (i : ℕ) (e : Event) → slice_get s.events i ≡ Some e
    → length (filter is_enter (take i s.events)) + length (filter is_enter (e ∷ []))
    ≤ length (filter is_enter s.events)
few_calls s i e at =
    omega (
      arith,
      ap (λ l. length (filter is_enter l)) (take-append-drop (i + 1) s.events),
      ap length (filter-append is_enter (take (i + 1) s.events) (drop (i + 1) s.events)),
      length-append (filter is_enter (take (i + 1) s.events)) (filter is_enter (drop (i + 1) s.events)),
      ap (λ l. length (filter is_enter l)) (take_next s.events i e at),
      ap length (filter-append is_enter (take i s.events) (e ∷ [])),
      length-append (filter is_enter (take i s.events)) (filter is_enter (e ∷ [])),
    )

-- each of its events may come behind those before it
pub legal_may_come : (s : TrackStream) (i : ℕ) (e : Event) (front : Front) → IsLegal s
    → IsFront s.start (take i s.events) front → slice_get s.events i ≡ Some e → MayCome front e
legal_may_come s i (Enter f t) front legal is at =
    let named = legal.functions i f t at in
    let deeper : length (stack_after (take (i + 1) s.events)) ≡ length (stack_after (take i s.events)) + 1 =
    ap (λ l. length (stack_after l)) (take_next s.events i (Enter f t) at)
    ∙ ap length (stack-push (take i s.events) (Enter f t))
    ∙ length-append (stack_after (take i s.events)) (f ∷ []) in (
      comes_later s i (Enter f t) front legal is at,
      named.0,
      named.1,
      omega (arith, deeper, legal.depth (i + 1), is.open_calls),
      omega (arith, few_calls s i (Enter f t) at, legal.calls, is.all_calls),
    )
legal_may_come s i (Leave t) front legal is at = (
  comes_later s i (Leave t) front legal is at,
  omega (arith, one_from_nonempty (stack_after (take i s.events)) (legal.closes_open i t at), is.open_calls),
)

-- its events are a front without open calls, whose last event isn't behind its end
pub legal_ends : (s : TrackStream) (front : Front) → IsLegal s → IsFront s.start s.events front
    → MayEnd front s.end
legal_ends s front legal is =
    let n : ℕ = length s.events in
    let order = legal.in_order n (suc n) 0 (omega arith) (omega (arith, length_moments s)) in
    let end : get_or (map time_of s.events ++ s.end ∷ []) n 0 ≡ s.end =
    get_or_push (map time_of s.events) s.end 0 n (length-map s.events time_of) in
    let last : get_or (s.start ∷ map time_of s.events ++ s.end ∷ []) n 0 ≡ front.last =
    get_or_append_left (s.start ∷ map time_of s.events) (s.end ∷ []) 0 n
    (omega (arith, length-map s.events time_of)) ∙ is.last_time 0 in (
      is.open_calls ∙ ap length legal.all_closed,
      omega (arith, order, end, last),
      legal.in_time,
    )

-- and each such stream is legal
pub ends_legal : (s : TrackStream) (front : Front) → IsFront s.start s.events front → MayEnd front s.end
    → IsLegal s
ends_legal s front is (closed, ends, in_time) = record {
  in_time = in_time;
  in_order = IsNonDecreasingBy-push (λ x. x) (s.start ∷ map time_of s.events) s.end is.in_order
      (λ d some. omega (
        arith,
        is.last_time d,
        ap (λ i. get_or (s.start ∷ map time_of s.events) i d) (same_length s.events),
        ends,
      ));
  closes_open = is.closes_open;
  all_closed = no_items (stack_after s.events) (omega (arith, is.open_calls, closed));
  depth = is.depth;
  calls = omega (arith, is.all_calls, is.few);
  functions = is.functions;
}
  where
    same_length : (events : List Event) → length (s.start ∷ map time_of events) - 1 ≡ length events
    same_length events = omega (arith, length-map events time_of)

-- ---- a pass over its events

-- where the next event may come
pub front_next : (s : TrackStream) (items : List Event) (i : ℕ) (d : Event) (front next : Front)
    → items ≡ s.events → i < length items → IsFront s.start (take i s.events) front
    → MayCome front (get_or items i d) × (next ≡ front_after front (get_or items i d))
    → IsFront s.start (take (i + 1) s.events) next
front_next s items i d front next same within is (may, stands) =
    subst (λ (l : List Event). IsFront s.start (take (i + 1) l) next) same
    (subst (IsFront s.start (take (i + 1) items)) (sym stands)
    (subst (λ (l : List Event). IsFront s.start l (front_after front (get_or items i d)))
    (sym (take_more items i d within))
    (front_more s.start (take i items) front (get_or items i d)
    (subst (λ (l : List Event). IsFront s.start (take i l) front) (sym same) is) may)))

-- and where it may not
pub front_refused : (s : TrackStream) (items : List Event) (i : ℕ) (d : Event) (front : Front)
    → items ≡ s.events → i < length items → IsFront s.start (take i s.events) front
    → ¬ MayCome front (get_or items i d) → ¬ IsLegal s
front_refused s items i d front same within is refused legal =
    refused (legal_may_come s i (get_or items i d) front legal is
    (subst (λ (l : List Event). slice_get l i ≡ Some (get_or items i d)) same
    (slice_get-get_or items i d within)))
