-- A test that shows a written-out stream to be legal, by computing.
use Rattle.std.proofs.Common.{◌≡◌, ℕ, ◌+◌, ◌<◌, ◌≤◌, List, [], ◌∷◌, length, take, get_or, map}
use Rattle.std.proofs.Common.{filter, slice_get, Bool, true, ◌&&◌, nat_le, Some, refl, ap, subst, inl}
use Rattle.std.proofs.Common.{inr, arith, length-append}
use Rattle.std.proofs.lemmas.Bool.{and_parts, leb-true, cases_lt}
use Rattle.std.proofs.lemmas.List.{take_all, get_or_default, length-map}
use Rattle.std.proofs.lemmas.List.Sorted.{IsNonDecreasingBy-from_all_adjacent}
use Rattle.std.proofs.lemmas.Option.{get_or_from_slice_get, slice_get_within}
use Rattle.list_lemmas.proofs.Each.{passes_below, passes_below-at}
use Rattle.list_lemmas.proofs.Fronts.{nonempty_by}
use Rattle.trace_base.specs.Examples.{two_calls, recursion, no_length}
use Rattle.trace_base.specs.FoldExamples.{both_ways, siblings}
use Rattle.trace_base.specs.Stream.{time_of, is_enter, stack_after, moments, IsLegal}
use Rattle.trace_base.specs.declared.limits.TheConstants.{MAX_TIME, MAX_OPEN_CALLS, MAX_STATE_EVENTS}
use Rattle.trace_base.specs.declared.limits.TheConstants.{MAX_FUNCTIONS}
use Rattle.trace_base.specs.declared.stream.Event.{Event}
use Rattle.trace_base.specs.declared.stream.Event.TheVariants.{Enter, Leave}
use Rattle.trace_base.specs.declared.stream.TrackStream.{TrackStream}

-- whether the event may come with this call stack
abbrev pub may_come : Event → List ℕ → Bool
may_come (Enter f t) stack = nat_le 1 f && nat_le f MAX_FUNCTIONS
may_come (Leave t) stack = nat_le 1 (length stack)

-- the parts of the test, one for each part of what a legal stream is
pub record PassesTests (s : TrackStream) : Type 0 where
  pub in_time : nat_le s.end MAX_TIME ≡ true
  pub in_order : passes_below (λ i. nat_le (get_or (moments s) i 0) (get_or (moments s) (i + 1) 0))
      (length s.events + 1) ≡ true
  pub each : passes_below (λ i. may_come (get_or s.events i (Leave 0)) (stack_after (take i s.events)))
      (length s.events) ≡ true
  pub all_closed : stack_after s.events ≡ []
  pub depth : passes_below (λ i. nat_le (length (stack_after (take i s.events))) MAX_OPEN_CALLS)
      (length s.events + 1) ≡
      true
  pub calls : nat_le (length (filter is_enter s.events)) MAX_STATE_EVENTS ≡ true

rises : (s : TrackStream) → PassesTests s → (k d : ℕ) → k + 1 < length (moments s)
    → get_or (moments s) k d ≤ get_or (moments s) (k + 1) d
rises s tests k d h =
    let low : k < length s.events + 1 =
    omega (arith, length-append (map time_of s.events) (s.end ∷ []), length-map s.events time_of) in
    let at_zero : get_or (moments s) k 0 ≤ get_or (moments s) (k + 1) 0 =
    leb-true _ _ (passes_below-at (λ i. nat_le (get_or (moments s) i 0) (get_or (moments s) (i + 1) 0))
    (length s.events + 1) k tests.in_order low) in
    rw (get_or_default (moments s) k d 0 (omega arith), get_or_default (moments s) (k + 1) d 0 h) at_zero

fine_at : (s : TrackStream) → PassesTests s → (i : ℕ) (e : Event) → slice_get s.events i ≡ Some e
    → may_come e (stack_after (take i s.events)) ≡ true
fine_at s tests i e h =
    subst (λ (x : Event). may_come x (stack_after (take i s.events)) ≡ true)
    (get_or_from_slice_get s.events i e (Leave 0) h)
    (passes_below-at (λ j. may_come (get_or s.events j (Leave 0)) (stack_after (take j s.events)))
    (length s.events) i tests.each (slice_get_within s.events i e h))

depth_at : (s : TrackStream) → PassesTests s → (i : ℕ) → length (stack_after (take i s.events)) ≤
    MAX_OPEN_CALLS
depth_at s tests i =
    elim (cases_lt i (length s.events + 1)) [
      | inl below ↦ leb-true _ _ (passes_below-at
          (λ j. nat_le (length (stack_after (take j s.events))) MAX_OPEN_CALLS)
          (length s.events + 1) i tests.depth below)
      | inr past ↦ (let whole : take i s.events ≡ s.events = take_all i s.events (omega arith)
          in omega (
            arith,
            ap (λ (es : List Event). length (stack_after es)) whole,
            ap length tests.all_closed,
          ))
    ]

pub IsLegal-from : (s : TrackStream) → PassesTests s → IsLegal s
IsLegal-from s tests = record {
  in_time = leb-true _ _ tests.in_time;
  in_order = IsNonDecreasingBy-from_all_adjacent (λ x. x) (moments s) (rises s tests);
  closes_open = λ i t h. nonempty_by (stack_after (take i s.events)) (fine_at s tests i (Leave t) h);
  all_closed = tests.all_closed;
  depth = depth_at s tests;
  calls = leb-true _ _ tests.calls;
  functions =
      λ i f t h. (
        leb-true _ _ (and_parts (nat_le 1 f) (nat_le f MAX_FUNCTIONS) (fine_at s tests i (Enter f t) h)).0,
        leb-true _ _ (and_parts (nat_le 1 f) (nat_le f MAX_FUNCTIONS) (fine_at s tests i (Enter f t) h)).1,
      );
}

-- the small streams of the tests are legal
pub two_calls-legal : IsLegal two_calls
unfolding stack_after
two_calls-legal = IsLegal-from two_calls
    (record { in_time = refl; in_order = refl; each = refl; all_closed = refl; depth = refl; calls = refl })

pub recursion-legal : IsLegal recursion
unfolding stack_after
recursion-legal = IsLegal-from recursion
    (record { in_time = refl; in_order = refl; each = refl; all_closed = refl; depth = refl; calls = refl })

pub no_length-legal : IsLegal no_length
unfolding stack_after
no_length-legal = IsLegal-from no_length
    (record { in_time = refl; in_order = refl; each = refl; all_closed = refl; depth = refl; calls = refl })

pub both_ways-legal : IsLegal both_ways
unfolding stack_after
both_ways-legal = IsLegal-from both_ways
    (record { in_time = refl; in_order = refl; each = refl; all_closed = refl; depth = refl; calls = refl })

pub siblings-legal : IsLegal siblings
unfolding stack_after
siblings-legal = IsLegal-from siblings
    (record { in_time = refl; in_order = refl; each = refl; all_closed = refl; depth = refl; calls = refl })
