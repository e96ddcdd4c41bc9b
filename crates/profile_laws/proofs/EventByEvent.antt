-- The time and the calls of a stream in which the call stack has a property, event by event: `q` is the call
-- stack before the events, and `from` the moment before them.
use Rattle.std.proofs.Common.{◌≡◌, ℕ, ◌+◌, ◌-◌, ◌≤◌, suc, Bool, false, cond, ◌&&◌, List, [], ◌∷◌, ◌++◌}
use Rattle.std.proofs.Common.{length, take, get_or, map, fold, sum_by, min, max, refl, ap, ◌∙◌, arith}
use Rattle.std.proofs.Common.{zero-add, add-one, slice_get}
use Rattle.std.specs.List.{range_with_len}
use Rattle.std.specs.List.Sorted.{IsNonDecreasing}
use Rattle.std.specs.Option.{option_map_or}
use Rattle.std.proofs.lemmas.List.Sums.{sum_by-cons}
use Rattle.list_lemmas.proofs.Booleans.{one_if}
use Rattle.list_lemmas.proofs.InOrder.{IsNonDecreasing-rest}
use Rattle.list_lemmas.proofs.Ranges.{range_sum-next}
use Rattle.list_lemmas.proofs.Sums.{sum_by-same}
use Rattle.profile_math.proofs.CallTimes.{part, time-parts}
use Rattle.profile_math.specs.Laws.{IsComplete}
use Rattle.trace_base.specs.Flat.{is_within, time_with}
use Rattle.trace_base.specs.Paths.{calls_making}
use Rattle.trace_base.specs.Stream.{is_enter, stack_after, stack_step, time_of}
use Rattle.trace_base.specs.declared.stream.Event.{Event}
use Rattle.trace_base.specs.declared.stream.TrackStream.{TrackStream}

-- what a part of the time has in common with the interval, where the call stack has the property
unfoldable pub time_in : (List ℕ → Bool) → ℕ → ℕ → List ℕ → ℕ → ℕ → ℕ
time_in has a b q from to = cond (has q) (min to b - max from a) 0

abbrev pub time_from : (List ℕ → Bool) → ℕ → ℕ → List ℕ → ℕ → List Event → ℕ → ℕ
time_from has a b q from [] end = time_in has a b q from end
time_from has a b q from (e ∷ es) end = time_in has a b q from (time_of e)
    + time_from has a b (stack_step q e) (time_of e) es end

-- whether the event begins a call within the interval that makes a call stack with the property
unfoldable pub makes_here : (List ℕ → Bool) → ℕ → ℕ → List ℕ → Event → Bool
makes_here has a b q e = (is_enter e && is_within a b (time_of e)) && has (stack_step q e)

abbrev pub making_from : (List ℕ → Bool) → ℕ → ℕ → List ℕ → List Event → ℕ
making_from has a b q [] = 0
making_from has a b q (e ∷ es) = one_if (makes_here has a b q e) + making_from has a b (stack_step q e) es

-- the events' times don't fall and lie from the one moment to the other
abbrev pub InTime : ℕ → List Event → ℕ → Type 0
InTime from [] end = from ≤ end
InTime from (e ∷ es) end = (from ≤ time_of e) × InTime (time_of e) es end

-- the moments of the events
abbrev moments_from : ℕ → List Event → ℕ → List ℕ
moments_from from es end = from ∷ map time_of es ++ end ∷ []

-- what the i-th piece has
part_from : (List ℕ → Bool) → ℕ → ℕ → List ℕ → ℕ → List Event → ℕ → ℕ → ℕ
part_from has a b q from es end i = cond (has (fold stack_step q (take i es)))
    (min (get_or (moments_from from es end) (i + 1) 0) b - max (get_or (moments_from from es end) i 0) a) 0

part-next : (has : List ℕ → Bool) (a b : ℕ) (q : List ℕ) (from : ℕ) (e : Event) (es : List Event)
    (end i : ℕ) → part_from has a b q from (e ∷ es) end (i + 1)
    ≡ part_from has a b (stack_step q e) (time_of e) es end i
unfolding part_from
part-next has a b q from e es end i =
    let ms : List ℕ = moments_from from (e ∷ es) end in
    let next : suc i + 1 ≡ suc (i + 1) = omega arith in
    ap (λ n. cond (has (fold stack_step q (take n (e ∷ es)))) (min (get_or ms (n + 1) 0) b
    - max (get_or ms n 0) a) 0) (add-one i)
    ∙ ap (λ n. cond (has (fold stack_step q (take (suc i) (e ∷ es)))) (min (get_or ms n 0) b
    - max (get_or ms (suc i) 0) a) 0) next

parts-from : (has : List ℕ → Bool) (a b : ℕ) (q : List ℕ) (from : ℕ) (es : List Event) (end : ℕ)
    → sum_by (part_from has a b q from es end) (range_with_len 0 (length es + 1))
    ≡ time_from has a b q from es end
unfolding part_from time_in
parts-from has a b q from [] end = zero-add (time_in has a b q from end)
parts-from has a b q from (e ∷ es) end =
    let g : ℕ → ℕ = part_from has a b q from (e ∷ es) end in
    let n : ℕ = length es + 1 in
    let more : length (e ∷ es) + 1 ≡ suc n = omega arith in
    ap (λ m. sum_by g (range_with_len 0 m)) more
    ∙ sum_by-cons g 0 (range_with_len (0 + 1) n)
    ∙ ap (λ m. time_in has a b q from (time_of e) + m) (range_sum-next g 0 n
    ∙ sum_by-same (λ i. g (i + 1)) (part_from has a b (stack_step q e) (time_of e) es end)
    (part-next has a b q from e es end) (range_with_len 0 n)
    ∙ parts-from has a b (stack_step q e) (time_of e) es end)

pub time-by_event : (has : List ℕ → Bool) (a b : ℕ) (s : TrackStream)
    → time_with has a b s ≡ time_from has a b [] s.start s.events s.end
unfolding part_from part stack_after
time-by_event has a b s = time-parts has a b s ∙ parts-from has a b [] s.start s.events s.end

-- ---- calls

-- whether event i begins a call within the interval that makes a call stack with the property
making_at : (List ℕ → Bool) → ℕ → ℕ → List ℕ → List Event → ℕ → ℕ
making_at has a b q es i = one_if (option_map_or (λ e. is_enter e && is_within a b (time_of e))
    (slice_get es i) false && has (fold stack_step q (take (i + 1) es)))

making-next : (has : List ℕ → Bool) (a b : ℕ) (q : List ℕ) (e : Event) (es : List Event) (i : ℕ)
    → making_at has a b q (e ∷ es) (i + 1) ≡ making_at has a b (stack_step q e) es i
unfolding making_at
making-next has a b q e es i =
    let next : suc i + 1 ≡ suc (i + 1) = omega arith in
    ap (λ n. one_if (option_map_or (λ d. is_enter d && is_within a b (time_of d)) (slice_get (e ∷ es) n) false
    && has (fold stack_step q (take (n + 1) (e ∷ es))))) (add-one i)
    ∙ ap (λ n. one_if (option_map_or (λ d. is_enter d && is_within a b (time_of d)) (slice_get es i) false
    && has (fold stack_step q (take n (e ∷ es))))) next

makings-from : (has : List ℕ → Bool) (a b : ℕ) (q : List ℕ) (es : List Event)
    → sum_by (making_at has a b q es) (range_with_len 0 (length es)) ≡ making_from has a b q es
unfolding making_at makes_here
makings-from has a b q [] = refl
makings-from has a b q (e ∷ es) =
    let g : ℕ → ℕ = making_at has a b q (e ∷ es) in
    let n : ℕ = length es in
    sum_by-cons g 0 (range_with_len (0 + 1) n)
    ∙ ap (λ m. one_if (makes_here has a b q e) + m) (range_sum-next g 0 n
    ∙ sum_by-same (λ i. g (i + 1)) (making_at has a b (stack_step q e) es)
    (making-next has a b q e es) (range_with_len 0 n)
    ∙ makings-from has a b (stack_step q e) es)

pub making-by_event : (has : List ℕ → Bool) (a b : ℕ) (s : TrackStream)
    → calls_making has a b s ≡ making_from has a b [] s.events
unfolding calls_making making_at stack_after
making-by_event has a b s = makings-from has a b [] s.events

-- ---- times in order

in-time : (from : ℕ) (es : List Event) (end : ℕ) → IsNonDecreasing (from ∷ map time_of es ++ end ∷ [])
    → InTime from es end
in-time from [] end h = h 0 1 0 (omega arith) (omega arith)
in-time from (e ∷ es) end h = (
  h 0 1 0 (omega arith) (omega arith),
  in-time (time_of e) es end (IsNonDecreasing-rest from (map time_of (e ∷ es) ++ end ∷ []) h),
)

pub end-in_time : (from : ℕ) (es : List Event) (end : ℕ) → InTime from es end → from ≤ end
end-in_time from [] end h = h
end-in_time from (e ∷ es) end h = omega (arith, h.0, end-in_time (time_of e) es end h.1)

-- the times of a complete stream
pub complete-in_time : (s : TrackStream) → IsComplete s → InTime s.start s.events s.end
complete-in_time s complete = in-time s.start s.events s.end complete.in_order
