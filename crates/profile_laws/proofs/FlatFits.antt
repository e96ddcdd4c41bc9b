-- The numbers of a flat profile are no greater than how long the streams last and how many calls they have.
use Rattle.std.proofs.Common.{ℕ, ◌+◌, ◌-◌, ◌≤◌, Bool, List, [], ◌∷◌, map, sum_by}
use Rattle.std.proofs.Common.{cond, min, max, arith, get_or}
use Rattle.std.specs.List.{AllByRecursion, range_with_len}
use Rattle.std.proofs.lemmas.List.Elements.{All-filter, All-map}
use Rattle.std.proofs.lemmas.List.Sums.{length-filter, sum_by-cons, sum_by-le-sum_by}
use Rattle.list_lemmas.proofs.Booleans.{cond-le}
use Rattle.profile_laws.proofs.EventByEvent.{InTime, complete-in_time, end-in_time, time-by_event, time_from}
use Rattle.profile_laws.proofs.EventByEvent.{time_in}
use Rattle.profile_math.specs.Laws.{IsComplete}
use Rattle.profile_math.specs.Sum.{ProfileFits, RowFits}
use Rattle.profile_laws.specs.Laws.{OfFitting}
use Rattle.profile_laws.specs.Sizes.{FitTogether, enters, lasts}
use Rattle.trace_base.specs.Flat.{calls_in, enters_in, flat, greatest_function, is_bare, is_innermost_in}
use Rattle.trace_base.specs.Flat.{is_open_in}
use Rattle.trace_base.specs.Flat.{row_of, stands, time_with}
use Rattle.trace_base.specs.Stream.{is_enter, stack_step, time_of}
use Rattle.trace_base.specs.declared.stream.Event.{Event}
use Rattle.trace_base.specs.declared.stream.Event.TheVariants.{Enter, Leave}
use Rattle.trace_base.specs.declared.stream.TrackStream.{TrackStream}

-- ---- one stream

time-in-le : (has : List ℕ → Bool) (a b : ℕ) (q : List ℕ) (from to : ℕ) → from ≤ to
    → time_in has a b q from to + from ≤ to
unfolding time_in
time-in-le has a b q from to h =
    omega (arith, h, cond-le (has q) (min to b - max from a) (to - from) (omega arith))

time-from-le : (has : List ℕ → Bool) (a b : ℕ) (q : List ℕ) (from : ℕ) (es : List Event) (end : ℕ)
    → InTime from es end → time_from has a b q from es end + from ≤ end
time-from-le has a b q from [] end h = time-in-le has a b q from end h
time-from-le has a b q from (e ∷ es) end h =
    omega (
      arith,
      time-in-le has a b q from (time_of e) h.0,
      time-from-le has a b (stack_step q e) (time_of e) es end h.1,
    )

time-le : (has : List ℕ → Bool) (a b : ℕ) (s : TrackStream) → IsComplete s → time_with has a b s ≤ lasts s
time-le has a b s complete =
    omega (
      arith,
      time-by_event has a b s,
      time-from-le has a b [] s.start s.events s.end (complete-in_time s complete),
      end-in_time s.start s.events s.end (complete-in_time s complete),
    )

enter-le : (f a b : ℕ) (e : Event) → cond (enters_in f a b e) 1 0 ≤ cond (is_enter e) 1 0
enter-le f a b (Enter g t) = cond-le (enters_in f a b (Enter g t)) 1 1 (omega arith)
enter-le f a b (Leave t) = omega arith

calls-le : (f a b : ℕ) (s : TrackStream) → calls_in f a b s ≤ enters s
unfolding calls_in
calls-le f a b s =
    omega (
      arith,
      sum_by-le-sum_by (λ e. cond (enters_in f a b e) 1 0) (λ e. cond (is_enter e) 1 0) s.events
          (enter-le f a b),
      length-filter is_enter s.events,
    )

-- ---- all streams

times-le : (has : List ℕ → Bool) (a b : ℕ) (ss : List TrackStream) → AllByRecursion IsComplete ss
    → sum_by (time_with has a b) ss ≤ sum_by lasts ss
times-le has a b [] all = omega arith
times-le has a b (s ∷ ss) all =
    omega (
      arith,
      sum_by-cons (time_with has a b) s ss,
      sum_by-cons lasts s ss,
      time-le has a b s all.0,
      times-le has a b ss all.1,
    )

row-fits : (ss : List TrackStream) (a b f : ℕ) → FitTogether ss → RowFits (row_of ss a b f)
unfolding row_of
row-fits ss a b f fit = (
  omega (arith, sum_by-le-sum_by (calls_in f a b) enters ss (calls-le f a b), fit.calls),
  omega (arith, times-le (is_open_in f) a b ss fit.complete, fit.time),
  omega (arith, times-le (is_innermost_in f) a b ss fit.complete, fit.time),
)

pub flat-fits : OfFitting flat ProfileFits
unfolding flat
flat-fits ss a b together = (
  omega (arith, times-le is_bare a b ss together.complete, together.time),
  All-filter stands RowFits (map (row_of ss a b) (range_with_len 1 (greatest_function ss)))
      (All-map RowFits (row_of ss a b) (range_with_len 1 (greatest_function ss))
      (λ k d h. row-fits ss a b (get_or (range_with_len 1 (greatest_function ss)) k d) together)),
)

pub ruleset laws = (flat-fits)
