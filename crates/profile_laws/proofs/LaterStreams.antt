-- The time and the calls of streams that are moved in time are those of the streams over an interval that is
-- moved with them.
use Rattle.std.proofs.Common.{◌≡◌, ℕ, ◌+◌, ◌-◌, Bool, cond, ◌&&◌, ◌==◌, List, [], ◌∷◌, ap, ◌∙◌}
use Rattle.std.proofs.Common.{arith, map, max}
use Rattle.std.proofs.Common.{count_by, min, refl, sym}
use Rattle.std.proofs.lemmas.Bool.Decides.{nat_tests}
use Rattle.std.proofs.lemmas.List.Sums.{sum_by-cons}
use Rattle.list_lemmas.proofs.Booleans.{one_if}
use Rattle.list_lemmas.proofs.Sums.{sum_by-map, sum_by-same}
use Rattle.trace_base.specs.Flat.{calls_in, enters_in, is_within, time_with}
use Rattle.trace_base.specs.Paths.{calls_making}
use Rattle.trace_base.specs.Stream.{stack_step}
use Rattle.trace_base.specs.declared.stream.Event.{Event}
use Rattle.trace_base.specs.declared.stream.Event.TheVariants.{Enter, Leave}
use Rattle.trace_base.specs.declared.stream.TrackStream.{TrackStream}
use Rattle.profile_laws.specs.Streams.{event_later, later}
use Rattle.profile_laws.proofs.AlikeProfiles.{AreAlike}
use Rattle.profile_laws.proofs.EventByEvent.{makes_here, making-by_event, making_from, time-by_event}
use Rattle.profile_laws.proofs.EventByEvent.{time_from, time_in}

within-later : (d a b t : ℕ) → is_within (a + d) (b + d) (t + d) ≡ is_within a b t
within-later d a b t = grind (arith, nat_tests)

time_in-later : (has : List ℕ → Bool) (d a b : ℕ) (q : List ℕ) (x y : ℕ)
    → time_in has (a + d) (b + d) q (x + d) (y + d) ≡ time_in has a b q x y
unfolding time_in
time_in-later has d a b q x y = ap (λ n. cond (has q) n 0) clip
  where
    clip : min (y + d) (b + d) - max (x + d) (a + d) ≡ min y b - max x a
    clip = omega arith

time_from-later : (has : List ℕ → Bool) (d a b : ℕ) (q : List ℕ) (from : ℕ) (es : List Event) (end : ℕ)
    → time_from has (a + d) (b + d) q (from + d) (map (event_later d) es) (end + d)
    ≡ time_from has a b q from es end
time_from-later has d a b q from [] end = time_in-later has d a b q from end
time_from-later has d a b q from (Enter f t ∷ es) end = omega (
  arith,
  time_in-later has d a b q from t,
  time_from-later has d a b (stack_step q (Enter f t)) t es end,
)
time_from-later has d a b q from (Leave t ∷ es) end = omega (
  arith,
  time_in-later has d a b q from t,
  time_from-later has d a b (stack_step q (Leave t)) t es end,
)

making_from-later : (has : List ℕ → Bool) (d a b : ℕ) (q : List ℕ) (es : List Event)
    → making_from has (a + d) (b + d) q (map (event_later d) es) ≡ making_from has a b q es
unfolding makes_here
making_from-later has d a b q [] = refl
making_from-later has d a b q (Enter f t ∷ es) = omega (
  arith,
  ap (λ w. one_if (w && has (stack_step q (Enter f t)))) (within-later d a b t),
  making_from-later has d a b (stack_step q (Enter f t)) es,
)
making_from-later has d a b q (Leave t ∷ es) = ap (λ n. 0 + n) (making_from-later has d a b
    (stack_step q (Leave t)) es)

count-later : (f d a b : ℕ) (es : List Event)
    → count_by (enters_in f (a + d) (b + d)) (map (event_later d) es) ≡ count_by (enters_in f a b) es
count-later f d a b [] = refl
count-later f d a b (Enter g t ∷ es) = omega (
  arith,
  sum_by-cons (λ e. one_if (enters_in f (a + d) (b + d) e)) (Enter g (t + d)) (map (event_later d) es),
  ap (λ w. one_if ((g == f) && w)) (within-later d a b t),
  count-later f d a b es,
  sum_by-cons (λ e. one_if (enters_in f a b e)) (Enter g t) es,
)
count-later f d a b (Leave t ∷ es) = omega (
  arith,
  sum_by-cons (λ e. one_if (enters_in f (a + d) (b + d) e)) (Leave (t + d)) (map (event_later d) es),
  count-later f d a b es,
  sum_by-cons (λ e. one_if (enters_in f a b e)) (Leave t) es,
)

-- ---- the streams

time-later : (has : List ℕ → Bool) (d a b : ℕ) (s : TrackStream)
    → time_with has (a + d) (b + d) (later d s) ≡ time_with has a b s
time-later has d a b s = time-by_event has (a + d) (b + d) (later d s)
    ∙ time_from-later has d a b [] s.start s.events s.end ∙ sym (time-by_event has a b s)

making-later : (has : List ℕ → Bool) (d a b : ℕ) (s : TrackStream)
    → calls_making has (a + d) (b + d) (later d s) ≡ calls_making has a b s
making-later has d a b s = making-by_event has (a + d) (b + d) (later d s)
    ∙ making_from-later has d a b [] s.events ∙ sym (making-by_event has a b s)

calls-later : (f d a b : ℕ) (s : TrackStream) → calls_in f (a + d) (b + d) (later d s) ≡ calls_in f a b s
unfolding calls_in
calls-later f d a b s = count-later f d a b s.events

pub later-alike : (streams : List TrackStream) (d a b : ℕ)
    → AreAlike (map (later d) streams) (a + d) (b + d) streams a b
later-alike streams d a b = record {
  time = λ has. sum_by-map (time_with has (a + d) (b + d)) (later d) streams
      ∙ sum_by-same (λ s. time_with has (a + d) (b + d) (later d s)) (time_with has a b)
      (time-later has d a b) streams;
  calls = λ f. sum_by-map (calls_in f (a + d) (b + d)) (later d) streams
      ∙ sum_by-same (λ s. calls_in f (a + d) (b + d) (later d s)) (calls_in f a b) (calls-later f d a b)
      streams;
  making = λ has. sum_by-map (calls_making has (a + d) (b + d)) (later d) streams
      ∙ sum_by-same (λ s. calls_making has (a + d) (b + d) (later d s)) (calls_making has a b)
      (making-later has d a b) streams;
}
