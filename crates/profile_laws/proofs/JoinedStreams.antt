-- The time and the calls of a stream that is two streams, one behind the other, are those of the two.
use Rattle.std.proofs.Common.{◌≡◌, ℕ, ◌+◌, ◌-◌, ◌≤◌, Bool, true, false, cond, List, [], ◌∷◌, ◌++◌}
use Rattle.std.proofs.Common.{ap, sym, ◌∙◌}
use Rattle.std.proofs.Common.{arith, fold, max, min, refl, subst, sum_by}
use Rattle.std.proofs.lemmas.List.Sums.{sum_by-append, sum_by-cons}
use Rattle.list_lemmas.proofs.Booleans.{one_if}
use Rattle.profile_math.specs.Laws.{IsComplete}
use Rattle.trace_base.specs.Flat.{calls_in, enters_in, time_with}
use Rattle.trace_base.specs.Paths.{calls_making}
use Rattle.trace_base.specs.Stream.{stack_after, stack_step, time_of}
use Rattle.trace_base.specs.declared.stream.Event.{Event}
use Rattle.trace_base.specs.declared.stream.TrackStream.{TrackStream}
use Rattle.profile_laws.specs.Streams.{joined}
use Rattle.profile_laws.proofs.AlikeProfiles.{AreAlike}
use Rattle.profile_laws.proofs.EventByEvent.{InTime, complete-in_time, making-by_event}
use Rattle.profile_laws.proofs.EventByEvent.{making_from, time-by_event, time_from, time_in}

-- a part of the time in two
time_in-parts : (has : List ℕ → Bool) (a b : ℕ) (q : List ℕ) (x y z : ℕ) → x ≤ y → y ≤ z
    → time_in has a b q x z ≡ time_in has a b q x y + time_in has a b q y z
unfolding time_in
time_in-parts has a b q x y z l m = elim (has q) as (λ v. cond v (min z b - max x a) 0
    ≡ cond v (min y b - max x a) 0 + cond v (min z b - max y a) 0) [
      | true ↦ omega arith
      | false ↦ refl
    ]

-- an earlier start adds the time up to the start
time_from-earlier : (has : List ℕ → Bool) (a b : ℕ) (q : List ℕ) (from start : ℕ) (es : List Event) (end : ℕ)
    → from ≤ start → InTime start es end
    → time_from has a b q from es end ≡ time_in has a b q from start + time_from has a b q start es end
time_from-earlier has a b q from start [] end l t = time_in-parts has a b q from start end l t
time_from-earlier has a b q from start (e ∷ es) end l t = omega (
  arith,
  time_in-parts has a b q from start (time_of e) l t.0,
)

time_from-joined : (has : List ℕ → Bool) (a b : ℕ) (q : List ℕ) (from : ℕ) (es : List Event) (seam : ℕ)
    (fs : List Event) (end : ℕ) → fold stack_step q es ≡ [] → InTime from es seam → InTime seam fs end
    → time_from has a b q from (es ++ fs) end
    ≡ time_from has a b q from es seam + time_from has a b [] seam fs end
time_from-joined has a b q from [] seam fs end e t u = subst (λ (p : List ℕ). time_from has a b p from fs end
    ≡ time_in has a b p from seam + time_from has a b [] seam fs end) (sym e)
    (time_from-earlier has a b [] from seam fs end t u)
time_from-joined has a b q from (d ∷ es) seam fs end e t u = omega (
  arith,
  time_from-joined has a b (stack_step q d) (time_of d) es seam fs end e t.1 u,
)

making_from-joined : (has : List ℕ → Bool) (a b : ℕ) (q : List ℕ) (es fs : List Event)
    → making_from has a b q (es ++ fs)
    ≡ making_from has a b q es + making_from has a b (fold stack_step q es) fs
making_from-joined has a b q [] fs = omega arith
making_from-joined has a b q (d ∷ es) fs = omega (arith, making_from-joined has a b (stack_step q d) es fs)

-- ---- the streams

time-joined : (has : List ℕ → Bool) (a b : ℕ) (s t : TrackStream) → IsComplete s → IsComplete t
    → s.end ≡ t.start → time_with has a b (joined s t) ≡ time_with has a b s + time_with has a b t
unfolding stack_after
time-joined has a b s t complete_s complete_t e =
    let meets : InTime s.start s.events t.start =
    subst (InTime s.start s.events) e (complete-in_time s complete_s) in
    time-by_event has a b (joined s t)
    ∙ time_from-joined has a b [] s.start s.events t.start t.events t.end complete_s.all_closed meets
    (complete-in_time t complete_t)
    ∙ ap (λ m. time_from has a b [] s.start s.events m + time_from has a b [] t.start t.events t.end) (sym e)
    ∙ ap (λ m. m + time_from has a b [] t.start t.events t.end) (sym (time-by_event has a b s))
    ∙ ap (λ m. time_with has a b s + m) (sym (time-by_event has a b t))

making-joined : (has : List ℕ → Bool) (a b : ℕ) (s t : TrackStream) → IsComplete s
    → calls_making has a b (joined s t) ≡ calls_making has a b s + calls_making has a b t
unfolding stack_after
making-joined has a b s t complete = making-by_event has a b (joined s t)
    ∙ making_from-joined has a b [] s.events t.events
    ∙ ap (λ q. making_from has a b [] s.events + making_from has a b q t.events) complete.all_closed
    ∙ ap (λ m. m + making_from has a b [] t.events) (sym (making-by_event has a b s))
    ∙ ap (λ m. calls_making has a b s + m) (sym (making-by_event has a b t))

calls-joined : (f a b : ℕ) (s t : TrackStream) → calls_in f a b (joined s t) ≡ calls_in f a b s
    + calls_in f a b t
unfolding calls_in
calls-joined f a b s t = sum_by-append (λ e. one_if (enters_in f a b e)) s.events t.events

sum-joined : (f : TrackStream → ℕ) (x s t : TrackStream) (more : List TrackStream) → f x ≡ f s + f t
    → sum_by f (x ∷ more) ≡ sum_by f (s ∷ t ∷ more)
sum-joined f x s t more e = omega (
  arith,
  e,
  sum_by-cons f x more,
  sum_by-cons f s (t ∷ more),
  sum_by-cons f t more,
)

pub joined-alike : (s t : TrackStream) (more : List TrackStream) (a b : ℕ) → IsComplete s → IsComplete t
    → s.end ≡ t.start → AreAlike (joined s t ∷ more) a b (s ∷ t ∷ more) a b
joined-alike s t more a b complete_s complete_t e = record {
  time = λ has. sum-joined (time_with has a b) (joined s t) s t more
      (time-joined has a b s t complete_s complete_t e);
  calls = λ f. sum-joined (calls_in f a b) (joined s t) s t more (calls-joined f a b s t);
  making = λ has. sum-joined (calls_making has a b) (joined s t) s t more
      (making-joined has a b s t complete_s);
}
