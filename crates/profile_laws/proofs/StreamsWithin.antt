-- Streams over two intervals that have the same in common with the time in which the streams run.
use Rattle.std.proofs.Common.{◌≡◌, ℕ, ◌+◌, ◌-◌, ◌<◌, ◌≤◌, Bool, true, false, cond, ◌&&◌, ◌==◌, List, [], ◌∷◌}
use Rattle.std.proofs.Common.{ap, ◌∙◌}
use Rattle.std.proofs.Common.{arith, count_by, max, min, refl, sym, ◌⊎◌, inl, inr}
use Rattle.std.proofs.lemmas.Bool.Decides.{nat_tests}
use Rattle.std.proofs.lemmas.List.Sums.{sum_by-cons}
use Rattle.list_lemmas.proofs.Booleans.{cond_zero, count_and-false, one_if}
use Rattle.profile_math.specs.Laws.{IsComplete}
use Rattle.trace_base.specs.Flat.{calls_in, enters_in, is_within, time_with}
use Rattle.trace_base.specs.Paths.{calls_making}
use Rattle.trace_base.specs.Stream.{is_enter, stack_step, time_of}
use Rattle.trace_base.specs.declared.stream.Event.{Event}
use Rattle.trace_base.specs.declared.stream.Event.TheVariants.{Enter, Leave}
use Rattle.trace_base.specs.declared.stream.TrackStream.{TrackStream}
use Rattle.profile_laws.proofs.AlikeProfiles.{AreAlike}
use Rattle.profile_laws.proofs.EventByEvent.{InTime, complete-in_time, end-in_time, makes_here}
use Rattle.profile_laws.proofs.EventByEvent.{making-by_event, making_from, time-by_event, time_from, time_in}

-- each part of the time between two moments has as much in common with [a, b) as with [c, d)
abbrev pub ClipAlike : ℕ → ℕ → ℕ → ℕ → ℕ → ℕ → Type 0
ClipAlike a b c d from to = (x y : ℕ) → from ≤ x → x ≤ y → y ≤ to → min y b - max x a ≡ min y d - max x c

-- each time between two moments is within [a, b) where it is within [c, d)
abbrev pub WithinAlike : ℕ → ℕ → ℕ → ℕ → ℕ → ℕ → Type 0
WithinAlike a b c d from to = (t : ℕ) → from ≤ t → t ≤ to → is_within a b t ≡ is_within c d t

time_from-alike : (has : List ℕ → Bool) (a b c d first last : ℕ) → ClipAlike a b c d first last
    → (q : List ℕ) (from : ℕ) (es : List Event) → first ≤ from → InTime from es last
    → time_from has a b q from es last ≡ time_from has c d q from es last
unfolding time_in
time_from-alike has a b c d first last h q from [] l t = ap (λ n. cond (has q) n 0)
    (h from last l t (omega arith))
time_from-alike has a b c d first last h q from (e ∷ es) l t =
    let end : time_of e ≤ last = end-in_time (time_of e) es last t.1 in
    ap (λ n. cond (has q) n 0 + time_from has a b (stack_step q e) (time_of e) es last)
    (h from (time_of e) l t.0 end)
    ∙ ap (λ n. time_in has c d q from (time_of e) + n)
    (time_from-alike has a b c d first last h (stack_step q e) (time_of e) es (omega (arith, t.0)) t.1)

making_from-alike : (has : List ℕ → Bool) (a b c d first last : ℕ) → WithinAlike a b c d first last
    → (q : List ℕ) (from : ℕ) (es : List Event) → first ≤ from → InTime from es last
    → making_from has a b q es ≡ making_from has c d q es
unfolding makes_here
making_from-alike has a b c d first last h q from [] l t = refl
making_from-alike has a b c d first last h q from (e ∷ es) l t =
    let end : time_of e ≤ last = end-in_time (time_of e) es last t.1 in
    let low : first ≤ time_of e = omega (arith, t.0) in
    ap (λ w. one_if ((is_enter e && w) && has (stack_step q e)) + making_from has a b (stack_step q e) es)
    (h (time_of e) low end)
    ∙ ap (λ n. one_if (makes_here has c d q e) + n)
    (making_from-alike has a b c d first last h (stack_step q e) (time_of e) es low t.1)

calls-alike : (f a b c d first last : ℕ) → WithinAlike a b c d first last
    → (from : ℕ) (es : List Event) → first ≤ from → InTime from es last
    → count_by (enters_in f a b) es ≡ count_by (enters_in f c d) es
calls-alike f a b c d first last h from [] l t = refl
calls-alike f a b c d first last h from (Enter g u ∷ es) l t =
    let end : u ≤ last = end-in_time u es last t.1 in
    let low : first ≤ u = omega (arith, t.0) in
    sum_by-cons (λ e. one_if (enters_in f a b e)) (Enter g u) es
    ∙ ap (λ w. one_if ((g == f) && w) + count_by (enters_in f a b) es) (h u low end)
    ∙ ap (λ n. one_if ((g == f) && is_within c d u) + n) (calls-alike f a b c d first last h u es low t.1)
    ∙ sym (sum_by-cons (λ e. one_if (enters_in f c d e)) (Enter g u) es)
calls-alike f a b c d first last h from (Leave u ∷ es) l t =
    let low : first ≤ u = omega (arith, t.0) in
    sum_by-cons (λ e. one_if (enters_in f a b e)) (Leave u) es
    ∙ ap (λ n. 0 + n) (calls-alike f a b c d first last h u es low t.1)
    ∙ sym (sum_by-cons (λ e. one_if (enters_in f c d e)) (Leave u) es)

pub time-within : (has : List ℕ → Bool) (s : TrackStream) (a b c d : ℕ) → IsComplete s
    → ClipAlike a b c d s.start s.end → time_with has a b s ≡ time_with has c d s
time-within has s a b c d complete h = time-by_event has a b s
    ∙ time_from-alike has a b c d s.start s.end h [] s.start s.events
    (omega arith) (complete-in_time s complete)
    ∙ sym (time-by_event has c d s)

making-within : (has : List ℕ → Bool) (s : TrackStream) (a b c d : ℕ) → IsComplete s
    → WithinAlike a b c d s.start s.end → calls_making has a b s ≡ calls_making has c d s
making-within has s a b c d complete h = making-by_event has a b s
    ∙ making_from-alike has a b c d s.start s.end h [] s.start s.events
    (omega arith) (complete-in_time s complete)
    ∙ sym (making-by_event has c d s)

calls-within : (f : ℕ) (s : TrackStream) (a b c d : ℕ) → IsComplete s
    → WithinAlike a b c d s.start s.end → calls_in f a b s ≡ calls_in f c d s
unfolding calls_in
calls-within f s a b c d complete h = calls-alike f a b c d s.start s.end h s.start s.events (omega arith)
    (complete-in_time s complete)

-- ---- an interval that encloses the stream

pub clip-enclosed : (a b from to : ℕ) → a ≤ from → to ≤ b → ClipAlike a b from (to + 1) from to
clip-enclosed a b from to l m x y h i j = omega arith

within-enclosed : (a b from to : ℕ) → a ≤ from → to < b → WithinAlike a b from (to + 1) from to
within-enclosed a b from to l m t h i = grind (arith, nat_tests)

pub enclosed-alike : (s : TrackStream) (a b : ℕ) → IsComplete s → a ≤ s.start → s.end < b
    → AreAlike (s ∷ []) a b (s ∷ []) s.start (s.end + 1)
enclosed-alike s a b complete l m =
    let clips = clip-enclosed a b s.start s.end l (omega arith) in
    let within = within-enclosed a b s.start s.end l m in
    record {
      time = λ has. ap (λ n. 0 + n) (time-within has s a b s.start (s.end + 1) complete clips);
      calls = λ f. ap (λ n. 0 + n) (calls-within f s a b s.start (s.end + 1) complete within);
      making = λ has. ap (λ n. 0 + n) (making-within has s a b s.start (s.end + 1) complete within);
    }

-- ---- an interval that the stream doesn't reach

pub clip-outside : (a b from to : ℕ) → (to ≤ a) ⊎ (b ≤ from) → ClipAlike a b 0 0 from to
clip-outside a b from to (inl l) x y h i j = omega arith
clip-outside a b from to (inr l) x y h i j = omega arith

within-outside : (a b from to : ℕ) → (to < a) ⊎ (b ≤ from) → WithinAlike a b 0 0 from to
within-outside a b from to (inl l) t h i = grind (arith, nat_tests)
within-outside a b from to (inr l) t h i = grind (arith, nat_tests)

-- an empty interval has no time and no calls
time_from-empty : (has : List ℕ → Bool) (q : List ℕ) (from : ℕ) (es : List Event) (end : ℕ)
    → time_from has 0 0 q from es end ≡ 0
unfolding time_in
time_from-empty has q from [] end = cond_zero (has q) (min end 0 - max from 0) (omega arith)
time_from-empty has q from (e ∷ es) end = omega (
  arith,
  cond_zero (has q) (min (time_of e) 0 - max from 0) (omega arith),
  time_from-empty has (stack_step q e) (time_of e) es end,
)

never-within : (t : ℕ) → is_within 0 0 t ≡ false
never-within t = grind (arith, nat_tests)

making_from-empty : (has : List ℕ → Bool) (q : List ℕ) (es : List Event) → making_from has 0 0 q es ≡ 0
unfolding makes_here
making_from-empty has q [] = refl
making_from-empty has q (e ∷ es) = omega (
  arith,
  ap (λ w. one_if ((is_enter e && w) && has (stack_step q e))) (never-within (time_of e)),
  none (is_enter e) (has (stack_step q e)),
  making_from-empty has (stack_step q e) es,
)
  where
    none : (x y : Bool) → one_if ((x && false) && y) ≡ 0
    none true y = refl
    none false y = refl

calls-empty : (f : ℕ) (es : List Event) → count_by (enters_in f 0 0) es ≡ 0
calls-empty f [] = refl
calls-empty f (Enter g u ∷ es) = omega (
  arith,
  sum_by-cons (λ e. one_if (enters_in f 0 0 e)) (Enter g u) es,
  ap (λ w. one_if ((g == f) && w)) (never-within u),
  count_and-false (g == f),
  calls-empty f es,
)
calls-empty f (Leave u ∷ es) = omega (
  arith,
  sum_by-cons (λ e. one_if (enters_in f 0 0 e)) (Leave u) es,
  calls-empty f es,
)

pub time-outside : (has : List ℕ → Bool) (s : TrackStream) (a b : ℕ) → IsComplete s
    → (s.end ≤ a) ⊎ (b ≤ s.start) → time_with has a b s ≡ 0
time-outside has s a b complete h =
    time-within has s a b 0 0 complete (clip-outside a b s.start s.end h)
    ∙ time-by_event has 0 0 s ∙ time_from-empty has [] s.start s.events s.end

making-outside : (has : List ℕ → Bool) (s : TrackStream) (a b : ℕ) → IsComplete s
    → (s.end < a) ⊎ (b ≤ s.start) → calls_making has a b s ≡ 0
making-outside has s a b complete h =
    making-within has s a b 0 0 complete (within-outside a b s.start s.end h)
    ∙ making-by_event has 0 0 s ∙ making_from-empty has [] s.events

calls-outside : (f : ℕ) (s : TrackStream) (a b : ℕ) → IsComplete s
    → (s.end < a) ⊎ (b ≤ s.start) → calls_in f a b s ≡ 0
unfolding calls_in
calls-outside f s a b complete h =
    calls-within f s a b 0 0 complete (within-outside a b s.start s.end h) ∙ calls-empty f s.events

pub outside-alike : (s : TrackStream) (more : List TrackStream) (a b : ℕ) → IsComplete s
    → (s.end < a) ⊎ (b ≤ s.start) → AreAlike (s ∷ more) a b more a b
outside-alike s more a b complete h = record {
  time = λ has. omega (
    arith,
    sum_by-cons (time_with has a b) s more,
    time-outside has s a b complete at_most,
  );
  calls = λ f. omega (arith, sum_by-cons (calls_in f a b) s more, calls-outside f s a b complete h);
  making = λ has. omega (
    arith,
    sum_by-cons (calls_making has a b) s more,
    making-outside has s a b complete h,
  );
}
  where
    at_most : (s.end ≤ a) ⊎ (b ≤ s.start)
    at_most = elim h [ inl l ↦ inl (omega arith) | inr l ↦ inr l ]
