-- Times and calls of the stream of one call, by those of the stream that it encloses.
use Rattle.std.proofs.Common.{◌≡◌, ◌≢◌, ℕ, ◌+◌, ◌-◌, ◌<◌, ◌≤◌, ◌==◌, zero, suc, Bool, cond, ◌&&◌}
use Rattle.std.proofs.Common.{List}
use Rattle.std.proofs.Common.{[], ◌∷◌, ◌++◌, length, take, get_or, map, fold, sum_by, min}
use Rattle.std.proofs.Common.{max, refl, ap}
use Rattle.std.proofs.Common.{sym, subst, ◌∙◌, arith, zero-add, add-zero, add-one}
use Rattle.std.proofs.Common.{Some, length-append}
use Rattle.std.specs.List.{range_with_len}
use Rattle.std.proofs.lemmas.List.{map-append, take-append-le, get_or_append_left, get_or_at, length-map}
use Rattle.std.proofs.lemmas.List.Sums.{sum_by-cons, sum_by-append, fold_more}
use Rattle.std.proofs.lemmas.Option.{slice_get-get_or}
use Rattle.list_lemmas.proofs.Booleans.{cond_zero}
use Rattle.list_lemmas.proofs.Numbers.{no_clip}
use Rattle.list_lemmas.proofs.Ranges.{range_sum-next, range_sum-same, range_with_len-more}
use Rattle.list_lemmas.proofs.Sums.{sum_by-filter, sum_by-map}
use Rattle.trace_base.specs.Flat.{clip, enters_in, time_with, calls_in, is_within}
use Rattle.trace_base.specs.Stream.{piece, pieces, moments, time_of, stack_step, stack_after}
use Rattle.profile_math.specs.Laws.{IsComplete}
use Rattle.trace_base.specs.declared.stream.Event.{Event}
use Rattle.trace_base.specs.declared.stream.Event.TheVariants.{Enter, Leave}
use Rattle.trace_base.specs.declared.stream.TrackStream.{TrackStream}
use Rattle.trace_base.proofs.Moments.{length-moments}
use Rattle.profile_math.specs.Laws.{call_of}

-- what the i-th piece has of the interval, where the call stack has the property
unfoldable pub part : (List ℕ → Bool) → ℕ → ℕ → TrackStream → ℕ → ℕ
part has a b s i = cond (has (stack_after (take i s.events))) (clip a b (piece s i)) 0

pub time-parts : (has : List ℕ → Bool) (a b : ℕ) (s : TrackStream)
    → time_with has a b s ≡ sum_by (part has a b s)
    (range_with_len 0 (length s.events + 1))
unfolding time_with pieces part
time-parts has a b s = sum_by-filter (clip a b) (λ p. has p.stack)
    (map (piece s) (range_with_len 0 (length s.events + 1)))
    ∙ sum_by-map (λ p. cond (has p.stack) (clip a b p) 0) (piece s) (range_with_len 0 (length s.events + 1))

-- the call stack under a call, where no call that was open before is closed
step-under : (f : ℕ) (q : List ℕ) (e : Event) → ((t : ℕ) → e ≡ Leave t → q ≢ []) → stack_step (f ∷ q) e ≡ f
    ∷ stack_step q e
step-under f q (Enter g t) h = refl
step-under f [] (Leave t) h = absurd (h t refl refl)
step-under f (x ∷ xs) (Leave t) h =
    let more : length (f ∷ x ∷ xs) - 1 ≡ suc (length (x ∷ xs) - 1) = omega arith in
    ap (λ n. take n (f ∷ x ∷ xs)) more

pub stack-under : (f : ℕ) (s : TrackStream) → IsComplete s → (i : ℕ) → i ≤ length s.events
    → fold stack_step (f ∷ []) (take i s.events) ≡ f ∷ stack_after (take i s.events)
unfolding stack_after
stack-under f s complete zero h = refl
stack-under f s complete (suc i) h =
    let d : Event = Leave 0 in
    let l : i < length s.events = omega arith in
    subst (λ n. fold stack_step (f ∷ []) (take n s.events) ≡ f ∷ fold stack_step [] (take n s.events))
    (add-one i)
    (fold_more stack_step (f ∷ []) s.events i d l
    ∙ ap (λ (q : List ℕ). stack_step q (get_or s.events i d)) (stack-under f s complete i (omega arith))
    ∙ step-under f (fold stack_step [] (take i s.events)) (get_or s.events i d)
    (λ t e. complete.closes_open i t (slice_get-get_or s.events i d l ∙ ap Some e))
    ∙ ap (λ (q : List ℕ). f ∷ q) (sym (fold_more stack_step [] s.events i d l)))

-- the stack in the call, after its Enter and i more events
pub stack-call : (f : ℕ) (s : TrackStream) → IsComplete s → (i : ℕ) → i ≤ length s.events
    → stack_after (take (i + 1) ((call_of f s).events)) ≡ f ∷ stack_after (take i s.events)
unfolding stack_after
stack-call f s complete i h =
    ap (λ n. stack_after (take n ((call_of f s).events))) (add-one i)
    ∙ ap (λ es. fold stack_step (f ∷ []) es) (take-append-le i s.events (Leave s.end ∷ []) h)
    ∙ stack-under f s complete i h

-- the moments of the call are those of the stream between its start and its end once more
moments-call : (f : ℕ) (s : TrackStream) → moments (call_of f s) ≡ s.start ∷ (moments s ++ s.end ∷ [])
moments-call f s = ap (λ us. s.start ∷ s.start ∷ (us ++ s.end ∷ []))
    (map-append time_of s.events (Leave s.end ∷ []))

moment-call : (f : ℕ) (s : TrackStream) (i : ℕ) → i < length s.events + 2
    → get_or (moments (call_of f s)) (i + 1) 0
    ≡ get_or (moments s) i 0
moment-call f s i h = ap (λ us. get_or us (i + 1) 0) (moments-call f s)
    ∙ ap (λ n. get_or (s.start ∷ (moments s ++ s.end ∷ [])) n 0) (add-one i)
    ∙ get_or_append_left (moments s) (s.end ∷ []) 0 i (omega (arith, length-moments s))

moment-past : (f : ℕ) (s : TrackStream) → get_or (moments (call_of f s)) (length s.events + 2 + 1) 0 ≡ s.end
moment-past f s = ap (λ us. get_or us (length s.events + 2 + 1) 0) (moments-call f s)
    ∙ ap (λ n. get_or (s.start ∷ (moments s ++ s.end ∷ [])) n 0) (add-one (length s.events + 2))
    ∙ get_or_at (moments s) s.end [] 0 (length s.events + 2) (length-moments s)

moment-end : (s : TrackStream) → get_or (moments s) (length s.events + 1) 0 ≡ s.end
moment-end s = ap (λ n. get_or (moments s) n 0) (add-one (length s.events))
    ∙ get_or_at (map time_of s.events) s.end [] 0 (length s.events) (length-map s.events time_of)

-- the time in the call is the time in the stream with the call under it
pub time-call : (has : List ℕ → Bool) (f a b : ℕ) (s : TrackStream) → IsComplete s
    → time_with has a b (call_of f s) ≡ time_with (λ q. has (f ∷ q)) a b s
unfolding part
time-call has f a b s complete =
    let n : ℕ = length s.events in
    let g : ℕ → ℕ = part has a b (call_of f s) in
    let long : length ((call_of f s).events) + 1 ≡ suc (suc n + 1) =
    omega (arith, length-append s.events (Leave s.end ∷ [])) in
    let first : g 0 ≡ 0 = cond_zero (has (stack_after [])) (clip a b (piece (call_of f s) 0))
    (no_clip s.start s.start a b refl) in
    let last : g (suc n + 1) ≡ 0 = cond_zero (has (stack_after (take (suc n + 1) ((call_of f s).events))))
    (clip a b (piece (call_of f s) (suc n + 1)))
    (no_clip (get_or (moments (call_of f s)) (suc n + 1) 0) (get_or (moments (call_of f s)) (suc n + 1 + 1) 0)
    a b
    (moment-call f s (suc n) (omega arith) ∙ ap (λ m. get_or (moments s) m 0) (sym (add-one n)) ∙ moment-end s
    ∙ sym (ap (λ m. get_or (moments (call_of f s)) (m + 1) 0) two ∙ moment-past f s))) in
    time-parts has a b (call_of f s)
    ∙ ap (λ m. sum_by g (range_with_len 0 m)) long
    ∙ sum_by-cons g 0 (range_with_len (0 + 1) (suc n + 1))
    ∙ ap (λ m. m + sum_by g (range_with_len (0 + 1) (suc n + 1))) first
    ∙ zero-add (sum_by g (range_with_len (0 + 1) (suc n + 1)))
    ∙ ap (sum_by g) (range_with_len-more (0 + 1) (suc n) (suc n + 1) (omega arith))
    ∙ sum_by-append g (range_with_len (0 + 1) (suc n)) ((suc n + 1) ∷ [])
    ∙ ap (λ m. sum_by g (range_with_len (0 + 1) (suc n)) + m) (zero-add (g (suc n + 1)) ∙ last)
    ∙ add-zero (sum_by g (range_with_len (0 + 1) (suc n)))
    ∙ range_sum-next g 0 (suc n)
    ∙ range_sum-same (λ i. g (i + 1)) (part (λ q. has (f ∷ q)) a b s) 0 (suc n) (λ i l m. each i (omega
    arith))
    ∙ ap (λ m. sum_by (part (λ q. has (f ∷ q)) a b s) (range_with_len 0 m)) (sym (add-one n))
    ∙ sym (time-parts (λ q. has (f ∷ q)) a b s)
  where
    two : suc (length s.events) + 1 ≡ length s.events + 2
    two = omega arith

    each : (i : ℕ) → i ≤ length s.events → part has a b (call_of f s) (i + 1) ≡ part (λ q. has (f ∷ q)) a b s
        i
    each i h =
        ap (λ q. cond (has q) (clip a b (piece (call_of f s) (i + 1))) 0) (stack-call f s complete i h)
        ∙ ap (λ m. cond (has (f ∷ stack_after (take i s.events)))
        (min (get_or (moments (call_of f s)) (i + 1 + 1) 0) b - max m a) 0) (moment-call f s i (omega arith))
        ∙ ap (λ m. cond (has (f ∷ stack_after (take i s.events)))
        (min m b - max (get_or (moments s) i 0) a) 0) (moment-call f s (i + 1) (omega arith))

pub calls-call : (k f a b : ℕ) (s : TrackStream) → calls_in k a b (call_of f s) ≡ cond
    ((f == k) && is_within a b s.start)
    1 0 + calls_in k a b s
unfolding calls_in
calls-call k f a b s = sum_by-cons (λ e. cond (enters_in k a b e) 1 0) (Enter f s.start)
    (s.events ++ Leave s.end ∷ [])
    ∙ ap (λ n. cond ((f == k) && is_within a b s.start) 1 0 + n)
    (sum_by-append (λ e. cond (enters_in k a b e) 1 0) s.events (Leave s.end ∷ [])
    ∙ add-zero (sum_by (λ e. cond (enters_in k a b e) 1 0) s.events))
