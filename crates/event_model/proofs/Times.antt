-- The time in which the call stack has a property, piece by piece, and why the sums fit: the pieces of a
-- legal stream lie one after the other between its start and its end.
use Rattle.std.proofs.Common.{◌≡◌, ℕ, ◌+◌, ◌-◌, ◌<◌, ◌≤◌, zero, suc, List, [], ◌∷◌, ◌++◌, length, take}
use Rattle.std.proofs.Common.{get_or, slice_index, map, filter, sum_by, min, max, Bool, false, cond}
use Rattle.std.proofs.Common.{refl, ap, sym, subst, ◌∙◌, zero-add, add-one, arith, slice_get}
use Rattle.std.proofs.Common.{Option, Some, ◌&&◌, nat_le, nat_lt}
use Rattle.std.specs.List.{range_with_len}
use Rattle.std.proofs.Math.ListN.{get_or-append}
use Rattle.std.proofs.Math.Seq.{get_or-append_seam}
use Rattle.std.proofs.lemmas.List.{get_or-map, length-map}
use Rattle.std.proofs.lemmas.List.FromFn.{filter_of_map_range_with_len_more}
use Rattle.std.proofs.lemmas.List.Sums.{sum_by-append, sum_by-le-sum_by, fold_more, length-filter}
use Rattle.list_lemmas.proofs.Booleans.{cond-le}
use Rattle.list_lemmas.proofs.Sums.{sum_by-cond}
use Rattle.trace_base.specs.Flat.{clip, enters_in, time_with, calls_in}
use Rattle.std.specs.Option.{option_map_or}
use Rattle.std.proofs.lemmas.Option.{slice_get-get_or}
use Rattle.trace_base.specs.Paths.{makes}
use Rattle.trace_base.specs.Stream.{time_of, is_enter, stack_step, stack_after, moments, piece, pieces}
use Rattle.trace_base.specs.Stream.{IsLegal}
use Rattle.trace_base.specs.declared.stream.Event.{Event}
use Rattle.trace_base.specs.declared.stream.Event.TheVariants.{Enter, Leave}
use Rattle.trace_base.specs.declared.stream.TrackStream.{TrackStream}
use Rattle.trace_base.specs.declared.limits.TheConstants.{MAX_STATE_EVENTS, MAX_TIME}
use Rattle.trace_base.proofs.Moments.{length-moments}

-- the moment before piece n
pub moment : TrackStream → ℕ → ℕ
moment s n = slice_index (moments s) n

pub moment-zero : (s : TrackStream) → moment s 0 ≡ s.start
unfolding moment
moment-zero s = refl

pub moment-suc : (s : TrackStream) (n : ℕ) (d : Event) → n < length s.events
    → moment s (n + 1) ≡ time_of (get_or s.events n d)
unfolding moment
moment-suc s n d h =
    let short : n < length (map time_of s.events) = simp length-map h in
    rw add-one (get_or-append (map time_of s.events) (s.end ∷ []) 0 n short ∙ get_or-map time_of s.events n d
    0 h)

pub moment-last : (s : TrackStream) → moment s (length s.events + 1) ≡ s.end
unfolding moment
moment-last s = rw add-one (subst (λ (n : ℕ). get_or (map time_of s.events ++ s.end ∷ []) n 0 ≡ s.end)
    (length-map s.events time_of) (get_or-append_seam (map time_of s.events) s.end [] 0))

pub moment-le : (s : TrackStream) (m n : ℕ) → IsLegal s → m ≤ n → n ≤ length s.events + 1
    → moment s m ≤ moment s n
unfolding moment
moment-le s m n legal h k = legal.in_order m n 0 h (omega (arith, length-moments s))

-- the time in which the call stack has the property, over the first n pieces
pub time_upto : (List ℕ → Bool) → ℕ → ℕ → TrackStream → ℕ → ℕ
time_upto has a b s n = sum_by (clip a b) (filter (λ p. has p.stack) (map (piece s) (range_with_len 0 n)))

pub time_upto-zero : (has : List ℕ → Bool) (a b : ℕ) (s : TrackStream) → time_upto has a b s 0 ≡ 0
unfolding time_upto
time_upto-zero has a b s = refl

pub time_upto-suc : (has : List ℕ → Bool) (a b : ℕ) (s : TrackStream) (n : ℕ)
    → time_upto has a b s (n + 1) ≡ time_upto has a b s n + cond (has (stack_after (take n s.events)))
    (min (moment s (n + 1)) b - max (moment s n) a) 0
unfolding time_upto moment
time_upto-suc has a b s n =
    ap (sum_by (clip a b)) (filter_of_map_range_with_len_more (λ p. has p.stack) (piece s) 0 n n (zero-add n))
    ∙ sum_by-append (clip a b) (filter (λ p. has p.stack) (map (piece s) (range_with_len 0 n)))
    (cond (has (stack_after (take n s.events))) (piece s n ∷ []) [])
    ∙ ap (λ x. sum_by (clip a b) (filter (λ p. has p.stack) (map (piece s) (range_with_len 0 n))) + x)
    (sum_by-cond (clip a b) (has (stack_after (take n s.events))) (piece s n))

pub time_upto-all : (has : List ℕ → Bool) (a b : ℕ) (s : TrackStream)
    → time_upto has a b s (length s.events + 1) ≡ time_with has a b s
unfolding time_upto time_with pieces
time_upto-all has a b s = refl

-- the clips of the first pieces add up to at most the time that the pieces take
pub time_upto-le : (has : List ℕ → Bool) (a b : ℕ) (s : TrackStream) (n : ℕ) → IsLegal s → n ≤ length s.events
    + 1 → time_upto has a b s n + s.start ≤ moment s n
time_upto-le has a b s zero legal h = omega (arith, time_upto-zero has a b s, moment-zero s)
time_upto-le has a b s (suc n) legal h =
    let before : time_upto has a b s n + s.start ≤ moment s n = time_upto-le has a b s n legal (omega arith)
    in
    let rises : moment s n ≤ moment s (n + 1) = moment-le s n (n + 1) legal (omega arith) (omega arith) in
    let here : cond (has (stack_after (take n s.events))) (min (moment s (n + 1)) b - max (moment s n) a) 0 ≤
    moment s (n + 1) - moment s n = cond-le (has (stack_after (take n s.events)))
    (min (moment s (n + 1)) b - max (moment s n) a) (moment s (n + 1) - moment s n) (omega arith) in
    let after : time_upto has a b s (n + 1) + s.start ≤ moment s (n + 1) =
    omega (arith, time_upto-suc has a b s n) in
    rw (← add-one) after

-- the same, as a bound
pub time_upto-limit : (has : List ℕ → Bool) (a b : ℕ) (s : TrackStream) (n : ℕ) → IsLegal s
    → n ≤ length s.events + 1 → time_upto has a b s n ≤ MAX_TIME
time_upto-limit has a b s n legal h =
    omega (
      arith,
      time_upto-le has a b s n legal h,
      moment-le s n (length s.events + 1) legal h (omega arith),
      moment-last s,
      legal.in_time,
    )

-- the call stack after one more event
pub stack_after-suc : (es : List Event) (n : ℕ) (d : Event) → n < length es
    → stack_after (take (n + 1) es) ≡ stack_step (stack_after (take n es)) (get_or es n d)
unfolding stack_after
stack_after-suc es n d h = fold_more stack_step [] es n d h

enters-le : (f a b : ℕ) (e : Event) → cond (enters_in f a b e) 1 0 ≤ cond (is_enter e) 1 0
enters-le f a b (Enter g t) = cond-le (enters_in f a b (Enter g t)) 1 1 (omega arith)
enters-le f a b (Leave t) = omega arith

-- a legal stream has few calls
pub calls_in-le : (f a b : ℕ) (s : TrackStream) → IsLegal s → calls_in f a b s ≤ MAX_STATE_EVENTS
unfolding calls_in
calls_in-le f a b s legal =
    omega (
      arith,
      sum_by-le-sum_by (λ e. cond (enters_in f a b e) 1 0) (λ e. cond (is_enter e) 1 0) s.events
          (enters-le f a b),
      length-filter is_enter s.events,
      legal.calls,
    )

-- what one more piece adds, in the words of the pass
pub time_upto-step : (has : List ℕ → Bool) (a b : ℕ) (s : TrackStream) (n from to : ℕ) (stack : List ℕ)
    → from ≡ moment s n → to ≡ moment s (n + 1) → stack ≡ stack_after (take n s.events)
    → time_upto has a b s (n + 1) ≡ time_upto has a b s n + cond (has stack) (min to b - max from a) 0
time_upto-step has a b s n from to stack e1 e2 e3 = rw (e1, e2, e3) (time_upto-suc has a b s n)

-- the same where the pass reads the event in a list that equals the stream's
pub moment-read : (s : TrackStream) (items : List Event) (n to : ℕ) (d : Event) → items ≡ s.events
    → n < length items → to ≡ time_of (get_or items n d) → to ≡ moment s (n + 1)
moment-read s items n to d e h t =
    let short : n < length s.events = subst (λ (xs : List Event). n < length xs) e h in
    t ∙ ap (λ (xs : List Event). time_of (get_or xs n d)) e ∙ sym (moment-suc s n d short)

pub stack-read : (es items : List Event) (n : ℕ) (d : Event) (stack new : List ℕ) → items ≡ es
    → n < length items → stack ≡ stack_after (take n es) → new ≡ stack_step stack (get_or items n d)
    → new ≡ stack_after (take (n + 1) es)
stack-read es items n d stack new e h k m =
    let short : n < length es = subst (λ (xs : List Event). n < length xs) e h in
    m ∙ ap (λ (st : List ℕ). stack_step st (get_or items n d)) k ∙ ap
    (λ (xs : List Event). stack_step (stack_after (take n es)) (get_or xs n d)) e ∙ sym
    (stack_after-suc es n d short)

-- one event more in the calls that make a call stack with the property, in the words of the pass
pub calls_making-step : (has : List ℕ → Bool) (a b : ℕ) (s : TrackStream) (items : List Event) (n : ℕ)
    (d : Event) (stack : List ℕ) → items ≡ s.events → n < length items
    → stack ≡ stack_after (take (n + 1) s.events)
    → makes has a b s n ≡ ((is_enter (get_or items n d)
    && (nat_le a (time_of (get_or items n d)) && nat_lt (time_of (get_or items n d)) b)) && has stack)
calls_making-step has a b s items n d stack e h k =
    let short : n < length s.events = subst (λ (xs : List Event). n < length xs) e h in
    let found : slice_get s.events n ≡ Some (get_or items n d) = slice_get-get_or s.events n d short ∙ ap
    (λ (xs : List Event). Some (get_or xs n d)) (sym e) in
    ap (λ (o : Option Event). option_map_or
    (λ x. is_enter x && (nat_le a (time_of x) && nat_lt (time_of x) b)) o false
    && has (stack_after (take (n + 1) s.events))) found
    ∙ ap (λ (st : List ℕ). (is_enter (get_or items n d)
    && (nat_le a (time_of (get_or items n d)) && nat_lt (time_of (get_or items n d)) b)) && has st)
    (sym k)
