-- Times and calls of streams: of several streams, of two intervals one after the other, and of a property
-- that another implies.
use Rattle.std.proofs.Common.{◌≡◌, ℕ, ◌+◌, ◌-◌, ◌<◌, ◌≤◌, ◌==◌, Bool, true, false, cond, ◌&&◌}
use Rattle.std.proofs.Common.{◌||◌, List, [], ◌∷◌}
use Rattle.std.proofs.Common.{◌++◌, length, take, map, filter, fold, sum_by, count_by, max, nat_lt}
use Rattle.std.proofs.Common.{nat_le, refl, ap}
use Rattle.std.proofs.Common.{sym, ◌∙◌, inl, inr, arith}
use Rattle.std.specs.List.{AllByRecursion, list_any, range_with_len}
use Rattle.std.proofs.lemmas.Bool.{cases_Bool, cond-true, cond-false, true≢false, ne_eqb}
use Rattle.std.proofs.lemmas.List.Sums.{sum_by-cons, fold-append}
use Rattle.list_lemmas.proofs.Each.{all_mapped, all_push, all_take}
use Rattle.list_lemmas.proofs.Filters.{filter_none}
use Rattle.list_lemmas.proofs.Numbers.{within-plus}
use Rattle.list_lemmas.proofs.Sums.{sum_by-none, sum_by-plus}
use Rattle.trace_base.specs.Flat.{clip, enters_in, time_with, calls_in, function_of}
use Rattle.trace_base.specs.Flat.{greatest_function}
use Rattle.trace_base.specs.Stream.{Piece, piece, pieces, stack_step, stack_after}
use Rattle.trace_base.specs.Flat.{is_open_in, is_innermost_in}
use Rattle.std.specs.Option.{option_map_or}
use Rattle.std.proofs.lemmas.Option.{slice_get-get_or}
use Rattle.std.proofs.lemmas.List.Folds.{list_any_at}
use Rattle.trace_base.specs.declared.stream.Event.{Event}
use Rattle.trace_base.specs.declared.stream.Event.TheVariants.{Enter, Leave}
use Rattle.trace_base.specs.declared.stream.TrackStream.{TrackStream}

-- an interval in two parts
clip-plus : (a b c : ℕ) → a ≤ b → b ≤ c → (p : Piece) → clip a c p ≡ clip a b p + clip b c p
clip-plus a b c h g p = omega arith

pub time-plus : (has : List ℕ → Bool) (a b c : ℕ) → a ≤ b → b ≤ c → (s : TrackStream)
    → time_with has a c s ≡ time_with has a b s + time_with has b c s
unfolding time_with
time-plus has a b c h g s = sum_by-plus (clip a c) (clip a b) (clip b c) (clip-plus a b c h g)
    (filter (λ p. has p.stack) (pieces s))

enters-plus : (f a b c : ℕ) → a ≤ b → b ≤ c → (e : Event) → cond (enters_in f a c e) 1 0 ≡ cond
    (enters_in f a b e) 1 0
    + cond (enters_in f b c e) 1 0
enters-plus f a b c h g (Enter k t) =
    elim (k == f) as (λ v. cond (v && (nat_le a t && nat_lt t c)) 1 0 ≡ cond (v && (nat_le a t && nat_lt t b))
    1 0
    + cond (v && (nat_le b t && nat_lt t c)) 1 0) [
      | true ↦ within-plus a b c t h g
      | false ↦ refl
    ]
enters-plus f a b c h g (Leave t) = refl

pub calls-plus : (f a b c : ℕ) → a ≤ b → b ≤ c → (s : TrackStream)
    → calls_in f a c s ≡ calls_in f a b s + calls_in f b c s
unfolding calls_in
calls-plus f a b c h g s = sum_by-plus (λ e. cond (enters_in f a c e) 1 0) (λ e. cond (enters_in f a b e) 1 0)
    (λ e. cond (enters_in f b c e) 1 0) (enters-plus f a b c h g) s.events

-- the time of a property is at most that of one that it implies
pub time-le : (has more : List ℕ → Bool) → ((q : List ℕ) → has q ≡ true → more q ≡ true)
    → (a b : ℕ) (s : TrackStream)
    → time_with has a b s ≤ time_with more a b s
unfolding time_with
time-le has more h a b s = go (pieces s)
  where
    go : (ps : List Piece) → sum_by (clip a b) (filter (λ p. has p.stack) ps)
        ≤ sum_by (clip a b) (filter (λ p. more p.stack) ps)
    go [] = omega arith
    go (p ∷ ps) =
        elim (cases_Bool (has p.stack)) [
          | inl e ↦ omega (
            arith,
            go ps,
            ap (sum_by (clip a b)) (cond-true (has p.stack) (p ∷ filter (λ q. has q.stack) ps)
                (filter (λ q. has q.stack) ps) e),
            sum_by-cons (clip a b) p (filter (λ q. has q.stack) ps),
            ap (sum_by (clip a b)) (cond-true (more p.stack) (p ∷ filter (λ q. more q.stack) ps)
                (filter (λ q. more q.stack) ps) (h p.stack e)),
            sum_by-cons (clip a b) p (filter (λ q. more q.stack) ps),
          )
          | inr e ↦
              elim (cases_Bool (more p.stack)) [
                | inl m ↦ omega (
                  arith,
                  go ps,
                  ap (sum_by (clip a b)) (cond-false (has p.stack) (p ∷ filter (λ q. has q.stack) ps)
                      (filter (λ q. has q.stack) ps) e),
                  ap (sum_by (clip a b)) (cond-true (more p.stack) (p ∷ filter (λ q. more q.stack) ps)
                      (filter (λ q. more q.stack) ps) m),
                  sum_by-cons (clip a b) p (filter (λ q. more q.stack) ps),
                )
                | inr m ↦ omega (
                  arith,
                  go ps,
                  ap (sum_by (clip a b)) (cond-false (has p.stack) (p ∷ filter (λ q. has q.stack) ps)
                      (filter (λ q. has q.stack) ps) e),
                  ap (sum_by (clip a b)) (cond-false (more p.stack) (p ∷ filter (λ q. more q.stack) ps)
                      (filter (λ q. more q.stack) ps) m),
                )
              ]
        ]

-- no function of the events is above the greatest one
events-greatest : (es : List Event) (z : ℕ) → (z ≤ fold (λ m e. max m (function_of e)) z es)
    × AllByRecursion (λ e. function_of e ≤ fold (λ m d. max m (function_of d)) z es) es
events-greatest [] z = (omega arith, tt)
events-greatest (e ∷ es) z = let rest = events-greatest es (max z (function_of e)) in
    (omega (arith, rest.0), (omega (arith, rest.0), rest.1))

greatest_from : ℕ → List TrackStream → ℕ
greatest_from z ss = fold (λ n s. fold (λ m e. max m (function_of e)) n s.events) z ss

abbrev pub AllFunctions : ℕ → TrackStream → Type 0
AllFunctions n s = AllByRecursion (λ e. function_of e ≤ n) s.events

streams-greatest : (ss : List TrackStream) (z : ℕ) → (z ≤ greatest_from z ss)
    × AllByRecursion (AllFunctions (greatest_from z ss)) ss
unfolding greatest_from
streams-greatest [] z = (omega arith, tt)
streams-greatest (s ∷ ss) z =
    let own = events-greatest s.events z in
    let rest = streams-greatest ss (fold (λ m e. max m (function_of e)) z s.events) in (
      omega (arith, own.0, rest.0),
      (
        all_mapped (λ e. function_of e ≤ fold (λ m d. max m (function_of d)) z s.events)
            (λ e. function_of e ≤ greatest_from (fold (λ m d. max m (function_of d)) z s.events) ss)
            (λ e l. omega (arith, rest.0)) s.events own.1,
        rest.1,
      ),
    )

pub greatest-all : (ss : List TrackStream) → AllByRecursion (AllFunctions (greatest_function ss)) ss
unfolding greatest_function greatest_from
greatest-all ss = (streams-greatest ss 0).1

events-monotone : (es : List Event) (y z : ℕ) → y ≤ z → fold (λ m e. max m (function_of e)) y es
    ≤ fold (λ m e. max m (function_of e)) z es
events-monotone [] y z h = h
events-monotone (e ∷ es) y z h = events-monotone es (max y (function_of e)) (max z (function_of e))
    (omega arith)

streams-monotone : (ss : List TrackStream) (y z : ℕ) → y ≤ z → greatest_from y ss ≤ greatest_from z ss
unfolding greatest_from
streams-monotone [] y z h = h
streams-monotone (s ∷ ss) y z h = streams-monotone ss (fold (λ m e. max m (function_of e)) y s.events)
    (fold (λ m e. max m (function_of e)) z s.events) (events-monotone s.events y z h)

pub greatest-append : (ss ts : List TrackStream) → (greatest_function ss ≤ greatest_function (ss ++ ts))
    × (greatest_function ts ≤ greatest_function (ss ++ ts))
unfolding greatest_function greatest_from
greatest-append ss ts =
    let split = fold-append (λ n (s : TrackStream). fold (λ m e. max m (function_of e)) n s.events) 0 ss ts
    in (
      omega (arith, split, (streams-greatest ts (greatest_from 0 ss)).0),
      omega (arith, split, streams-monotone ts 0 (greatest_from 0 ss) (omega arith)),
    )

-- the functions of a call stack are those of the events
stack-all : (n : ℕ) (es : List Event) (stack : List ℕ) → AllByRecursion (λ f. f ≤ n) stack
    → AllByRecursion (λ e. function_of e ≤ n) es → AllByRecursion (λ f. f ≤ n) (fold stack_step stack es)
stack-all n [] stack h g = h
stack-all n (Enter f t ∷ es) stack h g = stack-all n es (stack ++ f ∷ [])
    (all_push (λ k. k ≤ n) stack f h g.0) g.1
stack-all n (Leave t ∷ es) stack h g = stack-all n es (take (length stack - 1) stack)
    (all_take (λ k. k ≤ n) (length stack - 1) stack h) g.1

pub stacks-all : (n i : ℕ) (s : TrackStream) → AllFunctions n s
    → AllByRecursion (λ f. f ≤ n) (stack_after (take i s.events))
unfolding stack_after
stacks-all n i s h = stack-all n (take i s.events) [] tt (all_take (λ e. function_of e ≤ n) i s.events h)

none_open : (f n : ℕ) → n < f → (stack : List ℕ) → AllByRecursion (λ k. k ≤ n) stack
    → list_any (λ g. g == f) stack ≡ false
none_open f n l [] h = refl
none_open f n l (g ∷ gs) h = ap (λ b. b || list_any (λ k. k == f) gs)
    (ne_eqb g f (λ e. omega (arith, h.0, e)))
    ∙ none_open f n l gs h.1

-- no time has a property that no call stack of the stream has
pub time-none : (has : List ℕ → Bool) (a b : ℕ) (s : TrackStream)
    → ((i : ℕ) → has (stack_after (take i s.events)) ≡ false) → time_with has a b s ≡ 0
unfolding time_with pieces
time-none has a b s h = ap (sum_by (clip a b)) (filter_none (λ p. has p.stack)
    (map (piece s) (range_with_len 0 (length s.events + 1))) (go (range_with_len 0 (length s.events + 1))))
  where
    go : (is : List ℕ) → AllByRecursion (λ p. has p.stack ≡ false) (map (piece s) is)
    go [] = tt
    go (i ∷ is) = (h i, go is)

calls-none : (f n a b : ℕ) → n < f → (es : List Event) → AllByRecursion (λ e. function_of e ≤ n) es
    → count_by (enters_in f a b) es ≡ 0
calls-none f n a b l [] h = refl
calls-none f n a b l (Enter g t ∷ es) h =
    omega (
      arith,
      sum_by-cons (λ e. cond (enters_in f a b e) 1 0) (Enter g t) es,
      calls-none f n a b l es h.1,
      ap {B = ℕ} (λ (v : Bool). cond (v && (nat_le a t && nat_lt t b)) 1 0)
          (ne_eqb g f (λ e. omega (arith, h.0, e))),
    )
calls-none f n a b l (Leave t ∷ es) h = omega (
  arith,
  sum_by-cons (λ e. cond (enters_in f a b e) 1 0)
      (Leave t) es,
  calls-none f n a b l es h.1,
)

-- a function above the greatest one has no calls and no time
pub past-calls : (ss : List TrackStream) (f a b : ℕ) → greatest_function ss < f
    → sum_by (calls_in f a b) ss ≡ 0
unfolding calls_in
past-calls ss f a b l = sum_by-none (calls_in f a b) (AllFunctions (greatest_function ss))
    (λ s h. calls-none f (greatest_function ss) a b l s.events h) ss (greatest-all ss)

pub past-time : (ss : List TrackStream) (f a b : ℕ) → greatest_function ss < f
    → sum_by (time_with (is_open_in f) a b) ss ≡ 0
past-time ss f a b l = sum_by-none (time_with (is_open_in f) a b) (AllFunctions (greatest_function ss))
    (λ s h. time-none (is_open_in f) a b s
    (λ i. none_open f (greatest_function ss) l (stack_after (take i s.events))
    (stacks-all (greatest_function ss) i s h))) ss (greatest-all ss)

-- an innermost call is an open one
pub innermost-open : (f : ℕ) (q : List ℕ) → is_innermost_in f q ≡ true → is_open_in f q ≡ true
innermost-open f [] e = absurd (true≢false (sym e))
innermost-open f (g ∷ gs) e =
    let found = slice_get-get_or (g ∷ gs) (length (g ∷ gs) - 1) 0 (omega arith) in
    list_any_at (λ k. k == f) (g ∷ gs) (length (g ∷ gs) - 1) 0 (omega arith)
    (sym (ap (λ o. option_map_or (λ k. k == f) o false) found) ∙ e)
