-- The stream of a timed tree is complete.
use Rattle.std.proofs.Common.{◌≡◌, ◌≢◌, ℕ, ◌+◌, ◌-◌, ◌<◌, ◌≤◌, zero, suc, List, [], ◌∷◌, ◌++◌, length}
use Rattle.std.proofs.Common.{take, map, fold, slice_get, Some, refl, sym, ap, subst, ◌∙◌, inl, inr, arith}
use Rattle.std.specs.List.Sorted.{IsNonDecreasing}
use Rattle.std.proofs.lemmas.Bool.{cases_eq, cond-false, ne_eqb}
use Rattle.std.proofs.lemmas.Option.{none-some}
use Rattle.list_lemmas.proofs.Fronts.{length_pop, length_pushed, no_items, not_nil}
use Rattle.node_key.specs.Events.{enclosed, events, events_below, stream_from}
use Rattle.node_key.specs.Tree.{Kids, Tree, kid, no_kids, total}
use Rattle.profile_laws.specs.Parts.{AreTimed, IsTimed}
use Rattle.profile_math.specs.Laws.{IsComplete}
use Rattle.trace_base.specs.Stream.{stack_after, stack_step, time_of}
use Rattle.trace_base.specs.declared.stream.Event.{Event}
use Rattle.trace_base.specs.declared.stream.Event.TheVariants.{Enter, Leave}
use Rattle.trace_base.specs.declared.stream.TrackStream.{TrackStream}

-- Events from a time on, up to another, where some calls are open before them, and some behind them. Times
-- don't fall, functions are numbered from 1, and each Leave closes a call that is open.
abbrev pub Runs : (depth left now end : ℕ) → List Event → Type 0
Runs depth left now end [] = (depth ≡ left) × (now ≤ end)
Runs depth left now end (Enter f t ∷ es) = (now ≤ t) × (1 ≤ f) × Runs (depth + 1) left t end es
Runs depth left now end (Leave t ∷ es) = (now ≤ t) × (0 < depth) × Runs (depth - 1) left t end es

-- no call is open before the stream nor behind it
abbrev pub IsWhole : TrackStream → Type 0
IsWhole s = Runs 0 0 s.start s.end s.events

-- ---- one behind the other

runs-earlier : (depth left early now end : ℕ) (es : List Event) → early ≤ now → Runs depth left now end es
    → Runs depth left early end es
runs-earlier depth left early now end [] h r = (r.0, omega (arith, h, r.1))
runs-earlier depth left early now end (Enter f t ∷ es) h r = (omega (arith, h, r.0), r.1, r.2)
runs-earlier depth left early now end (Leave t ∷ es) h r = (omega (arith, h, r.0), r.1, r.2)

pub runs-append : (depth between left now mid end : ℕ) (xs ys : List Event) → Runs depth between now mid xs
    → Runs between left mid end ys → Runs depth left now end (xs ++ ys)
runs-append depth between left now mid end [] ys r q =
    subst (λ n. Runs n left now end ys) (sym r.0) (runs-earlier between left now mid end ys r.1 q)
runs-append depth between left now mid end (Enter f t ∷ xs) ys r q =
    (r.0, r.1, runs-append (depth + 1) between left t mid end xs ys r.2 q)
runs-append depth between left now mid end (Leave t ∷ xs) ys r q =
    (r.0, r.1, runs-append (depth - 1) between left t mid end xs ys r.2 q)

-- ---- trees

pub enclosed-group : (func start end : ℕ) (es : List Event) → func ≡ 0 → enclosed func start end es ≡ es
enclosed-group func start end es e = ap (λ f. enclosed f start end es) e

pub enclosed-call : (func start end : ℕ) (es : List Event) → 1 ≤ func
    → enclosed func start end es ≡ Enter func start ∷ es ++ Leave end ∷ []
enclosed-call func start end es h = cond-false _ es (Enter func start ∷ es ++ Leave end ∷ [])
    (ne_eqb func 0 (λ e. (let none : 1 ≤ 0 = omega arith in omega (arith, none))))

runs-enclosed : (depth func start end : ℕ) (es : List Event) → start ≤ end
    → ((d : ℕ) → Runs d d start end es) → Runs depth depth start end (enclosed func start end es)
runs-enclosed depth func start end es h inner =
    let back : depth + 1 - 1 ≡ depth = omega arith in
    elim (cases_eq func 0) [
      | inl e ↦ subst (λ (l : List Event). Runs depth depth start end l)
          (sym (enclosed-group func start end es e)) (inner depth)
      | inr n ↦ subst (λ (l : List Event). Runs depth depth start end l)
          (sym (enclosed-call func start end es (omega (arith, n)))) (
            omega arith,
            omega (arith, n),
            runs-append (depth + 1) (depth + 1) depth start end end es (Leave end ∷ []) (inner (depth + 1))
                (omega arith, omega arith, (back, omega arith)),
          )
    ]

-- the events of kids, up to an end that isn't before that of the last
pub runs-below : (kids : Kids) (depth from end : ℕ) → AreTimed kids → from + total kids ≤ end
    → Runs depth depth from end (events_below from kids)
runs-below no_kids depth from end timed h = (refl, omega arith)
runs-below (kid gap func dur inner more) depth from end timed h =
    let start : ℕ = from + gap in
    let stop : ℕ = start + dur in
    runs-append depth depth depth from stop end (enclosed func start stop (events_below start inner))
    (events_below stop more)
    (runs-earlier depth depth from start stop (enclosed func start stop (events_below start inner))
    (omega arith)
    (runs-enclosed depth func start stop (events_below start inner) (omega arith)
    (λ d. runs-below inner d start stop timed.1 (omega (arith, timed.0)))))
    (runs-below more depth stop end timed.2 (omega (arith, h)))

pub whole-tree : (t : Tree) (at : ℕ) → IsTimed t → IsWhole (stream_from t at)
unfolding events
whole-tree t at timed =
    runs-enclosed 0 t.func at (at + t.dur) (events_below at t.kids) (omega arith)
    (λ d. runs-below t.kids d at (at + t.dur) timed.1 (omega (arith, timed.0)))

-- ---- complete streams

rises-cons : (a b : ℕ) (xs : List ℕ) → a ≤ b → IsNonDecreasing (b ∷ xs) → IsNonDecreasing (a ∷ b ∷ xs)
rises-cons a b xs h up zero zero d low high = omega arith
rises-cons a b xs h up zero (suc j) d low high =
    omega (arith, h, up 0 j d (omega arith) (omega (arith, high)))
rises-cons a b xs h up (suc i) zero d low high = absurd (omega (arith, low))
rises-cons a b xs h up (suc i) (suc j) d low high = up i j d (omega (arith, low)) (omega (arith, high))

in_order : (es : List Event) (depth left now end : ℕ) → Runs depth left now end es
    → IsNonDecreasing (now ∷ map time_of es ++ end ∷ [])
in_order [] depth left now end r = rises-cons now end [] r.1 (one end)
  where
    one : (n : ℕ) → IsNonDecreasing (n ∷ [])
    one n zero zero d low high = omega arith
    one n zero (suc j) d low high = absurd (omega (arith, high))
    one n (suc i) j d low high = absurd (omega (arith, low, high))
in_order (Enter f t ∷ es) depth left now end r =
    rises-cons now t (map time_of es ++ end ∷ []) r.0 (in_order es (depth + 1) left t end r.2)
in_order (Leave t ∷ es) depth left now end r =
    rises-cons now t (map time_of es ++ end ∷ []) r.0 (in_order es (depth - 1) left t end r.2)

closes_open : (es : List Event) (stack : List ℕ) (depth left now end : ℕ) → length stack ≡ depth
    → Runs depth left now end es → (i t : ℕ) → slice_get es i ≡ Some (Leave t)
    → fold stack_step stack (take i es) ≢ []
closes_open [] stack depth left now end n r i t e = absurd (none-some _ e)
closes_open (Enter f u ∷ es) stack depth left now end n r zero t e = absurd (let same = e in cc)
closes_open (Leave u ∷ es) stack depth left now end n r zero t e = not_nil stack (omega (arith, n, r.1))
closes_open (Enter f u ∷ es) stack depth left now end n r (suc i) t e =
    closes_open es (stack ++ f ∷ []) (depth + 1) left u end (length_pushed stack f depth n) r.2 i t e
closes_open (Leave u ∷ es) stack depth left now end n r (suc i) t e =
    closes_open es (take (length stack - 1) stack) (depth - 1) left u end
    (omega (arith, n, length_pop stack)) r.2 i t e

left_open : (es : List Event) (stack : List ℕ) (depth left now end : ℕ) → length stack ≡ depth
    → Runs depth left now end es → length (fold stack_step stack es) ≡ left
left_open [] stack depth left now end n r = n ∙ r.0
left_open (Enter f u ∷ es) stack depth left now end n r =
    left_open es (stack ++ f ∷ []) (depth + 1) left u end (length_pushed stack f depth n) r.2
left_open (Leave u ∷ es) stack depth left now end n r =
    left_open es (take (length stack - 1) stack) (depth - 1) left u end (omega (arith, n, length_pop stack))
    r.2

functions : (es : List Event) (depth left now end : ℕ) → Runs depth left now end es
    → (i f t : ℕ) → slice_get es i ≡ Some (Enter f t) → 1 ≤ f
functions [] depth left now end r i f t e = absurd (none-some _ e)
functions (Enter g u ∷ es) depth left now end r zero f t e =
    (let same : g ≡ f = cc in omega (arith, same, r.1))
functions (Leave u ∷ es) depth left now end r zero f t e = absurd (let same = e in cc)
functions (Enter g u ∷ es) depth left now end r (suc i) f t e =
    functions es (depth + 1) left u end r.2 i f t e
functions (Leave u ∷ es) depth left now end r (suc i) f t e =
    functions es (depth - 1) left u end r.2 i f t e

pub complete : (s : TrackStream) → IsWhole s → IsComplete s
unfolding stack_after
complete s whole = record {
  in_order = in_order s.events 0 0 s.start s.end whole;
  closes_open = closes_open s.events [] 0 0 s.start s.end refl whole;
  all_closed = no_items (fold stack_step [] s.events)
      (omega (arith, left_open s.events [] 0 0 s.start s.end refl whole));
  functions = functions s.events 0 0 s.start s.end whole;
}

pub complete-tree : (t : Tree) (at : ℕ) → IsTimed t → IsComplete (stream_from t at)
complete-tree t at timed = complete (stream_from t at) (whole-tree t at timed)
