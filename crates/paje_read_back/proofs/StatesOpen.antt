-- The events of a legal stream run from its start to its end, where no call is open.
use Rattle.std.proofs.Common.{ℕ, ◌-◌, ◌≤◌, suc, List, [], ◌∷◌, ◌++◌, length, take, map}
use Rattle.std.proofs.Common.{fold, refl, ap, subst, arith}
use Rattle.std.specs.List.Sorted.{IsNonDecreasing}
use Rattle.std.proofs.lemmas.List.{length_push}
use Rattle.list_lemmas.proofs.Fronts.{length_pop}
use Rattle.list_lemmas.proofs.InOrder.{IsNonDecreasing-rest}
use Rattle.trace_base.specs.Stream.{IsLegal, stack_after, stack_step, time_of}
use Rattle.trace_base.specs.declared.limits.TheConstants.{MAX_OPEN_CALLS}
use Rattle.trace_base.specs.declared.stream.Event.{Event}
use Rattle.trace_base.specs.declared.stream.Event.TheVariants.{Enter, Leave}
use Rattle.trace_base.specs.declared.stream.TrackStream.{TrackStream}
use Rattle.paje_legal.proofs.StreamRuns.{Runs}
use Rattle.paje_read_back.proofs.TracksBlocks.{Closes, legal_closes}

-- ---- events on a call stack

-- no more calls are open than may be
abbrev StaysWithin : List ℕ → List Event → Type 0
StaysWithin stack es = (i : ℕ) → length (fold stack_step stack (take i es)) ≤ MAX_OPEN_CALLS

runs_on : (es : List Event) (a b : ℕ) (stack : List ℕ) → IsNonDecreasing (a ∷ map time_of es ++ b ∷ [])
    → Closes stack es → StaysWithin stack es
    → Runs a (length stack) es b (length (fold stack_step stack es))
runs_on [] a b stack in_order closes within = (in_order 0 1 0 (omega arith) (omega arith), refl)
runs_on (Enter f t ∷ es) a b stack in_order closes within =
    let more = length_push stack f in
    let room : length (stack ++ f ∷ []) ≤ MAX_OPEN_CALLS = within 1 in (
      in_order 0 1 0 (omega arith) (omega arith),
      omega (arith, more, room),
      subst (λ n. Runs t n es b (length (fold stack_step (stack ++ f ∷ []) es))) more
          (runs_on es t b (stack ++ f ∷ []) (IsNonDecreasing-rest a (t ∷ map time_of es
          ++ b ∷ []) in_order) closes
          (λ i. within (suc i))),
    )
runs_on (Leave t ∷ es) a b stack in_order closes within =
    let fewer = take (length stack - 1) stack in (
      in_order 0 1 0 (omega arith) (omega arith),
      closes.0,
      subst (λ n. Runs t n es b (length (fold stack_step fewer es))) (length_pop stack)
          (runs_on es t b fewer (IsNonDecreasing-rest a (t ∷ map time_of es ++ b ∷ []) in_order) closes.1
          (λ i. within (suc i))),
    )

-- the events of a legal stream run from its start to its end, where no call is open
pub runs-from_legal : (s : TrackStream) → IsLegal s → Runs s.start 0 s.events s.end 0
unfolding stack_after
runs-from_legal s legal = subst (λ n. Runs s.start 0 s.events s.end n) (ap length legal.all_closed)
    (runs_on s.events s.start s.end [] legal.in_order (legal_closes s legal) legal.depth)
