-- Events that go on from one time and one count of open calls to another.
use Rattle.std.proofs.Common.{◌≡◌, ℕ, ◌+◌, ◌-◌, ◌≤◌, ◌<◌, zero, suc, List, [], ◌∷◌, ◌++◌, length, take}
use Rattle.std.proofs.Common.{map, replicate, get_or, slice_get, fold, Some, refl, sym, subst, ◌∙◌, arith}
use Rattle.std.proofs.Common.{filter}
use Rattle.std.proofs.lemmas.List.{nil_from_length}
use Rattle.std.proofs.lemmas.List.Sorted.{IsNonDecreasingBy-from_all_adjacent}
use Rattle.std.proofs.lemmas.List.Elements.{All-get_or}
use Rattle.std.proofs.lemmas.Option.{get_or_from_slice_get, slice_get_within, none-some}
use Rattle.std.specs.Prelude.{All}
use Rattle.list_lemmas.proofs.Fronts.{length_popped, length_pushed, not_nil}
use Rattle.trace_base.specs.Stream.{time_of, is_enter, stack_step, stack_after, moments, IsLegal}
use Rattle.trace_base.specs.declared.limits.TheConstants.{MAX_TIME, MAX_OPEN_CALLS, MAX_STATE_EVENTS}
use Rattle.trace_base.specs.declared.limits.TheConstants.{MAX_FUNCTIONS}
use Rattle.trace_base.specs.declared.stream.Event.{Event}
use Rattle.trace_base.specs.declared.stream.Event.TheVariants.{Enter, Leave}
use Rattle.trace_base.specs.declared.stream.TrackStream.{TrackStream}

-- From a time and so many open calls on, the events come in order, each Leave closes an open call and each
-- Enter is within the limit; they lead up to a time, and leave so many calls open.
abbrev pub Runs : ℕ → ℕ → List Event → ℕ → ℕ → Type 0
Runs from open_calls [] to left = (from ≤ to) × (open_calls ≡ left)
Runs from open_calls (Enter f t ∷ es) to left = (from ≤ t) × (open_calls + 1 ≤ MAX_OPEN_CALLS)
    × Runs t (open_calls + 1) es to left
Runs from open_calls (Leave t ∷ es) to left = (from ≤ t) × (1 ≤ open_calls)
    × Runs t (open_calls - 1) es to left

-- ---- how they are put together

runs-sooner : (es : List Event) (a b n c m : ℕ) → a ≤ b → Runs b n es c m → Runs a n es c m
runs-sooner [] a b n c m early (order, same) = (omega arith, same)
runs-sooner (Enter f t ∷ es) a b n c m early (order, room, later) = (omega arith, room, later)
runs-sooner (Leave t ∷ es) a b n c m early (order, some, later) = (omega arith, some, later)

pub runs-append : (xs ys : List Event) (a n b m c k : ℕ) → Runs a n xs b m → Runs b m ys c k
    → Runs a n (xs ++ ys) c k
runs-append [] ys a n b m c k (order, same) after =
    runs-sooner ys a b n c k order (subst (λ m. Runs b m ys c k) (sym same) after)
runs-append (Enter f t ∷ xs) ys a n b m c k (order, room, later) after =
    (order, room, runs-append xs ys t (n + 1) b m c k later after)
runs-append (Leave t ∷ xs) ys a n b m c k (order, some, later) after =
    (order, some, runs-append xs ys t (n - 1) b m c k later after)

-- all open calls are left at once
pub runs-left : (n a t : ℕ) → a ≤ t → Runs a n (replicate n (Leave t)) t 0
runs-left zero a t order = (order, refl)
runs-left (suc n) a t order = (
  order,
  omega arith,
  subst (λ m. Runs t m (replicate n (Leave t)) t 0) (omega arith) (runs-left n t t (omega arith)),
)

-- ---- what they mean for the call stack

depth-after : (es : List Event) (a n b m : ℕ) → Runs a n es b m → (stack : List ℕ) → length stack ≡ n
    → length (fold stack_step stack es) ≡ m
depth-after [] a n b m (order, same) stack is = is ∙ same
depth-after (Enter f t ∷ es) a n b m (order, room, later) stack is =
    depth-after es t (n + 1) b m later (stack ++ f ∷ []) (length_pushed stack f n is)
depth-after (Leave t ∷ es) a n b m (order, some, later) stack is =
    depth-after es t (n - 1) b m later (take (length stack - 1) stack) (length_popped stack n is)

depth-within : (es : List Event) (a n b m : ℕ) → Runs a n es b m → n ≤ MAX_OPEN_CALLS → (stack : List ℕ)
    → length stack ≡ n → (i : ℕ) → length (fold stack_step stack (take i es)) ≤ MAX_OPEN_CALLS
depth-within [] a n b m runs within stack is zero = omega arith
depth-within [] a n b m runs within stack is (suc i) = omega arith
depth-within (Enter f t ∷ es) a n b m runs within stack is zero = omega arith
depth-within (Leave t ∷ es) a n b m runs within stack is zero = omega arith
depth-within (Enter f t ∷ es) a n b m (order, room, later) within stack is (suc i) =
    depth-within es t (n + 1) b m later room (stack ++ f ∷ []) (length_pushed stack f n is) i
depth-within (Leave t ∷ es) a n b m (order, some, later) within stack is (suc i) =
    depth-within es t (n - 1) b m later (omega arith) (take (length stack - 1) stack)
    (length_popped stack n is) i

some-open : (es : List Event) (a n b m : ℕ) → Runs a n es b m → (stack : List ℕ) → length stack ≡ n
    → (i t : ℕ) → slice_get es i ≡ Some (Leave t) → 1 ≤ length (fold stack_step stack (take i es))
some-open [] a n b m runs stack is i t at = absurd (none-some (Leave t) at)
some-open (Enter f s ∷ es) a n b m runs stack is zero t at = absurd cc
some-open (Leave s ∷ es) a n b m (order, some, later) stack is zero t at = omega arith
some-open (Enter f s ∷ es) a n b m (order, room, later) stack is (suc i) t at =
    some-open es s (n + 1) b m later (stack ++ f ∷ []) (length_pushed stack f n is) i t at
some-open (Leave s ∷ es) a n b m (order, some, later) stack is (suc i) t at =
    some-open es s (n - 1) b m later (take (length stack - 1) stack) (length_popped stack n is) i t at

-- ---- and for the times

rises : (es : List Event) (a n b m : ℕ) → Runs a n es b m → (k d : ℕ)
    → suc k < length (a ∷ map time_of es ++ b ∷ [])
    → get_or (a ∷ map time_of es ++ b ∷ []) k d ≤ get_or (a ∷ map time_of es ++ b ∷ []) (suc k) d
rises [] a n b m (order, same) zero d h = order
rises [] a n b m runs (suc k) d h = absurd (omega arith)
rises (Enter f t ∷ es) a n b m (order, room, later) zero d h = order
rises (Leave t ∷ es) a n b m (order, some, later) zero d h = order
rises (Enter f t ∷ es) a n b m (order, room, later) (suc k) d h =
    rises es t (n + 1) b m later k d (omega arith)
rises (Leave t ∷ es) a n b m (order, some, later) (suc k) d h = rises es t (n - 1) b m later k d (omega arith)

-- ---- a legal stream

-- an Enter's function is one of so many
abbrev pub IsNumbered : ℕ → Event → Type 0
IsNumbered n (Enter f t) = (1 ≤ f) × (f ≤ n)
IsNumbered n (Leave t) = Unit

pub numbered-at : (n : ℕ) (es : List Event) → All (IsNumbered n) es → (i f t : ℕ)
    → slice_get es i ≡ Some (Enter f t) → (1 ≤ f) × (f ≤ n)
numbered-at n es all i f t at = subst (IsNumbered n) (get_or_from_slice_get es i (Enter f t) (Leave 0) at)
    (All-get_or (IsNumbered n) es i (Leave 0) (slice_get_within es i (Enter f t) at) all)

pub IsLegal-from_runs : (s : TrackStream) (n : ℕ) → s.end ≤ MAX_TIME → Runs s.start 0 s.events s.end 0
    → length (filter is_enter s.events) ≤ MAX_STATE_EVENTS → All (IsNumbered n) s.events → n ≤ MAX_FUNCTIONS
    → IsLegal s
unfolding stack_after
IsLegal-from_runs s n in_time runs calls numbered few = record {
  in_time = in_time;
  in_order = IsNonDecreasingBy-from_all_adjacent (λ x. x) (moments s) (λ k d h.
      let next : suc k ≡ k + 1 = omega arith in
      subst (λ j. get_or (moments s) k d ≤ get_or (moments s) j d) next
      (rises s.events s.start 0 s.end 0 runs k d (omega arith)));
  closes_open = λ i t at. not_nil (stack_after (take i s.events))
      (some-open s.events s.start 0 s.end 0 runs [] refl i t at);
  all_closed = nil_from_length (stack_after s.events)
      (depth-after s.events s.start 0 s.end 0 runs [] refl);
  depth = depth-within s.events s.start 0 s.end 0 runs (omega arith) [] refl;
  calls = calls;
  functions = λ i f t at.
      let known = numbered-at n s.events numbered i f t at in
      (known.0, omega (arith, known.1, few));
}

pub runs-order : (es : List Event) (a n b m : ℕ) → Runs a n es b m → a ≤ b
runs-order [] a n b m (order, same) = order
runs-order (Enter f t ∷ es) a n b m (order, room, later) =
    omega (arith, order, runs-order es t (n + 1) b m later)
runs-order (Leave t ∷ es) a n b m (order, some, later) =
    omega (arith, order, runs-order es t (n - 1) b m later)
