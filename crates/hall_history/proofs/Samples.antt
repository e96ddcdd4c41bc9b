-- The small traces and streams are legal.
use Rattle.std.proofs.Common.{◌≡◌, ℕ, ◌≤◌, List, [], ◌∷◌, length, take, Some, refl, sym, ap, arith, suc, zero}
use Rattle.std.proofs.Common.{subst, lit≤, rules}
use Rattle.std.specs.Prelude.{slice_get}
use Rattle.std.specs.List.Sorted.{IsNonDecreasing}
use Rattle.trace_base.specs.Info.{Fits, IsLegalInfo}
use Rattle.trace_base.specs.Stream.{IsLegal, stack_after}
use Rattle.trace_base.specs.declared.names.TraceInfo.{TraceInfo}
use Rattle.trace_base.specs.declared.names.Track.{Track}
use Rattle.trace_base.specs.declared.stream.Event.{Event}
use Rattle.trace_base.specs.declared.stream.TrackStream.{TrackStream}
use Rattle.hall_history.specs.Examples.{quiet, lone, bare}

quiet_order : IsNonDecreasing (0 ∷ 10 ∷ [])
quiet_order zero zero d le lt = lit≤ tt
quiet_order zero (suc zero) d le lt = lit≤ tt
quiet_order zero (suc (suc j)) d le lt = absurd (omega arith)
quiet_order (suc i) zero d le lt = absurd (omega arith)
quiet_order (suc zero) (suc zero) d le lt = lit≤ tt
quiet_order (suc (suc i)) (suc zero) d le lt = absurd (omega arith)
quiet_order (suc i) (suc (suc j)) d le lt = absurd (omega arith)

take_none : (i : ℕ) → take {A = Event} i [] ≡ []
take_none zero = refl
take_none (suc i) = refl

quiet_legal : IsLegal quiet
unfolding stack_after
quiet_legal = record {
  in_time = lit≤ tt;
  in_order = quiet_order;
  closes_open = λ i t at. absurd cc;
  all_closed = refl;
  depth = λ i. subst (λ (es : List Event). length (stack_after es) ≤ 256) (sym (take_none i)) (lit≤ tt);
  calls = lit≤ tt;
  functions = λ i f t at. absurd cc;
}

pub quiet_fits : (info : TraceInfo) (s : TrackStream) (name : List ℕ) → s ≡ quiet
    → info.names.tracks ≡ record { container = 0; kind = 0 } ∷ []
    → info.names.containers ≡ record { name = name; start = 0; end = 10 } ∷ [] → Fits s info 0
quiet_fits info s name same tracks containers = subst (λ (s : TrackStream). Fits s info 0) (sym same)
    (record {
      legal = quiet_legal;
      interval = (
        record { container = 0; kind = 0 },
        record { name = name; start = 0; end = 10 },
        ap (λ xs. slice_get xs 0) tracks,
        ap (λ xs. slice_get xs 0) containers,
        (refl, refl),
      );
      numbered = λ i f t at. absurd cc;
    })

one_place : (i j : ℕ) (t : Track) → slice_get (record { container = 0; kind = 0 } ∷ []) i ≡ Some t
    → slice_get (record { container = 0; kind = 0 } ∷ []) j ≡ Some t → i ≡ j
one_place zero zero t a b = refl
one_place zero (suc j) t a b = absurd cc
one_place (suc i) j t a b = absurd cc

pub lone_legal : IsLegalInfo lone
lone_legal = record {
  containers = omega arith;
  types = omega arith;
  tracks = omega arith;
  functions = omega arith;
  messages = omega arith;
  intervals = search rules;
  existing = search rules;
  distinct = one_place;
  joined = search rules;
}

pub bare_legal : IsLegalInfo bare
bare_legal = record {
  containers = omega arith;
  types = omega arith;
  tracks = omega arith;
  functions = omega arith;
  messages = omega arith;
  intervals = search rules;
  existing = search rules;
  distinct = λ i j t at. absurd cc;
  joined = search rules;
}
