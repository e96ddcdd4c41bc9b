-- Small streams and infos that are legal, and why others aren't.
use Rattle.std.proofs.Common.{◌≡◌, ℕ, ◌≤◌, zero, suc, [], ◌∷◌, length, filter, Some, refl, ap}
use Rattle.std.proofs.Common.{sym, subst, arith, lit≤}
use Rattle.std.specs.Prelude.{slice_get}
use Rattle.std.proofs.lemmas.List.{length-replicate}
use Rattle.std.proofs.lemmas.List.Elements.{All-cons, All-nil}
use Rattle.trace_base.proofs.LegalTest.{IsLegal-from}
use Rattle.trace_base.specs.Info.{IsLegalInfo, IsLegalContainer, NamesExisting, JoinsExisting, Fits}
use Rattle.trace_base.specs.LegalExamples.{quiet_until, one_call, calls_in_a_row, one_process, with_message}
use Rattle.trace_base.specs.LegalExamples.{lasting, one_message, messages_to_root, track_of_kind}
use Rattle.trace_base.specs.Stream.{IsLegal, is_enter, stack_after}
use Rattle.trace_base.specs.declared.limits.TheConstants.{MAX_TIME, MAX_FUNCTIONS}
use Rattle.trace_base.specs.declared.names.Container.{Container}
use Rattle.trace_base.specs.declared.names.Track.{Track}
use Rattle.trace_base.specs.declared.stream.Event.TheVariants.{Enter}

pub last_time-legal : IsLegal (quiet_until MAX_TIME)
unfolding stack_after
last_time-legal = IsLegal-from (quiet_until MAX_TIME)
    (record { in_time = refl; in_order = refl; each = refl; all_closed = refl; depth = refl; calls = refl })

pub whole_track-legal : IsLegal (one_call 1 2 10)
unfolding stack_after
whole_track-legal = IsLegal-from (one_call 1 2 10)
    (record { in_time = refl; in_order = refl; each = refl; all_closed = refl; depth = refl; calls = refl })

pub no_time-legal : IsLegal (one_call 1 5 5)
unfolding stack_after
no_time-legal = IsLegal-from (one_call 1 5 5)
    (record { in_time = refl; in_order = refl; each = refl; all_closed = refl; depth = refl; calls = refl })

pub last_function-legal : IsLegal (one_call MAX_FUNCTIONS 3 4)
unfolding stack_after
last_function-legal = IsLegal-from (one_call MAX_FUNCTIONS 3 4)
    (record { in_time = refl; in_order = refl; each = refl; all_closed = refl; depth = refl; calls = refl })

second_function-legal : IsLegal (one_call 2 3 4)
unfolding stack_after
second_function-legal = IsLegal-from (one_call 2 3 4)
    (record { in_time = refl; in_order = refl; each = refl; all_closed = refl; depth = refl; calls = refl })

pub calls_counted : (n : ℕ) → length (filter is_enter (calls_in_a_row n)) ≡ n
unfolding calls_in_a_row
calls_counted zero = refl
calls_counted (suc n) = ap suc (calls_counted n)

pub messages_counted : (n : ℕ) → length (messages_to_root n) ≡ n
unfolding messages_to_root
messages_counted n = length-replicate n (one_message 1 0)

only_one : (x t : Track) (i j : ℕ) → slice_get (x ∷ []) i ≡ Some t → slice_get (x ∷ []) j ≡ Some t → i ≡ j
only_one x t zero zero a b = refl
only_one x t zero (suc j) a b = absurd cc
only_one x t (suc i) j a b = absurd cc

pub one_process-legal : IsLegalInfo (with_message one_process)
one_process-legal = record {
  containers = lit≤ tt;
  types = lit≤ tt;
  tracks = lit≤ tt;
  functions = lit≤ tt;
  messages = lit≤ tt;
  intervals = All-cons IsLegalContainer (lasting 0 10) (lasting 2 10 ∷ []) (lit≤ tt, lit≤ tt)
      (All-cons IsLegalContainer (lasting 2 10) [] (lit≤ tt, lit≤ tt) (All-nil IsLegalContainer));
  existing = All-cons (NamesExisting one_process) (track_of_kind 1 0) [] (omega arith, omega arith)
      (All-nil (NamesExisting one_process));
  distinct = λ i j t. only_one (track_of_kind 1 0) t i j;
  joined = All-cons (JoinsExisting one_process) (one_message 1 0) [] (omega arith, omega arith)
      (All-nil (JoinsExisting one_process));
}

functions_known : (i f t : ℕ) → slice_get (one_call 2 3 4).events i ≡ Some (Enter f t) → f ≤ 2
functions_known zero f t h = let same : 2 ≡ f = cc in omega arith
functions_known (suc zero) f t h = absurd cc
functions_known (suc (suc i)) f t h = absurd cc

pub one_process-fits : Fits (one_call 2 3 4) (with_message one_process) 0
one_process-fits = record {
  legal = second_function-legal;
  interval = (track_of_kind 1 0, lasting 2 10, refl, refl, (refl, refl));
  numbered = functions_known;
}

-- the container of the only track starts at 2
pub starts_at_two : (t : Track) (c : Container) → Some (track_of_kind 1 0) ≡ Some t
    → slice_get one_process.containers t.container ≡ Some c → 0 ≡ c.start → ⊥
starts_at_two t c of at early =
    let same : track_of_kind 1 0 ≡ t = cc in
    let there : slice_get one_process.containers 1 ≡ Some c =
    subst (λ (x : Track). slice_get one_process.containers x.container ≡ Some c) (sym same) at in
    let is : lasting 2 10 ≡ c = cc in
    let start : 2 ≡ c.start = ap (λ (x : Container). x.start) is in
    omega arith
