-- What the tests need of their small registries.
use Rattle.std.proofs.Common.{◌≡◌, ℕ, ◌+◌, ◌<◌, ◌≤◌, cond, not, List}
use Rattle.std.proofs.Common.{[], ◌∷◌, ◌++◌, All, None, Some, Ok, refl}
use Rattle.std.proofs.Common.{arith, ap, ◌∙◌, sym, subst}
use Rattle.std.specs.Option.{option_or}
use Rattle.std.proofs.lemmas.Bool.{eq-eqb}
use Rattle.std.proofs.lemmas.List.Elements.{All-cons, All-filter, All-nil, All-push, All-weaker}
use Rattle.list_lemmas.proofs.All.{All-two}
use Rattle.hall_history.specs.declared.asks.AskIds.{AskIds}
use Rattle.trace_base.specs.declared.names.TraceInfo.{TraceInfo}
use Rattle.registry_core.specs.Asking.{times_asked}
use Rattle.registry_core.specs.Examples.{HasLesserIds, KeepsTraces, no_tracks}
use Rattle.registry_core.specs.Loading.{AdmitsIn, AwaitsSeal, after_promised, with_ended, with_opened}
use Rattle.registry_core.specs.Registry.{RegistryValue, has_id, kept_trace, new_registry}
use Rattle.registry_core.specs.Trace.{Trace, just_opened}
use Rattle.registry_core.specs.declared.answers.Opened.{Opened}
use Rattle.registry_core.proofs.KeptTraces.{All-with_changed}
use Rattle.registry_core.proofs.LawTraces.{KeepsId, kept_above, kept_more}

-- ---- one or two ids

-- the trace is kept
abbrev pub IsKept : RegistryValue → ℕ → Type 0
IsKept r id = (t : Trace) × (kept_trace r.traces id ≡ Some t)

-- the trace is kept, and has as many users as times it is named
abbrev pub IsUsed : RegistryValue → AskIds → ℕ → Type 0
IsUsed r ids id = (t : Trace) × (kept_trace r.traces id ≡ Some t) × (times_asked ids id ≤ t.users)

-- ---- traces that are opened

-- five traces
abbrev pub opened_five : TraceInfo → TraceInfo → TraceInfo → TraceInfo → TraceInfo → RegistryValue
opened_five a b c d e =
    with_opened (with_opened (with_opened (with_opened (with_opened (new_registry 0 1) a) b) c) d) e

-- all of them are kept
pub five_kept : (a b c d e : TraceInfo) → KeepsTraces (opened_five a b c d e) (1 ∷ 2 ∷ 3 ∷ 4 ∷ 5 ∷ [])
five_kept a b c d e =
    let P = IsKept (opened_five a b c d e) in
    All-cons P 1 (2 ∷ 3 ∷ 4 ∷ 5 ∷ []) (just_opened 1 a, refl)
    (All-cons P 2 (3 ∷ 4 ∷ 5 ∷ []) (just_opened 2 b, refl)
    (All-cons P 3 (4 ∷ 5 ∷ []) (just_opened 3 c, refl)
    (All-two P 4 5 (just_opened 4 d, refl) (just_opened 5 e, refl))))

-- a trace behind lesser ids is found by its own
kept_last : (traces : List Trace) (t : Trace) → All (λ (u : Trace). u.id < t.id) traces
    → kept_trace (traces ++ t ∷ []) t.id ≡ Some t
kept_last traces t below = kept_more traces t t.id
    ∙ ap (λ o. option_or o (cond (has_id t.id t) (Some t) None))
    (kept_above traces t.id t.id below (omega arith))
    ∙ ap (λ b. cond b (Some t) None) (eq-eqb t.id t.id refl)

-- ---- ids that are lesser than the next

-- there is none at first
pub lesser-started : (place id : ℕ) → HasLesserIds (new_registry place id)
lesser-started place id = All-nil (λ (t : Trace). t.id < id)

-- the id of a trace that is opened is lesser
pub lesser-opened : (r : RegistryValue) (info : TraceInfo) → HasLesserIds r
    → HasLesserIds (with_opened r info)
lesser-opened r info below = All-push (λ (t : Trace). t.id < r.next_id + 1) r.traces
    (just_opened r.next_id info) (All-weaker (λ (t : Trace). t.id < r.next_id)
    (λ (t : Trace). t.id < r.next_id + 1) (λ t lt. omega (arith, lt)) r.traces below) (omega arith)

-- a trace keeps its id with an entry that was promised to it
pub lesser-promised : (r : RegistryValue) (id : ℕ) (f : Trace → Trace) → KeepsId f → HasLesserIds r
    → HasLesserIds (after_promised r id f)
lesser-promised r id f keeps below = All-with_changed (λ (t : Trace). t.id < r.next_id)
    (λ (t : Trace). t.id < r.next_id) id f (λ t lt hit. subst (λ n. n < r.next_id) (sym (keeps t)) lt)
    (λ t lt miss. lt) r.traces below

-- other traces keep theirs where one ends
pub lesser-ended : (r : RegistryValue) (t : Trace) → HasLesserIds r → HasLesserIds (with_ended r t)
lesser-ended r t below =
    All-filter (λ u. not (has_id t.id u)) (λ (u : Trace). u.id < r.next_id) r.traces below

-- a trace without tracks that was just opened awaits the end of its load
pub awaits_seal : (old new : RegistryValue) (info : TraceInfo) (opened : Opened) → HasLesserIds old
    → info ≡ no_tracks → AdmitsIn old info (Ok opened) new → AwaitsSeal new opened.id
awaits_seal old new info opened below none (fits, few, is, now) =
    subst (λ r. AwaitsSeal r opened.id) (sym (now ∙ ap (with_opened old) none))
    (subst (λ (o : Opened). AwaitsSeal (with_opened old no_tracks) o.id) (sym is) (
      just_opened old.next_id no_tracks,
      kept_last old.traces (just_opened old.next_id no_tracks) below,
      refl,
      refl,
    ))
