-- What is found among traces after one of them has changed, or one more has come.
use Rattle.std.proofs.Common.{◌≡◌, ℕ, ◌<◌, ◌≤◌, Bool, true, false, ◌&&◌, not, cond, eqb, List, []}
use Rattle.std.proofs.Common.{◌∷◌, ◌++◌, None}
use Rattle.std.proofs.Common.{Some, refl, ap, ap₂, ◌∙◌, arith, All, option_map}
use Rattle.std.specs.Prelude.{is_some}
use Rattle.std.specs.Option.{option_or}
use Rattle.std.proofs.lemmas.Bool.Decides.{nat_tests}
use Rattle.std.proofs.lemmas.List.Folds.{find-append}
use Rattle.list_lemmas.proofs.Found.{find-map_same, find_stricter, none_found}
use Rattle.list_lemmas.proofs.Options.{is_some-map}
use Rattle.registry_core.specs.Registry.{has_id, is_open_trace, kept_trace, open_trace, with_changed}
use Rattle.registry_core.specs.Trace.{Trace}

-- ---- traces

-- there is none of an id above all
pub kept_above : (traces : List Trace) (n id : ℕ) → All (λ (t : Trace). t.id < n) traces → n ≤ id
    → kept_trace traces id ≡ None
kept_above traces n id below above = none_found (has_id id) traces (λ k d lt.
    let less = below k d lt in grind (arith, nat_tests, less))

-- none of those is open
pub open_above : (traces : List Trace) (n id : ℕ) → All (λ (t : Trace). t.id < n) traces → n ≤ id
    → open_trace traces id ≡ None
open_above traces n id below above =
    find_stricter (has_id id) is_open_trace traces (kept_above traces n id below above)

-- the trace of an id, where one more trace comes behind the others
pub kept_more : (traces : List Trace) (u : Trace) (id : ℕ)
    → kept_trace (traces ++ u ∷ []) id ≡ option_or (kept_trace traces id) (cond (has_id id u) (Some u) None)
kept_more traces u id = find-append (has_id id) traces (u ∷ [])

-- likewise of an open trace
pub open_more : (traces : List Trace) (u : Trace) (id : ℕ)
    → open_trace (traces ++ u ∷ []) id ≡ option_or (open_trace traces id)
    (cond (has_id id u && is_open_trace u) (Some u) None)
open_more traces u id = find-append (λ t. has_id id t && is_open_trace t) traces (u ∷ [])

-- what f makes of the trace of this id
abbrev pub changed_at : ℕ → (Trace → Trace) → Trace → Trace
changed_at id f t = cond (has_id id t) (f t) t

-- f keeps the id
abbrev pub KeepsId : (Trace → Trace) → Type 0
KeepsId f = (t : Trace) → (f t).id ≡ t.id

-- f keeps a trace open
abbrev pub KeepsOpen : (Trace → Trace) → Type 0
KeepsOpen f = (t : Trace) → (f t).closing ≡ t.closing

-- the trace of an id, after that of this id has changed
pub kept_changed : (id : ℕ) (f : Trace → Trace) (traces : List Trace) (other : ℕ) → KeepsId f
    → kept_trace (with_changed id f traces) other ≡ option_map (changed_at id f) (kept_trace traces other)
kept_changed id f traces other keeps = find-map_same (has_id other) (changed_at id f) (λ t.
    elim (has_id id t) as (λ b. has_id other (cond b (f t) t) ≡ has_id other t)
    [ true ↦ ap (λ i. eqb i other) (keeps t) | false ↦ refl ]) traces

-- the same ids are open
pub open_changed : (id : ℕ) (f : Trace → Trace) (traces : List Trace) (other : ℕ) → KeepsId f → KeepsOpen f
    → is_some (open_trace (with_changed id f traces) other) ≡ is_some (open_trace traces other)
open_changed id f traces other keeps stays =
    let p : Trace → Bool = λ t. has_id other t && is_open_trace t in
    ap is_some (find-map_same p (changed_at id f) (λ t. elim (has_id id t) as
    (λ b. p (cond b (f t) t) ≡ p t)
    [ true ↦ ap₂ (λ i c. eqb i other && not c) (keeps t) (stays t) | false ↦ refl ]) traces) ∙ is_some-map
    (changed_at id f) (open_trace traces other)
