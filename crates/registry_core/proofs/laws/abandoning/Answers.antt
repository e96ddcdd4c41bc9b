-- A loading trace hasn't ended, and a place is promised for its end.
use Rattle.std.proofs.Common.{◌≡◌, ℕ, true, [], ◌∷◌, ◌++◌, Some, sym, ap, ◌∙◌, subst}
use Rattle.std.proofs.lemmas.Bool.{false≢true}
use Rattle.hall_history.specs.History.{Dropped}
use Rattle.registry_core.specs.Loading.{IsLoadingTrace}
use Rattle.registry_core.specs.Registry.{IsSoundRegistry, RegistryValue, kept_trace}
use Rattle.registry_core.specs.Standing.{AreTrees, StandsFor}
use Rattle.registry_core.specs.Trace.{Trace}
use Rattle.registry_core.specs.declared.answers.RegEnd.TheVariants.{Ended, Kept}
use Rattle.registry_core.proofs.EndedMore.{IsEndOf-dropped}
use Rattle.registry_core.proofs.KeptTraces.{kept_own}
use Rattle.registry_core.proofs.SoundLoads.{HasEnd, may-end, sound-ended, sound-kept}
use Rattle.registry_core.proofs.StandsEnded.{stands-gone, stands-kept}
use Rattle.registry_core.proofs.laws.abandoning.Goals as goal

-- the kept trace is the loading one
is_loading : (r : RegistryValue) (id : ℕ) (t : Trace) → IsLoadingTrace r id → kept_trace r.traces id ≡ Some t
    → t.loading ≡ true
is_loading r id t (u, was, loading) kept =
    let same : t ≡ u = cc in
    ap (λ (v : Trace). v.loading) same ∙ loading

-- so it hasn't ended, and a place is promised for its end
has_end : (r : RegistryValue) (id : ℕ) (t : Trace) → IsSoundRegistry r → kept_trace r.traces id ≡ Some t
    → t.loading ≡ true → HasEnd r t
has_end r id t sound kept loading =
    may-end r id t sound kept (t, kept, λ sealed. absurd (false≢true (sym sealed ∙ loading)))

pub returns : goal.returns
returns c key_at start old new entries id (Ended place roots) stands loads
    (t, kept, unused, is, are, becomes) =
    let end = has_end old id t stands.sound kept (is_loading old id t loads kept) in
    subst (λ (r : RegistryValue). StandsFor (AreTrees key_at) start r (entries ++ Dropped id ∷ []))
    (sym becomes)
    (stands-gone (AreTrees key_at) start old entries (Dropped id) id t stands kept (IsEndOf-dropped id)
    (sound-ended old t stands.sound (kept_own old.traces id t kept) end.0 end.1))
returns c key_at start old new entries id (Kept place) stands loads (t, kept, used, is, becomes) =
    let end = has_end old id t stands.sound kept (is_loading old id t loads kept) in
    subst (λ (r : RegistryValue). StandsFor (AreTrees key_at) start r (entries ++ Dropped id ∷ []))
    (sym becomes)
    (stands-kept (AreTrees key_at) start old entries (Dropped id) id t stands kept (IsEndOf-dropped id)
    (sound-kept old t stands.sound (kept_own old.traces id t kept) end.0 end.1 used))
