-- Where a trace ends, fewer entries are owed.
use Rattle.std.proofs.Common.{◌≡◌, false, List, Some, ℕ, ◌+◌, ◌≤◌, true, ap, sym, ◌∙◌, arith}
use Rattle.std.proofs.lemmas.Bool.{false≢true}
use Rattle.registry_core.proofs.KeptTraces.{kept_own, open_kept}
use Rattle.registry_core.proofs.SoundLoads.{count-ended, count-kept, may-end}
use Rattle.registry_core.specs.Closing.{ClosesIn}
use Rattle.registry_core.specs.Loading.{EndsIn, IsLoadingTrace}
use Rattle.registry_core.specs.Registry.{IsSoundRegistry, RegistryValue, kept_trace}
use Rattle.registry_core.specs.Trace.{Trace}
use Rattle.registry_core.specs.declared.answers.RegClose.TheVariants as close
use Rattle.registry_core.specs.declared.answers.RegEnd.{RegEnd}
use Rattle.registry_core.specs.declared.answers.RegEnd.TheVariants.{Ended, Kept}
use Rattle.plain_hall.specs.KeptHistory.{entries_owed}

-- a loading trace hasn't ended
on_yet : (r : RegistryValue) (id : ℕ) (t : Trace) → IsSoundRegistry r → IsLoadingTrace r id
    → kept_trace r.traces id ≡ Some t → t.closing ≡ false
on_yet r id t sound (u, found, loading) kept =
    let same : t ≡ u = cc in
    let loads : t.loading ≡ true = ap (λ (v : Trace). v.loading) same ∙ loading in
    (may-end r id t sound kept (t, kept, λ sealed. absurd (false≢true (sym sealed ∙ loads)))).0

-- so no end of a load is owed then, nor the end of the trace
pub fewer_owed : (r q : RegistryValue) (id : ℕ) (end : RegEnd) → IsSoundRegistry r → IsLoadingTrace r id
    → EndsIn r id end q → entries_owed q + 1 ≤ entries_owed r
fewer_owed r q id (Ended place roots) sound loads (t, kept, unused, is, are, becomes) = omega (
  arith,
  count-ended r t sound (kept_own r.traces id t kept) (on_yet r id t sound loads kept),
  ap entries_owed becomes,
)
fewer_owed r q id (Kept place) sound loads (t, kept, used, is, becomes) = omega (
  arith,
  count-kept r t sound (kept_own r.traces id t kept) (on_yet r id t sound loads kept),
  ap entries_owed becomes,
)

-- the end of a trace that is closed was owed
pub owed-closed : (r q : RegistryValue) (id place : ℕ) (roots : List ℕ) → IsSoundRegistry r
    → ClosesIn r id (close.Ended place roots) q → entries_owed q + 1 ≤ entries_owed r
owed-closed r q id place roots sound (fits, t, sealed, unused, is, are, becomes) =
    let was = open_kept r.traces id t sound.rising sealed.is_open in
    omega (arith, count-ended r t sound (kept_own r.traces id t was.0) was.1, ap entries_owed becomes)

pub owed-closed_kept : (r q : RegistryValue) (id place : ℕ) → IsSoundRegistry r
    → ClosesIn r id (close.Kept place) q → entries_owed q + 1 ≤ entries_owed r
owed-closed_kept r q id place sound (fits, t, sealed, used, is, becomes) =
    let was = open_kept r.traces id t sound.rising sealed.is_open in
    omega (arith, count-kept r t sound (kept_own r.traces id t was.0) was.1, ap entries_owed becomes)
