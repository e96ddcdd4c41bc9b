-- What was told to a query stays told over each call, whatever it answers.
use Rattle.std.proofs.Common.{◌≡◌, ◌∷◌, ◌∙◌, ℕ, List, Contains, Result, Ok, Err, None, Some, ap, refl, subst, sym}
use Rattle.std.specs.Prelude.{slice_get}
use Rattle.std.proofs.lemmas.Option.{same_Some}
use Rattle.trace_base.specs.declared.names.TraceInfo.{TraceInfo}
use Rattle.hall_history.specs.declared.asks.AskIds.{AskIds}
use Rattle.hall_history.specs.declared.listing.Listing.{Listing}
use Rattle.registry_core.specs.Asking.{AsksIn, after_unpin, times_asked, with_users}
use Rattle.registry_core.specs.Closing.{ClosesIn, ListsIn}
use Rattle.registry_core.specs.Loading.{AdmitsIn, AwaitsTrack, EndsIn, with_opened, with_published, with_sealed}
use Rattle.registry_core.specs.Registry.{IsSoundRegistry, RegistryValue, after_entry}
use Rattle.registry_core.specs.Staying.{KeepsTold}
use Rattle.registry_core.specs.Trace.{Trace, just_opened, loaded, used_more, with_root}
use Rattle.registry_core.specs.UsedBy.{AreUsedBy}
use Rattle.registry_core.specs.declared.answers.Opened.{Opened}
use Rattle.registry_core.specs.declared.answers.RegAsk.{RegAsk}
use Rattle.registry_core.specs.declared.answers.RegAsk.TheVariants as ask
use Rattle.registry_core.specs.declared.answers.RegClose.{RegClose}
use Rattle.registry_core.specs.declared.answers.RegClose.TheVariants as close
use Rattle.registry_core.specs.declared.answers.RegEnd.{RegEnd}
use Rattle.registry_core.specs.declared.answers.RegEnd.TheVariants as end
use Rattle.registry_core.specs.declared.answers.RegFault.{RegFault}
use Rattle.registry_core.specs.declared.answers.RegFault.TheVariants as fault
use Rattle.registry_core.proofs.KeptTraces.{kept_own, open_kept}
use Rattle.registry_core.proofs.ToldStays.{told-changed, told-each, told-ended, told-filled}
use Rattle.registry_core.proofs.ToldStays.{told-given_back, told-kept_for_users, told-mapped, told-more}
use Rattle.registry_core.proofs.ToldStays.{told-same}

pub told-admitted : (old new : RegistryValue) (info : TraceInfo) (answer : Result Opened RegFault)
    (ids : AskIds) (place : ℕ) → AdmitsIn old info answer new → KeepsTold old new ids place
told-admitted old new info (Ok opened) ids place (fits, few, is, becomes) =
    subst (λ (r : RegistryValue). KeepsTold old r ids place) (sym becomes)
    (told-each old (with_opened old info) ids place (λ id t named.
    told-more old.traces (just_opened old.next_id info) place id t))
told-admitted old new info (Err (fault.Full at)) ids place (fits, full, is, becomes) =
    told-same old new ids place (ap (λ (r : RegistryValue). r.traces) becomes)
told-admitted old new info (Err (fault.Spent p)) ids place (lacks, becomes) =
    told-same old new ids place (ap (λ (r : RegistryValue). r.traces) becomes)
told-admitted old new info (Err fault.Memory) ids place (fits, few, becomes) =
    told-same old new ids place (ap (λ (r : RegistryValue). r.traces) becomes)

pub told-published : (r : RegistryValue) (id track start root : ℕ) (ids : AskIds) (place : ℕ)
    → AwaitsTrack r id track → KeepsTold r (with_published r id track start root) ids place
told-published r id track start root ids place (t, kept, loading, free) =
    told-each r (with_published r id track start root) ids place (λ x u named.
    told-changed id (with_root track _) r.traces place x u (λ v. refl) (λ v there.
    told-filled place track _ v (subst (λ (w : Trace). slice_get w.tracks track ≡ Some None)
    (same_Some t v (sym kept ∙ there)) free)))

pub told-sealed : (r : RegistryValue) (id : ℕ) (ids : AskIds) (place : ℕ)
    → KeepsTold r (with_sealed r id) ids place
told-sealed r id ids place =
    told-each r (with_sealed r id) ids place (λ x u named.
    told-changed id loaded r.traces place x u (λ v. refl) (λ v there track start root is. is))

pub told-given_up : (old new : RegistryValue) (id : ℕ) (answer : RegEnd) (queries : List AskIds)
    (ids : AskIds) (place : ℕ) → AreUsedBy old.traces queries → Contains queries ids
    → EndsIn old id answer new → KeepsTold old new ids place
told-given_up old new id (end.Ended at roots) queries ids place used runs
    (t, kept, unused, is, are, becomes) =
    subst (λ (r : RegistryValue). KeepsTold old r ids place) (sym becomes)
    (told-ended old t queries ids place used runs (kept_own old.traces id t kept) unused)
told-given_up old new id (end.Kept at) queries ids place used runs (t, kept, in_use, is, becomes) =
    subst (λ (r : RegistryValue). KeepsTold old r ids place) (sym becomes)
    (told-kept_for_users old t ids place)

pub told-closed : (old new : RegistryValue) (id : ℕ) (answer : RegClose) (queries : List AskIds)
    (ids : AskIds) (place : ℕ) → IsSoundRegistry old → AreUsedBy old.traces queries → Contains queries ids
    → ClosesIn old id answer new → KeepsTold old new ids place
told-closed old new id (close.Ended at roots) queries ids place sound used runs
    (fits, t, sealed, unused, is, are, becomes) =
    let kept = (open_kept old.traces id t sound.rising sealed.is_open).0 in
    subst (λ (r : RegistryValue). KeepsTold old r ids place) (sym becomes)
    (told-ended old t queries ids place used runs (kept_own old.traces id t kept) unused)
told-closed old new id (close.Kept at) queries ids place sound used runs
    (fits, t, sealed, in_use, is, becomes) =
    subst (λ (r : RegistryValue). KeepsTold old r ids place) (sym becomes)
    (told-kept_for_users old t ids place)
told-closed old new id (close.Loading at) queries ids place sound used runs
    (fits, t, opened, loads, is, becomes) =
    told-same old new ids place (ap (λ (r : RegistryValue). r.traces) becomes)
told-closed old new id (close.Unknown next at) queries ids place sound used runs
    (fits, none, is, at_is, becomes) =
    told-same old new ids place (ap (λ (r : RegistryValue). r.traces) becomes)
told-closed old new id (close.Spent p) queries ids place sound used runs (lacks, becomes) =
    told-same old new ids place (ap (λ (r : RegistryValue). r.traces) becomes)

pub told-asked : (old new : RegistryValue) (others : AskIds) (answer : RegAsk) (ids : AskIds) (place : ℕ)
    → AsksIn old others answer new → KeepsTold old new ids place
told-asked old new others (ask.Pinned at) ids place (fits, known, is, becomes) =
    subst (λ (r : RegistryValue). KeepsTold old r ids place) (sym becomes)
    (told-each old (record (after_entry old) { traces = with_users others old.traces }) ids place
    (λ id t named. told-mapped (λ u. used_more (times_asked others u.id) u) old.traces place id t (λ u. refl)
    (λ track start root is. is)))
told-asked old new others (ask.Unknown id next at) ids place (fits, none, is, at_is, becomes) =
    told-same old new ids place (ap (λ (r : RegistryValue). r.traces) becomes)
told-asked old new others (ask.Spent p) ids place (lacks, becomes) =
    told-same old new ids place (ap (λ (r : RegistryValue). r.traces) becomes)

pub told-listed : (old new : RegistryValue) (answer : Result Listing RegFault) (ids : AskIds) (place : ℕ)
    → ListsIn old answer new → KeepsTold old new ids place
told-listed old new (Ok listing) ids place (fits, is, becomes) =
    told-same old new ids place (ap (λ (r : RegistryValue). r.traces) becomes)
told-listed old new (Err (fault.Spent p)) ids place (lacks, becomes) =
    told-same old new ids place (ap (λ (r : RegistryValue). r.traces) becomes)
told-listed old new (Err fault.Memory) ids place (fits, becomes) =
    told-same old new ids place (ap (λ (r : RegistryValue). r.traces) becomes)
told-listed old new (Err (fault.Full at)) ids place none = absurd none

-- traces that another query gives back
pub told-unpinned : (r : RegistryValue) (others : AskIds) (queries : List AskIds) (ids : AskIds) (place : ℕ)
    → IsSoundRegistry r → AreUsedBy r.traces (others ∷ queries) → Contains queries ids
    → KeepsTold r (after_unpin r others) ids place
told-unpinned r others queries ids place sound used runs =
    told-each r (after_unpin r others) ids place (λ id t named kept.
    told-given_back others r.traces queries ids place id t sound.rising used runs named kept)
