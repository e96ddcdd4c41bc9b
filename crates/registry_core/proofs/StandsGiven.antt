-- A registry stands for its history whatever users its traces have.
use Rattle.std.proofs.Common.{◌≡◌, ℕ, not, eqb, List, map, filter, Some, is_some}
use Rattle.std.proofs.Common.{refl, sym, ap, ◌∙◌, subst}
use Rattle.list_lemmas.proofs.Booleans.{and_not-and}
use Rattle.list_lemmas.proofs.Found.{find-filter, find-map_same, find_agree}
use Rattle.list_lemmas.proofs.Options.{is_some-map, option_map_found}
use Rattle.hall_history.specs.History.{EntryOf}
use Rattle.registry_core.specs.Registry.{IsSoundRegistry, RegistryValue, has_id, kept_trace, open_trace}
use Rattle.registry_core.specs.Standing.{RootsAre, StandsFor, Start}
use Rattle.registry_core.specs.Trace.{Trace, is_over}
use Rattle.registry_core.proofs.KeepsMore.{KeepsTrace-same, SameTracks}
use Rattle.registry_core.proofs.KeptTraces.{IsRising, is_open_as, kept_too}

-- Each trace that the new list keeps is one of the old with other users, and the same are open.
pub record DiffersInUsers (old new : List Trace) : Type 0 where
  pub opens : (id : ℕ) → is_some (open_trace new id) ≡ is_some (open_trace old id)
  pub traces : (id : ℕ) (u : Trace) → kept_trace new id ≡ Some u
      → (t : Trace) × (kept_trace old id ≡ Some t) × SameTracks t u × (u.loading ≡ t.loading)

-- the registry stands for its history with other users as well
pub stands-given : {X : Type 0} (are : RootsAre X) (start : Start) (r : RegistryValue)
    (entries : List (EntryOf X)) (new : List Trace) → StandsFor are start r entries
    → DiffersInUsers r.traces new → IsSoundRegistry (record r { traces = new })
    → StandsFor are start (record r { traces = new }) entries
stands-given are start r entries new stands differs sound = record {
  sound = sound;
  place = stands.place;
  ids = stands.ids;
  next_id = stands.next_id;
  promised = stands.promised;
  untold = stands.untold;
  opens = λ id. stands.opens id ∙ sym (differs.opens id);
  traces = λ id u kept. let old = differs.traces id u kept in
      KeepsTrace-same are start entries old.0 u old.2 old.3 (stands.traces id old.0 old.1);
}

-- traces with other users are told the same
pub differs-users : (g : Trace → Trace) (traces : List Trace)
    → ((t : Trace) → SameTracks t (g t) × ((g t).loading ≡ t.loading) × ((g t).closing ≡ t.closing))
    → DiffersInUsers traces (map g traces)
differs-users g traces same = record {
  opens = λ id. ap is_some (find-map_same (is_open_as id) g (open_kept id) traces)
      ∙ is_some-map g (open_trace traces id);
  traces = λ id u kept.
      let one = option_map_found g (kept_trace traces id) u
      (sym (find-map_same (has_id id) g (λ t. ap (λ n. eqb n id) (same t).0.id) traces) ∙ kept) in
      let t = one.0 in (
        t,
        one.1,
        subst (SameTracks t) one.2 (same t).0,
        ap (λ (v : Trace). v.loading) (sym one.2) ∙ (same t).1,
      );
}
  where
    open_kept : (id : ℕ) (t : Trace) → is_open_as id (g t) ≡ is_open_as id t
    open_kept id t = rw ((same t).0.id, (same t).2) refl

-- nor is anything else told where those that are over are taken out
pub differs-over : (old traces : List Trace) → IsRising traces → DiffersInUsers old traces
    → DiffersInUsers old (filter (λ t. not (is_over t)) traces)
differs-over old traces rising differs = record {
  opens = λ id. ap is_some (find-filter (is_open_as id) (λ t. not (is_over t)) traces
      ∙ find_agree _ _ (λ t. and_not-and (has_id id t) t.closing (eqb t.users 0)) traces)
      ∙ differs.opens id;
  traces = λ id u kept. differs.traces id u (kept_too (λ t. not (is_over t)) traces id u rising
      (sym (find-filter (has_id id) (λ t. not (is_over t)) traces) ∙ kept));
}
