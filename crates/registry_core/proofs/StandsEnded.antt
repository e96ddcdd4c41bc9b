-- A registry that stands for a history does so after a trace has ended as well.
use Rattle.std.proofs.Common.{◌≡◌, ℕ, ◌+◌, ◌-◌, ◌<◌, false, ◌&&◌, not, eqb, List, [], ◌∷◌, ◌++◌, Some, sym}
use Rattle.std.proofs.Common.{ap, ap₂, ◌∙◌, subst, arith, length-append}
use Rattle.std.proofs.lemmas.Bool.Decides.{nat_tests}
use Rattle.list_lemmas.proofs.All.{All-found}
use Rattle.hall_history.specs.History.{EntryOf, is_loading}
use Rattle.hall_history.proofs.HistoryMore.{subject}
use Rattle.registry_core.specs.Loading.{with_ended, with_kept}
use Rattle.registry_core.specs.Registry.{IsSoundRegistry, RegistryValue, has_id, kept_trace, with_changed}
use Rattle.registry_core.specs.Registry.{without_trace}
use Rattle.registry_core.specs.Standing.{RootsAre, StandsFor, Start}
use Rattle.registry_core.specs.Trace.{IsSoundTrace, Trace, kept_for_users, promise_of}
use Rattle.registry_core.proofs.EndTraces.{EndsTrace, ends-gone, ends-kept}
use Rattle.registry_core.proofs.EndedMore.{IsEndOf, ended_ids, ended_loading, ended_open}
use Rattle.registry_core.proofs.EndedMore.{ended_promised}
use Rattle.registry_core.proofs.KeepsMore.{KeepsTrace-more, promise_kept}
use Rattle.registry_core.proofs.KeptTraces.{kept_id, kept_own}
use Rattle.registry_core.proofs.LawEntries.{untold_stays}

-- the registry after one of its traces has ended, with these traces left
abbrev pub after_end : RegistryValue → Trace → List Trace → RegistryValue
after_end r t traces = record {
  place = r.place + 1;
  next_id = r.next_id;
  promised = r.promised - promise_of t;
  traces = traces;
}

-- after an entry that ends a trace the registry stands for the history with it
pub stands-ended : {X : Type 0} (are : RootsAre X) (start : Start) (r : RegistryValue)
    (entries : List (EntryOf X)) (e : EntryOf X) (t : Trace) (left : List Trace)
    → StandsFor are start r entries → kept_trace r.traces t.id ≡ Some t → IsEndOf e t.id
    → EndsTrace t.id r.traces left
    → IsSoundRegistry (after_end r t left) → StandsFor are start (after_end r t left) (entries ++ e ∷ [])
stands-ended are start r entries e t left stands kept end ends sound = record {
  sound = sound;
  place = omega (arith, stands.place, length-append entries (e ∷ []));
  ids = rw (ended_ids entries e t.id end) stands.ids;
  next_id = rw (ended_ids entries e t.id end) stands.next_id;
  promised = omega (
    arith,
    stands.promised,
    ended_promised entries e t.id start.id end stands.ids,
    promise_kept are start entries t (stands.traces t.id t kept)
        (All-found (IsSoundTrace r.place) (has_id t.id) r.traces t stands.sound.each kept).tracks,
  );
  untold = λ id above.
      let given : t.id < r.next_id =
      All-found (λ (u : Trace). u.id < r.next_id) (has_id t.id) r.traces t stands.sound.given kept in
      let about : subject e ≡ t.id = end.about in
      let ne : eqb (subject e) id ≡ false = grind (arith, nat_tests) in
      untold_stays entries e id ne (stands.untold id above);
  opens = λ id. ended_open entries e t.id id end ∙ ap (λ b. b && not (eqb t.id id)) (stands.opens id)
      ∙ sym (ends.opens id);
  traces = λ id u now.
      let old = ends.traces id u now in
      let was = old.0 in
      let keeps = stands.traces id was old.1 in
      let loading : u.loading ≡ is_loading (entries ++ e ∷ []) was.id = old.3
      ∙ ap₂ (λ b n. b && not (eqb t.id n)) keeps.loading (sym (kept_id r.traces id was old.1))
      ∙ sym (ended_loading entries e t.id was.id end) in
      KeepsTrace-more are start entries e was u (end.told entries was.id) old.2 loading keeps;
}

-- after a trace has ended that nobody uses
pub stands-gone : {X : Type 0} (are : RootsAre X) (start : Start) (r : RegistryValue)
    (entries : List (EntryOf X)) (e : EntryOf X) (id : ℕ) (t : Trace) → StandsFor are start r entries
    → kept_trace r.traces id ≡ Some t → IsEndOf e id → IsSoundRegistry (with_ended r t)
    → StandsFor are start (with_ended r t) (entries ++ e ∷ [])
stands-gone are start r entries e id t stands kept end sound = stands-ended are start r entries e t
    (without_trace t.id r.traces) stands (kept_own r.traces id t kept)
    (subst (IsEndOf e) (sym (kept_id r.traces id t kept)) end) (ends-gone t.id r.traces stands.sound.rising)
    sound

-- after one has ended that is kept for its users
pub stands-kept : {X : Type 0} (are : RootsAre X) (start : Start) (r : RegistryValue)
    (entries : List (EntryOf X)) (e : EntryOf X) (id : ℕ) (t : Trace) → StandsFor are start r entries
    → kept_trace r.traces id ≡ Some t → IsEndOf e id → IsSoundRegistry (with_kept r t)
    → StandsFor are start (with_kept r t) (entries ++ e ∷ [])
stands-kept are start r entries e id t stands kept end sound = stands-ended are start r entries e t
    (with_changed t.id kept_for_users r.traces) stands (kept_own r.traces id t kept)
    (subst (IsEndOf e) (sym (kept_id r.traces id t kept)) end) (ends-kept t.id r.traces) sound
