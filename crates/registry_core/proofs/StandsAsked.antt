-- A registry that stands for a history does so after a question as well.
use Rattle.std.proofs.Common.{◌≡◌, ℕ, List, [], ◌∷◌, ◌++◌, filter, sum_by, refl, sym, ap₂, ◌∙◌}
use Rattle.std.proofs.Common.{arith, length-append, append-nil}
use Rattle.std.proofs.Math.Path.{fun_ext}
use Rattle.hall_history.specs.History.{Asked, EntryOf, is_loading, is_open, opened_ids, promised}
use Rattle.hall_history.proofs.HistoryMore.{data_asked, fate_asked, loading_same, open_same, opened_more}
use Rattle.registry_core.specs.Registry.{IsSoundRegistry, RegistryValue, after_entry}
use Rattle.registry_core.specs.Standing.{RootsAre, StandsFor, Start}
use Rattle.registry_core.proofs.KeepsMore.{IsUntold-more, KeepsTrace-more, promise_same, promise_told}

-- a question opens no trace
asked_ids : {X : Type 0} (entries : List (EntryOf X))
    → opened_ids (entries ++ Asked ∷ []) ≡ opened_ids entries
asked_ids entries = opened_more entries Asked ∙ append-nil _

-- the same traces are open after it
asked_open : {X : Type 0} (entries : List (EntryOf X)) (id : ℕ)
    → is_open (entries ++ Asked ∷ []) id ≡ is_open entries id
asked_open entries id = open_same entries _ id (data_asked entries id) (fate_asked entries id)

-- and the same are loading
asked_loading : {X : Type 0} (entries : List (EntryOf X)) (id : ℕ)
    → is_loading (entries ++ Asked ∷ []) id ≡ is_loading entries id
asked_loading entries id = loading_same entries _ id (data_asked entries id) (fate_asked entries id)

-- the same places are promised after it
asked_promised : {X : Type 0} (entries : List (EntryOf X))
    → promised (entries ++ Asked ∷ []) ≡ promised entries
unfolding promised
asked_promised entries =
    let new = entries ++ Asked ∷ [] in
    let loads : is_loading new ≡ is_loading entries = fun_ext (λ x. asked_loading entries x) in
    let promise : promise_told new ≡ promise_told entries =
    fun_ext (λ id. promise_same entries new id (data_asked entries id)) in
    ap₂ sum_by promise (ap₂ filter loads (asked_ids entries))

-- after a question the registry stands for the history with it
pub stands-asked : {X : Type 0} (are : RootsAre X) (start : Start) (r : RegistryValue)
    (entries : List (EntryOf X)) → StandsFor are start r entries → IsSoundRegistry (after_entry r)
    → StandsFor are start (after_entry r) (entries ++ Asked ∷ [])
stands-asked are start r entries stands sound = record {
  sound = sound;
  place = omega (arith, stands.place, length-append entries (Asked ∷ []));
  ids = rw (asked_ids entries) stands.ids;
  next_id = rw (asked_ids entries) stands.next_id;
  promised = stands.promised ∙ sym (asked_promised entries);
  untold = λ id above. IsUntold-more entries Asked id (data_asked entries id) (fate_asked entries id)
      (stands.untold id above);
  opens = λ id. asked_open entries id ∙ stands.opens id;
  traces = λ id t kept. let keeps = stands.traces id t kept in
      KeepsTrace-more are start entries Asked t t (data_asked entries t.id)
      (record { id = refl; info = refl; tracks = refl })
      (keeps.loading ∙ sym (asked_loading entries t.id)) keeps;
}
