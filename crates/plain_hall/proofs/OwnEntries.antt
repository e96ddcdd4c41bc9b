-- Entries that the owner of a plain hall makes for itself, which leave its stakes, pins and passes.
use Rattle.std.proofs.Common.{◌≡◌, ℕ, ◌+◌, true, false, List, [], ◌∷◌, ◌++◌, length, None, Some, refl}
use Rattle.std.proofs.Common.{sym, ap, ◌∙◌, arith}
use Rattle.std.specs.Prelude.{is_some}
use Rattle.std.proofs.lemmas.List.{append-nil}
use Rattle.hall_history.specs.History.{Asked, Entry, EntryOf, is_loading, is_open, next_id, opened_ids}
use Rattle.hall_history.specs.declared.asks.AskIds.{AskIds}
use Rattle.hall_history.specs.declared.seat.PinView.{PinView}
use Rattle.hall_history.proofs.HistoryMore.{data_asked, fate_asked, loading_same, opened_more, open_same}
use Rattle.hall_trait.specs.Answers.{MakesOwnEntry}
use Rattle.node_key.specs.declared.stake.Stake.{Stake}
use Rattle.node_store.specs.Given.{ever}
use Rattle.node_store.specs.Kept.{NodesKept}
use Rattle.registry_core.proofs.FollowsRegistry.{loads_told}
use Rattle.registry_core.proofs.KeptTraces.{open_kept}
use Rattle.registry_core.specs.Registry.{FitsPlaces, RegistryValue, open_trace}
use Rattle.registry_core.specs.Standing.{AreTrees}
use Rattle.registry_core.specs.Trace.{Trace}
use Rattle.plain_hall.specs.Loading.{passes_of}
use Rattle.plain_hall.specs.PlainSeat.{plain_seat}
use Rattle.plain_hall.specs.Rooted.{with_trees}
use Rattle.plain_hall.specs.Whole.{IsSoundHall, at_first}
use Rattle.plain_hall.specs.declared.root.Root.{Root}
use Rattle.plain_hall.proofs.Calls.{asked_passes}
use Rattle.plain_hall.proofs.LoadFacts.{last_place}
use Rattle.plain_hall.proofs.Steps.{makes}

-- the entry is made where a place is left
pub makes_own : (s : NodesKept) (r : RegistryValue) (entries : List (EntryOf Root)) (queries : List AskIds)
    (stakes left : List Stake) (new : List Entry) (pins : List PinView) (e : Entry) (place : ℕ)
    → IsSoundHall s r entries queries → FitsPlaces r 1 → left ≡ stakes
    → new ≡ with_trees (ever s.given) entries ++ e ∷ [] → place ≡ r.place + 1
    → passes_of new ≡ passes_of (with_trees (ever s.given) entries)
    → MakesOwnEntry true (plain_seat stakes (with_trees (ever s.given) entries) pins)
    (plain_seat left new pins) e place
makes_own s r entries queries stakes left new pins e place whole fits kept seen at passes =
    let old = with_trees (ever s.given) entries in
    record {
      entered = makes stakes left old new pins pins e place seen
          (last_place (ever s.given) r old new e place whole.stands seen at);
      pins = refl;
      passes = passes;
      stakes = kept;
      room = omega (arith, fits, whole.stands.place, whole.stands.promised);
    }

-- a question is
pub asks_own : (s : NodesKept) (r : RegistryValue) (entries : List (EntryOf Root)) (queries : List AskIds)
    (stakes : List Stake) (new : List Entry) (pins : List PinView) (place : ℕ)
    → IsSoundHall s r entries queries → FitsPlaces r 1
    → new ≡ with_trees (ever s.given) entries ++ Asked ∷ [] → place ≡ r.place + 1
    → MakesOwnEntry true (plain_seat stakes (with_trees (ever s.given) entries) pins)
    (plain_seat stakes new pins) Asked place
asks_own s r entries queries stakes new pins place whole fits seen at =
    makes_own s r entries queries stakes stakes new pins Asked place whole fits refl seen at
    (asked_passes (with_trees (ever s.given) entries) new seen)

-- ---- what a question tells of a trace

asked_opens : (s : NodesKept) (r : RegistryValue) (entries : List (EntryOf Root)) (queries : List AskIds)
    (new : List Entry) (id : ℕ) → IsSoundHall s r entries queries
    → new ≡ with_trees (ever s.given) entries ++ Asked ∷ []
    → is_open new id ≡ is_some (open_trace r.traces id)
asked_opens s r entries queries new id whole seen =
    let old = with_trees (ever s.given) entries in
    ap (λ (es : List Entry). is_open es id) seen
    ∙ open_same old (old ++ Asked ∷ []) id (data_asked old id) (fate_asked old id) ∙ whole.stands.opens id

-- that it isn't open
pub asked_unknown : (s : NodesKept) (r : RegistryValue) (entries : List (EntryOf Root))
    (queries : List AskIds) (new : List Entry) (id : ℕ) → IsSoundHall s r entries queries
    → new ≡ with_trees (ever s.given) entries ++ Asked ∷ [] → open_trace r.traces id ≡ None
    → is_open new id ≡ false
asked_unknown s r entries queries new id whole seen none =
    asked_opens s r entries queries new id whole seen ∙ ap is_some none

-- that it is loading
pub asked_loads : (s : NodesKept) (r : RegistryValue) (entries : List (EntryOf Root)) (queries : List AskIds)
    (new : List Entry) (id : ℕ) (t : Trace) → IsSoundHall s r entries queries
    → new ≡ with_trees (ever s.given) entries ++ Asked ∷ [] → open_trace r.traces id ≡ Some t
    → t.loading ≡ true → is_loading new id ≡ true
asked_loads s r entries queries new id t whole seen on loads =
    let old = with_trees (ever s.given) entries in
    let kept = (open_kept r.traces id t whole.stands.sound.rising on).0 in
    ap (λ (es : List Entry). is_loading es id) seen
    ∙ loading_same old (old ++ Asked ∷ []) id (data_asked old id) (fate_asked old id)
    ∙ sym (loads_told (AreTrees (ever s.given)) at_first r old id t whole.stands kept) ∙ loads

-- the id that comes next
pub asked_next : (s : NodesKept) (r : RegistryValue) (entries : List (EntryOf Root)) (queries : List AskIds)
    (new : List Entry) (next : ℕ) → IsSoundHall s r entries queries
    → new ≡ with_trees (ever s.given) entries ++ Asked ∷ [] → next ≡ r.next_id → next ≡ next_id new
asked_next s r entries queries new next whole seen is =
    let old = with_trees (ever s.given) entries in
    let same : opened_ids (old ++ Asked ∷ []) ≡ opened_ids old = opened_more old Asked ∙ append-nil _ in
    omega (
      arith,
      is,
      whole.stands.next_id,
      ap (λ (es : List Entry). length (opened_ids es)) seen,
      ap length same,
    )
