-- What a plain hall keeps of the traces of its pin is what the history tells as of the pin's place.
use Rattle.std.proofs.Common.{◌≡◌, ◌↔◌, ℕ, List, take, Some, refl, ap, sym, ◌∙◌, subst, Contains}
use Rattle.std.proofs.Common.{◌∷◌, []}
use Rattle.std.specs.Option.{option_map}
use Rattle.std.proofs.lemmas.List.{take-map}
use Rattle.list_lemmas.proofs.Options.{given_some}
use Rattle.trace_base.specs.declared.names.TraceInfo.{TraceInfo}
use Rattle.hall_history.specs.History.{Entry, info_of}
use Rattle.hall_history.specs.declared.asks.AskIds.{AskIds}
use Rattle.hall_history.specs.declared.asks.AskIds.TheVariants.{One, Two}
use Rattle.hall_history.specs.declared.seat.PinView.{PinView}
use Rattle.hall_trait.specs.Answers.{HaveSameFunctions, functions_of}
use Rattle.hall_history.specs.Asks.{id_at}
use Rattle.node_store.specs.Given.{ever}
use Rattle.registry_core.proofs.KeptTraces.{kept_id}
use Rattle.registry_core.proofs.UsedByQueries.{all_asked}
use Rattle.registry_core.specs.Asking.{AreKeptTraces, HaveSameNames}
use Rattle.registry_core.specs.Registry.{kept_trace}
use Rattle.registry_core.specs.Trace.{Trace}
use Rattle.registry_core.specs.UsedBy.{AreUsedBy}
use Rattle.plain_hall.specs.KeptHistory.{history}
use Rattle.plain_hall.specs.PlainHall.{pins_of, seen_by}
use Rattle.plain_hall.specs.Rooted.{told_by, tree_of_root}
use Rattle.plain_hall.specs.declared.hall.PlainHall.{PlainHall}
use Rattle.plain_hall.proofs.Found.{pin_told, same_info}
use Rattle.plain_hall.proofs.PinFacts.{ids_kept, pin_query, query_kept}
use Rattle.plain_hall.proofs.Told.{info_of-told}

-- the query of a pin runs
pub pin_used : (hall : PlainHall) (pin : PinView) → Contains (pins_of hall) pin
    → AreUsedBy hall.registry.traces (pin.ids ∷ [])
pin_used hall pin has = subst (λ (qs : List AskIds). AreUsedBy hall.registry.traces qs)
    (pin_query hall.pin pin has) hall.whole.used

-- what a trace of the pin was opened with
pub pinned_info : (hall : PlainHall) (pin : PinView) (which : ℕ) (t : Trace) → Contains (pins_of hall) pin
    → kept_trace hall.registry.traces (id_at pin.ids which) ≡ Some t
    → info_of (take pin.place (seen_by hall)) (id_at pin.ids which) ≡ Some t.info
pinned_info hall pin which t has kept =
    let f = tree_of_root (ever hall.nodes.given) in
    let id = id_at pin.ids which in
    let told = pin_told (history hall.past) hall.pin pin which hall.held has in
    ap (λ (es : List Entry). info_of es id) (take-map (told_by f) pin.place (history hall.past))
    ∙ info_of-told f (take pin.place (history hall.past)) id
    ∙ same_info (history hall.past) pin.place id told ∙ sym (info_of-told f (history hall.past) id)
    ∙ ap (info_of (seen_by hall)) (sym (kept_id hall.registry.traces id t kept))
    ∙ (hall.whole.stands.traces id t kept).info

-- both traces of the pin are kept
pub pinned_kept : (hall : PlainHall) (pin : PinView) → Contains (pins_of hall) pin
    → AreKeptTraces hall.registry pin.ids
pinned_kept hall pin has =
    all_asked (λ id. (t : Trace) × (kept_trace hall.registry.traces id ≡ Some t)) pin.ids
    (λ id named. given_some (kept_trace hall.registry.traces id)
    (query_kept hall.registry pin.ids [] id (pin_used hall pin has) named))

-- the names of the functions of a trace of the pin
pinned_names : (hall : PlainHall) (pin : PinView) (which : ℕ) → Contains (pins_of hall) pin
    → option_map (λ (t : Trace). t.info.names.functions)
    (kept_trace hall.registry.traces (id_at pin.ids which))
    ≡ functions_of (take pin.place (seen_by hall)) (id_at pin.ids which)
pinned_names hall pin which has =
    let (t, kept) = given_some (kept_trace hall.registry.traces (id_at pin.ids which))
    (ids_kept hall.registry pin.ids [] which (pin_used hall pin has)) in
    ap (option_map (λ (t : Trace). t.info.names.functions)) kept
    ∙ sym (ap (option_map (λ (i : TraceInfo). i.names.functions)) (pinned_info hall pin which t has kept))

-- they are compared as the history tells them
pub names_told : (hall : PlainHall) (ids : AskIds) (place : ℕ)
    → Contains (pins_of hall) (record { ids = ids; place = place })
    → HaveSameNames hall.registry ids ↔ HaveSameFunctions (take place (seen_by hall)) ids
names_told hall (One a) place has = (λ yes. refl, λ same. tt)
names_told hall (Two a b) place has =
    let pin : PinView = record { ids = Two a b; place = place } in
    let first = pinned_names hall pin 0 has in
    let second = pinned_names hall pin 1 has in
    (λ same. sym first ∙ same ∙ second, λ same. first ∙ same ∙ sym second)
