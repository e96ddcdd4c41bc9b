use Rattle.std.proofs.Common.{List, [], ◌∷◌, ap, ◌∙◌, subst, sym}
use Rattle.hall_history.specs.declared.asks.AskIds.{AskIds}
use Rattle.hall_trait.specs.Pin.{pin_view}
use Rattle.hall_history.specs.Asks.{id_at}
use Rattle.list_lemmas.proofs.Options.{given_some}
use Rattle.registry_core.specs.Registry.{kept_trace}
use Rattle.registry_core.specs.UsedBy.{AreUsedBy}
use Rattle.plain_hall.specs.PlainHall.{pins_of}
use Rattle.plain_hall.proofs.PinFacts.{asked_at, ids_kept, pin_query}
use Rattle.plain_hall.proofs.Publishing.{track_reached}
use Rattle.plain_hall.proofs.Views.{keeps_alike}
use Rattle.plain_hall.proofs.hall.PlainHallHall.published.Goals as goal

pub returns-clause-answer : goal.returns-clause-answer
returns-clause-answer g c =
    let was = c.args.self.now in
    let pin = c.args.pin.now in
    let id = id_at pin.ids c.args.which in
    let used : AreUsedBy was.registry.traces (pin.ids ∷ []) =
    subst (λ (qs : List AskIds). AreUsedBy was.registry.traces qs)
    (pin_query was.pin (pin_view pin) c.requires.has) was.whole.used in
    let (t, kept) = given_some (kept_trace was.registry.traces id)
    (ids_kept was.registry pin.ids [] c.args.which used) in
    let told = c.published.ensures t (ap (kept_trace was.registry.traces) c.id.ensures ∙ kept) in
    track_reached was.nodes was.registry _ _ (pins_of was) (pin_view pin) id c.args.track t c.published.result
    was.whole c.requires.has (asked_at pin.ids c.args.which) kept (sym told)

pub returns-clause-rest : goal.returns-clause-rest
returns-clause-rest g c = keeps_alike _ _ _
