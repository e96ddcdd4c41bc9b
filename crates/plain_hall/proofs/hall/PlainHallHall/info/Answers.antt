use Rattle.std.proofs.Common.{◌≡◌, ap, sym, ◌∙◌, [], Some}
use Rattle.std.specs.Arc.{arc_value}
use Rattle.list_lemmas.proofs.Options.{given_some}
use Rattle.registry_core.specs.Registry.{kept_trace}
use Rattle.hall_trait.specs.Pin.{pin_view}
use Rattle.hall_history.specs.Asks.{id_at}
use Rattle.plain_hall.proofs.PinFacts.{ids_kept}
use Rattle.plain_hall.proofs.PinnedInfo.{pin_used, pinned_info}
use Rattle.plain_hall.proofs.Views.{keeps_alike}
use Rattle.plain_hall.proofs.hall.PlainHallHall.info.Goals as goal

pub returns-in-Ok-clause-answer : goal.returns-in-Ok-clause-answer
returns-in-Ok-clause-answer g c =
    let was = c.args.self.now in
    let pin = pin_view c.args.pin.now in
    let id = id_at pin.ids c.args.which in
    let (t, kept) = given_some (kept_trace was.registry.traces id)
    (ids_kept was.registry pin.ids [] c.args.which (pin_used was pin c.requires.has)) in
    let info : arc_value c.in-Ok.info ≡ t.info =
    c.in-Ok.ensures t (ap (kept_trace was.registry.traces) c.id.ensures ∙ kept) in
    pinned_info was pin c.args.which t c.requires.has kept ∙ ap Some (sym info)

pub returns-in-Ok-clause-rest : goal.returns-in-Ok-clause-rest
returns-in-Ok-clause-rest g c = keeps_alike _ _ _

pub returns-in-Err-clause-rest : goal.returns-in-Err-clause-rest
returns-in-Err-clause-rest g c = keeps_alike _ _ _
