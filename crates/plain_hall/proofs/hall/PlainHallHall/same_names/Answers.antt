use Rattle.hall_trait.specs.Pin.{pin_view}
use Rattle.plain_hall.proofs.PinnedInfo.{names_told, pinned_kept}
use Rattle.plain_hall.proofs.Views.{keeps_alike}
use Rattle.plain_hall.proofs.hall.PlainHallHall.same_names.Goals as goal

pub same_names-requires : goal.same_names-requires
same_names-requires g c = pinned_kept c.args.self.now (pin_view c.args.pin.now) c.requires

pub returns-clause-answer : goal.returns-clause-answer
returns-clause-answer g c =
    let pin = c.args.pin.now in
    let told = names_told c.args.self.now pin.ids pin.place c.requires in
    (λ yes. told.0 (c.same_names.ensures.0 yes), λ same. c.same_names.ensures.1 (told.1 same))

pub returns-clause-rest : goal.returns-clause-rest
returns-clause-rest g c = keeps_alike _ _ _
