use Rattle.std.proofs.lemmas.Bool.{eq-eqb, eqb-true}
use Rattle.hall_trait.specs.Pin.{pin_view}
use Rattle.hall_trait.specs.Reach.{FromPin}
use Rattle.plain_hall.specs.KeptHistory.{history}
use Rattle.plain_hall.specs.PlainHall.{pins_of}
use Rattle.plain_hall.specs.PlainSeat.{queries_of}
use Rattle.plain_hall.proofs.ReachedStored.{same_numbers_same_trees}
use Rattle.plain_hall.proofs.Views.{keeps_alike}
use Rattle.plain_hall.proofs.hall.PlainHallHall.same.Goals as goal

pub returns-clause-answer : goal.returns-clause-answer
returns-clause-answer g c t u first second =
    let was = c.args.self.now in
    let both = same_numbers_same_trees was.nodes was.registry (history was.past) (queries_of was.pin) (pins_of was)
    (FromPin (pin_view c.args._pin.now)) c.args.a c.args.b t u was.whole first second in (
      λ yes. both.0 (eqb-true c.args.a c.args.b yes),
      λ same. eq-eqb c.args.a c.args.b (both.1 same),
    )

pub returns-clause-rest : goal.returns-clause-rest
returns-clause-rest g c = keeps_alike _ _ _
