use Rattle.std.proofs.Common.{refl}
use Rattle.plain_hall.specs.PlainHall.{view_of}
use Rattle.hall_tests.proofs.CountingWork.{promised_goes_on}
use Rattle.hall_tests.proofs.told_work.WorkTellingHallHall.publish.Goals as goal

pub returns-clause-rest : goal.returns-clause-rest
returns-clause-rest g c =
    let made = c.publish.ensures.answer c.requires.root.0 c.requires.root.1 c.requires.root.2
    c.requires.root.3 in
    promised_goes_on c.args.self.now.interned (view_of c.args.self.now.hall) (view_of c.publish.new.self) _ _
    made.entered.entered refl c.publish.ensures.rest
