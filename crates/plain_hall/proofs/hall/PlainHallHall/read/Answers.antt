use Rattle.node_store.specs.Given.{ever}
use Rattle.plain_hall.specs.PlainHall.{pins_of}
use Rattle.plain_hall.proofs.Exchanging.{stands_some}
use Rattle.plain_hall.proofs.Reached.{node_reached, reached_stands}
use Rattle.plain_hall.proofs.Views.{keeps_alike}
use Rattle.plain_hall.proofs.hall.PlainHallHall.read.Goals as goal

pub key-requires : goal.key-requires
key-requires g c =
    let was = c.args.self.now in
    stands_some (ever was.nodes.given) c.args.n c.requires.1
    (reached_stands was.nodes was.registry (pins_of was) c.requires.0 c.args.n c.requires.1 c.requires.2)

pub returns-clause-answer : goal.returns-clause-answer
returns-clause-answer g c by_what t reached =
    let was = c.args.self.now in
    node_reached was.nodes was.registry (pins_of was) by_what c.args.n t c.key.result reached c.key.ensures

pub returns-clause-rest : goal.returns-clause-rest
returns-clause-rest g c = keeps_alike _ _ _
