use Rattle.hall_tests.proofs.SampleStakes.{known_node, new_node}
use Rattle.hall_tests.proofs.samples.staked.Goals as goal

pub returns-in-Known : goal.returns-in-Known
returns-in-Known g c t kids is has =
    known_node _ _ t kids c.in-Ok.interned c.in-Known.n c.in-Known.is (c.in-Ok.ensures.answer t kids is has)

pub returns-in-New : goal.returns-in-New
returns-in-New g c t kids is has =
    new_node _ _ t kids c.in-Ok.interned c.in-New.n c.in-New.is (c.in-Ok.ensures.answer t kids is has)
