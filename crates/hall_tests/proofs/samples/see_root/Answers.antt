use Rattle.hall_trait.specs.Pin.{pin_view}
use Rattle.hall_trait.specs.Reach.{FromPin}
use Rattle.hall_tests.proofs.SamplePins.{root_reached}
use Rattle.hall_tests.proofs.samples.see_root.Goals as goal

pub published-requires-clause-within : goal.published-requires-clause-within
published-requires-clause-within g c = c.requires.within

pub read-requires : goal.read-requires
read-requires g c =
    let root = root_reached _ _ _ _ _ _ _ c.in-Root.is c.published.ensures.answer
    in (FromPin (pin_view c.args.pin.now), root.0, root.1)
