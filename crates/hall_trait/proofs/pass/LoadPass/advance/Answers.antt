use Rattle.std.proofs.Common.{arith}
use Rattle.hall_trait.proofs.pass.LoadPass.advance.Goals as goal

pub overflow_add-track : goal.overflow_add-track
overflow_add-track c = omega (arith, c.requires c.in-Straight.track c.in-Straight.is)
