use Rattle.std.proofs.Common.{◌≡◌, subst, sym}
use Rattle.std.proofs.lemmas.Result.{IfOk-weaker}
use Rattle.hall_core.specs.World.{IsGood, new_world}
use Rattle.hall_core.specs.declared.world.World.{World}
use Rattle.hall_core.proofs.GoodWorlds.{new-good}
use Rattle.core_tests.proofs.turns.new_hall.Goals as goal

pub returns : goal.returns
returns c =
    IfOk-weaker c.new.result (λ (w : World). w ≡ new_world c.args.first) _
    (λ w is. subst IsGood (sym is) (new-good c.args.first c.requires)) c.new.ensures
