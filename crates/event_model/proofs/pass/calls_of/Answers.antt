use Rattle.std.proofs.Common.{◌≡◌, arith}
use Rattle.std.proofs.lemmas.Grind.{common_steps}
use Rattle.trace_base.specs.Flat.{calls_in}
use Rattle.event_model.proofs.Times.{calls_in-le}
use Rattle.event_model.proofs.pass.calls_of.Goals as goal

pub returns-clause-within_limit : goal.returns-clause-within_limit
unfolding calls_in
returns-clause-within_limit c =
    let exact : c.loop-event.calls ≡ calls_in c.args.f c.args.a c.args.b c.args.s.now =
    grind (arith, common_steps) in
    omega (arith, exact, calls_in-le c.args.f c.args.a c.args.b c.args.s.now c.requires)
