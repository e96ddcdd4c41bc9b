use Rattle.paje_model.proofs.StepReasons.{refused-by}
use Rattle.paje_model.proofs.known.Known.state_event.Goals as goal

pub returns-in_err-spot : goal.returns-in_err-spot
returns-in_err-spot c before known =
    refused-by _ _ c.from_residual.result _ c.from_residual.ensures.1 (c.in_err-spot.ensures c.args.n before
    known)

pub add_state-requires-clause-spot : goal.add_state-requires-clause-spot
add_state-requires-clause-spot c = (
  c.args.n,
  c.requires.known.0,
  c.requires.known.1,
  c.in_ok-spot.ensures c.args.n c.requires.known.0 c.requires.known.1,
)

pub returns : goal.returns
returns c before known =
    let spot = c.in_ok-spot.ensures c.args.n before known in
    let added = c.in_ok-add_state.ensures c.args.n before known spot in
    (spot.reason, added.0, added.1)
