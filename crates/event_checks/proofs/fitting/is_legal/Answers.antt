use Rattle.event_checks.proofs.Fronts.{ends_legal, legal_ends}
use Rattle.event_checks.proofs.fitting.is_legal.Goals as goal

pub returns-in-Some : goal.returns-in-Some
returns-in-Some c = (
  λ is. ends_legal c.args.s.now c.in-Some.front c.in-Some.ensures.some (c.may_end.ensures.0 is),
  λ legal. c.may_end.ensures.1 (legal_ends c.args.s.now c.in-Some.front legal c.in-Some.ensures.some),
)
