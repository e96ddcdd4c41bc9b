use Rattle.store_laws.proofs.ReachKept.{led-kept, stands-kept}
use Rattle.store_laws.proofs.reach_laws.stakes_keep_what_they_lead_to.Goals as goal

pub returns-clause-led : goal.returns-clause-led
returns-clause-led c = led-kept

pub returns-clause-stands : goal.returns-clause-stands
returns-clause-stands c = stands-kept
