use Rattle.node_store.proofs.Leading.{led_ever, stands_ever}
use Rattle.node_store.proofs.reach_laws.staked_numbers_lead_to_trees.Goals as goal

pub returns-clause-led : goal.returns-clause-led
returns-clause-led c = led_ever

pub returns-clause-stands : goal.returns-clause-stands
returns-clause-stands c = stands_ever
