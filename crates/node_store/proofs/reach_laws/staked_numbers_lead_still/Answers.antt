use Rattle.node_store.proofs.Leading.{led_still, one_key_ever}
use Rattle.node_store.proofs.reach_laws.staked_numbers_lead_still.Goals as goal

pub returns-clause-one_key : goal.returns-clause-one_key
returns-clause-one_key c old new n a b kept keeps was is = one_key_ever old new kept keeps n a b was is

pub returns-clause-led : goal.returns-clause-led
returns-clause-led c = led_still
