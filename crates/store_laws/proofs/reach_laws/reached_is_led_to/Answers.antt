use Rattle.store_laws.proofs.ReachKept.{leads-reached, reached-leads}
use Rattle.store_laws.proofs.reach_laws.reached_is_led_to.Goals as goal

pub returns : goal.returns
returns c rooms held n = (
  reached-leads rooms held n,
  λ (x, among, leads). leads-reached rooms held x n among leads,
)
