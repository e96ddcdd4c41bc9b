use Rattle.std.proofs.Common.{All, take}
use Rattle.node_key.specs.Leads.{Leads}
use Rattle.node_key.specs.declared.stake.Stake.{Stake}
use Rattle.store_laws.specs.Store.{key_in}
use Rattle.event_checks.proofs.reach.stakes_lead.Given as goal

abbrev pub invariant-loop-x : goal.invariant-loop-x
invariant-loop-x l =
    All (λ (x : Stake). ¬ Leads (key_in l.rooms) x.number l.target) (take l.x-index l.stakes)
