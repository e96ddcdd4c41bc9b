use Rattle.std.proofs.Common.{take}
use Rattle.event_checks.proofs.LeadsByKeys.{NoneLeads, height_at}
use Rattle.store_laws.specs.Store.{key_in}
use Rattle.event_checks.proofs.reach.+leads.Given as goal

abbrev pub decreases-leads : goal.decreases-leads
decreases-leads l = height_at l.rooms.now l.from

abbrev pub invariant-loop-kid : goal.invariant-loop-kid
invariant-loop-kid l = NoneLeads (key_in l.rooms) l.target (take l.kid-index l.kid-items)
