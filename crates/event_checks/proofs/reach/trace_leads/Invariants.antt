use Rattle.event_checks.proofs.Reached.{NoTrackLeads}
use Rattle.event_checks.proofs.reach.trace_leads.Given as goal

abbrev pub invariant-loop-track : goal.invariant-loop-track
invariant-loop-track l = NoTrackLeads l.rooms l.registry l.id l.place l.target l.track
