use Rattle.event_checks.proofs.Reached.{told_stored}
use Rattle.event_checks.proofs.reach.track_leads.Goals as goal

pub leads-requires-clause-stored : goal.leads-requires-clause-stored
leads-requires-clause-stored c =
    told_stored c.args.rooms.now c.args.registry.now c.args.id c.args.place c.args.track c.in-Root.start
    c.in-Root.root c.published.result c.requires.stored c.requires.kept c.published.ensures c.in-Root.is
