use Rattle.trace_session.proofs.GoingOn.{kept_as_walk, kept_walks}
use Rattle.trace_session.proofs.profile.pinned_profile.Goals as goal

pub returns-in-Ok-profile_over-clause-rest : goal.returns-in-Ok-profile_over-clause-rest
returns-in-Ok-profile_over-clause-rest g c =
    kept_walks (g.H.Hall.view c.args.hall.now) (g.H.Hall.view c.info.new.self)
    (g.H.Hall.view c.profile_over.new.hall) c.info.ensures.rest c.profile_over.ensures.rest

pub returns-clause-rest : goal.returns-clause-rest
returns-clause-rest g c =
    kept_walks (g.H.Hall.view c.args.hall.now) (g.H.Hall.view c.info.new.self)
    (g.H.Hall.view c.profile_over.new.hall) c.info.ensures.rest c.profile_over.ensures.rest
