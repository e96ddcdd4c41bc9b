use Rattle.hall_world.proofs.SeatsEvents.{join_kept, split_kept}
use Rattle.hall_world.proofs.laws.seats_keep_worlds_good.Goals as goal

pub returns-clause-split : goal.returns-clause-split
returns-clause-split c past w actor seat left right part = split_kept past w actor seat left right part

pub returns-clause-join : goal.returns-clause-join
returns-clause-join c past w actor other seat joined after = join_kept past w actor other seat joined after
