use Rattle.memo_core.proofs.MemoLaws.{filled_is_found, others_stay_or_go, known_loses_none}
use Rattle.memo_core.proofs.MemoLaws.{new_takes_room, least_recent_goes}
use Rattle.memo_core.proofs.laws.what_a_fill_leaves.Goals as goal

pub returns-clause-found : goal.returns-clause-found
returns-clause-found c = filled_is_found

pub returns-clause-others : goal.returns-clause-others
returns-clause-others c items n kind e m other valid apart =
    others_stay_or_go items n kind e m other apart valid

pub returns-clause-known : goal.returns-clause-known
returns-clause-known c items n kind e m other valid apart =
    known_loses_none items n kind e m other apart valid

pub returns-clause-room : goal.returns-clause-room
returns-clause-room c = new_takes_room

pub returns-clause-full : goal.returns-clause-full
returns-clause-full c = least_recent_goes
