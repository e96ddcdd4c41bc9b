use Rattle.memo_core.proofs.FullRooms.{new_number, first_is_gone, second_is_there}
use Rattle.memo_core.proofs.FullRooms.{first_looked_up, first_again}
use Rattle.memo_core.proofs.examples.fills_of_a_full_room.Goals as goal

pub returns-clause-new : goal.returns-clause-new
returns-clause-new c = new_number

pub returns-clause-first : goal.returns-clause-first
returns-clause-first c = first_is_gone

pub returns-clause-second : goal.returns-clause-second
returns-clause-second c = second_is_there

pub returns-clause-looked_up : goal.returns-clause-looked_up
returns-clause-looked_up c = first_looked_up

pub returns-clause-known : goal.returns-clause-known
returns-clause-known c = first_again
