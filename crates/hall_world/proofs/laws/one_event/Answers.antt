use Rattle.hall_world.proofs.EventsInRooms.{event_kept}
use Rattle.hall_world.proofs.EventsMade.{event_made}
use Rattle.hall_world.proofs.laws.one_event.Goals as goal

pub returns-clause-kept : goal.returns-clause-kept
returns-clause-kept c past w actor seat e a call x y entries after good acts may asks at answered changed =
    event_kept past w actor seat good acts e a call x y entries after may asks at answered changed

pub returns-clause-made : goal.returns-clause-made
returns-clause-made c past w actor seat e a call x y good acts may asks at answered =
    event_made past w actor seat good acts e a call x y may asks at answered
