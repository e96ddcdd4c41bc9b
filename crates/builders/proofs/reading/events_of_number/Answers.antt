use Rattle.std.proofs.Common.{arith}
use Rattle.builders.proofs.OnlyReading.{reach_then, reads_one, reads_then, source_kept}
use Rattle.builders.proofs.reading.events_of_number.Goals as goal

pub read-key-requires : goal.read-key-requires
read-key-requires g c = (c.requires.0, c.requires.1, c.requires.2.1)

pub push_events-requires-clause-leads : goal.push_events-requires-clause-leads
push_events-requires-clause-leads g c =
    let has = source_kept (g.H.Hall.view c.args.hall.now).seat (g.H.Hall.view c.read-key.new.self).seat
    c.requires.0 c.read-key.ensures.rest.seat c.requires.2.0 in
    (c.requires.0, c.requires.1, (has, c.read-key.ensures.answer c.requires.0 c.requires.1 c.requires.2.1))

pub push_events-requires-clause-in_time : goal.push_events-requires-clause-in_time
push_events-requires-clause-in_time g c =
    omega (
      arith,
      (c.read-key.ensures.answer c.requires.0 c.requires.1 c.requires.2.1).1.dur,
      c.requires.3,
    )

pub returns-clause-answer : goal.returns-clause-answer
returns-clause-answer g c by_what t (has, led) =
    c.push_events.ensures.answer by_what t (
      source_kept (g.H.Hall.view c.args.hall.now).seat (g.H.Hall.view c.read-key.new.self).seat by_what
          c.read-key.ensures.rest.seat has,
      c.read-key.ensures.answer by_what t led,
    )

pub returns-clause-rest : goal.returns-clause-rest
returns-clause-rest g c =
    reads_then (g.H.Hall.view c.args.hall.now) (g.H.Hall.view c.read-key.new.self)
    (g.H.Hall.view c.push_events.new.hall) (reads_one (g.H.Hall.view c.args.hall.now)
    (g.H.Hall.view c.read-key.new.self) c.read-key.ensures.rest) c.push_events.ensures.rest

pub returns-clause-reach : goal.returns-clause-reach
returns-clause-reach g c =
    reach_then (g.H.Hall.view c.read-key.new.self).seat (g.H.Hall.view c.push_events.new.hall).seat
    (g.H.Hall.reaches c.args.hall.now) (g.H.Hall.reaches c.read-key.new.self)
    (g.H.Hall.reaches c.push_events.new.hall) c.push_events.ensures.rest.seat c.read-key.ensures.reach
    c.push_events.ensures.reach
