use Rattle.std.proofs.Common.{take, arith}
use Rattle.hall_trait.specs.Pin.{pin_view}
use Rattle.hall_history.specs.Asks.{first_id}
use Rattle.hall_trait.specs.Reach.{FromPin}
use Rattle.builders.proofs.OnlyReading.{reach_then, reads_none, reads_one, reads_then, source_kept}
use Rattle.builders.proofs.PublishedTracks.{published-fits, published-stream, read-stream, track-ends}
use Rattle.builders.proofs.PublishedTracks.{unpublished}
use Rattle.builders.proofs.reading.published_stream.Goals as goal

pub read-key-requires : goal.read-key-requires
read-key-requires g c =
    let told = c.in-Root.ensures.answer in (FromPin (pin_view c.args.pin.now), told.0.tree, told.4)

pub push_events-requires-clause-leads : goal.push_events-requires-clause-leads
push_events-requires-clause-leads g c =
    let told = c.in-Root.ensures.answer in
    let by_what = FromPin (pin_view c.args.pin.now) in
    let has = source_kept (g.H.Hall.view c.args.hall.now).seat (g.H.Hall.view c.published.new.self).seat
    by_what c.published.ensures.rest.seat c.requires.has in
    let has' = source_kept (g.H.Hall.view c.published.new.self).seat
    (g.H.Hall.view c.read-key.new.self).seat by_what c.read-key.ensures.rest.seat has in
    (by_what, told.0.tree, (has', c.read-key.ensures.answer by_what told.0.tree told.4))

pub push_events-requires-clause-in_time : goal.push_events-requires-clause-in_time
push_events-requires-clause-in_time g c =
    let told = c.in-Root.ensures.answer in
    let by_what = FromPin (pin_view c.args.pin.now) in
    track-ends (g.H.Hall.reaches c.read-key.new.self by_what)
    (take c.args.pin.now.place (g.H.Hall.view c.args.hall.now).seat.seen) (first_id c.args.pin.now.ids)
    c.args.track c.in-Root.start told.0 c.read-key.result told.2 told.3
    (c.read-key.ensures.answer by_what told.0.tree told.4)

pub overflow_add-result : goal.overflow_add-result
overflow_add-result g c =
    let told = c.in-Root.ensures.answer in
    let by_what = FromPin (pin_view c.args.pin.now) in
    omega (
      arith,
      track-ends (g.H.Hall.reaches c.read-key.new.self by_what)
          (take c.args.pin.now.place (g.H.Hall.view c.args.hall.now).seat.seen)
          (first_id c.args.pin.now.ids) c.args.track c.in-Root.start told.0 c.read-key.result told.2 told.3
          (c.read-key.ensures.answer by_what told.0.tree told.4),
    )

pub returns-in-NotYet-clause-stream : goal.returns-in-NotYet-clause-stream
returns-in-NotYet-clause-stream g c =
    unpublished (take c.args.pin.now.place (g.H.Hall.view c.args.hall.now).seat.seen)
    (first_id c.args.pin.now.ids) c.args.track c.in-NotYet.ensures.answer

pub returns-in_ok-push_events-in-Root-clause-stream :
    goal.returns-in_ok-push_events-in-Root-clause-stream
returns-in_ok-push_events-in-Root-clause-stream g c =
    let told = c.in-Root.ensures.answer in
    let by_what = FromPin (pin_view c.args.pin.now) in
    let key = c.read-key.ensures.answer by_what told.0.tree told.4 in
    let has = source_kept (g.H.Hall.view c.args.hall.now).seat (g.H.Hall.view c.read-key.new.self).seat
    by_what (reads_then (g.H.Hall.view c.args.hall.now) (g.H.Hall.view c.published.new.self)
    (g.H.Hall.view c.read-key.new.self) (reads_none (g.H.Hall.view c.args.hall.now)
    (g.H.Hall.view c.published.new.self) c.published.ensures.rest)
    (reads_one (g.H.Hall.view c.published.new.self) (g.H.Hall.view c.read-key.new.self)
    c.read-key.ensures.rest)).seat c.requires.has in
    published-stream (take c.args.pin.now.place (g.H.Hall.view c.args.hall.now).seat.seen)
    (first_id c.args.pin.now.ids) c.args.track told.0 _ told.1
    (read-stream (g.H.Hall.reaches c.read-key.new.self by_what) c.in-Root.start told.0 c.read-key.result
    c.new-events.result c.push_events.new.list told.3 key c.new-events.ensures
    (c.in_ok-push_events-in-Root.ensures.answer by_what told.0.tree (has, key)))

pub returns-in_ok-push_events-in-Root-clause-fits :
    goal.returns-in_ok-push_events-in-Root-clause-fits
returns-in_ok-push_events-in-Root-clause-fits g c =
    let told = c.in-Root.ensures.answer in
    let by_what = FromPin (pin_view c.args.pin.now) in
    let key = c.read-key.ensures.answer by_what told.0.tree told.4 in
    let has = source_kept (g.H.Hall.view c.args.hall.now).seat (g.H.Hall.view c.read-key.new.self).seat
    by_what (reads_then (g.H.Hall.view c.args.hall.now) (g.H.Hall.view c.published.new.self)
    (g.H.Hall.view c.read-key.new.self) (reads_none (g.H.Hall.view c.args.hall.now)
    (g.H.Hall.view c.published.new.self) c.published.ensures.rest)
    (reads_one (g.H.Hall.view c.published.new.self) (g.H.Hall.view c.read-key.new.self)
    c.read-key.ensures.rest)).seat c.requires.has in
    published-fits (take c.args.pin.now.place (g.H.Hall.view c.args.hall.now).seat.seen)
    (first_id c.args.pin.now.ids) c.args.track told.0 _ told.2
    (read-stream (g.H.Hall.reaches c.read-key.new.self by_what) c.in-Root.start told.0 c.read-key.result
    c.new-events.result c.push_events.new.list told.3 key c.new-events.ensures
    (c.in_ok-push_events-in-Root.ensures.answer by_what told.0.tree (has, key)))

pub returns-in-NotYet-clause-rest : goal.returns-in-NotYet-clause-rest
returns-in-NotYet-clause-rest g c =
    reads_none (g.H.Hall.view c.args.hall.now) (g.H.Hall.view c.published.new.self) c.published.ensures.rest

pub returns-in_err-push_events-in-Root-clause-rest : goal.returns-in_err-push_events-in-Root-clause-rest
returns-in_err-push_events-in-Root-clause-rest g c =
    reads_then (g.H.Hall.view c.args.hall.now) (g.H.Hall.view c.read-key.new.self)
    (g.H.Hall.view c.push_events.new.hall)
    (reads_then (g.H.Hall.view c.args.hall.now) (g.H.Hall.view c.published.new.self)
    (g.H.Hall.view c.read-key.new.self) (reads_none (g.H.Hall.view c.args.hall.now)
    (g.H.Hall.view c.published.new.self) c.published.ensures.rest)
    (reads_one (g.H.Hall.view c.published.new.self) (g.H.Hall.view c.read-key.new.self)
    c.read-key.ensures.rest)) c.push_events.ensures.rest

pub returns-in_ok-push_events-in-Root-clause-rest : goal.returns-in_ok-push_events-in-Root-clause-rest
returns-in_ok-push_events-in-Root-clause-rest g c =
    reads_then (g.H.Hall.view c.args.hall.now) (g.H.Hall.view c.read-key.new.self)
    (g.H.Hall.view c.push_events.new.hall)
    (reads_then (g.H.Hall.view c.args.hall.now) (g.H.Hall.view c.published.new.self)
    (g.H.Hall.view c.read-key.new.self) (reads_none (g.H.Hall.view c.args.hall.now)
    (g.H.Hall.view c.published.new.self) c.published.ensures.rest)
    (reads_one (g.H.Hall.view c.published.new.self) (g.H.Hall.view c.read-key.new.self)
    c.read-key.ensures.rest)) c.push_events.ensures.rest

pub returns-in_err-push_events-in-Root-clause-reach : goal.returns-in_err-push_events-in-Root-clause-reach
returns-in_err-push_events-in-Root-clause-reach g c =
    reach_then (g.H.Hall.view c.read-key.new.self).seat (g.H.Hall.view c.push_events.new.hall).seat
    (g.H.Hall.reaches c.args.hall.now) (g.H.Hall.reaches c.read-key.new.self)
    (g.H.Hall.reaches c.push_events.new.hall) c.push_events.ensures.rest.seat
    (reach_then (g.H.Hall.view c.published.new.self).seat (g.H.Hall.view c.read-key.new.self).seat
    (g.H.Hall.reaches c.args.hall.now) (g.H.Hall.reaches c.published.new.self)
    (g.H.Hall.reaches c.read-key.new.self) c.read-key.ensures.rest.seat c.published.ensures.reach
    c.read-key.ensures.reach) c.push_events.ensures.reach

pub returns-in_ok-push_events-in-Root-clause-reach : goal.returns-in_ok-push_events-in-Root-clause-reach
returns-in_ok-push_events-in-Root-clause-reach g c =
    reach_then (g.H.Hall.view c.read-key.new.self).seat (g.H.Hall.view c.push_events.new.hall).seat
    (g.H.Hall.reaches c.args.hall.now) (g.H.Hall.reaches c.read-key.new.self)
    (g.H.Hall.reaches c.push_events.new.hall) c.push_events.ensures.rest.seat
    (reach_then (g.H.Hall.view c.published.new.self).seat (g.H.Hall.view c.read-key.new.self).seat
    (g.H.Hall.reaches c.args.hall.now) (g.H.Hall.reaches c.published.new.self)
    (g.H.Hall.reaches c.read-key.new.self) c.read-key.ensures.rest.seat c.published.ensures.reach
    c.read-key.ensures.reach) c.push_events.ensures.reach
