use Rattle.std.proofs.Common.{subst}
use Rattle.hall_history.specs.declared.left.Left.{Left}
use Rattle.hall_trait.specs.View.{HallView}
use Rattle.plain_hall.specs.PlainHall.{view_of}
use Rattle.trace_session.specs.Run.{SinkState, TellsLeft}
use Rattle.trace_session.specs.Session.{IsSession}
use Rattle.trace_session.proofs.Causes.{ends_by_cause}
use Rattle.trace_session.proofs.program.run.Goals as goal

pub returns-clause-batch : goal.returns-clause-batch
returns-clause-batch g c = λ is begun.
    let end = c.session-end.result in
    let ended = view_of c.session-end.new.hall in
    let middle = g.O.Sink.held c.session-end.new.output in
    let session = subst (λ (first : HallView). IsSession
    (record { hall = first; left = g.I.Source.left c.args.input.now; held = g.O.Sink.held c.args.output.now })
    (record { hall = ended; left = g.I.Source.left c.session-end.new.input; held = middle }) end)
    c.in-Ok.ensures c.session-end.ensures.session in
    let ended_at : SinkState =
    record { held = middle; faults = g.O.Faults.faults c.session-end.new.output } in
    let told = subst (λ (left : Left). TellsLeft end left ended_at
    (record {
      held = g.O.Sink.held c.tell_left.new.output;
      faults = g.O.Faults.faults c.tell_left.new.output;
    }) c.tell_left.result) (c.left.ensures.unpinned c.session-end.ensures.session.rest.no_pins)
    c.tell_left.ensures.told in
    let cause = ends_by_cause end _ _ _ _ c.session-end.ensures.read_fault c.session-end.ensures.write_fault in
    (end, ended, ended_at, session, cause, told)
