use Rattle.std.proofs.Common.{◌≤◌}
use Rattle.request_reader.specs.Incoming.{left_to_read}
use Rattle.trace_session.proofs.Sofar.{Sofar}
use Rattle.trace_session.proofs.sessions.session.Given as goal

abbrev pub invariant-requests : goal.invariant-requests
invariant-requests g l = record {
  sofar : Sofar
      (record {
        hall = g.H.Hall.view l.fn.hall;
        left = g.I.Source.left l.fn.input;
        held = g.O.Sink.held l.fn.output;
      })
      (record {
        hall = g.H.Hall.view l.hall;
        left = left_to_read l.buf.input.pending (g.I.Source.left l.input);
        held = g.O.Sink.held l.output;
      });
  reads : g.I.Faults.faults l.fn.input ≤ g.I.Faults.faults l.input;
  writes : g.O.Faults.faults l.fn.output ≤ g.O.Faults.faults l.output;
}
