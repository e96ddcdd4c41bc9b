use Rattle.std.proofs.Common.{◌≡◌, ℕ, List, Option, Result, Ok, Err, Some, None, refl, sym, subst}
use Rattle.request_reader.specs.Incoming.{Comes, left_to_read}
use Rattle.request_reader.specs.declared.buffer.InputBuf.{InputBuf}
use Rattle.request_reader.specs.declared.incoming.Incoming.{Incoming}
use Rattle.request_reader.specs.declared.incoming.InputEnd.{InputEnd}
use Rattle.trace_session.specs.State.{SessionState}
use Rattle.trace_session.specs.Step.{Steps, EndsBehind}
use Rattle.trace_session.specs.declared.sessions.End.{End}
use Rattle.trace_session.proofs.Stepping.{came, stepped, ended_early}
use Rattle.trace_session.proofs.sessions.step.Goals as goal
use Rattle.trace_session.proofs.sessions.step.Goals.{After-next_request}
use Rattle.trace_session.proofs.sessions.step.Given.{Over}

-- what the session works on over a hall
abbrev state : (g : Over) → g.row.H.Denot → Option (List ℕ) → g.row.O.Denot → SessionState
state g hall left output = record {
  hall = g.H.Hall.view hall;
  left = left;
  held = g.O.Sink.held output;
}

-- what is left to read at the call, and behind the request
abbrev at_first : (g : Over) → After-next_request g → Option (List ℕ)
at_first g c = left_to_read c.args.buf.now.input.pending (g.I.Source.left c.args.input.now)

abbrev left_then : (g : Over) → After-next_request g → Option (List ℕ)
left_then g c = left_to_read c.next_request.new.buf.pending (g.I.Source.left c.next_request.new.input)

-- what came is what the call for a request says
came_as : (g : Over) (c : After-next_request g) (r : Result Incoming InputEnd) → c.next_request.result ≡ r
    → Comes (at_first g c) (left_then g c) c.next_request.new.buf.text.items r
came_as g c r is = subst
    (λ (r : Result Incoming InputEnd). Comes (at_first g c) (left_then g c)
    c.next_request.new.buf.text.items r) is c.next_request.ensures.comes

pub returns-in-Err-clause-steps : goal.returns-in-Err-clause-steps
returns-in-Err-clause-steps g c =
    let t = (goal.at.returns-in-Err-clause-steps g c).After-next_request in
    let pending = c.next_request.new.buf.pending in
    let old = state g c.args.hall.now (at_first g t) c.args.output.now in
    let new = state g c.args.hall.now (left_then g t) c.args.output.now in
    subst (λ (e : End). Steps old new pending (Some e)) (sym c.end_at.ensures)
    (ended_early old new pending c.next_request.new.buf.text.items c.in-Err.end
    (came_as g t (Err c.in-Err.end) c.in-Err.is) c.in-Err.ensures.empties refl refl)

pub returns-in-Ok-clause-steps : goal.returns-in-Ok-clause-steps
returns-in-Ok-clause-steps g c =
    let t = (goal.at.returns-in-Ok-clause-steps g c).After-next_request in
    let old = state g c.args.hall.now (at_first g t) c.args.output.now in
    let new : InputBuf → SessionState = λ b. state g c.answer.new.hall
    (left_to_read b.pending (g.I.Source.left c.next_request.new.input)) c.answer.new.output in
    subst (λ (b : InputBuf). Steps old (new b) b.pending c.answer.result)
    (sym c.answer.ensures.input)
    (stepped old (new c.next_request.new.buf) c.next_request.new.buf.pending
    c.next_request.new.buf.text.items c.in-Ok.incoming c.answer.result
    (came_as g t (Ok c.in-Ok.incoming) c.in-Ok.is)
    (λ request is. let a = c.answer.ensures.answers request is None in record {
      reply = a.reply;
      serves = a.serves;
      written = a.written;
      ends = a.ends;
    }))

pub returns-in-Ok-clause-read_fault : goal.returns-in-Ok-clause-read_fault
returns-in-Ok-clause-read_fault g c = λ failed.
    let t = (goal.at.returns-in-Ok-clause-read_fault g c).After-next_request in
    let one = came c.in-Ok.incoming c.next_request.new.buf.text.items (at_first g t) (left_then g t)
    (came_as g t (Ok c.in-Ok.incoming) c.in-Ok.is) in
    absurd (subst (λ (r : Option End). EndsBehind one.0 r) failed
    (c.answer.ensures.answers one.0 one.1 None).ends)
