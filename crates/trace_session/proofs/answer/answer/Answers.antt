use Rattle.std.proofs.Common.{◌≡◌, ◌++◌, List, ℕ, Option, sym, subst}
use Rattle.trace_base.specs.Outside.{Told}
use Rattle.request_reader.specs.Incoming.{Is}
use Rattle.request_reader.specs.Requests.{WholeRequest}
use Rattle.trace_session.specs.Output.{WritesFront}
use Rattle.trace_session.specs.State.{SessionState}
use Rattle.trace_session.proofs.Stepping.{answered_all, answered_front}
use Rattle.trace_session.proofs.answer.answer.Goals as goal
use Rattle.trace_session.proofs.answer.answer.Goals.{After-write_all}
use Rattle.trace_session.proofs.answer.answer.Given.{Over}

-- what the session works on over a hall
abbrev state : (g : Over) → g.row.H.Denot → Option (List ℕ) → g.row.O.Denot → SessionState
state g hall left output = record {
  hall = g.H.Hall.view hall;
  left = left;
  held = g.O.Sink.held output;
}

-- at the call, and behind it
abbrev before : (g : Over) → After-write_all g → Option (List ℕ) → SessionState
before g c left = state g c.args.hall.now left c.args.output.now

abbrev behind : (g : Over) → After-write_all g → Option (List ℕ) → SessionState
behind g c left = state g c.serve-reply.new.hall left c.write_all.new.output

-- the request that was served is the one that came
same_text : (g : Over) (c : After-write_all g) (request : WholeRequest)
    → Is c.args.incoming c.args.buf.now.input.text.items request
    → Is c.args.incoming c.as_slice.result.now request
same_text g c request is =
    subst (λ (l : List ℕ). Is c.args.incoming l request) (sym c.as_slice.ensures.value) is

pub returns-in-Ok-clause-answers : goal.returns-in-Ok-clause-answers
returns-in-Ok-clause-answers g c = λ request is left.
    let t = (goal.at.returns-in-Ok-clause-answers g c).After-write_all in
    let is_text = same_text g t request is in
    let w = subst (λ (l : List ℕ). Told (before g t left).held (behind g t left).held
    (λ was now. now ≡ was ++ l)) c.as_slice-2.ensures.value c.in-Ok.ensures.ok in
    answered_all (before g t left) (behind g t left) c.args.incoming c.as_slice.result.now
    request c.end_of.result c.serve-reply.result c.reply_into.new.out.items is_text c.end_of.ensures
    (c.serve-reply.ensures request is_text) c.reply_into.ensures.told w

pub returns-clause-answers : goal.returns-clause-answers
returns-clause-answers g c = λ request is left.
    let t = (goal.at.returns-clause-answers g c).After-write_all in
    let w = subst (λ (l : List ℕ). Told (before g t left).held (behind g t left).held (WritesFront l))
    c.as_slice-2.ensures.value c.in-Err.ensures.err in
    answered_front (before g t left) (behind g t left) request c.serve-reply.result
    c.reply_into.new.out.items (c.serve-reply.ensures request (same_text g t request is))
    c.reply_into.ensures.told w
