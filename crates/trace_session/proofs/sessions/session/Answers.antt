use Rattle.std.proofs.Common.{List, ℕ, Option, refl, sym, subst, arith}
use Rattle.request_reader.specs.Incoming.{left_to_read}
use Rattle.trace_session.specs.State.{SessionState}
use Rattle.trace_session.specs.Step.{Steps}
use Rattle.trace_session.specs.declared.sessions.End.{End}
use Rattle.trace_session.proofs.Ending.{step_ends}
use Rattle.trace_session.proofs.Sofar.{Sofar, sofar_none, sofar_more}
use Rattle.trace_session.proofs.sessions.session.Goals as goal
use Rattle.trace_session.proofs.sessions.session.Goals.{After-step}
use Rattle.trace_session.proofs.sessions.session.Given.{Over}

-- what the session works on over a hall
abbrev state : (g : Over) → g.row.H.Denot → Option (List ℕ) → g.row.O.Denot → SessionState
state g hall left output = record {
  hall = g.H.Hall.view hall;
  left = left;
  held = g.O.Sink.held output;
}

-- at the call, before a step and behind it
abbrev first : (g : Over) → After-step g → SessionState
first g c = state g c.args.hall.now (g.I.Source.left c.args.input.now) c.args.output.now

abbrev before : (g : Over) → After-step g → SessionState
before g c =
    state g c.requests.hall (left_to_read c.requests.buf.input.pending (g.I.Source.left c.requests.input))
    c.requests.output

abbrev behind : (g : Over) → After-step g → SessionState
behind g c =
    state g c.step.new.hall (left_to_read c.step.new.buf.input.pending (g.I.Source.left c.step.new.input))
    c.step.new.output

pub requests-init : goal.requests-init
requests-init g c =
    let old = state g c.args.hall.now (g.I.Source.left c.args.input.now) c.args.output.now in
    record {
      sofar = subst (λ (p : List ℕ). Sofar old (record old { left = left_to_read p old.left }))
          (sym c.clear.ensures) (sofar_none old c.requires);
      reads = omega arith;
      writes = omega arith;
    }

pub returns-in-Some-step-clause-session : goal.returns-in-Some-step-clause-session
returns-in-Some-step-clause-session g c =
    let t = (goal.at.returns-in-Some-step-clause-session g c).After-step in
    let pending = c.step.new.buf.input.pending in
    let s = subst (λ (r : Option End). Steps (before g t) (behind g t) pending r)
    c.in-Some-step.is c.step.ensures.steps in
    step_ends c.in-Some-step.end (first g t) (before g t) (behind g t)
    (g.I.Source.left c.step.new.input) pending refl c.requests.invariant.sofar s
    (g.met.H.Hall.legal c.step.new.hall)

pub requests-preserved : goal.requests-preserved
requests-preserved g c =
    let t = (goal.at.requests-preserved g c).After-step in
    let s = subst
    (λ (r : Option End). Steps (before g t) (behind g t) c.step.new.buf.input.pending r)
    c.in_default.is c.step.ensures.steps in
    record {
      sofar = sofar_more (first g t) (before g t) (behind g t) c.requests.invariant.sofar s;
      reads = omega (arith, c.requests.invariant.reads, c.step.ensures.reads);
      writes = omega (arith, c.requests.invariant.writes, c.step.ensures.writes);
    }
