use Rattle.std.proofs.Common.{◌≡◌, ◌+◌, ◌<◌, ◌≤◌, sym, ◌∙◌, ap, arith, length, ℕ}
use Rattle.trace_base.specs.declared.limits.TheConstants.{MAX_TIME}
use Rattle.trace_base.specs.declared.stream.Event.TheVariants.{Enter}
use Rattle.trace_base.specs.Stream.{stack_after}
use Rattle.event_model.specs.Part.{has}
use Rattle.event_model.proofs.Times.{moment, moment-zero, moment-read, moment-last, time_upto, time_upto-zero}
use Rattle.event_model.proofs.Times.{time_upto-step, time_upto-all, time_upto-limit, stack-read}
use Rattle.event_model.proofs.pass.time_in.Goals as goal
use Rattle.event_model.proofs.pass.time_in.Goals.{After-time_here-total-2}

pub loop-event-init : goal.loop-event-init
unfolding stack_after
loop-event-init c = (
  sym (moment-zero c.args.s.now),
  c.new-stack.ensures.items,
  sym (time_upto-zero (has c.args.part) c.args.a c.args.b c.args.s.now),
)

pub overflow_add-total : goal.overflow_add-total
overflow_add-total c =
    let short : c.loop-event.event-index < length c.args.s.now.events =
    omega (arith, c.loop-event-test.true, ap length c.as_slice-event-items.ensures) in
    let to = moment-read c.args.s.now c.as_slice-event-items.result.now c.loop-event.event-index
    c.time-to.result (Enter 0 0) c.as_slice-event-items.ensures c.loop-event-test.true c.time-to.ensures
    in
    omega (
      arith,
      c.time_here-total.ensures,
      c.loop-event.invariant.2,
      time_upto-step (has c.args.part) c.args.a c.args.b c.args.s.now c.loop-event.event-index
          c.loop-event.from c.time-to.result c.as_slice.result.now c.loop-event.invariant.0 to
          (c.as_slice.ensures.value ∙ c.loop-event.invariant.1),
      time_upto-limit (has c.args.part) c.args.a c.args.b c.args.s.now (c.loop-event.event-index + 1)
          c.requires (omega arith),
    )

pub loop-event-preserved : goal.loop-event-preserved
loop-event-preserved c =
    let to : c.time-to.result ≡ moment c.args.s.now (c.loop-event.event-index + 1) = moment-read c.args.s.now
    c.as_slice-event-items.result.now c.loop-event.event-index c.time-to.result (Enter 0 0)
    c.as_slice-event-items.ensures c.loop-event-test.true c.time-to.ensures in (
      to,
      stack-read c.args.s.now.events c.as_slice-event-items.result.now c.loop-event.event-index (Enter 0 0)
          c.loop-event.stack.items c.step.new.stack.items c.as_slice-event-items.ensures
          c.loop-event-test.true c.loop-event.invariant.1 c.in_ok-step.ensures,
      omega (
        arith,
        c.time_here-total.ensures,
        c.loop-event.invariant.2,
        time_upto-step (has c.args.part)
            c.args.a c.args.b c.args.s.now c.loop-event.event-index c.loop-event.from c.time-to.result
            c.as_slice.result.now c.loop-event.invariant.0 to
            (c.as_slice.ensures.value ∙ c.loop-event.invariant.1),
      ),
    )

-- all events are read
all_read : (c : After-time_here-total-2) → c.loop-event.event-index ≡ length c.args.s.now.events
all_read c =
    omega (
      arith,
      c.loop-event-test.false,
      ap length c.as_slice-event-items.ensures,
      c.loop-event.auto.event-index-end,
    )

-- the time so far with that of the last piece
with_last : (c : After-time_here-total-2) → c.loop-event.total + c.time_here-total-2.result
    ≡ time_upto (has c.args.part) c.args.a c.args.b c.args.s.now (c.loop-event.event-index + 1)
with_last c =
    omega (
      arith,
      c.time_here-total-2.ensures,
      c.loop-event.invariant.2,
      time_upto-step (has c.args.part) c.args.a c.args.b c.args.s.now c.loop-event.event-index
          c.loop-event.from c.args.s.now.end c.as_slice-2.result.now c.loop-event.invariant.0
          (sym (moment-last c.args.s.now) ∙ ap (λ (n : ℕ). moment c.args.s.now (n + 1)) (sym (all_read c)))
          (c.as_slice-2.ensures.value ∙ c.loop-event.invariant.1),
    )

-- it is within the limit
in_limit : (c : After-time_here-total-2) → c.loop-event.total + c.time_here-total-2.result ≤ MAX_TIME
in_limit c =
    omega (
      arith,
      all_read c,
      with_last c,
      time_upto-limit (has c.args.part) c.args.a c.args.b c.args.s.now (c.loop-event.event-index + 1)
          c.requires (omega (arith, all_read c)),
    )

pub overflow_add-total-2 : goal.overflow_add-total-2
overflow_add-total-2 c =
    omega (arith, in_limit (goal.at.overflow_add-total-2 c).After-time_here-total-2)

pub returns-clause-exact : goal.returns-clause-exact
returns-clause-exact c =
    let t = (goal.at.returns-clause-exact c).After-time_here-total-2 in
    let whole =
    ap (λ (n : ℕ). time_upto (has c.args.part) c.args.a c.args.b c.args.s.now (n + 1)) (all_read t)
    ∙ time_upto-all (has c.args.part) c.args.a c.args.b c.args.s.now in
    omega (arith, with_last t, whole)

pub returns-clause-within_limit : goal.returns-clause-within_limit
returns-clause-within_limit c = in_limit (goal.at.returns-clause-within_limit c).After-time_here-total-2
