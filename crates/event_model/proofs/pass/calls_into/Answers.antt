use Rattle.std.proofs.Common.{◌≡◌, ℕ, Bool, cond, count_by, ◌∙◌, ap, arith, length}
use Rattle.std.specs.List.{range_with_len}
use Rattle.list_lemmas.proofs.Ranges.{count_by-range-more}
use Rattle.trace_base.specs.declared.stream.Event.TheVariants.{Enter}
use Rattle.trace_base.specs.Paths.{makes, calls_making}
use Rattle.trace_base.specs.Stream.{stack_after}
use Rattle.event_model.specs.Part.{has}
use Rattle.event_model.proofs.Times.{stack-read, calls_making-step}
use Rattle.event_model.proofs.pass.calls_into.Goals as goal

pub loop-event-init : goal.loop-event-init
unfolding stack_after
loop-event-init c = (c.new-stack.ensures.items, omega arith, omega arith)

pub loop-event-preserved : goal.loop-event-preserved
loop-event-preserved c =
    let stack = stack-read c.args.s.now.events c.as_slice-events.result.now c.loop-event.event-index
    (Enter 0 0) c.loop-event.stack.items c.step.new.stack.items c.as_slice-events.ensures
    c.loop-event-test.true c.loop-event.invariant.0 c.in_ok-step.ensures in
    let made = calls_making-step (has c.args.part) c.args.a c.args.b c.args.s.now c.as_slice-events.result.now
    c.loop-event.event-index (Enter 0 0) c.as_slice.result.now c.as_slice-events.ensures
    c.loop-event-test.true (c.as_slice.ensures.value ∙ stack) in (
      stack,
      omega (
        arith,
        c.loop-event.invariant.1,
        count_by-range-more
            (makes (has c.args.part) c.args.a c.args.b c.args.s.now) c.loop-event.event-index,
        c.call_into-calls.ensures.exact,
        ap {B = ℕ} (λ (b : Bool). cond b 1 0) made,
      ),
      omega (arith, c.loop-event.invariant.2, c.call_into-calls.ensures.one),
    )

pub returns : goal.returns
unfolding calls_making
returns c =
    let count : c.loop-event.event-index ≡ length c.args.s.now.events =
    omega (
      arith,
      c.loop-event-test.false,
      ap length c.as_slice-events.ensures,
      c.loop-event.auto.event-index-end,
    ) in
    c.loop-event.invariant.1 ∙ ap (λ (n : ℕ). count_by
    (makes (has c.args.part) c.args.a c.args.b c.args.s.now) (range_with_len 0 n)) count
