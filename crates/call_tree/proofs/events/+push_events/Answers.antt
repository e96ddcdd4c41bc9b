use Rattle.std.proofs.Common.{ℕ, ◌+◌, ◌++◌, slice_get, arith, ap}
use Rattle.node_key.specs.Branches.{branches}
use Rattle.node_key.specs.Events.{events_below}
use Rattle.call_tree.proofs.Below.{branch_is, nodes-branch, Writing-start, Writing-next}
use Rattle.call_tree.proofs.Below.{Writing-step, Writing-end}
use Rattle.call_tree.proofs.Below.{events-written}
use Rattle.call_tree.proofs.events.+push_events.Goals as goal

pub loop-i-init : goal.loop-i-init
loop-i-init t c =
    Writing-start c.args.t.now.kids c.args.at (c.args.at + c.args.t.now.dur) c.push_enter.new.list
    (omega (arith, c.dur.ensures.value, c.dur.ensures.kids_within))

pub overflow_add-start : goal.overflow_add-start
overflow_add-start t c =
    omega (
      arith,
      c.requires,
      Writing-next c.args.t.now.kids (c.args.at + c.args.t.now.dur)
          (c.push_enter.new.list ++ events_below c.args.at c.args.t.now.kids)
          c.loop-i.list c.loop-i.from c.loop-i.i (record { gap = c.gap.result; tree = c.kid-kid.result.now })
          c.loop-i.invariant
          (branch_is (slice_get (branches c.args.t.now.kids) c.loop-i.i) c.gap.result c.kid-kid.result.now
          c.gap.ensures c.kid-kid.ensures),
    )

pub push_events-requires : goal.push_events-requires
push_events-requires t c =
    let here = branch_is (slice_get (branches c.args.t.now.kids) c.loop-i.i) c.gap.result c.kid-kid.result.now
    c.gap.ensures c.kid-kid.ensures in
    let next = Writing-next c.args.t.now.kids (c.args.at + c.args.t.now.dur) (c.push_enter.new.list
    ++ events_below c.args.at c.args.t.now.kids)
    c.loop-i.list c.loop-i.from c.loop-i.i (record { gap = c.gap.result; tree = c.kid-kid.result.now })
    c.loop-i.invariant here in
    let fewer = nodes-branch c.args.t.now.kids c.loop-i.i
    (record { gap = c.gap.result; tree = c.kid-kid.result.now }) here in
    (omega (arith, fewer, c.decreases), omega (arith, next, c.requires))

pub overflow_add-from : goal.overflow_add-from
overflow_add-from t c =
    omega (
      arith,
      c.requires,
      c.dur-in-loop-i.ensures.value,
      Writing-next c.args.t.now.kids
          (c.args.at + c.args.t.now.dur) (c.push_enter.new.list ++ events_below c.args.at c.args.t.now.kids)
          c.loop-i.list c.loop-i.from c.loop-i.i (record { gap = c.gap.result; tree = c.kid-kid.result.now })
          c.loop-i.invariant
          (branch_is (slice_get (branches c.args.t.now.kids) c.loop-i.i) c.gap.result c.kid-kid.result.now
          c.gap.ensures c.kid-kid.ensures),
    )

pub loop-i-preserved : goal.loop-i-preserved
loop-i-preserved t c =
    let here = branch_is (slice_get (branches c.args.t.now.kids) c.loop-i.i) c.gap.result c.kid-kid.result.now
    c.gap.ensures c.kid-kid.ensures in
    Writing-step c.args.t.now.kids (c.args.at + c.args.t.now.dur) (c.push_enter.new.list
    ++ events_below c.args.at c.args.t.now.kids)
    c.loop-i.list c.push_events.new.list c.loop-i.from (c.loop-i.from + c.gap.result + c.dur-in-loop-i.result)
    c.loop-i.i
    (record { gap = c.gap.result; tree = c.kid-kid.result.now }) c.loop-i.invariant here
    c.in_ok-push_events.ensures
    (ap (λ (n : ℕ). c.loop-i.from + c.gap.result + n) c.dur-in-loop-i.ensures.value)

pub returns : goal.returns
returns t c =
    let all = Writing-end c.args.t.now.kids (c.args.at + c.args.t.now.dur) (c.push_enter.new.list
    ++ events_below c.args.at c.args.t.now.kids)
    c.loop-i.list c.loop-i.from c.loop-i.i c.loop-i.invariant (omega (arith, c.len-i-end.ensures.value)) in
    events-written c.args.t.now c.args.at c.func-func.result c.args.list.now c.push_enter.new.list
    c.loop-i.list
    c.push_leave.new.list (c.args.at + c.dur.result) c.func-func.ensures c.in_ok-push_enter.ensures all
    c.in_ok-push_leave.ensures (ap (λ (n : ℕ). c.args.at + n) c.dur.ensures.value)
