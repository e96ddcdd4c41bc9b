use Rattle.std.proofs.Common.{◌≡◌, ℕ, ◌+◌, length, take, map, ap, subst, sym, ◌∙◌, arith, rules, Vec, Global}
use Rattle.std.specs.BTreeSet.{BTreeSet}
use Rattle.trace_base.specs.Flat.{is_bare}
use Rattle.trace_base.specs.declared.stream.Event.TheVariants.{Enter}
use Rattle.trace_base.specs.Stream.{stack_after}
use Rattle.event_model.proofs.PathRows.{HasPaths, HasPaths-bare, HasPaths-more, HasPaths-none, paths_upto}
use Rattle.event_model.proofs.PathRows.{paths_upto-all}
use Rattle.event_model.proofs.Times.{stack-read}
use Rattle.event_model.proofs.paths.call_paths_of.Goals as goal
use Rattle.event_model.proofs.paths.call_paths_of.Goals.{then-not-is_empty+in_ok-from_slice+in_ok-insert}
use Rattle.event_model.proofs.paths.call_paths_of.Goals.{else-not-is_empty}

pub loop-event-init : goal.loop-event-init
loop-event-init c = HasPaths-none c.args.s.now c.new-stack.result.items c.new-paths.result.keys
    c.new-stack.ensures.items c.new-paths.ensures.empty

pub loop-event-preserved : goal.loop-event-preserved
loop-event-preserved c =
    let stack : c.step.new.stack.items ≡ stack_after
    (take (c.loop-event.event-index + 1) c.args.s.now.events) =
    stack-read c.args.s.now.events c.as_slice-event-items.result.now c.loop-event.event-index
    (Enter 0 0) c.loop-event.stack.items c.step.new.stack.items c.as_slice-event-items.ensures
    c.loop-event-test.true c.loop-event.invariant.stack c.in_ok-step.ensures in
    let bare : c.is_empty.result ≡ is_bare c.step.new.stack.items = search rules in
    let P : BTreeSet (Vec ℕ Global) → Type 0 = λ set. HasPaths c.args.s.now (c.loop-event.event-index + 1)
    c.step.new.stack.items set.keys in
    elim c.if-not-is_empty.branch [
      | then-not-is_empty+in_ok-from_slice+in_ok-insert w ↦ subst P (sym w.paths-is)
          (HasPaths-more c.args.s.now c.loop-event.event-index c.loop-event.stack.items
          c.step.new.stack.items c.loop-event.paths.keys w.insert.new.self.keys w.in_ok-from_slice.field-0
          c.requires c.loop-event.invariant stack (sym bare ∙ w.if-not-is_empty.true)
          (w.in_ok-from_slice.ensures.items ∙ w.as_slice.ensures.value) w.in_ok-insert.ensures.keys)
      | else-not-is_empty w ↦ subst P (sym w.paths-is)
          (HasPaths-bare c.args.s.now c.loop-event.event-index c.loop-event.stack.items
          c.step.new.stack.items c.loop-event.paths.keys c.loop-event.invariant stack
          (sym bare ∙ w.if-not-is_empty.false))
    ]

pub returns-clause-exact : goal.returns-clause-exact
returns-clause-exact c =
    let whole : c.in_ok-collect.field-0.items ≡ c.loop-event.paths.keys = search rules in
    let count : c.loop-event.event-index ≡ length c.args.s.now.events =
    omega (
      arith,
      c.loop-event-test.false,
      ap length c.as_slice-event-items.ensures,
      c.loop-event.auto.event-index-end,
    ) in
    ap (map (λ (path : Vec ℕ Global). path.items)) whole ∙ c.loop-event.invariant.paths ∙ ap
    (paths_upto c.args.s.now) count ∙ paths_upto-all c.args.s.now
