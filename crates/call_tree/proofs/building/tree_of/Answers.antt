use Rattle.std.proofs.Common.{◌≡◌, ◌+◌, ◌<◌, List, [], length, arith, subst, sym, ap, ◌∙◌, drop, reverse}
use Rattle.std.proofs.Common.{get_or}
use Rattle.std.proofs.lemmas.List.{drop_all}
use Rattle.std.proofs.lemmas.List.{drop_more}
use Rattle.trace_base.specs.declared.stream.Event.{Event}
use Rattle.trace_base.specs.declared.stream.Event.TheVariants.{Enter}
use Rattle.node_key.specs.declared.item.Item.{Item}
use Rattle.call_tree.specs.Passing.{MayCome, PassesEvent}
use Rattle.call_tree.specs.declared.pass.Open.{Open}
use Rattle.call_tree.proofs.Passing.{Passing, Passing-start, Passing-may_come, Passing-step, Passing-end}
use Rattle.call_tree.proofs.building.tree_of.Goals as goal

pub loop-event-init : goal.loop-event-init
loop-event-init c =
    let none : reverse c.new-around.result.items ≡ [] = ap reverse c.new-around.ensures.items in
    subst (λ (os : List Open). Passing c.args.s.now os
    (record { func = 0; start = c.args.s.now.start; items = c.new.result }) c.args.s.now.events)
    (sym none)
    (Passing-start c.args.s.now (record { func = 0; start = c.args.s.now.start; items = c.new.result })
    c.requires
    (ap (λ (is : List Item). let o : Open = record { func = 0; start = c.args.s.now.start; items = is } in o)
    c.new.ensures))

pub step-requires : goal.step-requires
step-requires c =
    let es = c.args.s.now.events in
    let i = c.loop-event.event-index in
    let within : i < length es = omega (arith, ap length c.as_slice-event-items.ensures) in
    let here = subst (λ (l : List Event). Passing c.args.s.now (reverse c.loop-event.around.items)
    c.loop-event.innermost l)
    (drop_more es i (Enter 0 0) within) c.loop-event.invariant in
    subst (λ (l : List Event). MayCome (get_or l i (Enter 0 0)) c.loop-event.around.items
    c.loop-event.innermost) (sym c.as_slice-event-items.ensures)
    (Passing-may_come c.args.s.now c.loop-event.around.items c.loop-event.innermost (get_or es i (Enter 0 0))
    (drop (i + 1) es) c.requires here)

pub loop-event-preserved : goal.loop-event-preserved
loop-event-preserved c =
    let es = c.args.s.now.events in
    let i = c.loop-event.event-index in
    let within : i < length es = omega (arith, ap length c.as_slice-event-items.ensures) in
    let here = subst (λ (l : List Event). Passing c.args.s.now (reverse c.loop-event.around.items)
    c.loop-event.innermost l)
    (drop_more es i (Enter 0 0) within) c.loop-event.invariant in
    let steps = subst (λ (l : List Event). PassesEvent c.loop-event.around.items c.loop-event.innermost
    (get_or l i (Enter 0 0)) c.step.new.around.items c.in_ok-innermost.innermost)
    c.as_slice-event-items.ensures c.in_ok-innermost.ensures in
    Passing-step c.args.s.now c.loop-event.around.items c.step.new.around.items c.loop-event.innermost
    c.in_ok-innermost.innermost
    (get_or es i (Enter 0 0)) (drop (i + 1) es) here steps

pub close-requires : goal.close-requires
close-requires c =
    let none : drop c.loop-event.event-index c.args.s.now.events ≡ [] =
    drop_all c.loop-event.event-index c.args.s.now.events
    (omega (arith, ap length c.as_slice-event-items.ensures)) in
    (Passing-end c.args.s.now (reverse c.loop-event.around.items) c.loop-event.innermost c.requires
    (subst (λ (l : List Event). Passing c.args.s.now (reverse c.loop-event.around.items)
    c.loop-event.innermost l) none c.loop-event.invariant)).0

pub returns : goal.returns
returns c =
    let none : drop c.loop-event.event-index c.args.s.now.events ≡ [] =
    drop_all c.loop-event.event-index c.args.s.now.events
    (omega (arith, ap length c.as_slice-event-items.ensures)) in
    ap (λ (i : Item). i.tree) c.in_ok-tree.ensures
    ∙ (Passing-end c.args.s.now (reverse c.loop-event.around.items) c.loop-event.innermost c.requires
    (subst (λ (l : List Event). Passing c.args.s.now (reverse c.loop-event.around.items)
    c.loop-event.innermost l) none c.loop-event.invariant)).1
