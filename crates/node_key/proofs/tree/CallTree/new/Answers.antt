use Rattle.std.proofs.Common.{◌≡◌, ℕ, List, [], ◌+◌, ◌-◌, subst, ap, sym, ◌∙◌, arith}
use Rattle.std.proofs.Common.{length}
use Rattle.std.proofs.lemmas.List.{nil_from_length}
use Rattle.node_key.specs.Tree.{Tree, total, height_above}
use Rattle.std.specs.Vec.Iter.{into_iter_items}
use Rattle.node_key.specs.declared.item.Item.{Item}
use Rattle.node_key.specs.declared.tree.Branch.{Branch}
use Rattle.node_key.specs.Branches.{kids_of}
use Rattle.node_key.proofs.Kids.{total-branches_from, length-branches_from, FitBetween-le}
use Rattle.node_key.proofs.Placing.{Placing, Placing-next, Placing-end, Placing-step}
use Rattle.node_key.proofs.tree.CallTree.new.Goals as goal

pub overflow_add-end : goal.overflow_add-end
overflow_add-end c =
    let here = subst (λ (is : List Item). Placing c.args.start c.args.end c.args.items c.loop-item.kids
    c.loop-item.from c.loop-item.highest is) c.in-Some.ensures.steps.0 c.loop-item.invariant in
    let next = Placing-next c.args.start c.args.end c.args.items c.loop-item.kids c.loop-item.from
    c.loop-item.highest c.in-Some.item (into_iter_items c.next.new.self) here
    in omega (arith, c.dur.ensures.value)

pub overflow_sub-result : goal.overflow_sub-result
overflow_sub-result c = FitBetween-le c.args.start c.args.end c.args.items c.requires.within

pub loop-item-preserved : goal.loop-item-preserved
loop-item-preserved c =
    let here = subst (λ (is : List Item). Placing c.args.start c.args.end c.args.items c.loop-item.kids
    c.loop-item.from c.loop-item.highest is) c.in-Some.ensures.steps.0 c.loop-item.invariant in
    Placing-step c.args.start c.args.end c.args.items c.loop-item.kids c.push.new.self c.loop-item.from
    (c.in-Some.item.at + c.dur.result) c.loop-item.highest c.max-highest.result c.in-Some.item
    (into_iter_items c.next.new.self) here c.in_ok-push.ensures.ok
    (ap (λ (n : ℕ). c.in-Some.item.at + n) c.dur.ensures.value)
    (omega (arith, c.max-highest.ensures, c.height.ensures.value))

-- no item is left
ended : (c : goal.After-drop-item-iterator-2) → into_iter_items c.loop-item.item-iterator ≡ []
ended c = nil_from_length (into_iter_items c.loop-item.item-iterator)
    (omega (arith, c.in-None.ensures.steps.0, c.loop-item.item-iterator.rest.ok))

pub invariant_of-result : goal.invariant_of-result
invariant_of-result c =
    let whole = Placing-end c.args.start c.args.end c.args.items c.loop-item.kids c.loop-item.from
    c.loop-item.highest (into_iter_items c.loop-item.item-iterator) c.loop-item.invariant (ended c) in
    let fits = total-branches_from c.args.start c.args.end c.args.items c.requires.within in (
      omega (arith, ap length whole.0, length-branches_from c.args.start c.args.items, c.requires.few),
      omega (arith, ap (λ (bs : List Branch). total (kids_of bs)) whole.0, fits),
      whole.1 ∙ ap (λ (bs : List Branch). height_above (kids_of bs)) (sym whole.0),
      c.loop-item.invariant.bounded,
    )

pub returns : goal.returns
returns c =
    let whole = Placing-end c.args.start c.args.end c.args.items c.loop-item.kids c.loop-item.from
    c.loop-item.highest (into_iter_items c.loop-item.item-iterator) c.loop-item.invariant (ended c) in
    ap (λ (bs : List Branch). let t : Tree = record {
      func = c.args.func;
      dur = c.args.end - c.args.start;
      kids = kids_of bs;
    } in t) whole.0
