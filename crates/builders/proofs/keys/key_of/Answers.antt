use Rattle.std.proofs.Common.{◌-◌, length, arith, get_or, refl, ap, sym, ◌∙◌}
use Rattle.std.proofs.lemmas.List.{drop_more}
use Rattle.builders.specs.declared.built.BuiltItem.{BuiltItem}
use Rattle.builders.proofs.KeyKids.{BuiltFitBetween-le, Filled, Filled-within, Filling-end, Filling-next}
use Rattle.std.proofs.lemmas.List.{length-drop, length-replicate}
use Rattle.builders.proofs.KeyKids.{no_kid, Filling-step, height_over-leaf, key-stored}
use Rattle.builders.proofs.keys.key_of.Goals as goal

abbrev none : BuiltItem
none = record { at = 0; dur = 0; height = 0; number = 0 }

pub overflow_add-from : goal.overflow_add-from
overflow_add-from c =
    omega (
      arith,
      c.ranges.end.fits,
      Filling-next c.args.start c.args.end c.args.items.now c.loop-i.kids c.loop-i.from c.loop-i.highest
          c.loop-i.i (get_or c.args.items.now c.loop-i.i none)
          (drop_more c.args.items.now c.loop-i.i none (omega arith)) c.loop-i.invariant,
    )

pub loop-i-preserved : goal.loop-i-preserved
loop-i-preserved c =
    Filling-step c.args.start c.args.end c.args.items.now c.loop-i.kids _ c.loop-i.from _ c.loop-i.highest _
    c.loop-i.i (get_or c.args.items.now c.loop-i.i none)
    (drop_more c.args.items.now c.loop-i.i none (omega arith)) c.loop-i.invariant (omega (
      arith,
      ap length c.loop-i.invariant.later,
      length-drop c.loop-i.i c.loop-i.kids,
      length-replicate (8 - c.loop-i.i) no_kid,
      c.requires.few,
    )) refl refl
    c.max-highest.ensures

pub overflow_sub-result : goal.overflow_sub-result
overflow_sub-result c = BuiltFitBetween-le c.args.start c.args.end c.args.items.now c.requires.within

filled : (c : goal.After-loop-i) → Filled c.args.start c.args.end c.args.items.now c.loop-i.kids
    c.loop-i.highest
filled c =
    Filling-end c.args.start c.args.end c.args.items.now c.loop-i.kids c.loop-i.from c.loop-i.highest
    c.loop-i.i (omega arith) c.loop-i.invariant

pub invariant_of-result : goal.invariant_of-result
invariant_of-result c =
    let f = filled c in
    let leaf = height_over-leaf c.args.items.now in record {
      few = c.requires.few;
      zero_past = f.later;
      leaf = (λ e. leaf.0 (sym f.high ∙ e), λ e. f.high ∙ leaf.1 e);
      within = Filled-within c.args.start c.args.end c.args.items.now c.loop-i.kids c.loop-i.highest
          c.requires.within f;
    }

pub returns : goal.returns
returns c stored e =
    key-stored c.args.func c.args.start c.args.end c.args.items.now stored _ refl refl refl
    (Filling-end c.args.start c.args.end c.args.items.now c.loop-i.kids c.loop-i.from c.loop-i.highest
    c.loop-i.i (omega arith) c.loop-i.invariant) e
