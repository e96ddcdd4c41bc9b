use Rattle.std.proofs.Common.{◌≡◌, ◌+◌, ◌-◌, List, length, subst, sym, get_or, arith, ap, suc}
use Rattle.node_key.specs.Bound.{stop_of}
use Rattle.trace_base.specs.declared.limits.TheConstants.{MAX_TIME}
use Rattle.builders.specs.declared.built.BuiltItem.{BuiltItem}
use Rattle.builders.specs.Built.{items_in}
use Rattle.builders.proofs.Placed.{last-within, stops}
use Rattle.builders.proofs.spans.stop.Goals as goal

abbrev none : BuiltItem
none = record { at = 0; dur = 0; height = 0; number = 0 }

pub overflow_add-result : goal.overflow_add-result
overflow_add-result c =
    omega (
      arith,
      last-within 0 MAX_TIME c.args.items.now (length c.args.items.now - 1) none c.requires.placed
          (omega (arith, c.requires.some)),
    )

pub returns : goal.returns
returns c stored e =
    let number : length c.args.items.now ≡ suc (length c.args.items.now - 1) = omega (arith, c.requires.some)
    in
    subst (λ (bs : List BuiltItem). (get_or bs (length c.args.items.now - 1) none).at
    + (get_or bs (length c.args.items.now - 1) none).dur ≡ stop_of (items_in stored)) (sym e)
    (stops stored (length c.args.items.now - 1) none (omega (arith, number, ap length e)))
