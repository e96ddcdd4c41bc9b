use Rattle.std.proofs.Common.{◌≡◌, ◌+◌, ◌-◌, length, arith, ap}
use Rattle.node_key.specs.Items.{end_of}
use Rattle.trace_base.specs.declared.limits.TheConstants.{MAX_TIME}
use Rattle.node_key.specs.Bound.{stop_of}
use Rattle.call_tree.proofs.Chunks.{stop_of-last}
use Rattle.call_tree.proofs.Fits.{last_end-le, stop_of-last_end}
use Rattle.call_tree.proofs.group.stop.Goals as goal

last : (c : goal.After-dur) → c.index-items-items.result.at + c.dur.result ≡ stop_of c.args.items.now
last c =
    let here = stop_of-last c.args.items.now (length c.args.items.now - 1) c.index-items-items.result
    (omega (arith, c.requires.some)) in
    let same = ap end_of c.index-items-items.is in
    let dur = c.dur.ensures.value in omega (arith, same, here, dur)

pub overflow_add-result : goal.overflow_add-result
overflow_add-result c =
    omega (
      arith,
      last c,
      stop_of-last_end 0 c.args.items.now c.requires.some,
      last_end-le 0 MAX_TIME c.args.items.now c.requires.placed,
    )

pub returns : goal.returns
returns c = last c
