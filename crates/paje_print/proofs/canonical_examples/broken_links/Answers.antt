use Rattle.paje_print.specs.Examples.{received, sent}
use Rattle.std.proofs.Common.{◌<◌, ◌^◌, arith}
use Rattle.paje_print.proofs.canonical_examples.broken_links.Goals as goal

pub returns-clause-no_container : goal.returns-clause-no_container
returns-clause-no_container c is =
    let h : 2 < 2 = (is.linked 0 (sent 0 0) (omega arith)).0 in
    omega (arith, h)

pub returns-clause-no_kind : goal.returns-clause-no_kind
returns-clause-no_kind c is =
    let h : 1 < 1 = (is.linked 0 (sent 0 0) (omega arith)).1 in
    omega (arith, h)

pub returns-clause-size_at_end : goal.returns-clause-size_at_end
returns-clause-size_at_end c is =
    let h : 1 < 1 = is.sizes 0 (received 0 0) (omega arith) in
    omega (arith, h)

pub returns-clause-great_size : goal.returns-clause-great_size
returns-clause-great_size c is =
    let h : 2 ^ 63 < 2 ^ 63 = is.sizes 0 (sent 0 0) (omega arith) in
    omega (arith, h)
