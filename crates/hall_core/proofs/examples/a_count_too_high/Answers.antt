use Rattle.std.proofs.Common.{◌≡◌, arith, lit≤, refl}
use Rattle.node_key.specs.Examples.{leaf_of_three}
use Rattle.hall_core.specs.Examples.{counted_too_high, four_nodes}
use Rattle.hall_core.specs.World.{all_stakes}
use Rattle.hall_core.proofs.SampleRooms.{count_told}
use Rattle.hall_core.proofs.SampleWorlds.{four_canonic}
use Rattle.hall_core.proofs.examples.a_count_too_high.Goals as goal

pub returns-clause-rooms : goal.returns-clause-rooms
returns-clause-rooms c = four_canonic 2 2 (lit≤ tt) (lit≤ tt) (lit≤ tt) (lit≤ tt)

pub returns-clause-counts : goal.returns-clause-counts
returns-clause-counts c counted =
    let wrong : 2 ≡ 1 =
    count_told (four_nodes 2 2) (all_stakes counted_too_high.seats) 3
    (record { key = leaf_of_three; count = 2 }) counted refl in
    omega (arith, wrong)

pub returns-clause-good : goal.returns-clause-good
returns-clause-good c good = returns-clause-counts c good.store.counted
