use Rattle.std.proofs.Common.{◌≡◌, arith, lit≤, refl}
use Rattle.node_key.specs.Examples.{tenth_key}
use Rattle.hall_core.specs.Examples.{counted_too_low, four_nodes}
use Rattle.hall_core.specs.World.{all_stakes}
use Rattle.hall_core.proofs.SampleRooms.{count_told}
use Rattle.hall_core.proofs.SampleWorlds.{four_canonic}
use Rattle.hall_core.proofs.examples.a_count_too_low.Goals as goal

pub returns-clause-rooms : goal.returns-clause-rooms
returns-clause-rooms c = four_canonic 1 1 (lit≤ tt) (lit≤ tt) (lit≤ tt) (lit≤ tt)

pub returns-clause-counts : goal.returns-clause-counts
returns-clause-counts c counted =
    let wrong : 1 ≡ 2 =
    count_told (four_nodes 1 1) (all_stakes counted_too_low.seats) 0
    (record { key = tenth_key; count = 1 }) counted refl in
    omega (arith, wrong)

pub returns-clause-good : goal.returns-clause-good
returns-clause-good c good = returns-clause-counts c good.store.counted
