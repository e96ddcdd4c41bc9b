use Rattle.std.proofs.Common.{refl}
use Rattle.std.specs.FinMap.{get-empty}
use Rattle.std.specs.Ordering.{nat_cmp}
use Rattle.shard_core.specs.Examples.{last_number}
use Rattle.shard_core.proofs.RoomExamples.{given_at, elsewhere, counted_at, removed_at}
use Rattle.shard_core.proofs.examples.nodes_under_numbers.Goals as goal

pub returns-clause-nothing : goal.returns-clause-nothing
returns-clause-nothing c = get-empty nat_cmp last_number

pub returns-clause-added : goal.returns-clause-added
returns-clause-added c = given_at last_number refl

pub returns-clause-elsewhere : goal.returns-clause-elsewhere
returns-clause-elsewhere c = elsewhere

pub returns-clause-counted : goal.returns-clause-counted
returns-clause-counted c = counted_at 2

pub returns-clause-removed : goal.returns-clause-removed
returns-clause-removed c = removed_at
