use Rattle.std.proofs.Common.{refl, arith}
use Rattle.node_key.specs.Examples.{leaf_of_three}
use Rattle.shard_core.specs.Examples.{last_number}
use Rattle.shard_core.proofs.RoomExamples.{given_at, counted_at}
use Rattle.shard_core.proofs.examples.answers_to_a_drop.Goals as goal

pub returns-clause-kept : goal.returns-clause-kept
returns-clause-kept c = (leaf_of_three, 2, counted_at 2, omega arith, refl)

pub returns-clause-removed : goal.returns-clause-removed
returns-clause-removed c = (given_at last_number refl, refl)
