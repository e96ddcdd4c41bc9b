use Rattle.std.proofs.Common.{refl, arith, inl, inr, ◌-◌}
use Rattle.node_key.specs.Examples.{leaf_of_three}
use Rattle.node_key.specs.declared.limits.TheConstants.{MAX_NUMBERS}
use Rattle.shard_core.specs.declared.limits.TheConstants.{MAX_COUNT}
use Rattle.shard_core.specs.Examples.{last_number}
use Rattle.shard_core.proofs.RoomExamples.{no_key, given_at, counted_at}
use Rattle.shard_core.proofs.examples.answers_to_a_key.Goals as goal

pub returns-clause-new : goal.returns-clause-new
returns-clause-new c = (no_key 3 (MAX_NUMBERS - 1) leaf_of_three, omega arith, refl, refl)

pub returns-clause-known : goal.returns-clause-known
returns-clause-known c = (1, given_at last_number refl, omega arith, refl)

pub returns-clause-greatest : goal.returns-clause-greatest
returns-clause-greatest c = (inr (last_number, counted_at MAX_COUNT, refl), refl)

pub returns-clause-numbers : goal.returns-clause-numbers
returns-clause-numbers c = (inl (no_key 3 MAX_NUMBERS leaf_of_three, refl, refl), refl)

pub returns-clause-memory : goal.returns-clause-memory
returns-clause-memory c = (no_key 3 (MAX_NUMBERS - 1) leaf_of_three, omega arith, refl)
