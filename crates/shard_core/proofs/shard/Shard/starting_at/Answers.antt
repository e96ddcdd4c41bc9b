use Rattle.std.proofs.Common.{List, ℕ, subst, sym}
use Rattle.shard_core.specs.Room.{Stored, IsSound, room_of}
use Rattle.shard_core.proofs.Soundness.{IsSound-empty}
use Rattle.shard_core.proofs.shard.Shard.starting_at.Goals as goal

pub invariant_of-result : goal.invariant_of-result
invariant_of-result c = subst (λ (l : List (ℕ × Stored)). IsSound (room_of c.args.room c.args.next l))
    (sym c.new.ensures) (IsSound-empty c.args.room c.args.next c.requires.one_of_them c.requires.numbers)
