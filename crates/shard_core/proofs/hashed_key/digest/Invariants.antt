use Rattle.std.proofs.Common.{◌≡◌, ◌*◌, ◌%◌, ◌^◌, take, fold, bit_xor}
use Rattle.shard_core.specs.Digest.{mixed}
use Rattle.shard_core.proofs.hashed_key.digest.Given as goal

abbrev pub invariant-loop-kid : goal.invariant-loop-kid
invariant-loop-kid l = l.so_far ≡ fold mixed (bit_xor (l.key.dur * 14029467366897019727 % 2 ^ 64) l.key.func)
    (take l.kid-index l.kid-items)
