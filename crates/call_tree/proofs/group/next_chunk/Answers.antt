use Rattle.std.proofs.Common.{arith}
use Rattle.std.specs.Vec.Iter.{into_iter_items}
use Rattle.call_tree.proofs.Chunks.{front_of}
use Rattle.call_tree.proofs.group.next_chunk.Goals as goal

pub returns-clause-chunk : goal.returns-clause-chunk
returns-clause-chunk c =
    (front_of c.loop.chunk (into_iter_items c.loop.items) (into_iter_items c.args.items.now)
    c.loop.invariant.so_far (omega arith)).0

pub returns-clause-rest : goal.returns-clause-rest
returns-clause-rest c =
    (front_of c.loop.chunk (into_iter_items c.loop.items) (into_iter_items c.args.items.now)
    c.loop.invariant.so_far (omega arith)).1
