use Rattle.std.proofs.Common.{◌≡◌, ◌++◌, length}
use Rattle.std.specs.Vec.Iter.{into_iter_items}
use Rattle.call_tree.proofs.group.next_chunk.Given as goal

abbrev pub invariant-loop : goal.invariant-loop
invariant-loop l = record {
  so_far : l.chunk ++ into_iter_items l.items ≡ into_iter_items l.fn.items;
  number : length l.chunk ≡ l.counter;
}
