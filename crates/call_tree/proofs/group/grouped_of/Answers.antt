use Rattle.std.proofs.Common.{rules}
use Rattle.std.specs.Vec.Iter.{into_iter_items}
use Rattle.call_tree.proofs.Grouping.{Grouping-next, Grouping-more, Grouping-end, has_items}
use Rattle.call_tree.proofs.group.grouped_of.Goals as goal

pub returns-then-is_empty : goal.returns-then-is_empty
returns-then-is_empty c =
    Grouping-end c.args.items c.chunks.groups (into_iter_items c.chunks.left) c.in_ok-chunk.chunk
    c.chunks.invariant
    c.in_ok-chunk.ensures.chunk (c.if-is_empty.ensures.0 (search rules))

pub group_of-requires-clause-placed : goal.group_of-requires-clause-placed
group_of-requires-clause-placed c =
    (Grouping-next c.args.items c.chunks.groups (into_iter_items c.chunks.left) c.in_ok-chunk.chunk
    c.chunks.invariant
    c.in_ok-chunk.ensures.chunk).placed

pub group_of-requires-clause-low : goal.group_of-requires-clause-low
group_of-requires-clause-low c =
    (Grouping-next c.args.items c.chunks.groups (into_iter_items c.chunks.left) c.in_ok-chunk.chunk
    c.chunks.invariant
    c.in_ok-chunk.ensures.chunk).low

pub chunks-preserved : goal.chunks-preserved
chunks-preserved c =
    Grouping-more c.args.items c.chunks.groups c.push.new.self (into_iter_items c.chunks.left)
    (into_iter_items c.next_chunk.new.items) c.in_ok-chunk.chunk c.chunks.invariant
    c.in_ok-chunk.ensures.chunk
    (has_items c.in_ok-chunk.chunk c.if-is_empty.ensures.1) c.in_ok-chunk.ensures.rest
    (cc (c.in_ok-push.ensures.ok, c.in_ok-group_of.ensures))
