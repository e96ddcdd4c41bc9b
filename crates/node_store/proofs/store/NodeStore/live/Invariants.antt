use Rattle.std.proofs.Common.{◌≡◌, sum_by, take}
use Rattle.node_store.proofs.Living.{nodes_of}
use Rattle.node_store.proofs.store.NodeStore.live.Given as goal

abbrev pub invariant-loop-shard : goal.invariant-loop-shard
invariant-loop-shard l = l.live ≡ sum_by nodes_of (take l.shard-index l.shard-items)
