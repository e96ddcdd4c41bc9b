use Rattle.std.proofs.Common.{◌≡◌, ◌<◌, get_or, length, sum_by, take, ap, ◌∙◌, arith, subst}
use Rattle.store_laws.specs.Store.{Store, nodes_in}
use Rattle.node_store.specs.Kept.{NodesKept}
use Rattle.node_store.proofs.Keeping.{kept}
use Rattle.node_store.proofs.Living.{all_counted, live_fits, nodes_of}
use Rattle.node_store.proofs.store.NodeStore.live.Goals as goal

pub overflow_add-live : goal.overflow_add-live
overflow_add-live c =
    let same = c.deref-shard-items.ensures.value in
    let fits = live_fits (kept c.self.inside.shards.items c.self.inside.given) c.loop-shard.live
    c.loop-shard.shard-index
    c.len-live.result c.shard-item.result c.self.invariant
    (subst (λ (rooms : Store). c.loop-shard.live ≡ sum_by nodes_of (take c.loop-shard.shard-index rooms)) same
    c.loop-shard.invariant)
    (subst (λ (rooms : Store). c.loop-shard.shard-index < length rooms) same c.loop-shard-test.true)
    (c.len-live.ensures ∙ ap nodes_of (subst (λ (rooms : Store). c.shard-item.result
    ≡ get_or rooms c.loop-shard.shard-index c.shard-item.result) same c.shard-item.is)) in
    omega (arith, fits)

pub returns : goal.returns
returns c =
    all_counted c.deref-shard-items.result.now c.loop-shard.live c.loop-shard.shard-index
    c.loop-shard.invariant
    c.loop-shard-test.false
    ∙ ap (λ (rooms : Store). length (nodes_in rooms)) c.deref-shard-items.ensures.value
    ∙ ap (λ (s : NodesKept). length (nodes_in s.rooms)) c.self.view_is
