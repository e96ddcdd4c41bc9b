use Rattle.std.proofs.Common.{[], ◌∷◌}
use Rattle.node_key.specs.Stakes.{stake}
use Rattle.store_tests.proofs.Owning.{owned_first, owned_less}
use Rattle.store_tests.proofs.nodes.release_two.Goals as goal

pub release-requires-clause-staked : goal.release-requires-clause-staked
release-requires-clause-staked g c =
    let (t, u, owns) = c.requires.owned in
    (t, owned_first c.args.store.now (stake c.args.first t ∷ []) (stake c.args.second u ∷ []) owns)

pub release-requires-2-clause-staked : goal.release-requires-2-clause-staked
release-requires-2-clause-staked g c =
    let (t, u, owns) = c.requires.owned in
    let first = stake c.args.first t in
    let second = stake c.args.second u in
    let left = owned_less c.args.store.now c.release.new.self (second ∷ []) first owns
    (c.release.ensures.stakes t (owned_first c.args.store.now (first ∷ []) (second ∷ []) owns)) in
    (u, owned_first c.release.new.self (second ∷ []) [] left)

pub returns-clause-owned : goal.returns-clause-owned
returns-clause-owned g c =
    let (t, u, owns) = c.requires.owned in
    let first = stake c.args.first t in
    let second = stake c.args.second u in
    let left = owned_less c.args.store.now c.release.new.self (second ∷ []) first owns
    (c.release.ensures.stakes t (owned_first c.args.store.now (first ∷ []) (second ∷ []) owns)) in
    owned_less c.release.new.self c.release-2.new.self [] second left
    (c.release-2.ensures.stakes u (owned_first c.release.new.self (second ∷ []) [] left))
