use Rattle.std.proofs.Common.{[], ◌∷◌}
use Rattle.node_key.specs.Stakes.{stake}
use Rattle.node_key.proofs.StakeLaws.{first_taken}
use Rattle.store_tests.proofs.Owning.{owned_first, owned_less}
use Rattle.store_tests.proofs.nodes.publish_first.Goals as goal

pub hand_over-requires : goal.hand_over-requires
hand_over-requires g c =
    let (t, u, owns) = c.requires.owned in
    (t, owned_first c.args.store.now (stake c.args.root t ∷ []) (stake c.args.other u ∷ []) owns)

pub release-requires-clause-staked : goal.release-requires-clause-staked
release-requires-clause-staked g c =
    let (t, u, owns) = c.requires.owned in
    let root = stake c.args.root t in
    let other = stake c.args.other u in
    let has = owned_first c.args.store.now (root ∷ []) (other ∷ []) owns in
    let left = owned_less c.args.store.now c.hand_over.new.self (other ∷ []) root owns
    (c.hand_over.ensures.stakes t has) in
    (u, owned_first c.hand_over.new.self (other ∷ []) [] left)

pub release-requires-clause-kept : goal.release-requires-clause-kept
release-requires-clause-kept g c =
    let (t, u, owns) = c.requires.owned in
    let root = stake c.args.root t in
    let has = owned_first c.args.store.now (root ∷ []) (stake c.args.other u ∷ []) owns in
    (root ∷ [], c.hand_over.ensures.kept [] t has c.requires.kept)

pub drop_other-requires : goal.drop_other-requires
drop_other-requires g c =
    let (t, u, owns) = c.requires.owned in
    let root = stake c.args.root t in
    let has = owned_first c.args.store.now (root ∷ []) (stake c.args.other u ∷ []) owns in (
      root ∷ [],
      [],
      t,
      c.release.ensures.kept (root ∷ []) (c.hand_over.ensures.kept [] t has c.requires.kept),
      first_taken root [],
    )
