use Rattle.std.proofs.Common.{◌∷◌}
use Rattle.node_store.proofs.Dropping.{next_then}
use Rattle.node_store.proofs.KidLoops.{other_from_stake, same_next}
use Rattle.node_key.specs.Stakes.{stake}
use Rattle.node_key.proofs.StakeLaws.{first_taken}
use Rattle.node_store.proofs.store.NodeStore.release.Goals as goal

pub drop_other-requires : goal.drop_other-requires
drop_other-requires c = other_from_stake c.args.self.now c.hand_over.new.self c.args.n c.requires.staked
    c.requires.kept c.hand_over.ensures.kept

pub returns-clause-kept : goal.returns-clause-kept
returns-clause-kept c = λ others keeps.
    let t = c.requires.staked.0 in
    c.drop_other.ensures.kept (stake c.args.n t ∷ others) others t
    (c.hand_over.ensures.kept others t c.requires.staked.1 keeps) (first_taken (stake c.args.n t) others)

pub returns-clause-next : goal.returns-clause-next
returns-clause-next c = next_then c.args.self.now c.hand_over.new.self c.drop_other.new.self
    (same_next c.args.self.now c.hand_over.new.self c.hand_over.ensures.rooms) c.drop_other.ensures.next
