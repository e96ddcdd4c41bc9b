use Rattle.std.proofs.Common.{List, [], ◌∷◌, sym, ap, subst, ◌∙◌}
use Rattle.node_key.specs.Stakes.{HasStakes, stake}
use Rattle.node_key.specs.declared.stake.Stake.{Stake}
use Rattle.node_key.specs.Tree.{Tree}
use Rattle.node_store.specs.Answering.{HasStakeOn, TakesStake}
use Rattle.node_store.specs.Given.{ever, stakes_of}
use Rattle.node_store.specs.Kept.{KeepsFor, NodesKept}
use Rattle.node_store.proofs.HandingOver.{IsHandedOver, handed_over, is_staked}
use Rattle.node_store.proofs.Keeping.{kept}
use Rattle.node_store.proofs.store.NodeStore.hand_over.Goals as goal

pub unstake-requires : goal.unstake-requires
unstake-requires c =
    is_staked (kept c.self.inside.shards.items c.self.inside.given) c.args.n
    (subst (λ (s : NodesKept). HasStakeOn s c.args.n) (sym c.self.view_is) c.requires)

all : (c : goal.After-unstake)
    → IsHandedOver c.self.inside.shards.items c.self.inside.given c.unstake.new.self c.args.n
all c =
    let staked = is_staked (kept c.self.inside.shards.items c.self.inside.given) c.args.n
    (subst (λ (s : NodesKept). HasStakeOn s c.args.n) (sym c.self.view_is) c.requires) in
    handed_over c.self.inside.shards.items c.self.inside.given c.unstake.new.self c.args.n c.self.invariant
    staked
    c.unstake.ensures

pub invariant_of-self : goal.invariant_of-self
invariant_of-self c = (all c).sound

pub returns-clause-stakes : goal.returns-clause-stakes
returns-clause-stakes c =
    subst (λ (s : NodesKept). TakesStake s c.args.n (kept c.self.inside.shards.items c.unstake.new.self))
    c.self.view_is (all c).stakes

pub returns-clause-kept : goal.returns-clause-kept
returns-clause-kept c =
    subst (λ (s : NodesKept). (others : List Stake) (t : Tree) → HasStakes (stakes_of s.given)
    (stake c.args.n t ∷ [])
    → KeepsFor s others → KeepsFor (kept c.self.inside.shards.items c.unstake.new.self)
    (stake c.args.n t ∷ others))
    c.self.view_is (all c).keeps

pub returns-clause-numbers : goal.returns-clause-numbers
returns-clause-numbers c = (all c).numbers ∙ ap (λ (s : NodesKept). ever s.given) c.self.view_is

pub returns-clause-sound : goal.returns-clause-sound
returns-clause-sound c = (all c).sound
