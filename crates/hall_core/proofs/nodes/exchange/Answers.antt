use Rattle.std.proofs.Common.{List, [], ◌∷◌, sym, subst}
use Rattle.std.proofs.Common.{◌∙◌, arith}
use Rattle.list_lemmas.proofs.Options.{appended_unless_err, ok_not_err}
use Rattle.node_key.specs.Stakes.{Exchanges}
use Rattle.node_key.specs.declared.stake.Stake.{Stake as Staked}
use Rattle.hall_core.proofs.StakeLists.{exchanges-append, length-exchanged}
use Rattle.hall_core.proofs.nodes.exchange.Goals as goal

pub unreachable-requires : goal.unreachable-requires
unreachable-requires c =
    let left = c.take_stake.new.stakes in
    let one_less = length-exchanged c.args.stakes.now.items left.items (c.take_stake.result ∷ []) []
    c.take_stake.ensures.rest in
    ok_not_err c.append.result (c.append.ensures.succeeds (omega (
      arith,
      one_less,
      c.requires.space,
      c.take_stake.ensures.space,
      c.args.stakes.now.ok.0,
      left.ok.0,
    ))) (sym c.is_err.ensures.value ∙ c.if-is_err.true)

pub returns : goal.returns
returns c x has on =
    let old = c.args.stakes.now.items in
    let left = c.take_stake.new.stakes.items in
    let kids = c.args.kids.items in
    let taken = c.take_stake.result in
    let same = c.requires.one taken x c.take_stake.ensures.among has (c.take_stake.ensures.number ∙ sym on) in
    let items = appended_unless_err c.append.result left kids c.append.new.self.items
    (sym c.is_err.ensures.value ∙ c.if-is_err.false) c.append.ensures.items in
    subst (λ (y : Staked). Exchanges old c.append.new.self.items (y ∷ []) kids) same
    (subst (λ (ys : List Staked). Exchanges old ys (taken ∷ []) kids) (sym items)
    (exchanges-append old left (taken ∷ []) kids c.take_stake.ensures.rest))
