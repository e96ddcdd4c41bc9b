-- The stake at the index is taken, and one was there.
use Rattle.std.proofs.Common.{◌≢◌, ◌∷◌, [], List, Contains, arith, sym, subst}
use Rattle.std.proofs.lemmas.List.Elements.{All-more, Contains-get_or}
use Rattle.node_key.specs.Stakes.{Exchanges}
use Rattle.node_key.specs.declared.stake.Stake.{Stake}
use Rattle.hall_core.proofs.StakesTaken.{nowhere, one_taken}
use Rattle.hall_core.proofs.stakes.take_stake.Goals as goal

pub loop-i-preserved : goal.loop-i-preserved
loop-i-preserved c =
    let Apart = λ (x : Stake). x.number ≢ c.args.n in
    let at = c.index.result.now in
    record {
      none = All-more Apart c.loop-i.stakes.items c.loop-i.i at (omega arith) c.loop-i.invariant.none
          (subst Apart c.index.ensures c.if-index-n.false);
      same = c.loop-i.invariant.same;
    }

pub returns-then-index-n-clause-among : goal.returns-then-index-n-clause-among
returns-then-index-n-clause-among c =
    let there = Contains-get_or c.loop-i.stakes.items c.loop-i.i c.swap_remove.result (omega arith) in
    subst (λ (xs : List Stake). Contains xs c.swap_remove.result) c.loop-i.invariant.same
    (subst (λ (x : Stake). Contains c.loop-i.stakes.items x) (sym c.swap_remove.ensures.value) there)

pub returns-then-index-n-clause-rest : goal.returns-then-index-n-clause-rest
returns-then-index-n-clause-rest c =
    let x = c.swap_remove.result in
    let new = c.swap_remove.new.self.items in
    subst (λ (xs : List Stake). Exchanges xs new (x ∷ []) []) c.loop-i.invariant.same
    (one_taken c.loop-i.stakes.items new c.loop-i.i x (omega arith) c.swap_remove.ensures.value
    c.swap_remove.ensures.items)

pub unreachable-requires : goal.unreachable-requires
unreachable-requires c =
    let xs = c.loop-i.stakes.items in
    nowhere xs c.loop-i.i c.args.n c.loop-i.invariant.none (omega arith) c.requires.0
    (subst (λ (ys : List Stake). Contains ys c.requires.0) (sym c.loop-i.invariant.same) c.requires.1)
    c.requires.2
