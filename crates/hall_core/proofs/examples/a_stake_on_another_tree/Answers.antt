use Rattle.std.proofs.Common.{◌≡◌, ap, arith, lit<, lit≤, refl, sym, ◌∙◌}
use Rattle.std.proofs.lemmas.Option.{same_Some}
use Rattle.node_key.specs.Examples.{leaf_of_three, tenth}
use Rattle.node_key.specs.Stakes.{stake}
use Rattle.node_key.specs.declared.key.NodeKey.{NodeKey}
use Rattle.hall_core.specs.Examples.{four_nodes}
use Rattle.hall_core.proofs.SampleWorlds.{four_canonic, key_in-rooms_with}
use Rattle.hall_core.proofs.examples.a_stake_on_another_tree.Goals as goal

pub returns-clause-rooms : goal.returns-clause-rooms
returns-clause-rooms c = four_canonic 2 1 (lit≤ tt) (lit≤ tt) (lit≤ tt) (lit≤ tt)

pub returns-clause-stands : goal.returns-clause-stands
returns-clause-stands c (key, ns, is, of, kids) =
    let same : leaf_of_three ≡ key =
    same_Some leaf_of_three key (sym (key_in-rooms_with (four_nodes 2 1) 3) ∙ is) in
    let wrong : 3 ≡ 2 = ap (λ (k : NodeKey). k.func) same ∙ of.func in
    omega (arith, wrong)

pub returns-clause-counts : goal.returns-clause-counts
returns-clause-counts c counted = returns-clause-stands c (counted.stands (stake 3 tenth) (2, lit< tt, refl))

pub returns-clause-good : goal.returns-clause-good
returns-clause-good c good = returns-clause-counts c good.store.counted
