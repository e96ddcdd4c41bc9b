-- Stakes of which no two on one number are on different trees.
use Rattle.std.specs.Prelude.{◌≡◌, List}
use Rattle.std.specs.List.{Contains}
use Rattle.node_key.specs.Stakes.{HasStakes, IsOverStakes}
use Rattle.node_key.specs.declared.stake.Stake.{Stake}
use Rattle.node_key.specs.Tree.{Tree}
use Rattle.node_key.specs.declared.key.NodeKey.{NodeKey}

-- a number tells the stake
abbrev pub OneTreeEach : List Stake → Type 0
OneTreeEach stakes = (x y : Stake) → Contains stakes x → Contains stakes y → x.number ≡ y.number → x ≡ y

-- the key is that of this tree over some of the stakes
pub record IsStakedTree (stakes : List Stake) (key : NodeKey) (t : Tree) (kids : List Stake) : Type 0 where
  pub over : IsOverStakes t kids key
  pub has : HasStakes stakes kids
