-- Items whose trees are built in a hall, and what they stand for.
use Rattle.std.specs.Prelude.{ℕ, ◌+◌, ◌≤◌, List, [], ◌∷◌, map}
use Rattle.node_key.specs.Tree.{height}
use Rattle.node_key.specs.declared.stake.Stake.{Stake}
use Rattle.node_key.specs.declared.item.Item.{Item}
use Rattle.builders.specs.declared.built.BuiltItem.{BuiltItem}

-- an item, and the number under which the hall keeps its tree
pub record StoredItem : Type 0 where
  pub item : Item
  pub number : ℕ

-- what the builder has of it
abbrev pub built : StoredItem → BuiltItem
built s = record {
  at = s.item.at;
  dur = s.item.tree.dur;
  height = height s.item.tree;
  number = s.number;
}

-- the reference to its node
abbrev pub stake_on : StoredItem → Stake
stake_on s = record { number = s.number; tree = s.item.tree }

abbrev pub items_in : List StoredItem → List Item
items_in stored = map (λ s. s.item) stored

abbrev pub stakes_held : List StoredItem → List Stake
stakes_held stored = map stake_on stored

-- the items lie between two times, in order, and no two of them overlap
abbrev pub BuiltFitBetween : ℕ → ℕ → List BuiltItem → Type 0
BuiltFitBetween start end [] = start ≤ end
BuiltFitBetween start end (b ∷ bs) = (start ≤ b.at) × BuiltFitBetween (b.at + b.dur) end bs
