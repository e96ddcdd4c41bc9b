-- Trees at their places in time, and the node over a list of them.
use Rattle.std.specs.Prelude.{ℕ, ◌+◌, ◌-◌, ◌≤◌, List, [], ◌∷◌}
use Rattle.node_key.specs.Tree.{Tree}
use Rattle.node_key.specs.Branches.{kids_of}
use Rattle.node_key.specs.declared.item.Item.{Item}
use Rattle.node_key.specs.declared.tree.Branch.{Branch}

-- when the item ends, in nanoseconds
abbrev pub end_of : Item → ℕ
end_of i = i.at + i.tree.dur

-- the branches of a node over these items, of which the time before the first begins at `from`
abbrev pub branches_from : ℕ → List Item → List Branch
branches_from from [] = []
branches_from from (i ∷ is) = record { gap = i.at - from; tree = i.tree } ∷ branches_from (end_of i) is

-- the node of a call of this function over these items, or the group over them where the function is 0
abbrev pub node : ℕ → ℕ → ℕ → List Item → Tree
node func start end items = record {
  func = func;
  dur = end - start;
  kids = kids_of (branches_from start items);
}

-- the items lie between two times, in order, and no two of them overlap
abbrev pub FitBetween : ℕ → ℕ → List Item → Type 0
FitBetween start end [] = start ≤ end
FitBetween start end (i ∷ is) = (start ≤ i.at) × FitBetween (end_of i) end is
