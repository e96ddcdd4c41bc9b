-- The tree that a number stands for, computed from the keys.
use Rattle.std.specs.Prelude.{ℕ, zero, suc, List, map, Option, Some, None}
use Rattle.std.specs.Option.{option_map_or}
use Rattle.node_key.specs.Branches.{kids_of}
use Rattle.node_key.specs.Stakes.{stake}
use Rattle.node_key.specs.declared.stake.Stake.{Stake}
use Rattle.node_key.specs.Stands.{KeyAt}
use Rattle.node_key.specs.Tree.{Tree, no_kids}
use Rattle.node_key.specs.declared.key.NodeKey.{NodeKey}
use Rattle.store_laws.specs.Store.{kids_in}

-- the tree of a key down to some depth; where there is no key it is a leaf
abbrev pub tree_to_depth : ℕ → KeyAt → Option NodeKey → Tree
tree_to_depth depth key_at None = record { func = 0; dur = 0; kids = no_kids }
tree_to_depth zero key_at (Some key) = record { func = key.func; dur = key.dur; kids = no_kids }
tree_to_depth (suc depth) key_at (Some key) = record {
  func = key.func;
  dur = key.dur;
  kids = kids_of (map (λ k. record { gap = k.gap; tree = tree_to_depth depth key_at (key_at k.node) })
      (kids_in key));
}

-- the tree of the key of a number, down to the height that the key tells
abbrev pub tree_under : KeyAt → ℕ → Tree
tree_under key_at n = tree_to_depth (option_map_or (λ k. k.height) (key_at n) 0) key_at (key_at n)

-- stakes on the kids of a key, one for each, with the trees that they stand for
abbrev pub kid_stakes : KeyAt → NodeKey → List Stake
kid_stakes key_at key = map (λ k. stake k.node (tree_under key_at k.node)) (kids_in key)
