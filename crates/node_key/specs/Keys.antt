-- Keys of trees, and the different trees among them and below.
use Rattle.std.specs.Prelude.{◌≡◌, ℕ, List, [], ◌∷◌, ◌++◌, length, take, if◌then◌else◌}
use Rattle.std.specs.List.{flat_map, list_any}
use Rattle.node_key.specs.Tree.{Tree, Kids, no_kids, kid, count, height, same_tree}
use Rattle.node_key.specs.declared.key.Kid.{Kid}
use Rattle.node_key.specs.declared.key.NodeKey.{NodeKey}

-- the kids of a key, where the kids of the tree have these numbers
abbrev pub numbered : Kids → List ℕ → List Kid
numbered (kid gap func dur inner more) (n ∷ ns) = record { gap = gap; span = dur; node = n }
    ∷ numbered more ns
numbered _ _ = []

-- the key of a tree over the numbers of its kids, one for each; its kids past `len` are zero, as those of any
-- key
pub record IsKeyOf (t : Tree) (ns : List ℕ) (k : NodeKey) : Type 0 where
  pub func : k.func ≡ t.func
  pub dur : k.dur ≡ t.dur
  pub height : k.height ≡ height t
  pub len : k.len ≡ count t.kids
  pub numbers : length ns ≡ count t.kids
  pub kids : take k.len k.kids ≡ numbered t.kids ns

-- the trees below, with repeats: each kid's, and those below it
abbrev pub trees_below : Kids → List Tree
trees_below no_kids = []
trees_below (kid gap func dur inner more) =
    record { func = func; dur = dur; kids = inner } ∷ trees_below inner ++ trees_below more

-- a tree and those below it, with repeats
abbrev pub subtrees : Tree → List Tree
subtrees t = t ∷ trees_below t.kids

-- each of the trees once
abbrev pub different : List Tree → List Tree
different [] = []
different (t ∷ ts) = if list_any (same_tree t) ts then different ts else t ∷ different ts

-- the different trees among these and below them
unfoldable pub different_subtrees : List Tree → List Tree
different_subtrees ts = different (flat_map subtrees ts)

-- how many they are: as many nodes a store needs for these trees
abbrev pub distinct : List Tree → ℕ
distinct ts = length (different_subtrees ts)
