-- Which tree the number of a node stands for, where keys are found by number.
use Rattle.std.specs.Prelude.{◌≡◌, ℕ, List, [], ◌∷◌, Option, Some}
use Rattle.node_key.specs.Keys.{IsKeyOf}
use Rattle.node_key.specs.Tree.{Kids, Tree, kid, no_kids}
use Rattle.node_key.specs.declared.key.NodeKey.{NodeKey}

abbrev pub KeyAt : Type 0
KeyAt = ℕ → Option NodeKey

-- the numbers stand for the kids, one for each
abbrev pub KidsStand : KeyAt → List ℕ → Kids → Type 0
KidsStand key_at ns no_kids = ns ≡ []
KidsStand key_at [] (kid gap func dur inner more) = ⊥
KidsStand key_at (n ∷ ns) (kid gap func dur inner more) =
    ((key : NodeKey) × (ms : List ℕ) × (key_at n ≡ Some key)
    × IsKeyOf (record { func = func; dur = dur; kids = inner }) ms key × KidsStand key_at ms inner)
    × KidsStand key_at ns more

-- The key of the number is that of the tree over numbers that stand for the tree's kids.
abbrev pub Stands : KeyAt → ℕ → Tree → Type 0
Stands key_at n t = (key : NodeKey) × (ns : List ℕ) × (key_at n ≡ Some key) × IsKeyOf t ns key
    × KidsStand key_at ns t.kids
