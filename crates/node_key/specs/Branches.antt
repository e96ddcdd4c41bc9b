-- The kids of a tree as a list.
use Rattle.std.specs.Prelude.{List, [], ◌∷◌}
use Rattle.node_key.specs.Tree.{Kids, no_kids, kid}
use Rattle.node_key.specs.declared.tree.Branch.{Branch}

-- the kids that a list of branches is
abbrev pub kids_of : List Branch → Kids
kids_of [] = no_kids
kids_of (b ∷ bs) = kid b.gap b.tree.func b.tree.dur b.tree.kids (kids_of bs)

-- the branches of a tree, in order
abbrev pub branches : Kids → List Branch
branches no_kids = []
branches (kid gap func dur inner more) =
    record { gap = gap; tree = record { func = func; dur = dur; kids = inner } } ∷ branches more
