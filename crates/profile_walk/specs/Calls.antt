-- The calls in a tree.
use Rattle.std.specs.Prelude.{ℕ, ◌+◌, ◌==◌, if◌then◌else◌}
use Rattle.node_key.specs.Tree.{Kids, Tree, kid, no_kids}

-- the calls in kids and below
abbrev pub calls_below : Kids → ℕ
calls_below no_kids = 0
calls_below (kid gap func dur inner more) =
    (if func == 0 then 0 else 1) + calls_below inner + calls_below more

-- the calls in a tree
abbrev pub calls : Tree → ℕ
calls t = (if t.func == 0 then 0 else 1) + calls_below t.kids
