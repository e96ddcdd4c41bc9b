-- Nodes that a seat reaches, and calls that only read them.
use Rattle.std.specs.Prelude.{ℕ}
use Rattle.node_key.specs.Tree.{Tree}
use Rattle.hall_history.specs.Seat.{Seat}
use Rattle.node_key.specs.declared.key.NodeKey.{NodeKey}
use Rattle.hall_trait.specs.Nodes.{ReadsNode}
use Rattle.hall_trait.specs.Reach.{HasSource, Reaching, Source}
use Rattle.hall_trait.specs.View.{HallView, KeepsSeat, with_account}

-- the seat reaches the number, which leads to this tree, by a stake or a pin that it has
abbrev pub IsReached : Seat → Reaching → Source → ℕ → Tree → Type 0
IsReached seat reaches by_what n t = HasSource seat by_what × reaches by_what n t

-- The key is that of a node of this tree, the kids of which the seat reaches by a stake or a pin that it has.
abbrev pub IsRead : Seat → Reaching → Source → Tree → NodeKey → Type 0
IsRead seat reaches by_what t key = HasSource seat by_what × ReadsNode (reaches by_what) t key

-- nodes are read; all else, the seat too, stays or goes on
abbrev pub OnlyReads : HallView → HallView → Type 0
OnlyReads from to = KeepsSeat (with_account (λ a. record a { reads = to.account.reads }) from) to
