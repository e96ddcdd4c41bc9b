-- What is under the numbers of the rooms of the examples.
use Rattle.std.proofs.Common.{◌≡◌, ℕ, Some, None, sym, ap, ◌∙◌, is_some, true≢false}
use Rattle.std.specs.Cmp.{nat_cmp_total}
use Rattle.std.specs.FinMap as map
use Rattle.std.specs.FinMap.{get-insert, get-remove, get-empty}
use Rattle.std.specs.Ordering.{nat_cmp}
use Rattle.node_key.specs.Examples.{leaf_of_three}
use Rattle.node_key.specs.declared.key.NodeKey.{NodeKey}
use Rattle.shard_core.specs.Room.{IsThere, HasNode, node_at, next_number, without}
use Rattle.shard_core.specs.Examples.{one_left, last_given, last_number, counted}

-- a room without nodes has no key
pub no_key : (room next : ℕ) (k : NodeKey)
    → ¬ IsThere (record { room = room; next = next; nodes = map.empty }) k
no_key room next k there = true≢false (sym (ap is_some (sym (get-empty nat_cmp there.0) ∙ there.2)))

pub given_at : (n : ℕ) → n ≡ next_number one_left
    → node_at last_given n ≡ Some (record { key = leaf_of_three; count = 1 })
given_at n is = ap (λ (x : ℕ). node_at last_given x) is
    ∙ get-insert nat_cmp_total one_left.nodes (next_number one_left)
    (record { key = leaf_of_three; count = 1 })
    (next_number one_left)

pub elsewhere : node_at last_given 3 ≡ None
elsewhere =
    get-insert nat_cmp_total one_left.nodes (next_number one_left) (record { key = leaf_of_three; count = 1 })
    3
    ∙ get-empty nat_cmp 3

pub counted_at : (c : ℕ) → HasNode (counted c) last_number leaf_of_three c
counted_at c =
    get-insert nat_cmp_total last_given.nodes last_number (record { key = leaf_of_three; count = c })
    last_number

pub removed_at : node_at (without last_given last_number) last_number ≡ None
removed_at = get-remove nat_cmp_total last_given.nodes last_number last_number
