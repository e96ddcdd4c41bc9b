-- A list of items of which at most 8 are left: the others are put into groups of 8, and these into groups
-- again.
use Rattle.std.specs.Prelude.{ℕ, zero, suc, ◌+◌, ◌-◌, ◌*◌, ◌/◌, nat_le, List, [], ◌∷◌, length, take, drop}
use Rattle.std.specs.Prelude.{map, if◌then◌else◌}
use Rattle.std.specs.List.{range_with_len}
use Rattle.node_key.specs.Items.{end_of, node}
use Rattle.node_key.specs.declared.item.Item.{Item}
use Rattle.node_key.specs.declared.limits.TheConstants.{MAX_KIDS}

-- the list cut from the left into chunks of 8, of which the last has the rest
abbrev pub chunks : List Item → List (List Item)
chunks is = map (λ k. take MAX_KIDS (drop (MAX_KIDS * k) is))
    (range_with_len 0 ((length is + (MAX_KIDS - 1)) / MAX_KIDS))

-- when the first item begins, 0 where there is none
abbrev pub start_of : List Item → ℕ
start_of [] = 0
start_of (i ∷ is) = i.at

-- when the last item ends, 0 where there is none
abbrev pub stop_of : List Item → ℕ
stop_of [] = 0
stop_of (i ∷ []) = end_of i
stop_of (i ∷ j ∷ is) = stop_of (j ∷ is)

-- the group over a chunk: from its first item's start to its last item's end; a chunk of one item stays
-- itself
abbrev pub group : List Item → Item
group (i ∷ []) = i
group is = record { at = start_of is; tree = node 0 (start_of is) (stop_of is) is }

-- each chunk as one item
unfoldable pub grouped : List Item → List Item
grouped is = map group (chunks is)

-- the list after at most this many times of grouping
abbrev pub bound_within : ℕ → List Item → List Item
bound_within zero is = is
bound_within (suc n) is = if nat_le (length is) MAX_KIDS then is else bound_within n (grouped is)

-- the list itself where it has at most 8 items, else that of the list with each chunk as one item; each time
-- the list gets shorter, so that it is grouped less often than it has items
unfoldable pub bound : List Item → List Item
bound is = bound_within (length is) is
