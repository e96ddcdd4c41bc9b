-- Small rooms on which the definitions are computed.
use Rattle.std.specs.Prelude.{List, [], ◌∷◌}
use Rattle.memo_core.specs.Examples.{idle_flat, idle_paths, item_of}
use Rattle.memo_core.specs.Memo.{MemoItem}
use Rattle.whole_profiles.specs.declared.memo_kind.MemoKind.TheVariants.{Flat, Paths}

-- number 4 in the first room, both kinds of 1 and number 5 in the second, and 2 where it doesn't belong
abbrev pub four_rooms : List (List MemoItem)
four_rooms = (item_of 4 Flat (idle_flat 40) ∷ [])
    ∷ (item_of 1 Flat (idle_flat 10) ∷ item_of 1 Paths (idle_paths 11) ∷ item_of 5 Flat (idle_flat 50) ∷ [])
    ∷ [] ∷ (item_of 2 Flat (idle_flat 20) ∷ []) ∷ []
