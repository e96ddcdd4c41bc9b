-- Small rooms, and full ones, on which the definitions are computed.
use Rattle.std.specs.Prelude.{ℕ, zero, suc, List, [], ◌∷◌, replicate}
use Rattle.memo_core.specs.Memo.{MemoItem}
use Rattle.whole_profiles.specs.declared.entry.Entry.{Entry}
use Rattle.whole_profiles.specs.declared.entry.Entry.TheVariants as entry
use Rattle.whole_profiles.specs.declared.memo_kind.MemoKind.{MemoKind}
use Rattle.whole_profiles.specs.declared.memo_kind.MemoKind.TheVariants.{Flat, Paths}

-- profiles of so many nanoseconds in which no call was open
abbrev pub idle_flat : ℕ → Entry
idle_flat time = entry.Flat (record { bare = time; rows = [] })

abbrev pub idle_paths : ℕ → Entry
idle_paths time = entry.Paths (record { bare = time; rows = [] })

-- a profile of so many rows
abbrev pub flat_of_rows : ℕ → Entry
flat_of_rows n = entry.Flat (record {
  bare = 0;
  rows = replicate n (record { func = 1; calls = 1; incl = 1; excl = 1 });
})

abbrev pub item_of : ℕ → MemoKind → Entry → MemoItem
item_of n kind e = record { number = n; kind = kind; entry = e }

-- both kinds of number 1, and number 2
abbrev pub three_items : List MemoItem
three_items = item_of 1 Flat (idle_flat 10) ∷ item_of 1 Paths (idle_paths 11)
    ∷ item_of 2 Flat (idle_flat 20) ∷ []

-- so many numbers in a row from this one on, each of as many nanoseconds
unfoldable pub numbers_from : ℕ → ℕ → List MemoItem
numbers_from n zero = []
numbers_from n (suc k) = item_of n Flat (idle_flat n) ∷ numbers_from (suc n) k
