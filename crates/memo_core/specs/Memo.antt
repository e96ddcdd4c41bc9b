-- A memo room: entries, each under a number and a kind, from the least to the most recently used.
use Rattle.std.specs.Prelude.{◌≡◌, ◌≤◌, ◌-◌, ◌==◌, ◌&&◌, not, ℕ, Bool, true, false, refl}
use Rattle.std.specs.Prelude.{List, [], ◌∷◌, ◌++◌, length, filter, drop, All, Option}
use Rattle.std.specs.Coded.{Coded, code_by, coded×, coded_ℕ}
use Rattle.std.specs.List.{find}
use Rattle.std.specs.Option.{option_map}
use Rattle.whole_profiles.specs.Entry.{entry_kind, entry_rows}
use Rattle.whole_profiles.specs.contracts.entry.Entry as entry_row
use Rattle.whole_profiles.specs.contracts.memo_kind.MemoKind as kind_row
use Rattle.whole_profiles.specs.declared.entry.Entry.{Entry}
use Rattle.memo_core.specs.declared.limits.TheConstants.{MEMO_ENTRIES, MEMO_ROWS}
use Rattle.whole_profiles.specs.declared.memo_kind.MemoKind.{MemoKind}
use Rattle.whole_profiles.specs.declared.memo_kind.MemoKind.TheVariants.{Flat, Paths}

-- an entry with the number of its node and its kind
pub record MemoItem : Type 0 where
  pub number : ℕ
  pub kind : MemoKind
  pub entry : Entry

abbrev pub same_kind : MemoKind → MemoKind → Bool
same_kind Flat Flat = true
same_kind Paths Paths = true
same_kind _ _ = false

-- whether it has this number and this kind
abbrev pub is_item_of : ℕ → MemoKind → MemoItem → Bool
is_item_of n kind item = n == item.number && same_kind kind item.kind

-- the entry of this number and kind
abbrev pub entry_under : List MemoItem → ℕ → MemoKind → Option Entry
entry_under items n kind = option_map (λ i. i.entry) (find (is_item_of n kind) items)

-- the items of other numbers or of the other kind
abbrev pub items_besides : List MemoItem → ℕ → MemoKind → List MemoItem
items_besides items n kind = filter (λ i. not (is_item_of n kind i)) items

-- the items with this entry as the most recently used one, in place of an older one of its number and kind
abbrev pub with_recent : List MemoItem → ℕ → MemoKind → Entry → List MemoItem
with_recent items n kind e = items_besides items n kind ++ record { number = n; kind = kind; entry = e } ∷ []

-- the most recently used ones, as many as a room keeps
abbrev pub most_recent : List MemoItem → List MemoItem
most_recent items = drop (length items - MEMO_ENTRIES) items

-- what holds of a room at every moment
pub record IsMemo (items : List MemoItem) : Type 0 where
  pub few : length items ≤ MEMO_ENTRIES
  pub once : (n : ℕ) (kind : MemoKind) → length (filter (is_item_of n kind) items) ≤ 1
  pub kinds : All (λ i. entry_kind i.entry ≡ i.kind) items
  pub rows : All (λ i. entry_rows i.entry ≤ MEMO_ROWS) items

-- items are stored as the tuple of their fields
abbrev pub memo_item_code : Coded MemoItem
memo_item_code =
    code_by (ℕ × (MemoKind × Entry)) (coded× coded_ℕ (coded× kind_row.the_row.coded entry_row.the_row.coded))
    (λ i. (i.number, (i.kind, i.entry)))
    (λ p. record { number = p.0; kind = p.1.0; entry = p.1.1 }) (λ _. refl)
