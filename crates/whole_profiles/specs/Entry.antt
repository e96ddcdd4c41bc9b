-- What an entry of a memo is: its kind, and how many rows it has.
use Rattle.std.specs.Prelude.{ℕ, length}
use Rattle.whole_profiles.specs.declared.entry.Entry.{Entry}
use Rattle.whole_profiles.specs.declared.entry.Entry.TheVariants as entry
use Rattle.whole_profiles.specs.declared.memo_kind.MemoKind.{MemoKind}
use Rattle.whole_profiles.specs.declared.memo_kind.MemoKind.TheVariants as kind

abbrev pub entry_kind : Entry → MemoKind
entry_kind (entry.Flat p) = kind.Flat
entry_kind (entry.Paths p) = kind.Paths

abbrev pub entry_rows : Entry → ℕ
entry_rows (entry.Flat p) = length p.rows
entry_rows (entry.Paths p) = length p.rows
