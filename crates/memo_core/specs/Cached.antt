-- The items of a room as its cache has them: the most recently used first.
use Rattle.std.specs.Prelude.{List, map, reverse}
use Rattle.memo_core.specs.Memo.{MemoItem}
use Rattle.whole_profiles.specs.declared.entry.Entry.{Entry}
use Rattle.memo_core.specs.declared.memo_key.MemoKey.{MemoKey}

abbrev pub memo_item : MemoKey × Entry → MemoItem
memo_item e = record { number = e.0.number; kind = e.0.kind; entry = e.1 }

abbrev pub memo_items : List (MemoKey × Entry) → List MemoItem
memo_items es = reverse (map memo_item es)
