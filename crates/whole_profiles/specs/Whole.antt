-- The profile of a whole tree of either kind, as an entry of a memo.
use Rattle.node_key.specs.Tree.{Tree}
use Rattle.node_key.specs.Whole.{whole_flat, whole_paths}
use Rattle.whole_profiles.specs.declared.entry.Entry.{Entry}
use Rattle.whole_profiles.specs.declared.entry.Entry.TheVariants as entry
use Rattle.whole_profiles.specs.declared.memo_kind.MemoKind.{MemoKind}
use Rattle.whole_profiles.specs.declared.memo_kind.MemoKind.TheVariants as kind

-- the profile of this kind
abbrev pub whole_profile : MemoKind → Tree → Entry
whole_profile kind.Flat t = entry.Flat (whole_flat t)
whole_profile kind.Paths t = entry.Paths (whole_paths t)
