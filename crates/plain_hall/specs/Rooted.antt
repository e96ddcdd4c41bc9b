-- A kept history names roots, which stand for trees where keys are found by number.
use Rattle.std.specs.Prelude.{◌≡◌, ℕ, List, map, slice_get, Some, IsSome}
use Rattle.hall_history.specs.History.{Entry, EntryOf, Opened, Published, Sealed, Dropped, Closed, Asked}
use Rattle.hall_history.specs.History.{PublishedTree}
use Rattle.node_key.specs.Stakes.{stake}
use Rattle.node_key.specs.declared.stake.Stake.{Stake}
use Rattle.node_key.specs.Stands.{KeyAt}
use Rattle.node_store.specs.TreeUnder.{tree_under}
use Rattle.plain_hall.specs.declared.root.Root.{Root}

-- the entry, with what f makes of what it publishes
abbrev pub told_by : {X Y : Type 0} → (X → Y) → EntryOf X → EntryOf Y
told_by f (Opened id info) = Opened id info
told_by f (Published id track what) = Published id track (f what)
told_by f (Sealed id) = Sealed id
told_by f (Dropped id) = Dropped id
told_by f (Closed id) = Closed id
told_by f Asked = Asked

-- what is published with a root
abbrev pub tree_of_root : KeyAt → Root → PublishedTree
tree_of_root key_at r = record { start = r.start; tree = tree_under key_at r.node }

-- the history with trees in place of roots
abbrev pub with_trees : KeyAt → List (EntryOf Root) → List Entry
with_trees key_at entries = map (told_by (tree_of_root key_at)) entries

-- a reference to each of these numbers, with the tree that it stands for
abbrev pub stakes_under : KeyAt → List ℕ → List Stake
stakes_under key_at numbers = map (λ n. stake n (tree_under key_at n)) numbers

-- if the entry names a root, a key is found under its number
abbrev pub NamesNode : KeyAt → EntryOf Root → Type 0
NamesNode key_at (Published id track r) = IsSome (key_at r.node)
NamesNode key_at (Opened id info) = Unit {0}
NamesNode key_at (Sealed id) = Unit {0}
NamesNode key_at (Dropped id) = Unit {0}
NamesNode key_at (Closed id) = Unit {0}
NamesNode key_at Asked = Unit {0}

-- so does each entry
abbrev pub NameNodes : KeyAt → List (EntryOf Root) → Type 0
NameNodes key_at entries = (k : ℕ) (e : EntryOf Root) → slice_get entries k ≡ Some e → NamesNode key_at e
