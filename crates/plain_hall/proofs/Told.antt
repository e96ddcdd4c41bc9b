-- The words of a history that don't look into what is published say the same with trees in place of roots.
use Rattle.std.proofs.Common.{◌≡◌, ℕ, List, [], ◌∷◌}
use Rattle.std.proofs.Common.{map, Option, refl, ap, ap₂}
use Rattle.std.specs.Prelude.{slice_get, IsSome}
use Rattle.std.specs.List.{filter_map, cons_option}
use Rattle.list_lemmas.proofs.Maps.{map_agree_at}
use Rattle.trace_base.specs.declared.names.TraceInfo.{TraceInfo}
use Rattle.hall_history.specs.History.{EntryOf, Opened, Published, Sealed, Dropped, Closed, Asked}
use Rattle.hall_history.specs.History.{info_opened, info_of}
use Rattle.node_key.specs.Stands.{KeyAt}
use Rattle.node_store.specs.TreeUnder.{tree_under}
use Rattle.plain_hall.specs.Rooted.{told_by, tree_of_root, with_trees, NamesNode}
use Rattle.plain_hall.specs.Rooted.{NameNodes}
use Rattle.plain_hall.specs.declared.root.Root.{Root}

-- ---- what an entry does

info_opened-told : {X Y : Type 0} (f : X → Y) (id : ℕ) (e : EntryOf X)
    → info_opened id (told_by f e) ≡ info_opened id e
info_opened-told f id (Opened other info) = refl
info_opened-told f id (Published other track what) = refl
info_opened-told f id (Sealed other) = refl
info_opened-told f id (Dropped other) = refl
info_opened-told f id (Closed other) = refl
info_opened-told f id Asked = refl

-- ---- what is so after some entries

told_filter : {X Y Z : Type 0} (f : X → Y) (h : EntryOf Y → Option Z) (g : EntryOf X → Option Z)
    (entries : List (EntryOf X)) → ((e : EntryOf X) → h (told_by f e) ≡ g e)
    → filter_map h (map (told_by f) entries) ≡ filter_map g entries
told_filter f h g [] same = refl
told_filter f h g (e ∷ entries) same = ap₂ cons_option (same e) (told_filter f h g entries same)

pub info_of-told : {X Y : Type 0} (f : X → Y) (entries : List (EntryOf X)) (id : ℕ)
    → info_of (map (told_by f) entries) id ≡ info_of entries id
unfolding info_of
info_of-told f entries id = ap (λ (xs : List TraceInfo). slice_get xs 0)
    (told_filter f (info_opened id) (info_opened id) entries (info_opened-told f id))

-- ---- with other keys

-- the keys stand for the same trees, as far as these go
abbrev pub SameTrees : KeyAt → KeyAt → Type 0
SameTrees before after = (n : ℕ) → IsSome (before n) → tree_under after n ≡ tree_under before n

same_root : (before after : KeyAt) (r : Root) → SameTrees before after → IsSome (before r.node)
    → tree_of_root after r ≡ tree_of_root before r
same_root before after r same there = λ i. record { start = r.start; tree = same r.node there i }

same_entry : (before after : KeyAt) (e : EntryOf Root) → SameTrees before after → NamesNode before e
    → told_by (tree_of_root after) e ≡ told_by (tree_of_root before) e
same_entry before after (Published id track r) same there = ap (Published id track)
    (same_root before after r same there)
same_entry before after (Opened id info) same there = refl
same_entry before after (Sealed id) same there = refl
same_entry before after (Dropped id) same there = refl
same_entry before after (Closed id) same there = refl
same_entry before after Asked same there = refl

-- so the history is the same with trees
pub with_trees-same : (before after : KeyAt) (entries : List (EntryOf Root)) → SameTrees before after
    → NameNodes before entries → with_trees after entries ≡ with_trees before entries
with_trees-same before after entries same there = map_agree_at _ _ entries
    (λ k e at. same_entry before after e same (there k e at))
