-- Two lists of rows merged into one: what the pass over them gives, whatever the rows are. `place` tells
-- which of two rows stands first, `plus` adds two rows that stand at one place.
use Rattle.std.specs.Prelude.{List, [], ◌∷◌}
use Rattle.std.specs.declared.cmp.Ordering.{Ordering}
use Rattle.std.specs.declared.cmp.Ordering.TheVariants.{Less, Equal, Greater}

abbrev pub pick : {A : Type 0} → Ordering → A → A → A → A
pick Less a b c = a
pick Equal a b c = b
pick Greater a b c = c

-- the row x and those behind it, merged with the other list, where `rest` merges those behind it
abbrev pub merge_first : {R : Type 0} → (R → R → Ordering) → (R → R → R) → R → List R → (List R → List R)
    → List R → List R
merge_first place plus x xs rest [] = x ∷ xs
merge_first place plus x xs rest (y ∷ ys) =
    pick (place x y) (x ∷ rest (y ∷ ys)) (plus x y ∷ rest ys) (y ∷ merge_first place plus x xs rest ys)

-- the rows of both lists, each list in its own order
unfoldable pub merged : {R : Type 0} → (R → R → Ordering) → (R → R → R) → List R → List R → List R
merged place plus [] ys = ys
merged place plus (x ∷ xs) ys = merge_first place plus x xs (merged place plus xs) ys

-- whether the first of these rows stands before the row, at its place or behind it
unfoldable pub turn_of : {R : Type 0} → (R → R → Ordering) → List R → R → Ordering
turn_of place [] y = Greater
turn_of place (x ∷ xs) y = place x y
