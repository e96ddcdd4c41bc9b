-- A table of values behind one more value.
use Rattle.std.proofs.Common.{◌≡◌, ℕ, ◌<◌, List, [], ◌∷◌, ◌++◌, ap, ◌∙◌, map, length, get_or, set, slice_get}
use Rattle.std.proofs.Common.{sym, suc}
use Rattle.std.specs.Option.{option_map_or}
use Rattle.std.proofs.lemmas.List.{map-set}
use Rattle.std.proofs.lemmas.Option.{slice_get_read}
use Rattle.std.proofs.Common.{refl}
use Rattle.paje_model.specs.declared.entity_table.EntityTable.{EntityTable}
use Rattle.paje_model.specs.EntityTable.{entities_in}
use Rattle.paje_lines.specs.Found.{Entity}

length-kept : (tables : List EntityTable) → length (map entities_in tables) ≡ length tables
length-kept [] = refl
length-kept (t ∷ ts) = ap suc (length-kept ts)

-- those of one state type
pub kind-values : (tables : List EntityTable) (kind : ℕ) (old : EntityTable)
    → kind < length (map entities_in tables) → old ≡ get_or tables kind old
    → option_map_or entities_in (slice_get tables kind) [] ≡ entities_in old
kind-values tables kind old within at = ap (λ o. option_map_or entities_in o [])
    (slice_get_read tables (length (map entities_in tables)) kind old (length-kept tables) within at)

pub values-more : (tables : List EntityTable) (kind : ℕ) (old new : EntityTable) (e : Entity)
    → kind < length (map entities_in tables) → old ≡ get_or tables kind old
    → entities_in new ≡ entities_in old ++ e ∷ []
    → map entities_in (set tables kind new) ≡ set (map entities_in tables) kind
    (option_map_or entities_in (slice_get tables kind) [] ++ e ∷ [])
values-more tables kind old new e within at is =
    map-set entities_in tables kind new
    ∙ ap (set (map entities_in tables) kind) (is ∙ ap (λ es. es ++ e ∷ []) (sym (kind-values tables kind old
    within at)))
