-- What a table of tracks finds, by the keys of its map.
use Rattle.std.proofs.Common.{◌≡◌, Bool, List, [], ◌∷◌, ◌++◌, sym, ap, ◌∙◌, map, position, None, ◌&&◌, ◌==◌}
use Rattle.std.specs.Map.{keys_of}
use Rattle.std.proofs.lemmas.List.{map-append}
use Rattle.indexmap.specs.IndexMap.{insert_entry}
use Rattle.indexmap.proofs.MapLemmas.{absent_from_lookup, insert_entry-absent}
use Rattle.list_lemmas.proofs.Places.{position-map}
use Rattle.paje_model.specs.declared.track_table.Pair.{Pair}
use Rattle.paje_lines.specs.States.{is_same}
use Rattle.paje_model.specs.TrackTable.{track_of}
use Rattle.paje_model.proofs.DeclaredEntities.{missed}

abbrev same_pair : Pair → Pair → Bool
same_pair p q = (p.container == q.container) && (p.kind == q.kind)

pub pair-place : {X : Type 0} (p : Pair) (es : List (Pair × X))
    → position (λ q. (p.container == q.container) && (p.kind == q.kind)) (keys_of es)
    ≡ position (is_same (track_of p)) (map track_of (keys_of es))
pair-place p es = sym (position-map (is_same (track_of p)) track_of (keys_of es))

pub pairs-more : {X : Type 0} (p : Pair) (es new : List (Pair × X)) (x : X)
    → position (is_same (track_of p)) (map track_of (keys_of es)) ≡ None
    → new ≡ insert_entry (λ p q. (p.container == q.container) && (p.kind == q.kind)) es p x
    → map track_of (keys_of new) ≡ map track_of (keys_of es) ++ track_of p ∷ []
pairs-more p es new x none into =
    ap (λ es. map track_of (keys_of es)) (into ∙ insert_entry-absent same_pair p x es
    (absent_from_lookup (same_pair p) es (missed (same_pair p) es (pair-place p es ∙ none))))
    ∙ (ap (map track_of) (map-append (λ e. e.0) es ((p, x) ∷ []))
    ∙ map-append track_of (keys_of es) (p ∷ []))
