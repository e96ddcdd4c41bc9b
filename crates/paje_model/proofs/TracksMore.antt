-- The last time of each track, after one more line; the tracks, by whether one of them is the line's.
use Rattle.std.proofs.Common.{◌≡◌, ◌<◌, true, false, cond, List, [], ◌∷◌, ◌++◌, length, filter, position}
use Rattle.std.proofs.Common.{Some, None, refl, sym, ◌∙◌, ap}
use Rattle.std.specs.List.{last_or, list_any}
use Rattle.std.specs.Option.{option_map_or}
use Rattle.std.proofs.lemmas.Bool.{false_from_ne_true}
use Rattle.std.proofs.lemmas.List.{append-nil}
use Rattle.std.proofs.lemmas.List.Elements.{filter-append}
use Rattle.list_lemmas.proofs.Found.{any-place}
use Rattle.list_lemmas.proofs.Last.{last-push}
use Rattle.trace_base.specs.declared.names.Track.{Track}
use Rattle.paje_defs.specs.Refusals.{Placed, placed}
use Rattle.paje_defs.proofs.PlacedMore.{placed-more}
use Rattle.paje_lines.specs.EventLine.{EventLine}
use Rattle.paje_lines.specs.Containers.{container_start, containers_in}
use Rattle.paje_lines.specs.Found.{distinct_by}
use Rattle.paje_lines.specs.States.{is_on, is_same, last_time, states_of, track_at, tracks_in}
use Rattle.paje_lines.proofs.Containers.{start-more}
use Rattle.paje_lines.proofs.Tracks.{tells_track}
use Rattle.paje_model.proofs.KeptFacts.{told-kept}
use Rattle.paje_model.proofs.TracksSoFar.{tracks-more}

abbrev pub at_end : List EventLine → EventLine → Placed EventLine
at_end lines line = record { before = lines; line = line }

pub other_track : (s t : Track) → (s.container ≡ t.container → ⊥) → is_same s t ≡ false
other_track s t apart = false_from_ne_true (is_same s t)
    (λ e. apart (ap (λ u. u.container) ((tells_track s t).0 e)))

-- ---- the tracks

pub tracks-stay : (lines : List EventLine) (line : EventLine) → track_at (at_end lines line) ≡ None
    → tracks_in (lines ++ line ∷ []) ≡ tracks_in lines
tracks-stay lines line none = ap (distinct_by is_same) (told-kept track_at lines line none)

-- one more exactly where it is new
pub tracks-next : (lines : List EventLine) (line : EventLine) (t : Track)
    → track_at (at_end lines line) ≡ Some t
    → tracks_in (lines ++ line ∷ []) ≡ tracks_in lines ++ cond (list_any (is_same t) (tracks_in lines)) []
    (t ∷ [])
tracks-next lines line t is = tracks-more lines line t (position (is_same t) (tracks_in lines)) is refl
    ∙ ap (λ b. tracks_in lines ++ cond b [] (t ∷ [])) (sym (any-place (is_same t) (tracks_in lines)))

-- ---- the last time of a track

states-more : (lines : List EventLine) (line : EventLine) (t : Track)
    → states_of (lines ++ line ∷ []) t ≡ states_of lines t
    ++ cond (is_on t (at_end lines line)) (at_end lines line ∷ []) []
states-more lines line t = ap (filter (is_on t)) (placed-more lines line)
    ∙ filter-append (is_on t) (placed lines) (at_end lines line ∷ [])

-- that of a line on it
pub last_time-on : (lines : List EventLine) (line : EventLine) (t : Track)
    → is_on t (at_end lines line) ≡ true → last_time (lines ++ line ∷ []) t ≡ line.time
last_time-on lines line t on =
    ap (λ ps. option_map_or (λ p. p.line.time) (last_or None ps)
    (container_start (lines ++ line ∷ []) t.container))
    (states-more lines line t ∙ ap (λ b. states_of lines t ++ cond b (at_end lines line ∷ []) []) on)
    ∙ ap (λ o. option_map_or (λ p. p.line.time) o (container_start (lines ++ line ∷ []) t.container))
    (last-push (states_of lines t) (at_end lines line))

-- else the same
pub last_time-off : (lines : List EventLine) (line : EventLine) (t : Track)
    → is_on t (at_end lines line) ≡ false → t.container < length (containers_in lines)
    → last_time (lines ++ line ∷ []) t ≡ last_time lines t
last_time-off lines line t off within =
    ap (λ ps. option_map_or (λ p. p.line.time) (last_or None ps)
    (container_start (lines ++ line ∷ []) t.container))
    (states-more lines line t ∙ (ap (λ b. states_of lines t ++ cond b (at_end lines line ∷ []) []) off
    ∙ append-nil (states_of lines t)))
    ∙ ap (λ start. option_map_or (λ p. p.line.time) (last_or None (states_of lines t)) start)
    (start-more lines line t.container within)
