-- What a line leaves of each fact that it doesn't concern.
use Rattle.std.proofs.Common.{◌≡◌, ℕ, ◌==◌, ◌&&◌, ◌<◌, false, List, [], ◌∷◌, ◌++◌}
use Rattle.std.proofs.Common.{length, map}
use Rattle.std.proofs.Common.{filter, filter_map, find, fold, max, slice_get}
use Rattle.std.proofs.Common.{Option, None, refl, sym, ap, ◌∙◌}
use Rattle.std.specs.List.{last_or, range_with_len, enumerate_from}
use Rattle.std.specs.Option.{option_map, option_map_or, option_to_list}
use Rattle.std.specs.Str.{bytes_eq}
use Rattle.std.proofs.Math.Path.{fun_ext}
use Rattle.std.proofs.lemmas.List.{append-nil}
use Rattle.list_lemmas.proofs.Filters.{count-kept, filter-failed}
use Rattle.list_lemmas.proofs.Found.{find_kept}
use Rattle.list_lemmas.proofs.Options.{cond_unless}
use Rattle.trace_base.specs.declared.names.Track.{Track}
use Rattle.paje_defs.specs.declared.event_name.EventName.{EventName}
use Rattle.paje_defs.specs.declared.event_name.EventName.TheVariants as events
use Rattle.paje_defs.specs.declared.role.Role.TheVariants as roles
use Rattle.paje_defs.specs.Refusals.{Placed, placed}
use Rattle.paje_lines.specs.EventLine.{EventLine, text_of, is_state_type, is_state_event, is_link_event}
use Rattle.paje_lines.specs.EventLine.{defines_value, creates, destroys, enters}
use Rattle.paje_lines.specs.Found.{distinct_by, root}
use Rattle.paje_lines.specs.Types.{state_types}
use Rattle.paje_lines.specs.Values.{value_at, values_in, values_of}
use Rattle.paje_lines.specs.Containers.{DeclaredContainer, containers_in, container_named}
use Rattle.paje_lines.specs.Containers.{container_start, created_by, destruction, ends_container}
use Rattle.paje_lines.specs.States.{track_at, track_named, tracks_in, is_on, is_same, states_of, states_in}
use Rattle.paje_lines.specs.States.{last_time, latest, open_calls, open_behind, entered_text}
use Rattle.paje_lines.specs.States.{functions_entered, container_tracks}
use Rattle.paje_lines.specs.Text.{link_at, links_of}
use Rattle.paje_lines.specs.Reasons.{event_reason, event_reason_at, event_refusal}
use Rattle.paje_lines.proofs.Containers.{start-more}
use Rattle.paje_model.specs.declared.container_table.ContainerTable.{ContainerTable}
use Rattle.paje_model.specs.declared.value_table.ValueTable.{ValueTable}
use Rattle.paje_model.specs.Existing.{AreContainers, existing_at, track_places}
use Rattle.paje_model.specs.Known.{AreValues}
use Rattle.paje_defs.proofs.PlacedMore.{found-more, placed-more, told-more}
use Rattle.paje_defs.proofs.RefusedMore.{refusal-next}

-- ---- lists that a line adds nothing to

pub told-kept : {Y : Type 0} (f : Placed EventLine → Option Y) (lines : List EventLine) (line : EventLine)
    → f (record { before = lines; line = line }) ≡ None
    → filter_map f (placed (lines ++ line ∷ [])) ≡ filter_map f (placed lines)
told-kept f lines line none = told-more f lines line
    ∙ (ap (λ o. filter_map f (placed lines) ++ option_to_list o) none
    ∙ append-nil (filter_map f (placed lines)))

-- ---- the containers

-- a line that creates none
pub containers-kept : (lines : List EventLine) (line : EventLine) → creates line.event ≡ false
    → containers_in (lines ++ line ∷ []) ≡ containers_in lines
containers-kept lines line never = ap (λ ls. record { entity = root; start = 0 } ∷ map created_by ls)
    (filter-failed (λ l. creates l.event) lines line never)

-- a line that destroys none
pub destruction-kept : (lines : List EventLine) (line : EventLine) (container : ℕ)
    → destroys line.event ≡ false → destruction (lines ++ line ∷ []) container ≡ destruction lines container
destruction-kept lines line container never = ap (option_map (λ p. p.line))
    (found-more (ends_container container) lines line
    ∙ find_kept (ends_container container) (find (ends_container container) (placed lines))
    (record { before = lines; line = line }) (ap (λ b. b && option_map_or (λ c. c == container)
    (container_named lines (text_of line roles.Name)) false) never))

-- ---- the tracks

track_untold : (lines : List EventLine) (line : EventLine) → is_state_event line.event ≡ false
    → track_at (record { before = lines; line = line }) ≡ None
track_untold lines line never = cond_unless (is_state_event line.event) (track_named lines line) never

-- a line that is no state event
pub tracks-kept : (lines : List EventLine) (line : EventLine) → is_state_event line.event ≡ false
    → tracks_in (lines ++ line ∷ []) ≡ tracks_in lines
tracks-kept lines line never = ap (distinct_by is_same) (told-kept track_at lines line
    (track_untold lines line never))

pub states-kept : (lines : List EventLine) (line : EventLine) (track : Track)
    → is_state_event line.event ≡ false → states_of (lines ++ line ∷ []) track ≡ states_of lines track
states-kept lines line track never =
    ap (filter (is_on track)) (placed-more lines line)
    ∙ filter-failed (is_on track) (placed lines) (record { before = lines; line = line })
    (ap (λ o. option_map_or (is_same track) o false) (track_untold lines line never))

pub open-kept : (lines : List EventLine) (line : EventLine) (track : Track)
    → is_state_event line.event ≡ false → open_calls (lines ++ line ∷ []) track ≡ open_calls lines track
open-kept lines line track never = ap (λ ps. open_behind (map (λ p. p.line.event) ps))
    (states-kept lines line track never)

pub count_of_states-kept : (lines : List EventLine) (line : EventLine) → is_state_event line.event ≡ false
    → states_in (lines ++ line ∷ []) ≡ states_in lines
count_of_states-kept lines line never = count-kept (λ l. is_state_event l.event) lines line never

-- that of a track whose container was there
pub last_time-kept : (lines : List EventLine) (line : EventLine) (track : Track)
    → is_state_event line.event ≡ false → track.container < length (containers_in lines)
    → last_time (lines ++ line ∷ []) track ≡ last_time lines track
last_time-kept lines line track never within =
    ap (λ ps. option_map_or (λ p. p.line.time) (last_or None ps)
    (container_start (lines ++ line ∷ []) track.container)) (states-kept lines line track never)
    ∙ ap (option_map_or (λ p. p.line.time) (last_or None (states_of lines track)))
    (start-more lines line track.container within)

-- also of one whose container wasn't, where the line creates none
last_time-same : (lines : List EventLine) (line : EventLine) (track : Track)
    → is_state_event line.event ≡ false → creates line.event ≡ false
    → last_time (lines ++ line ∷ []) track ≡ last_time lines track
last_time-same lines line track never creates_none =
    ap (λ ps. option_map_or (λ p. p.line.time) (last_or None ps)
    (container_start (lines ++ line ∷ []) track.container)) (states-kept lines line track never)
    ∙ ap (λ cs. option_map_or (λ p. p.line.time) (last_or None (states_of lines track))
    (option_map_or (λ c. c.start) (slice_get cs track.container) 0))
    (containers-kept lines line creates_none)

pub latest-kept : (lines : List EventLine) (line : EventLine) (container : ℕ)
    → is_state_event line.event ≡ false → creates line.event ≡ false
    → latest (lines ++ line ∷ []) container ≡ latest lines container
latest-kept lines line container never creates_none =
    ap (λ ts. fold max (container_start (lines ++ line ∷ []) container) (map (last_time (lines ++ line ∷ []))
    (filter (λ track. track.container == container) ts))) (tracks-kept lines line never)
    ∙ (ap (λ times. fold max (container_start (lines ++ line ∷ []) container)
    (map times (container_tracks lines container)))
    (fun_ext (λ track. last_time-same lines line track never creates_none))
    ∙ ap (λ cs. fold max (option_map_or (λ c. c.start) (slice_get cs container) 0)
    (map (last_time lines) (container_tracks lines container))) (containers-kept lines line creates_none))

-- ---- what the tables stand for

existing-kept : (lines : List EventLine) (line : EventLine) → is_state_event line.event ≡ false
    → creates line.event ≡ false → destroys line.event ≡ false → (p : ℕ × DeclaredContainer)
    → existing_at (lines ++ line ∷ []) p ≡ existing_at lines p
existing-kept lines line never creates_none destroys_none p =
    let found : destruction (lines ++ line ∷ []) p.0 ≡ destruction lines p.0
    = destruction-kept lines line p.0 destroys_none in
    let times : latest (lines ++ line ∷ []) p.0 ≡ latest lines p.0
    = latest-kept lines line p.0 never creates_none in
    let places : track_places (lines ++ line ∷ []) p.0 ≡ track_places lines p.0
    = ap (λ ts. filter (λ place. option_map_or (λ track. track.container == p.0) (slice_get ts place) false)
    (range_with_len 0 (length ts))) (tracks-kept lines line never) in
    cc (found, times, places)

-- the containers, after a line that neither creates nor destroys one and is no state event
pub AreContainers-kept : (lines : List EventLine) (line : EventLine) (t : ContainerTable)
    → AreContainers lines t → is_state_event line.event ≡ false → creates line.event ≡ false
    → destroys line.event ≡ false → AreContainers (lines ++ line ∷ []) t
AreContainers-kept lines line t are never creates_none destroys_none = record {
  entities = are.entities ∙ ap (map (λ c. c.entity)) (sym (containers-kept lines line creates_none));
  named = are.named;
  existing = are.existing ∙ (ap (λ at. map at (enumerate_from 0 (containers_in lines)))
      (sym (fun_ext (existing-kept lines line never creates_none destroys_none)))
      ∙ ap (λ cs. map (existing_at (lines ++ line ∷ [])) (enumerate_from 0 cs))
      (sym (containers-kept lines line creates_none)));
}

-- a line that defines no value
pub values-kept : (lines : List EventLine) (line : EventLine) → defines_value line.event ≡ false
    → values_in (lines ++ line ∷ []) ≡ values_in lines
values-kept lines line never = told-kept value_at lines line (cond_unless (defines_value line.event) _ never)

-- the values, after a line that tells none and declares no state type
pub AreValues-untold : (lines : List EventLine) (line : EventLine) (t : ValueTable) → AreValues lines t
    → value_at (record { before = lines; line = line }) ≡ None → is_state_type line.event ≡ false
    → AreValues (lines ++ line ∷ []) t
AreValues-untold lines line t are untold kind_none =
    let kept : values_in (lines ++ line ∷ []) ≡ values_in lines = told-kept value_at lines line untold in
    record {
      values = are.values ∙ (ap (λ n. map (values_of lines) (range_with_len 0 n))
          (sym (count-kept (λ l. is_state_type l.event) lines line kind_none))
          ∙ ap (λ vs. map (λ kind. map (λ v. v.entity) (filter (λ v. v.kind == kind) vs))
          (range_with_len 0 (state_types (lines ++ line ∷ [])))) (sym kept));
      named = are.named;
      count = are.count ∙ ap length (sym kept);
    }

-- the values, after a line that declares neither one nor a state type
pub AreValues-kept : (lines : List EventLine) (line : EventLine) (t : ValueTable) → AreValues lines t
    → defines_value line.event ≡ false → is_state_type line.event ≡ false
    → AreValues (lines ++ line ∷ []) t
AreValues-kept lines line t are never kind_none = AreValues-untold lines line t are
    (cond_unless (defines_value line.event) _ never) kind_none

-- a line that enters no call
pub functions-kept : (lines : List EventLine) (line : EventLine) → enters line.event ≡ false
    → functions_entered (lines ++ line ∷ []) ≡ functions_entered lines
functions-kept lines line never = ap (distinct_by bytes_eq) (told-kept entered_text lines line
    (cond_unless (enters line.event) _ never))

pub enters_none : (event : EventName) → is_state_event event ≡ false → enters event ≡ false
enters_none events.PushState never = never
enters_none events.SetState never = never
enters_none _ never = refl

-- a line that is no end of a message
pub links-kept : (lines : List EventLine) (line : EventLine) → is_link_event line.event ≡ false
    → links_of (lines ++ line ∷ []) ≡ links_of lines
links-kept lines line never = told-kept link_at lines line (cond_unless (is_link_event line.event) _ never)

pub unrefused-kept : (lines : List EventLine) (line : EventLine) → event_refusal lines ≡ None
    → event_reason lines line ≡ None → event_refusal (lines ++ line ∷ []) ≡ None
unrefused-kept lines line none is = refusal-next event_reason_at lines line None none is
