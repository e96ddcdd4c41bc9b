-- The tracks after a state event that names one of them, and what was made of each.
use Rattle.std.proofs.Common.{◌≡◌, ℕ, Bool, true, false, cond, ◌||◌, slice_get, unwrap_or, List, [], ◌∷◌}
use Rattle.std.proofs.Common.{◌++◌}
use Rattle.std.proofs.Common.{length, map, filter, filter_map, set, position, Option, Some, None, is_some}
use Rattle.std.proofs.Common.{refl}
use Rattle.std.proofs.Common.{sym, ap, ◌∙◌}
use Rattle.std.specs.List.{cons_option, flat_map, last_or, list_any, position_or_len}
use Rattle.std.specs.Option.{option_map_or, option_to_list}
use Rattle.std.proofs.lemmas.Bool.{true≢false}
use Rattle.std.proofs.lemmas.List.{append-nil, flat_map_more, map-append}
use Rattle.list_lemmas.proofs.Distinct.{map_one, same_swap}
use Rattle.list_lemmas.proofs.Found.{any-place}
use Rattle.list_lemmas.proofs.Last.{last-push}
use Rattle.list_lemmas.proofs.Places.{place_new, placed_at}
use Rattle.trace_base.specs.declared.names.Track.{Track}
use Rattle.trace_base.specs.declared.stream.Event.{Event}
use Rattle.paje_defs.specs.Refusals.{Placed, placed}
use Rattle.paje_lines.specs.Containers.{containers_in, container_start}
use Rattle.paje_lines.specs.EventLine.{EventLine}
use Rattle.paje_lines.specs.Found.{distinct_by}
use Rattle.paje_lines.specs.States.{functions_entered, is_on, is_same, open_behind, states_of, track_at}
use Rattle.paje_lines.specs.States.{tracks_in}
use Rattle.paje_lines.specs.Text.{events_at}
use Rattle.paje_model.specs.declared.open_track.OpenTrack.{OpenTrack}
use Rattle.paje_model.specs.MadeTracks.{made_of}
use Rattle.paje_defs.proofs.PlacedMore.{told-more}
use Rattle.paje_lines.proofs.DistinctItems.{distinct_apart}
use Rattle.paje_lines.proofs.Tracks.{tells_track}
use Rattle.paje_lines.proofs.MoreStates.{states-more}
use Rattle.paje_model.proofs.Different.{any-distinct, distinct-next}
use Rattle.paje_model.proofs.FunctionsSoFar.{events_numbered}

-- ---- the tracks, and the state events of each

-- it goes last where it isn't there
pub tracks-more : (lines : List EventLine) (line : EventLine) (track : Track) (place : Option ℕ)
    → track_at (record { before = lines; line = line }) ≡ Some track
    → position (is_same track) (tracks_in lines) ≡ place
    → tracks_in (lines ++ line ∷ []) ≡ tracks_in lines ++ cond (is_some place) [] (track ∷ [])
tracks-more lines line track place is at =
    ap (distinct_by is_same) (told-more track_at lines line
    ∙ ap (λ o. filter_map track_at (placed lines) ++ option_to_list o) is)
    ∙ distinct-next is_same tells_track (filter_map track_at (placed lines)) track place at

on-by : (lines : List EventLine) (line : EventLine) (track t : Track) (b : Bool)
    → track_at (record { before = lines; line = line }) ≡ Some track → is_same t track ≡ b
    → is_on t (record { before = lines; line = line }) ≡ b
on-by lines line track t b is same = ap (λ o. option_map_or (is_same t) o false) is ∙ same

pub states-on : (lines : List EventLine) (line : EventLine) (track : Track)
    → track_at (record { before = lines; line = line }) ≡ Some track
    → states_of (lines ++ line ∷ []) track ≡ states_of lines track ++ record { before = lines; line = line } ∷
    []
states-on lines line track is = states-more lines line track true (on-by lines line track track true is
    ((tells_track track track).1 refl))

pub states-off : (lines : List EventLine) (line : EventLine) (track t : Track)
    → track_at (record { before = lines; line = line }) ≡ Some track → is_same track t ≡ false
    → states_of (lines ++ line ∷ []) t ≡ states_of lines t
states-off lines line track t is other = states-more lines line t false (on-by lines line track t false is
    (same_swap is_same tells_track t track ∙ other)) ∙ append-nil (states_of lines t)

none-on : (track : Track) (ps : List (Placed EventLine)) → list_any (is_same track) (filter_map track_at ps)
    ≡ false → filter (is_on track) ps ≡ []
none-on track [] none = refl
none-on track (p ∷ ps) none = by (track_at p) none (none-on track ps)
  where
    by_test : (b : Bool) (any : Bool) → (b || any) ≡ false → (any ≡ false → filter (is_on track) ps ≡ [])
        → cond b (p ∷ filter (is_on track) ps) (filter (is_on track) ps) ≡ []
    by_test true any none later = absurd (true≢false none)
    by_test false any none later = later none

    by : (o : Option Track) → list_any (is_same track) (cons_option o (filter_map track_at ps)) ≡ false
        → (list_any (is_same track) (filter_map track_at ps) ≡ false → filter (is_on track) ps ≡ [])
        → cond (option_map_or (is_same track) o false) (p ∷ filter (is_on track) ps) (filter (is_on track) ps)
        ≡ []
    by None none later = later none
    by (Some t) none later = by_test (is_same track t) (list_any (is_same track)
        (filter_map track_at ps)) none
        later

-- a track that isn't there has none
pub states-none : (lines : List EventLine) (track : Track)
    → position (is_same track) (tracks_in lines) ≡ None → states_of lines track ≡ []
states-none lines track none = none-on track (placed lines)
    (sym (any-distinct is_same tells_track track (filter_map track_at (placed lines)))
    ∙ (any-place (is_same track) (tracks_in lines) ∙ ap is_some none))

-- ---- what was made of each

-- what a line changes: the track that it names, and the functions that it adds
pub record Stated (lines : List EventLine) (line : EventLine) (track : Track) (new : List
    (List ℕ)) : Type 0 where
  pub at : track_at (record { before = lines; line = line }) ≡ Some track
  pub containers : containers_in (lines ++ line ∷ []) ≡ containers_in lines
  pub functions : functions_entered (lines ++ line ∷ []) ≡ functions_entered lines ++ new

-- what state events make of a track that has these functions and this start
abbrev built : List (List ℕ) → ℕ → Track → List (Placed EventLine) → OpenTrack
built functions start t ps = record {
  events = flat_map (events_at functions t) ps;
  open_calls = open_behind (map (λ p. p.line.event) ps);
  last = option_map_or (λ p. p.line.time) (last_or None ps) start;
}

start-kept : (lines : List EventLine) (line : EventLine) (track : Track) (new : List (List ℕ)) (c : ℕ)
    → Stated lines line track new → container_start (lines ++ line ∷ []) c ≡ container_start lines c
start-kept lines line track new c is = ap (λ cs. option_map_or (λ c. c.start)
    (slice_get cs c) 0) is.containers

events-kept : (lines : List EventLine) (line : EventLine) (track : Track) (new : List (List ℕ)) (t : Track)
    → Stated lines line track new
    → flat_map (events_at (functions_entered (lines ++ line ∷ [])) t) (states_of lines t)
    ≡ flat_map (events_at (functions_entered lines) t) (states_of lines t)
events-kept lines line track new t is =
    ap (λ fs. flat_map (events_at fs t) (states_of lines t)) is.functions ∙ events_numbered lines new t

-- another track stays
pub made-other : (lines : List EventLine) (line : EventLine) (track : Track) (new : List (List ℕ)) (t : Track)
    → Stated lines line track new → is_same track t ≡ false
    → made_of (lines ++ line ∷ []) t ≡ made_of lines t
made-other lines line track new t is other =
    let after = lines ++ line ∷ [] in
    ap (built (functions_entered after) (container_start after t.container) t) (states-off lines line track t
    is.at other)
    ∙ (ap (λ n. built (functions_entered after) n t (states_of lines t)) (start-kept lines line track new
    t.container is)
    ∙ ap (λ (es : List Event). record (made_of lines t) { events = es })
    (events-kept lines line track new t is))

-- the track that it names has its events more
pub made-next : (lines : List EventLine) (line : EventLine) (track : Track) (new : List (List ℕ))
    → Stated lines line track new → made_of (lines ++ line ∷ []) track ≡ record {
      events = (made_of lines track).events ++ events_at (functions_entered (lines ++ line ∷ [])) track
          (record { before = lines; line = line });
      open_calls = open_behind (map (λ p. p.line.event) (states_of lines track) ++ line.event ∷ []);
      last = line.time;
    }
made-next lines line track new is =
    let after = lines ++ line ∷ [] in
    let at : Placed EventLine = record { before = lines; line = line } in
    let make = events_at (functions_entered after) track in
    let start = container_start after track.container in
    let ps = states_of lines track in
    ap (built (functions_entered after) start track) (states-on lines line track is.at)
    ∙ (ap (λ es. record {
      events = es;
      open_calls = open_behind (map (λ p. p.line.event) (ps ++ at ∷ []));
      last = option_map_or (λ p. p.line.time) (last_or None (ps ++ at ∷ [])) start;
    }) (sym (flat_map_more make [] ps at) ∙ ap (λ es. es ++ make at) (events-kept lines line track new track
    is))
    ∙ (ap (λ es. record {
      events = (made_of lines track).events ++ make at;
      open_calls = open_behind es;
      last = option_map_or (λ p. p.line.time) (last_or None (ps ++ at ∷ [])) start;
    }) (map-append (λ p. p.line.event) ps (at ∷ []))
    ∙ ap (λ o. record {
      events = (made_of lines track).events ++ make at;
      open_calls = open_behind (map (λ p. p.line.event) ps ++ line.event ∷ []);
      last = option_map_or (λ p. p.line.time) o start;
    }) (last-push ps at)))

-- a track that isn't there has no events yet
pub made-fresh : (lines : List EventLine) (track : Track)
    → position (is_same track) (tracks_in lines) ≡ None
    → made_of lines track ≡ record {
      events = [];
      open_calls = 0;
      last = container_start lines
          track.container;
    }
made-fresh lines track none = ap (built (functions_entered lines) (container_start lines track.container)
    track)
    (states-none lines track none)

-- ---- the table

-- what was made of the tracks before the line; of a new one, nothing
pub made_before : (lines : List EventLine) (track : Track) (place : Option ℕ)
    → position (is_same track) (tracks_in lines) ≡ place
    → map (made_of lines) (tracks_in lines ++ cond (is_some place) [] (track ∷ []))
    ≡ map (made_of lines) (tracks_in lines) ++ cond (is_some place) []
    (record { events = []; open_calls = 0; last = container_start lines track.container } ∷ [])
made_before lines track (Some n) at = ap (map (made_of lines)) (append-nil (tracks_in lines))
    ∙ sym (append-nil (map (made_of lines) (tracks_in lines)))
made_before lines track None at = map-append (made_of lines) (tracks_in lines) (track ∷ [])
    ∙ ap (λ t. map (made_of lines) (tracks_in lines) ++ t ∷ []) (made-fresh lines track at)

-- where the track stands, among those that are there with it
abbrev pub place_of : List EventLine → Option ℕ → ℕ
place_of lines place = unwrap_or place (length (tracks_in lines))

place_by : (lines : List EventLine) (track : Track) (place : Option ℕ)
    → position (is_same track) (tracks_in lines) ≡ place
    → position_or_len (is_same track) (tracks_in lines ++ cond (is_some place) [] (track ∷ []))
    ≡ place_of lines place
place_by lines track None at = place_new (is_same track) (tracks_in lines) track
    (any-place (is_same track) (tracks_in lines) ∙ ap is_some at) ((tells_track track track).1 refl)
place_by lines track (Some n) at = ap (position_or_len (is_same track)) (append-nil (tracks_in lines))
    ∙ placed_at (is_same track) (tracks_in lines) n at

-- what was made of each, the track with its events more
pub made_after : (lines : List EventLine) (line : EventLine) (track : Track) (new : List (List ℕ))
    (place : Option ℕ) → Stated lines line track new → position (is_same track) (tracks_in lines) ≡ place
    → map (made_of (lines ++ line ∷ [])) (tracks_in (lines ++ line ∷ []))
    ≡ set (map (made_of lines) (tracks_in lines) ++ cond (is_some place) []
    (record { events = []; open_calls = 0; last = container_start lines track.container } ∷ []))
    (place_of lines place) (made_of (lines ++ line ∷ []) track)
made_after lines line track new place is at =
    let after = lines ++ line ∷ [] in
    let all = tracks_in lines ++ cond (is_some place) [] (track ∷ []) in
    let tracks : tracks_in after ≡ all = tracks-more lines line track place is.at at in
    map_one is_same tells_track (made_of lines) (made_of after) track
    (λ t other. made-other lines line track new t is other) (tracks_in after)
    (distinct_apart is_same (filter_map track_at (placed after)))
    ∙ (ap (λ ts. set (map (made_of lines) ts) (position_or_len (is_same track) ts)
    (made_of after track)) tracks
    ∙ (ap (λ n. set (map (made_of lines) all) n (made_of after track)) (place_by lines track place at)
    ∙ ap (λ ms. set ms (place_of lines place) (made_of after track)) (made_before lines track place at)))
