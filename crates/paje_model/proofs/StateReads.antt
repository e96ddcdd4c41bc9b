-- What the tables tell of the track that a state event names.
use Rattle.std.proofs.Common.{◌≡◌, ℕ, false, not, List, [], length, map, position}
use Rattle.std.proofs.Common.{slice_get, get_or, Option, Some, None, is_some, is_none, refl, sym, ap, ◌∙◌}
use Rattle.std.specs.List.{list_any}
use Rattle.std.specs.Option.{option_and_then, option_map, option_map_or}
use Rattle.std.specs.Str.{bytes_eq}
use Rattle.std.proofs.lemmas.List.{length-map}
use Rattle.std.proofs.lemmas.List.Quantifiers.{position-Some}
use Rattle.std.proofs.lemmas.Option.{slice_get-get_or, slice_get-map}
use Rattle.list_lemmas.proofs.Found.{any-place}
use Rattle.trace_base.specs.declared.names.Track.{Track}
use Rattle.paje_lines.specs.Containers.{DeclaredContainer, container_start, containers_in, destruction}
use Rattle.paje_lines.specs.EventLine.{EventLine}
use Rattle.paje_lines.specs.Found.{root}
use Rattle.paje_lines.specs.Reasons.{met}
use Rattle.paje_lines.specs.States.{entered_text, functions_entered, is_same, track_named, tracks_in}
use Rattle.paje_lines.proofs.Tracks.{tells_track, track_exists}
use Rattle.paje_model.specs.declared.container_table.Destruction.{Destruction}
use Rattle.paje_model.specs.declared.container_table.Existing.{Existing}
use Rattle.paje_model.specs.declared.function_place.FunctionPlace.{FunctionPlace}
use Rattle.paje_model.specs.declared.function_place.FunctionPlace.TheVariants.{At, New}
use Rattle.paje_model.specs.declared.known.Known.{Known}
use Rattle.paje_model.specs.declared.open_track.OpenTrack.{OpenTrack}
use Rattle.paje_model.specs.declared.state_met.StateMet.{StateMet}
use Rattle.paje_model.specs.Existing.{existing_at}
use Rattle.paje_model.specs.FunctionPlace.{function_place, is_new}
use Rattle.paje_model.specs.FunctionTable.{functions_kept}
use Rattle.paje_model.specs.Known.{IsKnown}
use Rattle.paje_model.specs.MadeTracks.{made_of}
use Rattle.paje_model.specs.StateMet.{Reads}
use Rattle.paje_model.proofs.ContainersSoFar.{existing-get}
use Rattle.paje_model.proofs.TracksSoFar.{made-fresh}

-- ---- its container

pub record HasContainer (before : List EventLine) (k : Known) (c : ℕ) : Type 0 where
  pub declared : DeclaredContainer
  pub found : slice_get k.containers.list.items c ≡ Some (existing_at before (c, declared))
  pub start : declared.start ≡ container_start before c

pub has_container : (before : List EventLine) (line : EventLine) (k : Known) (track : Track)
    → IsKnown before k → track_named before line ≡ Some track → HasContainer before k track.container
has_container before line k track known named =
    let c = track.container in
    let d : DeclaredContainer = get_or (containers_in before) c (record { entity = root; start = 0 }) in
    let at : slice_get (containers_in before) c ≡ Some d = slice_get-get_or (containers_in before) c
    (record { entity = root; start = 0 }) (track_exists before line track named).0 in
    record {
      declared = d;
      found = ap (λ es. slice_get es c) known.containers.existing ∙ (existing-get before c
          ∙ ap (option_map (λ d. existing_at before (c, d))) at);
      start = sym (ap (λ o. option_map_or (λ (d : DeclaredContainer). d.start) o 0) at);
    }

-- ---- what was made of it

pub tracks-at : (tracks : List Track) (track : Track) (place : ℕ) → position
    (is_same track) tracks ≡ Some place
    → slice_get tracks place ≡ Some track
tracks-at tracks track place is =
    let at = position-Some (is_same track) tracks place track is in
    slice_get-get_or tracks place track at.0
    ∙ ap (λ t. Some t) (sym ((tells_track track (get_or tracks place track)).0 at.1))

-- the track that is found at its place, or a fresh one
pub made_found : (before : List EventLine) (track : Track) (list : List OpenTrack) (place : Option ℕ)
    → list ≡ map (made_of before) (tracks_in before)
    → place ≡ position (is_same track) (tracks_in before)
    → option_map_or (λ t. t) (option_and_then (slice_get list) place)
    (record { events = []; open_calls = 0; last = container_start before track.container }) ≡ made_of before
    track
made_found before track list None are is = sym (made-fresh before track (sym is))
made_found before track list (Some place) are is =
    ap (λ o. option_map_or (λ (t : OpenTrack). t) o (record {
      events = [];
      open_calls = 0;
      last = container_start before track.container;
    })) (ap (λ ts. slice_get ts place) are ∙ (slice_get-map (made_of before) (tracks_in before) place
    ∙ ap (option_map (made_of before)) (tracks-at (tracks_in before) track place (sym is))))

pub last-found : (found : Option OpenTrack) (start : ℕ) → option_map_or (λ t. t.last) found start
    ≡ (option_map_or (λ (t : OpenTrack). t) found (record { events = []; open_calls = 0; last = start })).last
last-found None start = refl
last-found (Some t) start = refl

pub open-found : (found : Option OpenTrack) (start : ℕ) → option_map_or (λ t. t.open_calls) found 0
    ≡ (option_map_or (λ (t : OpenTrack). t) found (record {
      events = [];
      open_calls = 0;
      last = start;
    })).open_calls
open-found None start = refl
open-found (Some t) start = refl

-- ---- whether they are new

pub new_track : (before : List EventLine) (track : Track) (place : Option ℕ)
    → place ≡ position (is_same track) (tracks_in before)
    → is_none place ≡ not (list_any (is_same track) (tracks_in before))
new_track before track place is = by place ∙ ap not (sym (any-place (is_same track) (tracks_in before)
    ∙ ap is_some (sym is)))
  where
    by : (o : Option ℕ) → is_none o ≡ not (is_some o)
    by None = refl
    by (Some n) = refl

new_among : (functions : List (List ℕ)) (entered : Option (List ℕ)) → is_new
    (function_place functions entered)
    ≡ option_map_or (λ text. not (list_any (bytes_eq text) functions)) entered false
new_among functions None = refl
new_among functions (Some text) = by (position (bytes_eq text) functions)
    ∙ ap not (sym (any-place (bytes_eq text)
    functions))
  where
    by : (o : Option ℕ) → is_new (option_map_or At o New) ≡ not (is_some o)
    by None = refl
    by (Some n) = refl

-- ---- all of it

-- what the code read
pub record Told (before : List EventLine) (line : EventLine) (k : Known) (track : Track) (read : StateMet)
    (place : Option ℕ) (function : FunctionPlace) : Type 0 where
  pub at : place ≡ position (is_same track) (tracks_in before)
  pub entered : function ≡ function_place (functions_entered before)
      (entered_text (record { before = before; line = line }))
  pub destroyed : (e : Existing) → slice_get k.containers.list.items track.container ≡ Some e
      → read.destroyed ≡ option_map (λ d. d.line) e.destruction
  pub last_time : (e : Existing) → slice_get k.containers.list.items track.container ≡ Some e
      → read.last_time ≡ option_map_or (λ t. t.last) (option_and_then (slice_get k.tracks.list.items) place)
      e.start
  pub open_calls : read.open_calls
      ≡ option_map_or (λ t. t.open_calls) (option_and_then (slice_get k.tracks.list.items) place) 0
  pub states : read.states ≡ k.states
  pub tracks : read.tracks ≡ length k.tracks.list.items
  pub is_new_track : read.is_new_track ≡ is_none place
  pub functions : read.functions ≡ length (functions_kept k.functions)
  pub is_new_function : read.is_new_function ≡ is_new function

twice-mapped : (o : Option EventLine) → option_map (λ (d : Destruction). d.line) (option_map
    (λ line. record { line = line.number; time = line.time }) o) ≡ option_map (λ line. line.number) o
twice-mapped None = refl
twice-mapped (Some line) = refl

pub reads : (before : List EventLine) (line : EventLine) (k : Known) (track : Track) (read : StateMet)
    (place : Option ℕ) (function : FunctionPlace) → IsKnown before k → track_named before line ≡ Some track
    → Told before line k track read place function → Reads read (met before line track)
reads before line k track read place function known named told =
    let has = has_container before line k track known named in
    let start = container_start before track.container in
    let e : Existing = existing_at before (track.container, has.declared) in
    let found = option_and_then (slice_get k.tracks.list.items) place in
    let made = made_found before track k.tracks.list.items place known.tracks.made told.at in
    record {
      destroyed = told.destroyed e has.found ∙ twice-mapped (destruction before track.container);
      last_time = told.last_time e has.found ∙ (ap (option_map_or (λ t. t.last) found) has.start
          ∙ (last-found found start ∙ ap (λ (t : OpenTrack). t.last) made));
      open_calls = told.open_calls ∙ (open-found found start ∙ ap (λ (t : OpenTrack). t.open_calls) made);
      states = told.states ∙ known.states;
      tracks = told.tracks ∙ (ap length known.tracks.made ∙ length-map (tracks_in before) (made_of before));
      is_new_track = told.is_new_track ∙ new_track before track place told.at;
      functions = told.functions ∙ ap length known.functions;
      is_new_function = told.is_new_function ∙ (ap is_new told.entered ∙ new_among (functions_entered before)
          (entered_text (record { before = before; line = line })));
    }
