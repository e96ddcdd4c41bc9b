-- Each stream of a text fits its track.
use Rattle.std.proofs.Common.{◌≡◌, ℕ, ◌≤◌, List, flat_map, replicate, slice_get, get_or, length, Option}
use Rattle.std.proofs.Common.{Some, None, IfSome, refl, ap, sym, subst, ◌∙◌, arith}
use Rattle.std.specs.Option.{option_map, option_map_or}
use Rattle.std.proofs.lemmas.List.{length-map}
use Rattle.std.proofs.lemmas.Option.{none-some, same_Some, slice_get-map, slice_get-get_or}
use Rattle.trace_base.specs.Stream.{IsLegal}
use Rattle.trace_base.specs.Info.{Fits, Spans}
use Rattle.trace_base.specs.declared.names.Container.{Container}
use Rattle.trace_base.specs.declared.names.Track.{Track}
use Rattle.trace_base.specs.declared.stream.Event.TheVariants.{Leave}
use Rattle.trace_base.specs.declared.stream.TrackStream.{TrackStream}
use Rattle.paje_lines.specs.EventLine.{EventLine, AreInTime}
use Rattle.paje_lines.specs.Found.{root}
use Rattle.paje_lines.specs.Containers.{DeclaredContainer, containers_in, container_start, container_end}
use Rattle.paje_lines.specs.Containers.{destruction, greatest}
use Rattle.paje_lines.specs.States.{tracks_in, states_of, last_time, open_calls, functions_entered}
use Rattle.paje_lines.specs.Reasons.{event_refusal}
use Rattle.paje_lines.specs.Text.{events_at, events_of, track_stream, text_said, names_of, info_said}
use Rattle.paje_lines.specs.Text.{container_of, containers_of}
use Rattle.paje_lines.proofs.Containers.{end_in_time, containers-get}
use Rattle.paje_lines.proofs.Functions.{functions_within}
use Rattle.paje_lines.proofs.StateEvents.{states_within}
use Rattle.paje_lines.proofs.Tracks.{found_track_exists}
use Rattle.paje_legal.proofs.StreamRuns.{Runs, runs-append, runs-left, IsLegal-from_runs, numbered-at}
use Rattle.paje_legal.proofs.StreamTracks.{Exists, last_time-within}
use Rattle.paje_legal.proofs.StreamSoFar.{sofar}
use Rattle.paje_legal.proofs.StreamNumbers.{calls-few, events-numbered}

pub streams_count : (lines : List EventLine)
    → length (text_said lines).tracks ≡ length (names_of lines).tracks
streams_count lines = length-map (tracks_in lines) (track_stream lines)

-- ---- the calls that are open at the end are left there

last-before_end : (lines : List EventLine) (track : Track) (end : Option EventLine)
    → IfSome end (λ line. last_time lines track ≤ line.time)
    → last_time lines track ≤ option_map_or (λ line. line.time) end (greatest lines)
last-before_end lines track None ended = last_time-within lines track
last-before_end lines track (Some line) ended = ended

stream-runs : (lines : List EventLine) → event_refusal lines ≡ None → (track : Track) → Exists lines track
    → Runs (container_start lines track.container) 0 (events_of lines track)
    (container_end lines track.container) 0
stream-runs lines none track exists =
    let end : ℕ = container_end lines track.container in
    let behaves = sofar lines none track exists in
    runs-append (flat_map (events_at (functions_entered lines) track) (states_of lines track))
    (replicate (open_calls lines track) (Leave end)) (container_start lines track.container) 0
    (last_time lines track) (open_calls lines track) end 0 (behaves.runs (functions_entered lines))
    (runs-left (open_calls lines track) (last_time lines track) end
    (last-before_end lines track (destruction lines track.container) behaves.ended))

stream-legal : (lines : List EventLine) → AreInTime lines → event_refusal lines ≡ None → (track : Track)
    → Exists lines track → IsLegal (track_stream lines track)
stream-legal lines in_time none track exists =
    let few = calls-few lines track in
    let within = states_within lines none in
    IsLegal-from_runs (track_stream lines track) (length (functions_entered lines))
    (end_in_time lines in_time none track.container) (stream-runs lines none track exists)
    (omega (arith, few, within)) (events-numbered lines track) (functions_within lines none)

-- ---- it lasts as long as its container

abbrev first_container : DeclaredContainer
first_container = record { entity = root; start = 0 }

container-of_track : (lines : List EventLine) (track : Track) → Exists lines track
    → (c : Container) × (slice_get (containers_of lines) track.container ≡ Some c)
    × Spans (track_stream lines track) c
container-of_track lines track exists =
    let place : ℕ = track.container in
    let declared : DeclaredContainer = get_or (containers_in lines) place first_container in
    let found : slice_get (containers_in lines) place ≡ Some declared =
    slice_get-get_or (containers_in lines) place first_container exists in (
      container_of lines (place, declared),
      containers-get lines place ∙ ap (option_map (λ c. container_of lines (place, c))) found,
      (ap (λ o. option_map_or (λ c. c.start) o 0) found, refl),
    )

-- ---- it fits

track-fits : (lines : List EventLine) → AreInTime lines → event_refusal lines ≡ None → (i : ℕ) (track : Track)
    → slice_get (tracks_in lines) i ≡ Some track → Fits (track_stream lines track) (info_said lines) i
track-fits lines in_time none i track at =
    let exists : Exists lines track = (found_track_exists lines i track at).0 in
    let container = container-of_track lines track exists in
    record {
      legal = stream-legal lines in_time none track exists;
      interval = (track, container.0, at, container.1, container.2);
      numbered = λ i f t is. (numbered-at (length (functions_entered lines)) (events_of lines track)
          (events-numbered lines track) i f t is).1;
    }

pub streams_fit : (lines : List EventLine) → AreInTime lines → event_refusal lines ≡ None → (i : ℕ)
    (s : TrackStream) → slice_get (text_said lines).tracks i ≡ Some s → Fits s (info_said lines) i
streams_fit lines in_time none i s at = by (slice_get (tracks_in lines) i) refl
    (sym (slice_get-map (track_stream lines) (tracks_in lines) i) ∙ at)
  where
    by : (o : Option Track) → slice_get (tracks_in lines) i ≡ o → option_map (track_stream lines) o ≡ Some s
        → Fits s (info_said lines) i
    by None found is = absurd (none-some s is)
    by (Some track) found is = subst (λ s. Fits s (info_said lines) i)
        (same_Some (track_stream lines track) s is)
        (track-fits lines in_time none i track found)
