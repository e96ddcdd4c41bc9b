-- What the tables of a trace's lines give is what the lines say.
use Rattle.std.proofs.Common.{◌≡◌, ℕ, ◌<◌, List, [], ◌∷◌, map, length, get_or, slice_get, Option, Some}
use Rattle.std.proofs.Common.{None, refl, sym, ◌∙◌, ap, subst}
use Rattle.std.specs.List.{All, AllByRecursion, cons_option, enumerate_from, zip}
use Rattle.std.specs.Option.{option_map, option_map_or}
use Rattle.std.proofs.lemmas.List.Elements.{All-from_recursion}
use Rattle.std.proofs.lemmas.Option.{slice_get-get_or}
use Rattle.std.proofs.lemmas.Simd.{map-map}
use Rattle.list_lemmas.proofs.Each.{all_mapped}
use Rattle.list_lemmas.proofs.Maps.{enumerate-zip, map_agree}
use Rattle.trace_base.specs.declared.names.Container.{Container}
use Rattle.trace_base.specs.declared.names.Track.{Track}
use Rattle.trace_base.specs.declared.stream.TrackStream.{TrackStream}
use Rattle.paje_lines.specs.EventLine.{EventLine}
use Rattle.paje_lines.specs.Found.{root}
use Rattle.paje_lines.specs.Types.{state_types}
use Rattle.paje_lines.specs.Containers.{DeclaredContainer, containers_in, container_end, destruction}
use Rattle.paje_lines.specs.Containers.{greatest}
use Rattle.paje_lines.specs.States.{tracks_in}
use Rattle.paje_lines.specs.Text.{container_of, containers_of, events_of, track_stream}
use Rattle.paje_lines.proofs.Containers.{containers-get, containers-length}
use Rattle.paje_lines.proofs.Tracks.{tracks_exist}
use Rattle.paje_model.specs.declared.container_table.Destruction.{Destruction}
use Rattle.paje_model.specs.declared.known.Known.{Known}
use Rattle.paje_model.specs.Existing.{existing_at, existing_in}
use Rattle.paje_model.specs.Finished.{lasting_until, stream_within, streams_within}
use Rattle.paje_model.specs.Known.{IsKnown}
use Rattle.paje_model.specs.MadeTracks.{made_of}
use Rattle.paje_model.specs.TrackTable.{tracks_kept}

-- ---- containers

ended : (lines : List EventLine) (p : ℕ × DeclaredContainer)
    → lasting_until (greatest lines) (existing_at lines p) ≡ container_of lines p
ended lines p = ap (λ end. record { name = p.1.entity.name; start = p.1.start; end = end })
    (by (destruction lines p.0))
  where
    by : (o : Option EventLine) → option_map_or (λ (d : Destruction). d.time)
        (option_map (λ line. record { line = line.number; time = line.time }) o) (greatest lines)
        ≡ option_map_or (λ line. line.time) o (greatest lines)
    by None = refl
    by (Some line) = refl

-- those that exist, with their ends
pub containers_said : (lines : List EventLine)
    → map (lasting_until (greatest lines)) (existing_in lines) ≡ containers_of lines
containers_said lines =
    map-map (lasting_until (greatest lines)) (existing_at lines) (enumerate_from 0 (containers_in lines))
    ∙ (map_agree (λ p. lasting_until (greatest lines) (existing_at lines p)) (container_of lines) (ended lines)
    (enumerate_from 0 (containers_in lines))
    ∙ ap (map (container_of lines)) (enumerate-zip 0 (containers_in lines)))

-- ---- tracks

-- their containers are among those of the lines
pub tracks_among : (lines : List EventLine)
    → All (λ track. track.container < length (containers_of lines)) (tracks_in lines)
tracks_among lines = All-from_recursion (λ track. track.container < length (containers_of lines))
    (tracks_in lines) (all_mapped (λ track. (track.container < length (containers_in lines))
    × (track.kind < state_types lines)) (λ track. track.container < length (containers_of lines))
    (λ track is. subst (λ n. track.container < n) (sym (containers-length lines)) is.0) (tracks_in lines)
    (tracks_exist lines))

stream_said : (lines : List EventLine) (track : Track) → track.container < length (containers_in lines)
    → option_map (λ container. stream_within container (made_of lines track))
    (slice_get (containers_of lines) track.container) ≡ Some (track_stream lines track)
stream_said lines track exists =
    let declared : DeclaredContainer = get_or (containers_in lines) track.container
    (record { entity = root; start = 0 }) in
    let is : slice_get (containers_in lines) track.container ≡ Some declared =
    slice_get-get_or (containers_in lines) track.container (record { entity = root; start = 0 }) exists in
    ap (option_map (λ container. stream_within container (made_of lines track)))
    (containers-get lines track.container
    ∙ ap (option_map (λ c. container_of lines (track.container, c))) is)
    ∙ ap (λ o. Some (record {
      start = option_map_or (λ c. c.start) o 0;
      end = container_end lines track.container;
      events = events_of lines track;
    })) (sym is)

each_said : (lines : List EventLine) (tracks : List Track) → AllByRecursion
    (λ t. (t.container < length (containers_in lines)) × (t.kind < state_types lines)) tracks
    → streams_within (containers_of lines) (zip tracks (map (made_of lines) tracks))
    ≡ map (track_stream lines) tracks
each_said lines [] exist = refl
each_said lines (track ∷ tracks) exist =
    ap (λ o. cons_option o (streams_within (containers_of lines) (zip tracks (map (made_of lines) tracks))))
    (stream_said lines track exist.0.0)
    ∙ ap (λ streams. track_stream lines track ∷ streams) (each_said lines tracks exist.1)

-- each has its stream
pub streams_said : (lines : List EventLine)
    → streams_within (containers_of lines) (zip (tracks_in lines) (map (made_of lines) (tracks_in lines)))
    ≡ map (track_stream lines) (tracks_in lines)
streams_said lines = each_said lines (tracks_in lines) (tracks_exist lines)

-- ---- the text

pub containers_finished : (lines : List EventLine) (known : Known) (end : ℕ) (containers : List Container)
    → IsKnown lines known → end ≡ greatest lines
    → containers ≡ map (lasting_until end) known.containers.list.items → containers ≡ containers_of lines
containers_finished lines known end containers are ends is =
    is ∙ (ap (λ end. map (lasting_until end) known.containers.list.items) ends
    ∙ (ap (map (lasting_until (greatest lines))) are.containers.existing ∙ containers_said lines))

-- the tracks that are known have their containers among those that are finished
pub tracks_fit : (lines : List EventLine) (known : Known) (end : ℕ) (containers : List Container)
    → IsKnown lines known → end ≡ greatest lines
    → containers ≡ map (lasting_until end) known.containers.list.items
    → All (λ track. track.container < length containers) (tracks_kept known.tracks)
tracks_fit lines known end containers are ends is =
    subst (λ tracks. All (λ track. track.container < length containers) tracks) (sym are.tracks.tracks)
    (subst (λ cs. All (λ track. track.container < length cs) (tracks_in lines))
    (sym (containers_finished lines known end containers are ends is)) (tracks_among lines))

pub streams_finished : (lines : List EventLine) (known : Known) (end : ℕ) (containers : List Container)
    (streams : List TrackStream) → IsKnown lines known → end ≡ greatest lines
    → containers ≡ map (lasting_until end) known.containers.list.items
    → streams ≡ streams_within containers (zip (tracks_kept known.tracks) known.tracks.list.items)
    → streams ≡ map (track_stream lines) (tracks_in lines)
streams_finished lines known end containers streams are ends is are_streams =
    are_streams
    ∙ (ap (λ cs. streams_within cs (zip (tracks_kept known.tracks) known.tracks.list.items))
    (containers_finished lines known end containers are ends is)
    ∙ (ap (λ tracks. streams_within (containers_of lines) (zip tracks known.tracks.list.items))
    are.tracks.tracks ∙ (ap (λ made. streams_within (containers_of lines) (zip (tracks_in lines) made)) are.tracks.made
    ∙ streams_said lines)))
