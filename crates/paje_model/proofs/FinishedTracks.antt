-- The streams of tracks, one after the other.
use Rattle.std.proofs.Common.{◌≡◌, List, [], ◌∷◌, ◌++◌, slice_get, Some, ◌⊎◌, inl, inr, refl, sym, ◌∙◌}
use Rattle.std.proofs.Common.{ap}
use Rattle.std.specs.List.{cons_option, zip}
use Rattle.std.specs.Option.{option_map}
use Rattle.std.proofs.lemmas.List.{append-nil, append_assoc}
use Rattle.trace_base.specs.declared.names.Container.{Container}
use Rattle.trace_base.specs.declared.names.Track.{Track}
use Rattle.trace_base.specs.declared.stream.TrackStream.{TrackStream}
use Rattle.paje_model.specs.declared.open_track.OpenTrack.{OpenTrack}
use Rattle.paje_model.specs.Finished.{stream_within, streams_within}

-- behind the streams so far comes that of the next track
pub stream-more : (containers : List Container) (so_far more all : List TrackStream)
    (tracks tracks_left : List Track) (track : Track) (made made_left : List OpenTrack)
    (open_track : OpenTrack) (container : Container) → tracks ≡ track ∷ tracks_left → made ≡ open_track ∷ made_left
    → slice_get containers track.container ≡ Some container
    → more ≡ so_far ++ stream_within container open_track ∷ []
    → so_far ++ streams_within containers (zip tracks made) ≡ all
    → more ++ streams_within containers (zip tracks_left made_left) ≡ all
stream-more containers so_far more all tracks tracks_left track made made_left open_track container first
    second at is whole =
    let stream : TrackStream = stream_within container open_track in
    let later : List TrackStream = streams_within containers (zip tracks_left made_left) in
    ap (λ streams. streams ++ later) is ∙ (append_assoc so_far (stream ∷ []) later
    ∙ (ap (λ o. so_far ++ cons_option (option_map (λ container. stream_within container open_track) o) later)
    (sym at) ∙ (ap (λ made. so_far ++ streams_within containers (zip (track ∷ tracks_left) made)) (sym second)
    ∙ (ap (λ tracks. so_far ++ streams_within containers (zip tracks made)) (sym first) ∙ whole))))

none_left : (containers : List Container) (tracks : List Track) (made : List OpenTrack) → made ≡ []
    → streams_within containers (zip tracks made) ≡ []
none_left containers [] made none = refl
none_left containers (track ∷ tracks) made none =
    ap (λ made. streams_within containers (zip (track ∷ tracks) made)) none

-- the streams are complete where no track is left
pub streams-end : (containers : List Container) (so_far all : List TrackStream) (tracks : List Track)
    (made : List OpenTrack) → (tracks ≡ []) ⊎ (made ≡ [])
    → so_far ++ streams_within containers (zip tracks made) ≡ all → so_far ≡ all
streams-end containers so_far all tracks made (inl none) whole =
    sym (append-nil so_far) ∙ (ap (λ tracks. so_far ++ streams_within containers (zip tracks made)) (sym none)
    ∙ whole)
streams-end containers so_far all tracks made (inr none) whole =
    sym (append-nil so_far) ∙ (ap (λ streams. so_far ++ streams) (sym (none_left containers tracks made none))
    ∙ whole)
