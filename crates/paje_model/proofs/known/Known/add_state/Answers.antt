use Rattle.std.proofs.Common.{◌≡◌, ◌≤◌, arith, refl, sym, ap, ◌∙◌, subst}
use Rattle.std.proofs.lemmas.Option.{same_Some, slice_get_within}
use Rattle.paje_lines.specs.EventLine.{line_of, pops, pushes}
use Rattle.paje_lines.specs.States.{entered_text, function_number}
use Rattle.std.specs.Option.{option_map_or}
use Rattle.paje_model.specs.declared.open_track.OpenTrack.{OpenTrack}
use Rattle.paje_model.specs.ContainerTable.{ChangesContainer, touched_at}
use Rattle.paje_model.specs.Existing.{existing_at}
use Rattle.paje_model.specs.FunctionPlace.{function_place, with_function}
use Rattle.paje_model.specs.FunctionTable.{functions_kept}
use Rattle.paje_model.specs.MadeTracks.{made_of}
use Rattle.paje_model.specs.OpenTrack.{behind_event, effect_on}
use Rattle.paje_model.specs.TrackTable.{ChangesTrack, track_of}
use Rattle.paje_model.proofs.StateAdded.{container_there, effect_added, known_added, ready, text_kept}
use Rattle.paje_model.proofs.StateAdded.{track_there}
use Rattle.paje_model.proofs.known.Known.add_state.Goals as goal

pub number-requires-clause-found : goal.number-requires-clause-found
number-requires-clause-found c =
    let before = c.requires.spot.1 in
    let known = c.requires.spot.2 in
    let is = c.requires.spot.3 in
    let line = line_of c.requires.spot.0 c.args.fields.now in
    let now = ready before line c.args.self.now c.args.spot known c.requires.event is in
    let text = text_kept before line c.args.self.now c.args.spot c.text_of-value.result.now known is now
    (c.text_of-value.ensures c.requires.spot.0) in
    is.function ∙ (ap (λ fs. function_place fs (entered_text (record { before = before; line = line })))
    (sym known.functions) ∙ ap (function_place (functions_kept c.args.self.now.functions)) (sym text))

pub number-requires-clause-room : goal.number-requires-clause-room
number-requires-clause-room c =
    let before = c.requires.spot.1 in
    let known = c.requires.spot.2 in
    let is = c.requires.spot.3 in
    let line = line_of c.requires.spot.0 c.args.fields.now in
    let now = ready before line c.args.self.now c.args.spot known c.requires.event is in
    let few = now.functions in
    omega (arith, few)

pub found_track-requires-clause-container : goal.found_track-requires-clause-container
found_track-requires-clause-container c =
    let before = c.requires.spot.1 in
    let known = c.requires.spot.2 in
    let is = c.requires.spot.3 in
    let line = line_of c.requires.spot.0 c.args.fields.now in
    let now = ready before line c.args.self.now c.args.spot known c.requires.event is in
    slice_get_within c.args.self.now.containers.list.items c.args.spot.pair.container _ now.container.found

pub found_track-requires-clause-room : goal.found_track-requires-clause-room
found_track-requires-clause-room c none =
    let before = c.requires.spot.1 in
    let known = c.requires.spot.2 in
    let is = c.requires.spot.3 in
    let line = line_of c.requires.spot.0 c.args.fields.now in
    let now = ready before line c.args.self.now c.args.spot known c.requires.event is in
    let few = now.tracks in
    omega (arith, few)

pub change-requires-clause-place : goal.change-requires-clause-place
change-requires-clause-place c =
    let before = c.requires.spot.1 in
    let known = c.requires.spot.2 in
    let is = c.requires.spot.3 in
    let line = line_of c.requires.spot.0 c.args.fields.now in
    let now = ready before line c.args.self.now c.args.spot known c.requires.event is in
    let there = track_there before line c.args.self.now c.args.spot c.found_track.new.tracks
    c.in_ok-track.track
    known is now c.in_ok-track.ensures.place (c.in_ok-track.ensures.tracks
    (existing_at before (c.args.spot.pair.container, now.container.declared)) now.container.found) in
    slice_get_within c.found_track.new.tracks.list.items c.in_ok-track.track _ there

pub change-requires-clause-open : goal.change-requires-clause-open
change-requires-clause-open c t found one =
    let before = c.requires.spot.1 in
    let known = c.requires.spot.2 in
    let is = c.requires.spot.3 in
    let line = line_of c.requires.spot.0 c.args.fields.now in
    let now = ready before line c.args.self.now c.args.spot known c.requires.event is in
    let there = track_there before line c.args.self.now c.args.spot c.found_track.new.tracks
    c.in_ok-track.track
    known is now c.in_ok-track.ensures.place (c.in_ok-track.ensures.tracks
    (existing_at before (c.args.spot.pair.container, now.container.declared)) now.container.found) in
    subst (λ (t : OpenTrack). 1 ≤ t.open_calls) (same_Some (made_of before (track_of c.args.spot.pair)) t
    (sym there ∙ found)) (now.some_open (ap pops (sym c.kind.ensures) ∙ one))

pub change-requires-clause-room : goal.change-requires-clause-room
change-requires-clause-room c t found one =
    let before = c.requires.spot.1 in
    let known = c.requires.spot.2 in
    let is = c.requires.spot.3 in
    let line = line_of c.requires.spot.0 c.args.fields.now in
    let now = ready before line c.args.self.now c.args.spot known c.requires.event is in
    let there = track_there before line c.args.self.now c.args.spot c.found_track.new.tracks
    c.in_ok-track.track
    known is now c.in_ok-track.ensures.place (c.in_ok-track.ensures.tracks
    (existing_at before (c.args.spot.pair.container, now.container.declared)) now.container.found) in
    let calls : (made_of before (track_of c.args.spot.pair)).open_calls ≡ t.open_calls =
    ap (λ (t : OpenTrack). t.open_calls) (same_Some (made_of before (track_of c.args.spot.pair)) t
    (sym there ∙ found)) in
    let deep = now.not_deep (ap pushes (sym c.kind.ensures) ∙ one) in
    omega (arith, deep, calls)

pub touch-requires : goal.touch-requires
touch-requires c =
    let before = c.requires.spot.1 in
    let known = c.requires.spot.2 in
    let is = c.requires.spot.3 in
    let line = line_of c.requires.spot.0 c.args.fields.now in
    let now = ready before line c.args.self.now c.args.spot known c.requires.event is in
    container_there c.args.self.now.containers c.found_track.new.containers c.args.spot.pair.container _
    c.args.spot.place _ now.container.found c.in_ok-track.ensures.containers

pub overflow_add-self : goal.overflow_add-self
overflow_add-self c =
    let before = c.requires.spot.1 in
    let known = c.requires.spot.2 in
    let is = c.requires.spot.3 in
    let line = line_of c.requires.spot.0 c.args.fields.now in
    let now = ready before line c.args.self.now c.args.spot known c.requires.event is in
    let few = now.states in
    omega (arith, few)

pub returns : goal.returns
returns c n before known is =
    let line = line_of n c.args.fields.now in
    let track = track_of c.args.spot.pair in
    let now = ready before line c.args.self.now c.args.spot known c.requires.event is in
    let has = c.in_ok-track.ensures.tracks (existing_at before (
      c.args.spot.pair.container,
      now.container.declared,
    ))
    now.container.found in
    let there = track_there before line c.args.self.now c.args.spot c.found_track.new.tracks
    c.in_ok-track.track
    known is now c.in_ok-track.ensures.place has in
    let text = text_kept before line c.args.self.now c.args.spot c.text_of-value.result.now known is now
    (c.text_of-value.ensures n) in (
      c.in_ok-effect.ensures.effect (made_of before track) there
          ∙ (ap (λ e. effect_on e (made_of before track)) c.kind.ensures
          ∙ effect_added before line track line.event c.requires.event is.named),
      known_added before line c.args.self.now _ c.args.spot c.found_track.new.tracks
          c.found_track.new.containers
          c.in_ok-number.number c.in_ok-track.track known c.requires.event is now (record {
            types = refl;
            values = refl;
            links = refl;
            states = refl;
            functions = c.in_ok-number.ensures.functions ∙ ap (with_function (functions_kept
                c.args.self.now.functions)) text;
            numbered = c.in_ok-number.ensures.number
                ∙ ap (λ o. option_map_or (function_number (functions_kept c.number.new.self)) o 0) text;
            place = c.in_ok-track.ensures.place;
            has = has;
            changed = subst (λ e. ChangesTrack c.found_track.new.tracks c.change.new.self c.in_ok-track.track
                (behind_event e c.in_ok-number.number line.time)) c.kind.ensures
                (subst (λ t. ChangesTrack c.found_track.new.tracks c.change.new.self c.in_ok-track.track
                (behind_event c.kind.result c.in_ok-number.number t)) c.time.ensures
                c.in_ok-effect.ensures.changed);
            placed = c.in_ok-track.ensures.containers;
            touched = subst (λ t. ChangesContainer c.found_track.new.containers c.touch.new.self
                c.args.spot.pair.container (touched_at t)) c.time-2.ensures c.touch.ensures;
          }),
    )
