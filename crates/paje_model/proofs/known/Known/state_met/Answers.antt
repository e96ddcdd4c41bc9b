use Rattle.std.proofs.Common.{◌∙◌, ap, refl}
use Rattle.std.specs.Option.{option_and_then, option_map_or}
use Rattle.std.specs.Prelude.{slice_get}
use Rattle.list_lemmas.proofs.Options.{is_none_by}
use Rattle.paje_model.specs.TrackTable.{track_of}
use Rattle.paje_model.specs.declared.open_track.OpenTrack.{OpenTrack}
use Rattle.paje_model.proofs.StateReads.{reads}
use Rattle.paje_model.proofs.known.Known.state_met.Goals as goal

pub returns : goal.returns
returns c before line known named at entered =
    reads before line c.args.self.now (track_of c.args.pair) _ c.args.place c.args.function known named
    (record {
      at = at;
      entered = entered;
      destroyed = λ e found. c.destroyed_on.ensures e (c.get-existing.ensures ∙ found);
      last_time = λ e found. c.last_time.ensures
          ∙ (ap (λ o. option_map_or (λ (t : OpenTrack). t.last) o c.start_of.result) c.found-track.ensures
          ∙ ap (option_map_or (λ (t : OpenTrack). t.last)
          (option_and_then (slice_get c.args.self.now.tracks.list.items) c.args.place))
          (c.start_of.ensures e (c.get-existing.ensures ∙ found)));
      open_calls = c.open_calls.ensures
          ∙ ap (λ o. option_map_or (λ (t : OpenTrack). t.open_calls) o 0) c.found-track.ensures;
      states = refl;
      tracks = c.len.ensures;
      is_new_track = is_none_by c.is_none.result c.args.place c.is_none.ensures;
      functions = c.len-2.ensures;
      is_new_function = c.is_new.ensures;
    })
