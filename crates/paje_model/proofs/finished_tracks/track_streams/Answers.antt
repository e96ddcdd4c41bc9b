use Rattle.std.proofs.Common.{◌≡◌, ◌<◌, ◌⊎◌, [], length, inl, inr, ap, arith, subst, sym, ◌∙◌, Some}
use Rattle.std.proofs.lemmas.Option.{slice_get-get_or}
use Rattle.std.proofs.lemmas.List.{nil_from_length}
use Rattle.std.specs.Iterator.Adapters.{zip_first, zip_second}
use Rattle.std.specs.List.{AllByRecursion, zip}
use Rattle.std.specs.Slice.Iter.{iter_rest}
use Rattle.std.specs.Vec.Iter.{into_iter_items}
use Rattle.paje_model.specs.Finished.{streams_within}
use Rattle.paje_model.proofs.FinishedTracks.{stream-more, streams-end}
use Rattle.paje_model.proofs.finished_tracks.track_streams.Goals as goal

pub loop-track-preserved : goal.loop-track-preserved
loop-track-preserved c =
    let exist = subst (AllByRecursion (λ track. track.container < length c.args.containers.now))
    c.in-Some.ensures.steps.0 c.loop-track.invariant.exist in
    record {
      exist = exist.1;
      so_far = stream-more c.args.containers.now c.loop-track.streams.items c.push.new.self.items
          (streams_within c.args.containers.now (zip c.args.tracks.now c.args.made.items))
          (iter_rest (zip_first c.loop-track.track-iterator)) (iter_rest (zip_first c.next.new.self))
          c.in-Some.track.now (into_iter_items (zip_second c.loop-track.track-iterator))
          (into_iter_items (zip_second c.next.new.self)) c.in-Some.made c.index-containers-track.result
          c.in-Some.ensures.steps.0 c.in-Some.ensures.steps.1.0
          (slice_get-get_or c.args.containers.now c.in-Some.track.now.container
          c.index-containers-track.result exist.0
          ∙ ap (λ container. Some container) (sym c.index-containers-track.is))
          (cc (c.in_ok-push.ensures.items, c.in_ok-finish.ensures)) c.loop-track.invariant.so_far;
    }

pub returns : goal.returns
returns c = c.from_vec.ensures ∙ streams-end c.args.containers.now c.loop-track.streams.items
    (streams_within c.args.containers.now (zip c.args.tracks.now c.args.made.items))
    (iter_rest (zip_first c.loop-track.track-iterator))
    (into_iter_items (zip_second c.loop-track.track-iterator)) (elim c.in-None.ensures.steps as
    (λ _. (iter_rest (zip_first c.loop-track.track-iterator) ≡ [])
    ⊎ (into_iter_items (zip_second c.loop-track.track-iterator) ≡ [])) [
      | inl none ↦ inl (nil_from_length (iter_rest (zip_first c.loop-track.track-iterator)) none.1.0)
      | inr none ↦ inr (nil_from_length (into_iter_items (zip_second c.loop-track.track-iterator))
          (omega (arith, none.1.0, (zip_second c.loop-track.track-iterator).rest.ok)))
    ]) c.loop-track.invariant.so_far
