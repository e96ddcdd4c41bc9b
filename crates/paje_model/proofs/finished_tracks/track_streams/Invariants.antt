use Rattle.std.proofs.Common.{◌≡◌, ◌++◌, ◌<◌, length}
use Rattle.std.specs.Iterator.Adapters.{zip_first, zip_second}
use Rattle.std.specs.List.{AllByRecursion, zip}
use Rattle.std.specs.Slice.Iter.{iter_rest}
use Rattle.std.specs.Vec.Iter.{into_iter_items}
use Rattle.paje_model.specs.Finished.{streams_within}
use Rattle.paje_model.proofs.finished_tracks.track_streams.Given as goal

abbrev pub invariant-loop-track : goal.invariant-loop-track
invariant-loop-track l = record {
  exist : AllByRecursion (λ track. track.container < length l.containers)
      (iter_rest (zip_first l.track-iterator));
  so_far : l.streams.items ++ streams_within l.containers (zip (iter_rest (zip_first l.track-iterator))
      (into_iter_items (zip_second l.track-iterator)))
      ≡ streams_within l.containers (zip l.fn.tracks l.fn.made.items);
}
