use Rattle.std.proofs.Common.{◌≡◌, ◌≤◌, ◌*◌, ℕ}
use Rattle.std.specs.List.{flat_map, sum_by}
use Rattle.paje_print.specs.Bundles.{AreKernels}
use Rattle.paje_print.specs.Generated.{bundle_events, bundle_time}
use Rattle.paje_print.proofs.KernelPlaces.{bundles_of_track}
use Rattle.paje_print.proofs.streams.track_events.Given as goal

abbrev pub invariant-loop-i : goal.invariant-loop-i
invariant-loop-i l = record {
  short : l.clock ≤ 257200 * l.i;
  clock : (seed : ℕ) → AreKernels seed l.kernels
      → l.clock ≡ sum_by (bundle_time seed) (bundles_of_track l.track l.i);
  events : (seed : ℕ) → AreKernels seed l.kernels
      → l.events ≡ flat_map (bundle_events seed l.called) (bundles_of_track l.track l.i);
}
