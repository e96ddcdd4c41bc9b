use Rattle.std.proofs.Common.{◌≡◌, length, map, nat_eq, slice_index}
use Rattle.std.specs.List.{flat_map, range_with_len}
use Rattle.paje_lines.specs.Found.{distinct_by}
use Rattle.paje_print.specs.Generated.{bundles_on}
use Rattle.paje_print.proofs.kernels.kernels_called.Given as goal

abbrev pub invariant-loop-track : goal.invariant-loop-track
invariant-loop-track l = l.called ≡ distinct_by nat_eq (flat_map (λ track. map (slice_index l.kernels)
    (bundles_on track (length l.kernels))) (range_with_len 0 l.track))
