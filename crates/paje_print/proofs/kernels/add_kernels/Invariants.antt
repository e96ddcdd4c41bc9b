use Rattle.std.proofs.Common.{◌≡◌, ◌++◌, List, ℕ, map, nat_eq, slice_index}
use Rattle.paje_lines.specs.Found.{distinct_by}
use Rattle.paje_print.proofs.KernelPlaces.{bundles_of_track}
use Rattle.paje_print.proofs.kernels.add_kernels.Given as goal

abbrev pub invariant-loop-i : goal.invariant-loop-i
invariant-loop-i l = (xs : List ℕ) → l.fn.called ≡ distinct_by nat_eq xs → l.called ≡ distinct_by nat_eq
    (xs ++ map (slice_index l.kernels) (bundles_of_track l.track l.i))
