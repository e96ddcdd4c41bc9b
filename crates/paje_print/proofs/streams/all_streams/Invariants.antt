use Rattle.std.proofs.Common.{◌≡◌, ◌++◌, ◌-◌, ℕ, length, map}
use Rattle.std.specs.List.{range_with_len}
use Rattle.paje_print.specs.Bundles.{AreKernels}
use Rattle.paje_print.specs.Generated.{generated_end, generated_stream, kernels_called}
use Rattle.paje_print.proofs.streams.all_streams.Given as goal

abbrev pub invariant-loop-track : goal.invariant-loop-track
invariant-loop-track l = (seed : ℕ) → AreKernels seed l.kernels
    → l.called ≡ kernels_called seed (length l.kernels) → l.end ≡ generated_end seed (length l.kernels)
    → l.streams ++ map (generated_stream seed (length l.kernels)) (range_with_len l.track (128 - l.track))
    ≡ map (generated_stream seed (length l.kernels)) (range_with_len 0 128)
