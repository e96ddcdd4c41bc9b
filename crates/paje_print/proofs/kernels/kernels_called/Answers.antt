use Rattle.std.proofs.Common.{ℕ, List, ap, length, map, nat_eq, slice_index, ◌∙◌}
use Rattle.std.specs.List.{flat_map, range_with_len}
use Rattle.list_lemmas.proofs.Ranges.{flat_range_more}
use Rattle.paje_lines.specs.Found.{distinct_by}
use Rattle.paje_print.specs.Generated.{bundles_on}
use Rattle.paje_print.proofs.kernels.kernels_called.Goals as goal

pub loop-track-preserved : goal.loop-track-preserved
loop-track-preserved c =
    let kernels : List ℕ = c.args.kernels.now in
    let on : ℕ → List ℕ = λ track. map (slice_index kernels) (bundles_on track (length kernels)) in
    c.in_ok-add_kernels.ensures (flat_map on (range_with_len 0 c.loop-track.track)) c.loop-track.invariant
    ∙ ap (distinct_by nat_eq) (flat_range_more on c.loop-track.track)
