use Rattle.std.proofs.Common.{◌≡◌, List, ℕ, ap, length, map, sym, ◌∙◌}
use Rattle.std.specs.List.{range_with_len}
use Rattle.paje_print.specs.Bundles.{AreKernels}
use Rattle.paje_print.specs.Generated.{bundles_in, generated_end, generated_stream, kernels_called}
use Rattle.paje_print.proofs.GeneratedParts.{bundle_limit, called_are, called_fit, clocks_fit, end_made}
use Rattle.paje_print.proofs.GeneratedParts.{kernel_count, kernels_are, kernels_fit, trace_made}
use Rattle.paje_print.proofs.generator.generate.Goals as goal

pub end_of-end-requires : goal.end_of-end-requires
end_of-end-requires c = clocks_fit c.args.seed (bundles_in c.args.size) c.in_ok-bundles.bundles
    c.as_slice.result.now c.in_ok-bundles.ensures c.as_slice.ensures (bundle_limit c.args.size c.requires)

pub kernels_called-requires : goal.kernels_called-requires
kernels_called-requires c = kernels_fit c.args.seed (bundles_in c.args.size) c.in_ok-bundles.bundles
    c.as_slice-kernels.result.now c.in_ok-bundles.ensures c.as_slice-kernels.ensures
    (bundle_limit c.args.size c.requires)

pub all_streams-requires-clause-few : goal.all_streams-requires-clause-few
all_streams-requires-clause-few c = kernels_fit c.args.seed (bundles_in c.args.size) c.in_ok-bundles.bundles
    c.as_slice-kernels.result.now c.in_ok-bundles.ensures c.as_slice-kernels.ensures
    (bundle_limit c.args.size c.requires)

pub all_streams-requires-clause-called : goal.all_streams-requires-clause-called
all_streams-requires-clause-called c = called_fit c.args.seed (length c.as_slice-kernels.result.now)
    c.as_slice-3.result.now (c.as_slice-3.ensures ∙ called_are c.args.seed c.as_slice-kernels.result.now
    c.in_ok-called.called (kernels_are c.args.seed (bundles_in c.args.size) c.in_ok-bundles.bundles
    c.as_slice-kernels.result.now c.in_ok-bundles.ensures c.as_slice-kernels.ensures) c.in_ok-called.ensures)

pub returns : goal.returns
returns c =
    let seed : ℕ = c.args.seed in
    let count : ℕ = bundles_in c.args.size in
    let kernels : List ℕ = c.as_slice-kernels.result.now in
    let count_is : length kernels ≡ count = kernel_count seed count c.in_ok-bundles.bundles kernels
    c.in_ok-bundles.ensures c.as_slice-kernels.ensures in
    let kernels_is : AreKernels seed kernels = kernels_are seed count c.in_ok-bundles.bundles kernels
    c.in_ok-bundles.ensures c.as_slice-kernels.ensures in
    let called_is : c.in_ok-called.called ≡ kernels_called seed (length kernels) =
    called_are seed kernels c.in_ok-called.called kernels_is c.in_ok-called.ensures in
    let end_is : c.end_of-end.result ≡ generated_end seed count = c.end_of-end.ensures
    ∙ end_made seed count c.in_ok-bundles.bundles c.as_slice.result.now c.in_ok-bundles.ensures
    c.as_slice.ensures in
    trace_made seed count c.in_ok-names.names c.in_ok-tracks.tracks c.in_ok-bundles.bundles.links
    (c.in_ok-names.ensures seed end_is (c.as_slice-2.ensures ∙ (called_is
    ∙ ap (kernels_called seed) count_is)))
    (c.in_ok-tracks.ensures seed kernels_is (c.as_slice-3.ensures ∙ called_is)
    (end_is ∙ ap (generated_end seed) (sym count_is))
    ∙ ap (λ (n : ℕ). map (generated_stream seed n) (range_with_len 0 128)) count_is)
    c.in_ok-bundles.ensures.links
