use Rattle.std.proofs.Common.{◌≡◌, ◌+◌, ◌*◌, ◌++◌, ◌∷◌, [], List, ℕ, ap, append_assoc, arith, map, nat_eq}
use Rattle.std.proofs.Common.{slice_index, sym, ◌∙◌}
use Rattle.std.proofs.lemmas.List.{append-nil}
use Rattle.paje_lines.specs.Found.{distinct_by}
use Rattle.paje_print.proofs.KernelPlaces.{bundles_of_track, more_of_track}
use Rattle.paje_print.proofs.kernels.add_kernels.Goals as goal

pub loop-i-init : goal.loop-i-init
loop-i-init c = λ xs are. are ∙ ap (distinct_by nat_eq) (sym (append-nil xs))

pub loop-i-preserved : goal.loop-i-preserved
loop-i-preserved c = λ xs are.
    let read : ℕ → ℕ = slice_index c.args.kernels.now in
    let before : List ℕ = map read (bundles_of_track c.args.track c.loop-i.i) in
    c.in_ok-add_kernel.ensures (xs ++ before) (c.loop-i.invariant xs are)
    ∙ ap (distinct_by nat_eq) (append_assoc xs before (read (128 * c.loop-i.i + c.args.track) ∷ [])
    ∙ ap (λ (ks : List ℕ). xs ++ ks) (more_of_track read c.args.track c.loop-i.i))

pub returns : goal.returns
returns c = λ xs are.
    let read : ℕ → ℕ = slice_index c.args.kernels.now in
    let all : c.loop-i.i ≡ c.bundle_count-i-end.result = omega arith in
    c.loop-i.invariant xs are
    ∙ ap (λ (bs : List ℕ). distinct_by nat_eq (xs ++ map read bs)) (ap (bundles_of_track c.args.track) all
    ∙ sym c.bundle_count-i-end.ensures.bundles)
