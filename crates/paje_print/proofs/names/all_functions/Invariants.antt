use Rattle.std.proofs.Common.{◌≡◌, ◌++◌, ◌∷◌, codes, drop, map}
use Rattle.std.specs.Prelude.{decimal}
use Rattle.paje_print.proofs.names.all_functions.Given as goal

abbrev pub invariant-loop-kernel : goal.invariant-loop-kernel
invariant-loop-kernel l = l.functions ++ map (λ kernel. codes "kernel " ++ decimal kernel)
    (drop l.kernel-index l.called) ≡ codes "work" ∷ map (λ kernel. codes "kernel " ++ decimal kernel) l.called
