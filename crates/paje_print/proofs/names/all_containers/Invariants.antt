use Rattle.std.proofs.Common.{◌≡◌, ◌++◌, ◌-◌, codes, map}
use Rattle.std.specs.Prelude.{decimal}
use Rattle.std.specs.List.{range_with_len}
use Rattle.paje_print.specs.Generated.{generated_container, generated_containers}
use Rattle.paje_print.proofs.names.all_containers.Given as goal

abbrev pub invariant-loop-rank : goal.invariant-loop-rank
invariant-loop-rank l = l.containers
    ++ map (λ rank. generated_container l.end (codes "rank " ++ decimal rank))
    (range_with_len l.rank (64 - l.rank)) ≡ generated_containers l.end
