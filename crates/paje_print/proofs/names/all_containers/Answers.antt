use Rattle.std.proofs.Common.{◌∙◌, arith, ap, codes, ◌++◌}
use Rattle.std.specs.Prelude.{decimal}
use Rattle.list_lemmas.proofs.Ranges.{left_next}
use Rattle.paje_print.specs.Generated.{generated_container}
use Rattle.paje_print.proofs.names.all_containers.Goals as goal

pub loop-rank-preserved : goal.loop-rank-preserved
loop-rank-preserved c = left_next (λ rank. generated_container c.args.end (codes "rank " ++ decimal rank))
    c.loop-rank.rank 64 c.loop-rank.containers _ _ _ (omega arith)
    (ap (generated_container c.args.end) (c.in_ok-numbered_name.ensures
    ∙ ap (λ rank. codes "rank " ++ decimal rank) c.from.ensures)) c.in_ok-push-2.ensures.ok
    c.loop-rank.invariant
