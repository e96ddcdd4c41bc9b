use Rattle.std.proofs.Common.{◌≡◌, ◌≤◌, length}
use Rattle.std.specs.Vec.{vec_capacity, vec_len}
use Rattle.hall_core.proofs.RunsMore.{RunsSoFar}
use Rattle.hall_core.proofs.run.run_events.Given as goal

abbrev pub invariant-loop-i : goal.invariant-loop-i
invariant-loop-i l =
    RunsSoFar l.fn.w l.list l.i l.answers.items l.w × (vec_len l.answers ≡ l.i)
    × (length l.list ≤ vec_capacity l.answers)
