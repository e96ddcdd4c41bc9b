use Rattle.std.proofs.Common.{◌≡◌, ◌*◌, ◌≤◌, sum_by, map, take}
use Rattle.trace_base.specs.Flat.{time_with}
use Rattle.event_model.specs.Part.{has}
use Rattle.event_model.proofs.flat.time_over.Given as goal
use Rattle.trace_base.specs.declared.limits.TheConstants.{MAX_TIME}

abbrev pub invariant-loop-s : goal.invariant-loop-s
invariant-loop-s l =
    (l.total ≡ sum_by (time_with (has l.part) l.a l.b) (map (λ s. s.now) (take l.s-index l.streams)))
    × (l.total ≤ l.s-index * MAX_TIME)
