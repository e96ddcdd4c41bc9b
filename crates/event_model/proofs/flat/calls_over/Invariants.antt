use Rattle.std.proofs.Common.{◌≡◌, ◌*◌, ◌≤◌, sum_by, map, take}
use Rattle.trace_base.specs.Flat.{calls_in}
use Rattle.event_model.proofs.flat.calls_over.Given as goal
use Rattle.trace_base.specs.declared.limits.TheConstants.{MAX_STATE_EVENTS}

abbrev pub invariant-loop-s : goal.invariant-loop-s
invariant-loop-s l =
    (l.calls ≡ sum_by (calls_in l.f l.a l.b) (map (λ s. s.now) (take l.s-index l.streams)))
    × (l.calls ≤ l.s-index * MAX_STATE_EVENTS)
