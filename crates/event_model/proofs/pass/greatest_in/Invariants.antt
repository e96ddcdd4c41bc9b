use Rattle.std.proofs.Common.{◌≡◌, max, fold, take}
use Rattle.trace_base.specs.Flat.{function_of}
use Rattle.event_model.proofs.pass.greatest_in.Given as goal

abbrev pub invariant-loop-event : goal.invariant-loop-event
invariant-loop-event l = l.greatest ≡ fold (λ m e. max m (function_of e)) l.so_far
    (take l.event-index l.event-items)
