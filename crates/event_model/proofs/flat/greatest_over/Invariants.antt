use Rattle.std.proofs.Common.{◌≡◌, max, fold, map, take}
use Rattle.trace_base.specs.Flat.{function_of}
use Rattle.event_model.proofs.flat.greatest_over.Given as goal

abbrev pub invariant-loop-s : goal.invariant-loop-s
invariant-loop-s l =
    l.greatest ≡ fold (λ n s. fold (λ m e. max m (function_of e)) n s.events) 0
    (map (λ s. s.now) (take l.s-index l.streams))
