use Rattle.std.proofs.Common.{◌≡◌, [], ◌∷◌, ◌+◌, map}
use Rattle.std.specs.List.{range_with_len}
use Rattle.trace_base.specs.Flat.{flat}
use Rattle.trace_base.specs.Timeline.{busiest, pixel_start}
use Rattle.event_model.proofs.line.line_of.Given as goal

abbrev pub invariant-loop-i : goal.invariant-loop-i
invariant-loop-i l =
    l.cells ≡ map (λ i. busiest (flat (l.s ∷ []) (pixel_start l.a l.b l.px i)
    (pixel_start l.a l.b l.px (i + 1)))) (range_with_len 0 l.i)
