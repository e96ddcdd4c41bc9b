use Rattle.std.proofs.Common.{◌≡◌, filter, map}
use Rattle.std.specs.List.{range_with_len}
use Rattle.trace_base.specs.Flat.{row_of, stands}
use Rattle.event_model.proofs.flat.flat_of_all.Given as goal

abbrev pub invariant-loop-i : goal.invariant-loop-i
invariant-loop-i l =
    l.rows ≡ filter stands (map (row_of (map (λ s. s.now) l.streams) l.a l.b) (range_with_len 1 l.i))
