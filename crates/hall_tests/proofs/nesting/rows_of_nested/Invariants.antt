use Rattle.std.proofs.Common.{◌≡◌, ◌-◌, map}
use Rattle.std.specs.List.{range_with_len}
use Rattle.hall_tests.specs.Nested.{one_call_of}
use Rattle.hall_tests.proofs.nesting.rows_of_nested.Given as goal

abbrev pub invariant-loop-func : goal.invariant-loop-func
invariant-loop-func l = l.rows ≡ map one_call_of (range_with_len 1 (l.func - 1))
