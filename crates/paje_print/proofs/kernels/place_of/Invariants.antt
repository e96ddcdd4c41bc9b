use Rattle.std.proofs.Common.{◌≡◌, ◌+◌, drop, nat_eq}
use Rattle.std.specs.List.{position_or_len}
use Rattle.paje_print.proofs.kernels.place_of.Given as goal

abbrev pub invariant-loop-i : goal.invariant-loop-i
invariant-loop-i l = l.i + position_or_len (nat_eq l.kernel) (drop l.i l.called)
    ≡ position_or_len (nat_eq l.kernel) l.called
