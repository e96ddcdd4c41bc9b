use Rattle.std.proofs.Common.{◌≡◌, drop, fold, max}
use Rattle.paje_print.proofs.streams.end_of.Given as goal

abbrev pub invariant-loop-clock : goal.invariant-loop-clock
invariant-loop-clock l = fold max l.greatest (drop l.clock-index l.clocks) ≡ fold max 0 l.clocks
