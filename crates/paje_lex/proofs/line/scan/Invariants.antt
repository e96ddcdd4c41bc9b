use Rattle.std.proofs.Common.{◌≡◌, ◌-◌, ◌≤◌, drop, length}
use Rattle.paje_lex.specs.declared.state.State.TheVariants.{Between}
use Rattle.paje_lex.specs.LineReading.{scan, joined}
use Rattle.paje_lex.proofs.line.scan.Given as goal

-- the tokens so far and those of what is left are those before and those of all
abbrev pub invariant-loop-at : goal.invariant-loop-at
invariant-loop-at l = record {
  told : joined l.tokens (scan Between l.at (drop l.at l.line)) ≡ joined l.fn.tokens
      (scan Between l.start (drop l.start l.line));
  within : l.at ≤ length l.line;
}

abbrev pub decreases-loop-at : goal.decreases-loop-at
decreases-loop-at l = length l.line - l.at
