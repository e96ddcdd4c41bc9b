use Rattle.std.proofs.Common.{◌≡◌, ℕ, drop}
use Rattle.paje_lex.specs.declared.state.State.TheVariants.{Plain}
use Rattle.paje_lex.specs.LineReading.{scan}
use Rattle.paje_lex.proofs.line.plain_end.Given as goal

-- the token is still open
abbrev pub invariant-loop-at : goal.invariant-loop-at
invariant-loop-at l = (first : ℕ) → scan (Plain first) l.from (drop l.from l.line) ≡ scan (Plain first) l.at
    (drop l.at l.line)
