use Rattle.event_checks.proofs.Twins.{OnceBefore}
use Rattle.event_checks.proofs.legal_info.are_distinct.Given as goal

abbrev pub invariant-loop-i : goal.invariant-loop-i
invariant-loop-i l = OnceBefore l.tracks l.i
