use Rattle.std.proofs.Common.{◌≡◌, map, take}
use Rattle.trace_session.specs.Replies.{named}
use Rattle.trace_session.proofs.profile.named_rows.Given as goal

abbrev pub invariant-loop-row : goal.invariant-loop-row
invariant-loop-row l = l.out ≡ map (named l.functions) (take l.row-index l.rows)
