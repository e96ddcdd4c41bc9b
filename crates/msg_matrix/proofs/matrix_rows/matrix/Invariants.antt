use Rattle.std.proofs.Common.{take}
use Rattle.trace_base.specs.Matrix.{sent_within}
use Rattle.msg_matrix.proofs.Sums.{HasRows}
use Rattle.msg_matrix.proofs.matrix_rows.matrix.Given as goal

abbrev pub invariant-loop-m : goal.invariant-loop-m
invariant-loop-m l = HasRows l.pairs (sent_within l.a l.b (take l.m-index l.m-items)) l.m-index
