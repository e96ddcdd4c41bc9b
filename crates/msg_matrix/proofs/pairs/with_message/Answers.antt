use Rattle.std.proofs.Common.{◌<◌, ◌^◌, arith}
use Rattle.trace_base.specs.Matrix.{transit_of}
use Rattle.msg_matrix.proofs.Sums.{IsOfAtMost-with}
use Rattle.msg_matrix.proofs.pairs.with_message.Goals as goal

pub returns-clause-limits : goal.returns-clause-limits
returns-clause-limits c = λ old n small.
    let size : c.args.m.size < 2 ^ 64 = omega arith in
    let transit : transit_of c.args.m < 2 ^ 64 = omega (arith, c.saturating_sub-transit.ensures) in
    IsOfAtMost-with old c.args.m n size transit small
