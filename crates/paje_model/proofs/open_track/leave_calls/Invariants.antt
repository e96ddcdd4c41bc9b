use Rattle.std.proofs.Common.{◌≡◌, ◌++◌, replicate}
use Rattle.trace_base.specs.declared.stream.Event.TheVariants.{Leave}
use Rattle.paje_model.proofs.open_track.leave_calls.Given as goal

abbrev pub invariant-loop-i : goal.invariant-loop-i
invariant-loop-i l = l.events ≡ l.initial.events ++ replicate l.i (Leave l.time)
