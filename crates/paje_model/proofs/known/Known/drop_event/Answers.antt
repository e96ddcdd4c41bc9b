use Rattle.std.proofs.Common.{refl}
use Rattle.paje_lines.specs.EventLine.{line_of}
use Rattle.paje_model.proofs.KeptKnown.{known-dropped}
use Rattle.paje_model.proofs.known.Known.drop_event.Goals as goal

pub returns : goal.returns
returns c before known = (
  refl,
  refl,
  known-dropped before (line_of c.args.n c.args.fields.now)
      c.args.self.now known c.requires.event,
)
