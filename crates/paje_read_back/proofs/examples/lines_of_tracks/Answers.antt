use Rattle.std.proofs.Common.{refl}
use Rattle.std.specs.Fmt.{digits}
use Rattle.paje_read_back.proofs.examples.lines_of_tracks.Goals as goal

pub returns : goal.returns
unfolding digits
returns c = refl
