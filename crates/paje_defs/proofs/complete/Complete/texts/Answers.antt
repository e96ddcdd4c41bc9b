use Rattle.std.proofs.Common.{ap}
use Rattle.paje_defs.specs.Words.{words_in}
use Rattle.paje_defs.specs.Texts.{text_at}
use Rattle.paje_defs.proofs.complete.Complete.texts.Goals as goal

pub returns : goal.returns
returns c role = ap (text_at (words_in c.args.words.now)) (c.args.self.now.placed role)
