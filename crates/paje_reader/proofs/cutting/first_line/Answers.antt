use Rattle.std.proofs.Common.{subst, Some}
use Rattle.memchr.specs.Find.{IsFirstByte, is_byte}
use Rattle.paje_reader.proofs.FirstLine.{cut_at, cut_none}
use Rattle.paje_reader.proofs.cutting.first_line.Goals as goal

pub returns-in-Some-clause-cut : goal.returns-in-Some-clause-cut
returns-in-Some-clause-cut c =
    let found : IsFirstByte (is_byte 10) c.args.text.now (Some c.in-Some.at) =
    subst (λ r. IsFirstByte (is_byte 10) c.args.text.now r) c.in-Some.is c.memchr.ensures in
    cut_at c.args.text.now c.in-Some.at found.0 found.1

pub returns-in-None-clause-cut : goal.returns-in-None-clause-cut
returns-in-None-clause-cut c =
    cut_none c.args.text.now c.requires
    (subst (λ r. IsFirstByte (is_byte 10) c.args.text.now r) c.in-None.is c.memchr.ensures)
