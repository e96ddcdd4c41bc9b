use Rattle.paje_legal.proofs.LegalInfo.{legal_info}
use Rattle.paje_legal.proofs.info_law.text_has_legal_info.Goals as goal

pub returns : goal.returns
returns c = legal_info
