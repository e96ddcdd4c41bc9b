use Rattle.request_reader.proofs.Cutting.{requests_of-none}
use Rattle.request_reader.proofs.laws.requests_of_rest.Goals as goal

pub returns : goal.returns
returns c = requests_of-none
