use Rattle.request_reader.proofs.Cutting.{requests_of-append, requests_of-quit}
use Rattle.request_reader.proofs.laws.requests_of_more.Goals as goal

pub returns-clause-request : goal.returns-clause-request
returns-clause-request c = λ bytes more r other spells. requests_of-append bytes more r spells

pub returns-clause-quit : goal.returns-clause-quit
returns-clause-quit c = requests_of-quit
