use Rattle.registry_core.proofs.ToldCalls.{told-asked, told-listed, told-unpinned}
use Rattle.registry_core.proofs.staying_laws.told_beside_queries.Goals as goal

pub returns-clause-asked : goal.returns-clause-asked
returns-clause-asked c old new others answer ids place asks = told-asked old new others answer ids place asks

pub returns-clause-listed : goal.returns-clause-listed
returns-clause-listed c old new answer ids place lists = told-listed old new answer ids place lists

pub returns-clause-given_back : goal.returns-clause-given_back
returns-clause-given_back c r others queries ids place sound used runs =
    told-unpinned r others queries ids place sound used runs
