use Rattle.paje_print.proofs.SmallCanonical.{beside-canonical, great-canonical, last-canonical}
use Rattle.paje_print.proofs.SmallCanonical.{deepest-canonical, longest-canonical, most_types-canonical}
use Rattle.paje_print.proofs.SmallCanonical.{linked-canonical, small-canonical, two-canonical}
use Rattle.paje_print.proofs.canonical_examples.canonical_traces.Goals as goal

pub returns-clause-small : goal.returns-clause-small
returns-clause-small c = small-canonical

pub returns-clause-beside : goal.returns-clause-beside
returns-clause-beside c = beside-canonical

pub returns-clause-two_functions : goal.returns-clause-two_functions
returns-clause-two_functions c = two-canonical

pub returns-clause-two_link_types : goal.returns-clause-two_link_types
returns-clause-two_link_types c = linked-canonical

pub returns-clause-great_size : goal.returns-clause-great_size
returns-clause-great_size c = great-canonical

pub returns-clause-last_time : goal.returns-clause-last_time
returns-clause-last_time c = last-canonical

pub returns-clause-most_types : goal.returns-clause-most_types
returns-clause-most_types c = most_types-canonical

pub returns-clause-longest_line : goal.returns-clause-longest_line
returns-clause-longest_line c = longest-canonical

pub returns-clause-deepest : goal.returns-clause-deepest
returns-clause-deepest c = deepest-canonical
