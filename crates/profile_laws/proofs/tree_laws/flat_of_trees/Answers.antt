use Rattle.profile_laws.proofs.FlatOfStreams.{flat-enclosed, flat-joined, flat-later}
use Rattle.profile_laws.proofs.TreesProfiles.{flat-call, flat-group, flat-inside}
use Rattle.profile_laws.proofs.tree_laws.flat_of_trees.Goals as goal

pub returns-clause-group : goal.returns-clause-group
returns-clause-group c = flat-group flat-joined

pub returns-clause-call : goal.returns-clause-call
returns-clause-call c = flat-call flat-joined

pub returns-clause-inside : goal.returns-clause-inside
returns-clause-inside c = flat-inside flat-later flat-enclosed
