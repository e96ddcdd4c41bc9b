use Rattle.profile_laws.proofs.PathsOfStreams.{paths-enclosed, paths-joined, paths-later}
use Rattle.profile_laws.proofs.TreesProfiles.{paths-call, paths-group, paths-inside}
use Rattle.profile_laws.proofs.tree_laws.paths_of_trees.Goals as goal

pub returns-clause-group : goal.returns-clause-group
returns-clause-group c = paths-group paths-joined

pub returns-clause-call : goal.returns-clause-call
returns-clause-call c = paths-call paths-joined

pub returns-clause-inside : goal.returns-clause-inside
returns-clause-inside c = paths-inside paths-later paths-enclosed
