use Rattle.registry_core.specs.Standing.{AreTrees}
use Rattle.registry_core.proofs.StandsStarted.{stands-started}
use Rattle.registry_core.proofs.laws.starting.Goals as goal

pub returns : goal.returns
returns c key_at place id fits first last = stands-started (AreTrees key_at) place id fits first last
