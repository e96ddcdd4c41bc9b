use Rattle.registry_core.proofs.SoundLoads.{sound-sealed}
use Rattle.registry_core.proofs.StandsSealed.{stands-sealed}
use Rattle.registry_core.specs.Standing.{AreTrees}
use Rattle.registry_core.proofs.laws.sealing.Goals as goal

pub returns : goal.returns
returns c key_at start old entries id was awaits =
    stands-sealed (AreTrees key_at) start old entries id was awaits (sound-sealed old id was.sound awaits)
