use Rattle.std.proofs.Common.{refl}
use Rattle.registry_core.proofs.SoundLoads.{sound-published}
use Rattle.registry_core.proofs.StandsPublished.{stands-published}
use Rattle.registry_core.specs.Standing.{AreTrees}
use Rattle.registry_core.proofs.laws.publishing.Goals as goal

pub returns : goal.returns
returns c key_at start old entries id track root p was awaits stands =
    stands-published (AreTrees key_at) start old entries id track p.start root p was awaits (refl, stands)
    (sound-published old id track p.start root was.sound awaits)
