use Rattle.registry_core.specs.Standing.{AreTrees}
use Rattle.registry_core.proofs.ToldTracks.{stands_with_more}
use Rattle.registry_core.proofs.laws.more_keys.Goals as goal

pub returns : goal.returns
returns c key_at others start r entries stands more =
    stands_with_more (AreTrees key_at) (AreTrees others) start r entries
    (λ from root p is. (is.0, more root p.tree is.1)) stands
