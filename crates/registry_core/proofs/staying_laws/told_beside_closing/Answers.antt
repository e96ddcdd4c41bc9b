use Rattle.registry_core.proofs.ToldCalls.{told-closed}
use Rattle.registry_core.proofs.staying_laws.told_beside_closing.Goals as goal

pub returns : goal.returns
returns c old new id answer queries ids place sound used runs closes =
    told-closed old new id answer queries ids place sound used runs closes
