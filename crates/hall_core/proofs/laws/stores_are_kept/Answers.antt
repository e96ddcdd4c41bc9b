use Rattle.store_laws.proofs.StoreExchanged.{store_exchanged}
use Rattle.hall_core.proofs.KeptStores.{dropped, interned}
use Rattle.hall_core.proofs.laws.stores_are_kept.Goals as goal

pub returns-clause-interning : goal.returns-clause-interning
returns-clause-interning c = interned

pub returns-clause-dropping : goal.returns-clause-dropping
returns-clause-dropping c = dropped

pub returns-clause-moving : goal.returns-clause-moving
returns-clause-moving c = store_exchanged
