-- What stakes reach.
use Rattle.std.proofs.Common.{◌≡◌, ℕ, List, Contains, Some}
use Rattle.node_key.specs.declared.stake.Stake.{Stake}
use Rattle.shard_core.specs.Room.{Stored}
use Rattle.store_laws.specs.Counted.{IsStore}
use Rattle.store_laws.specs.Reached.{IsReached, below, staked}
use Rattle.store_laws.specs.Store.{Store, node_in}
use Rattle.store_laws.proofs.CanonicKeys.{node_of_key}

-- what is reached in a store is stored
pub reached-stored : (rooms : Store) (held : List Stake) (n : ℕ) → IsStore rooms held
    → IsReached rooms held n → (s : Stored) × (node_in rooms n ≡ Some s)
reached-stored rooms held n store (staked x there) =
    let stands = store.counted.stands x there in
    let node = node_of_key rooms x.number stands.0 stands.2 in
    (node.0, node.1)
reached-stored rooms held n store (below m s k over at kid) =
    let under = (store.canonic.keys m s at).kids k kid in
    (under.stored, under.there)

-- more stakes reach more
pub reached-more : (rooms : Store) (some more : List Stake) (n : ℕ)
    → ((x : Stake) → Contains some x → Contains more x) → IsReached rooms some n → IsReached rooms more n
reached-more rooms some more n each (staked x there) = staked x (each x there)
reached-more rooms some more n each (below m s k over at kid) =
    below m s k (reached-more rooms some more m each over) at kid
