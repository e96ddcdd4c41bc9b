-- What a seat may read is there.
use Rattle.std.proofs.Common.{◌≡◌, ℕ, ap, refl}
use Rattle.std.specs.Prelude.{IsSome, is_some}
use Rattle.store_laws.specs.Store.{node_in}
use Rattle.hall_core.specs.Allowed.{Allows}
use Rattle.hall_core.specs.World.{IsGood, all_stakes}
use Rattle.hall_core.specs.declared.events.HallEvent.TheVariants as event
use Rattle.hall_core.specs.declared.events.ReadOf.{ReadOf}
use Rattle.hall_core.specs.declared.events.ReadOf.TheVariants.{Node}
use Rattle.hall_core.specs.declared.world.World.{World}
use Rattle.hall_core.proofs.GoodWorlds.{held-of-seat}
use Rattle.hall_core.proofs.ReachStored.{reached-more, reached-stored}

-- the number that is read
abbrev pub number_read : ReadOf → ℕ
number_read (Node n) = n

-- there is nothing else to read
pub is-node : (of : ReadOf) → of ≡ Node (number_read of)
is-node (Node n) = refl

-- a node that a seat may read is stored
pub read-there : (w : World) (actor n : ℕ) → IsGood w → Allows w actor (event.Read (Node n))
    → IsSome (node_in w.state.shards n)
read-there w actor n good (seat, is, reached) =
    let found = reached-stored w.state.shards (all_stakes w.seats) n good.store
    (reached-more w.state.shards seat.stakes (all_stakes w.seats) n (held-of-seat w actor seat is.there)
    reached) in
    ap is_some found.1
