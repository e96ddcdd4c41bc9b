use Rattle.std.proofs.Common.{List, Contains, subst, sym}
use Rattle.node_key.specs.declared.stake.Stake.{Stake}
use Rattle.node_key.specs.Stands.{Stands}
use Rattle.store_laws.specs.Store.{Store, key_in}
use Rattle.hall_core.specs.OneTree.{OneTreeEach}
use Rattle.hall_core.proofs.GoodWorlds.{good-one, good-stands}
use Rattle.hall_core.proofs.allowed.allows.Goals as goal

pub is_staked-requires : goal.is_staked-requires
is_staked-requires c =
    subst OneTreeEach (sym c.as_slice-stakes.ensures)
    (good-one c.args.w.now c.args.actor c.in-Some.seat.now c.requires c.in-Some.ensures.some.there)

pub is_reached-requires : goal.is_reached-requires
is_reached-requires c =
    subst (λ (rooms : Store). (x : Stake) → Contains c.as_slice-stakes.result.now x
    → Stands (key_in rooms) x.number x.tree) (sym c.as_slice.ensures)
    (subst (λ (held : List Stake). (x : Stake) → Contains held x
    → Stands (key_in c.args.w.now.state.shards) x.number x.tree) (sym c.as_slice-stakes.ensures)
    (good-stands c.args.w.now c.args.actor c.in-Some.seat.now c.requires c.in-Some.ensures.some.there))
