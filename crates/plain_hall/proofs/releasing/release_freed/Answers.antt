use Rattle.std.proofs.Common.{[], ◌++◌, List, Option, subst}
use Rattle.std.specs.Prelude.{ℕ, unwrap_or}
use Rattle.node_key.specs.declared.stake.Stake.{Stake}
use Rattle.node_store.specs.Given.{ever}
use Rattle.node_store.specs.Kept.{KeepsFor}
use Rattle.plain_hall.specs.Rooted.{stakes_under}
use Rattle.hall_trait.proofs.Views.{later_same}
use Rattle.plain_hall.proofs.releasing.release_freed.Goals as goal

pub release_roots-requires-clause-roots : goal.release_roots-requires-clause-roots
release_roots-requires-clause-roots c =
    let nodes = c.args.nodes.now in
    subst (λ (o : Option (List ℕ)). (rest : List Stake) × KeepsFor nodes (stakes_under (ever nodes.given)
    (unwrap_or o []) ++ rest)) c.in-Some.is c.requires.roots

pub returns-in_default-clause-next : goal.returns-in_default-clause-next
returns-in_default-clause-next c = later_same c.args.nodes.now.rooms
