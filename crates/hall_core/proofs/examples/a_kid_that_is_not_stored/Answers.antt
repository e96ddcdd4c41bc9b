use Rattle.std.proofs.Common.{◌∷◌, [], lit<, refl, sym, ◌∙◌}
use Rattle.std.proofs.lemmas.Option.{none-some}
use Rattle.node_key.specs.Examples.{half_key, leaf_of_three, track_key}
use Rattle.shard_core.specs.Room.{Stored}
use Rattle.hall_core.specs.Examples.{counted_node}
use Rattle.hall_core.proofs.SampleRooms.{Nodes, node_in-rooms_with}
use Rattle.hall_core.proofs.examples.a_kid_that_is_not_stored.Goals as goal

abbrev nodes : Nodes
nodes = counted_node 3 leaf_of_three 1 ∷ counted_node 4 track_key 1 ∷ counted_node 12 half_key 2 ∷ []

pub returns-clause-placed : goal.returns-clause-placed
returns-clause-placed c placed =
    let kid = placed.kids (record { gap = 100000000; span = 100000000; node = 0 }) (0, lit< tt, refl) in
    none-some kid.stored (sym (node_in-rooms_with nodes 0) ∙ kid.there)

pub returns-clause-rooms : goal.returns-clause-rooms
returns-clause-rooms c canonic =
    let caller : Stored = record { key = half_key; count = 2 } in
    returns-clause-placed c (canonic.keys 12 caller (node_in-rooms_with nodes 12))

pub returns-clause-good : goal.returns-clause-good
returns-clause-good c good = returns-clause-rooms c good.store.canonic
