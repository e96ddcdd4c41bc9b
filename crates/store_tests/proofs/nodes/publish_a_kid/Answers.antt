use Rattle.std.proofs.Common.{[], ◌∷◌}
use Rattle.node_key.specs.Examples.{half, tenth}
use Rattle.node_key.specs.Stakes.{stake}
use Rattle.store_tests.proofs.nodes.publish_a_kid.Goals as goal

pub intern_main-requires-clause-kids : goal.intern_main-requires-clause-kids
intern_main-requires-clause-kids g c =
    let one = c.in_ok-again.ensures.stakes [] c.requires.owned in
    ([], c.in_ok-f.ensures.stakes (stake c.in_ok-again.again tenth ∷ []) one)

pub publish_first-requires-clause-owned : goal.publish_first-requires-clause-owned
publish_first-requires-clause-owned g c =
    let one = c.in_ok-again.ensures.stakes [] c.requires.owned in
    let two = c.in_ok-f.ensures.stakes (stake c.in_ok-again.again tenth ∷ []) one in
    let three = c.in_ok-main.ensures.stakes [] two in
    (tenth, half, c.in_ok-root.ensures.stakes (stake c.in_ok-main.main half ∷ []) three)
