use Rattle.std.proofs.Common.{◌∷◌}
use Rattle.node_key.specs.Examples.{tenth}
use Rattle.node_key.specs.Stakes.{stake}
use Rattle.store_tests.proofs.nodes.build.Goals as goal

pub intern_main-requires-clause-kids : goal.intern_main-requires-clause-kids
intern_main-requires-clause-kids c =
    let (xs, owns) = c.requires.owned in
    let one = c.in_ok-again.ensures.stakes xs owns in
    (xs, c.in_ok-f.ensures.stakes (stake c.in_ok-again.again tenth ∷ xs) one)

pub intern_track-requires-clause-kids : goal.intern_track-requires-clause-kids
intern_track-requires-clause-kids c =
    let (xs, owns) = c.requires.owned in
    let one = c.in_ok-again.ensures.stakes xs owns in
    let two = c.in_ok-f.ensures.stakes (stake c.in_ok-again.again tenth ∷ xs) one in
    (xs, c.in_ok-main.ensures.stakes xs two)

pub returns-clause-stakes : goal.returns-clause-stakes
returns-clause-stakes c = λ xs owns.
    let one = c.in_ok-again.ensures.stakes xs owns in
    let two = c.in_ok-f.ensures.stakes (stake c.in_ok-again.again tenth ∷ xs) one in
    c.intern_track.ensures.stakes xs (c.in_ok-main.ensures.stakes xs two)
