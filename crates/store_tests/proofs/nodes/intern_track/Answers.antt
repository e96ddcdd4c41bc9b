use Rattle.std.proofs.Common.{[], ◌∷◌}
use Rattle.node_key.specs.Examples.{half, track_of_half}
use Rattle.node_key.specs.Stakes.{stake}
use Rattle.store_tests.proofs.Owning.{owned_answer, owned_first}
use Rattle.store_tests.proofs.nodes.intern_track.Goals as goal

pub intern-requires-clause-kids : goal.intern-requires-clause-kids
intern-requires-clause-kids c =
    let (xs, owns) = c.requires.kids in
    let kids = stake c.args.main half ∷ [] in
    (track_of_half, kids, c.key_of_track.ensures, owned_first c.args.store.now kids xs owns)

pub returns-clause-stakes : goal.returns-clause-stakes
returns-clause-stakes c = λ xs owns.
    owned_answer c.args.store.now c.intern.new.self _ c.in_ok-intern.field-0 _ track_of_half (stake c.args.main half ∷ []) xs c.number.ensures
    c.in_ok-intern.ensures.stakes c.key_of_track.ensures owns
