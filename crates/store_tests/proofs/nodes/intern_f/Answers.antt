use Rattle.std.proofs.Common.{[]}
use Rattle.node_key.specs.Examples.{tenth}
use Rattle.store_tests.proofs.Owning.{owned_answer}
use Rattle.store_tests.proofs.nodes.intern_f.Goals as goal

pub returns-clause-stakes : goal.returns-clause-stakes
returns-clause-stakes c = λ xs owns.
    owned_answer c.args.store.now c.intern.new.self _ c.in_ok-intern.field-0 _ tenth ([]) xs c.number.ensures
    c.in_ok-intern.ensures.stakes c.key_of_f.ensures owns
