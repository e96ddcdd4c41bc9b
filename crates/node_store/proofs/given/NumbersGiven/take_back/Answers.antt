use Rattle.std.proofs.Common.{◌∙◌}
use Rattle.node_store.proofs.TakenBack.{taken_back}
use Rattle.node_store.proofs.given.NumbersGiven.take_back.Goals as goal

pub returns : goal.returns
returns c = λ before e within is. taken_back _ before c.args.room e _ c.pop.new.self c.pop.result within
    (c.self.view_is ∙ is) c.index_mut.ensures.value c.pop.ensures
