use Rattle.std.proofs.Common.{arith, subst, sym}
use Rattle.hall_history.specs.History.{Sealed}
use Rattle.node_store.specs.Given.{ever}
use Rattle.registry_core.specs.Registry.{RegistryValue}
use Rattle.registry_core.specs.Staying.{KeepsTold}
use Rattle.hall_trait.proofs.Views.{later_same}
use Rattle.registry_core.proofs.ToldCalls.{told-sealed}
use Rattle.plain_hall.specs.KeptHistory.{entries_owed, history}
use Rattle.plain_hall.specs.PlainHall.{pins_of, seen_by}
use Rattle.plain_hall.specs.Rooted.{with_trees}
use Rattle.plain_hall.proofs.Calls.{load_entry, pass_facts, whole_is_all}
use Rattle.plain_hall.proofs.Found.{held_more}
use Rattle.plain_hall.proofs.LoadFacts.{awaits_seal, last_place, owes}
use Rattle.plain_hall.proofs.Passes.{sealed_ends}
use Rattle.plain_hall.proofs.WholeAfter.{seen_more}
use Rattle.plain_hall.proofs.WholeCalls.{whole_sealed}
use Rattle.plain_hall.proofs.Owed.{owed-sealed}
use Rattle.plain_hall.proofs.Reached.{reach_still}
use Rattle.plain_hall.proofs.Views.{goes_on_alike}
use Rattle.plain_hall.proofs.hall.PlainHallHall.seal.Goals as goal

pub push-requires : goal.push-requires
push-requires g c =
    let was = c.args.self.now in
    let facts = pass_facts _ c.args.pass was.whole.orderly c.requires.has in
    omega (arith, was.space, owes _ _ _ _ c.args.pass.id was.whole.stands facts.loading)

pub seal-requires : goal.seal-requires
seal-requires g c =
    let was = c.args.self.now in
    let facts = pass_facts _ c.args.pass was.whole.orderly c.requires.has in
    awaits_seal _ _ _ _ c.args.pass.id was.whole.stands facts.loading
    (whole_is_all _ c.args.pass facts c.requires.whole)

pub invariant_of-self : goal.invariant_of-self
invariant_of-self g c =
    let was = c.args.self.now in
    let facts = pass_facts _ c.args.pass was.whole.orderly c.requires.has in
    let owed = owes _ _ _ _ c.args.pass.id was.whole.stands facts.loading in
    let left = owed-sealed was.registry c.seal.new.self c.args.pass.id owed c.seal.ensures.rest in
    record {
      whole = whole_sealed _ _ _ _ _ c.args.pass.id _ c.push.ensures.seen c.seal.ensures.rest
          (awaits_seal _ _ _ _ c.args.pass.id was.whole.stands facts.loading
          (whole_is_all _ c.args.pass facts c.requires.whole)) was.whole;
      space = c.push.ensures.space (entries_owed c.seal.new.self) (omega (arith, was.space, left));
      held = held_more _ _ _ was.pin c.push.ensures.seen was.held;
      profiles = was.profiles;
    }

pub returns-clause-answer : goal.returns-clause-answer
returns-clause-answer g c =
    let was = c.args.self.now in
    let facts = pass_facts _ c.args.pass was.whole.orderly c.requires.has in
    let seen = seen_more (ever was.nodes.given) _ _ (Sealed c.args.pass.id) c.push.ensures.seen in
    load_entry _ _ _ _ _ c.args.pass _ c.seal.result seen
    (last_place _ _ (seen_by was) _ _ c.seal.result was.whole.stands seen c.seal.ensures.place)
    facts (sealed_ends _ c.args.pass.id was.whole.orderly facts.loading)

pub returns-clause-rest : goal.returns-clause-rest
returns-clause-rest g c = goes_on_alike _ _ _ _ _ (later_same _)

pub returns-clause-reach : goal.returns-clause-reach
returns-clause-reach g c =
    let was = c.args.self.now in
    reach_still was.nodes was.nodes was.registry c.seal.new.self (pins_of was) (pins_of was)
    (with_trees (ever was.nodes.given) (history c.push.new.self)) (λ n key at. at)
    (λ p has still. subst (λ (q : RegistryValue). KeepsTold was.registry q p.ids p.place)
    (sym c.seal.ensures.rest) (told-sealed was.registry c.args.pass.id p.ids p.place))
