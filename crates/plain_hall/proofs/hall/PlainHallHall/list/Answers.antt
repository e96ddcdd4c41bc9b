use Rattle.std.proofs.Common.{◌≡◌, ◌+◌, Ok, Result, ap, sym, ◌∙◌, refl, subst, arith}
use Rattle.hall_history.specs.History.{Asked}
use Rattle.hall_history.specs.declared.listing.Listing.{Listing}
use Rattle.hall_trait.proofs.Views.{later_same}
use Rattle.node_store.specs.Given.{ever}
use Rattle.registry_core.proofs.OpenRows.{rows_told}
use Rattle.registry_core.specs.Closing.{ListsIn, rows_of}
use Rattle.registry_core.specs.Standing.{AreTrees}
use Rattle.registry_core.specs.declared.answers.RegFault.{RegFault}
use Rattle.plain_hall.specs.KeptHistory.{entries_owed, history}
use Rattle.plain_hall.specs.PlainHall.{seen_by}
use Rattle.plain_hall.specs.PlainSeat.{queries_of}
use Rattle.plain_hall.specs.Rooted.{with_trees}
use Rattle.plain_hall.specs.Whole.{at_first}
use Rattle.plain_hall.proofs.Calls.{asked_passes}
use Rattle.plain_hall.proofs.Found.{held_more}
use Rattle.plain_hall.proofs.LoadFacts.{last_place}
use Rattle.plain_hall.proofs.Owed.{owed-asked}
use Rattle.plain_hall.proofs.Steps.{makes}
use Rattle.plain_hall.proofs.Views.{goes_on_alike}
use Rattle.plain_hall.proofs.WholeAfter.{seen_more}
use Rattle.plain_hall.proofs.WholeCalls.{whole_asked}
use Rattle.plain_hall.proofs.hall.PlainHallHall.list.Goals as goal

pub invariant_of-self : goal.invariant_of-self
invariant_of-self g c =
    let was = c.args.self.now in
    let lists : ListsIn was.registry (Ok c.in-Ok.listing) c.list.new.self =
    subst (λ (o : Result Listing RegFault). ListsIn was.registry o c.list.new.self) c.in-Ok.is c.list.ensures in
    record {
      whole = whole_asked was.nodes was.registry c.list.new.self (history was.past) _ _
          c.push_asked.ensures.seen lists.2 lists.0 was.whole;
      space = omega (
        arith,
        c.push_asked.ensures.space (entries_owed was.registry) was.space,
        owed-asked was.registry c.list.new.self lists.2,
      );
      held = held_more _ _ _ was.pin c.push_asked.ensures.seen was.held;
      profiles = was.profiles;
    }

pub returns-in-Ok-clause-answer : goal.returns-in-Ok-clause-answer
returns-in-Ok-clause-answer g c =
    let was = c.args.self.now in
    let lists : ListsIn was.registry (Ok c.in-Ok.listing) c.list.new.self =
    subst (λ (o : Result Listing RegFault). ListsIn was.registry o c.list.new.self) c.in-Ok.is c.list.ensures in
    let whole = whole_asked was.nodes was.registry c.list.new.self (history was.past) (history c.push_asked.new.self)
    (queries_of was.pin) c.push_asked.ensures.seen lists.2 lists.0 was.whole in
    let seen = seen_more (ever was.nodes.given) _ _ Asked c.push_asked.ensures.seen in
    let place : c.in-Ok.listing.place ≡ was.registry.place + 1 = ap (λ (l : Listing). l.place) lists.1 in (
      record {
        entered = makes _ _ _ _ _ _ _ _ seen
            (last_place _ _ (seen_by was) _ _ c.in-Ok.listing.place was.whole.stands seen place);
        pins = refl;
        passes = asked_passes _ _ seen;
        stakes = refl;
        room = omega (arith, lists.0, was.whole.stands.place, was.whole.stands.promised);
      },
      ap (λ (l : Listing). l.rows) lists.1 ∙ sym (ap rows_of lists.2)
          ∙ rows_told (AreTrees (ever was.nodes.given)) at_first c.list.new.self
          (with_trees (ever was.nodes.given) (history c.push_asked.new.self)) whole.stands,
    )

pub returns-in-Ok-clause-rest : goal.returns-in-Ok-clause-rest
returns-in-Ok-clause-rest g c = goes_on_alike _ _ _ _ _ (later_same _)

pub returns-in-Err-Spent-clause-rest : goal.returns-in-Err-Spent-clause-rest
returns-in-Err-Spent-clause-rest g c = goes_on_alike _ _ _ _ _ (later_same _)

pub returns-in-Err-Memory-clause-rest : goal.returns-in-Err-Memory-clause-rest
returns-in-Err-Memory-clause-rest g c = goes_on_alike _ _ _ _ _ (later_same _)
