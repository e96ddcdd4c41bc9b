use Rattle.std.proofs.Common.{◌∙◌, List, ℕ, ap, sym, subst, arith, refl}
use Rattle.hall_history.specs.History.{Dropped}
use Rattle.node_store.specs.Given.{Given, ever}
use Rattle.node_store.specs.Kept.{KeepsFor}
use Rattle.registry_core.specs.Loading.{EndsIn}
use Rattle.registry_core.specs.Roots.{roots_kept}
use Rattle.registry_core.specs.declared.answers.RegEnd.{RegEnd}
use Rattle.registry_core.specs.declared.answers.RegEnd.TheVariants.{Ended, Kept}
use Rattle.memo_rooms.specs.Rooms.{kept_under}
use Rattle.hall_trait.proofs.Views.{later_same}
use Rattle.registry_core.proofs.ToldCalls.{told-given_up}
use Rattle.plain_hall.specs.KeptHistory.{entries_owed, history}
use Rattle.plain_hall.specs.PlainHall.{pins_of, seen_by}
use Rattle.plain_hall.specs.PlainSeat.{queries_of}
use Rattle.plain_hall.specs.Rooted.{stakes_under, with_trees}
use Rattle.plain_hall.proofs.Calls.{load_entry, pass_facts}
use Rattle.plain_hall.proofs.Found.{held_more}
use Rattle.plain_hall.proofs.LoadFacts.{last_place, loading_kept, owes}
use Rattle.plain_hall.proofs.Passes.{dropped_ends}
use Rattle.plain_hall.proofs.RootStakes.{keeps_taken}
use Rattle.plain_hall.proofs.WholeAfter.{same_numbers, seen_more}
use Rattle.plain_hall.proofs.WholeCalls.{ended_roots, kept_roots, whole_dropped}
use Rattle.plain_hall.proofs.OwedEnds.{fewer_owed}
use Rattle.plain_hall.proofs.PinFacts.{pin_runs}
use Rattle.plain_hall.proofs.ProfilesKept.{profiles_still}
use Rattle.plain_hall.proofs.Reached.{reach_still}
use Rattle.plain_hall.proofs.Views.{goes_on_alike}
use Rattle.plain_hall.proofs.hall.PlainHallHall.abandon.Goals as goal

pub push-requires : goal.push-requires
push-requires g c =
    let was = c.args.self.now in
    let facts = pass_facts _ c.args.pass was.whole.orderly c.requires.has in
    omega (arith, was.space, owes _ _ _ _ c.args.pass.id was.whole.stands facts.loading)

pub abandon-requires : goal.abandon-requires
abandon-requires g c =
    let was = c.args.self.now in
    let facts = pass_facts _ c.args.pass was.whole.orderly c.requires.has in
    loading_kept _ _ _ _ c.args.pass.id was.whole.stands facts.loading

pub release_roots-requires-clause-roots : goal.release_roots-requires-clause-roots
release_roots-requires-clause-roots g c =
    let was = c.args.self.now in
    let id = c.args.pass.id in
    let new = c.abandon.new.self in
    let end : EndsIn was.registry id (Ended c.in-Ended.place c.in-Ended.roots) new =
    subst (λ (o : RegEnd). EndsIn was.registry id o new) c.in-Ended.is c.abandon.ensures in (
      stakes_under (ever was.nodes.given) (roots_kept new.traces),
      keeps_taken was.nodes (ever was.nodes.given) (roots_kept was.registry.traces) (roots_kept new.traces)
          c.in-Ended.roots (ended_roots was.registry new id c.in-Ended.place c.in-Ended.roots
          was.whole.stands.sound end) was.whole.roots,
    )

pub invariant_of-self : goal.invariant_of-self
invariant_of-self g c =
    let was = c.args.self.now in
    let id = c.args.pass.id in
    let new = c.abandon.new.self in
    let facts = pass_facts _ c.args.pass was.whole.orderly c.requires.has in
    let loads = loading_kept _ _ _ _ id was.whole.stands facts.loading in
    let end : EndsIn was.registry id (Ended c.in-Ended.place c.in-Ended.roots) new =
    subst (λ (o : RegEnd). EndsIn was.registry id o new) c.in-Ended.is c.abandon.ensures in
    let keeps = keeps_taken was.nodes (ever was.nodes.given) (roots_kept was.registry.traces)
    (roots_kept new.traces) c.in-Ended.roots (ended_roots was.registry new id c.in-Ended.place
    c.in-Ended.roots was.whole.stands.sound end) was.whole.roots in
    let fewer = fewer_owed was.registry new id (Ended c.in-Ended.place c.in-Ended.roots)
    was.whole.stands.sound loads end in
    record {
      whole = whole_dropped was.nodes c.release_roots.new.nodes was.registry new (history was.past) _ id
          (Ended c.in-Ended.place c.in-Ended.roots) _ c.push.ensures.seen loads end
          (ap (λ (n : Given). ever n) c.release_roots.ensures.given) c.release_roots.ensures.store
          (c.release_roots.ensures.roots _ keeps) was.whole;
      space = c.push.ensures.space (entries_owed new) (omega (arith, was.space, fewer));
      held = held_more _ _ _ was.pin c.push.ensures.seen was.held;
      profiles = profiles_still was.nodes c.release_roots.new.nodes (kept_under was.memos)
          (same_numbers was.nodes c.release_roots.new.nodes
          (ap (λ (n : Given). ever n) c.release_roots.ensures.given)) was.profiles;
    }

pub invariant_of-self-in-Kept-1 : goal.invariant_of-self-in-Kept-1
invariant_of-self-in-Kept-1 g c =
    let was = c.args.self.now in
    let id = c.args.pass.id in
    let new = c.abandon.new.self in
    let facts = pass_facts _ c.args.pass was.whole.orderly c.requires.has in
    let loads = loading_kept _ _ _ _ id was.whole.stands facts.loading in
    let end : EndsIn was.registry id (Kept c.in-Kept.place) new =
    subst (λ (o : RegEnd). EndsIn was.registry id o new) c.in-Kept.is c.abandon.ensures in
    let fewer = fewer_owed was.registry new id (Kept c.in-Kept.place) was.whole.stands.sound loads end in
    record {
      whole = whole_dropped was.nodes was.nodes was.registry new (history was.past) _ id
          (Kept c.in-Kept.place) _ c.push.ensures.seen loads end refl was.whole.store
          (subst (λ (roots : List ℕ). KeepsFor was.nodes (stakes_under (ever was.nodes.given) roots))
          (sym (kept_roots was.registry new id c.in-Kept.place end)) was.whole.roots) was.whole;
      space = c.push.ensures.space (entries_owed new) (omega (arith, was.space, fewer));
      held = held_more _ _ _ was.pin c.push.ensures.seen was.held;
      profiles = was.profiles;
    }

pub returns-in-Ended-clause-answer : goal.returns-in-Ended-clause-answer
returns-in-Ended-clause-answer g c =
    let was = c.args.self.now in
    let id = c.args.pass.id in
    let facts = pass_facts _ c.args.pass was.whole.orderly c.requires.has in
    let end : EndsIn was.registry id (Ended c.in-Ended.place c.in-Ended.roots) c.abandon.new.self =
    subst (λ (o : RegEnd). EndsIn was.registry id o c.abandon.new.self) c.in-Ended.is c.abandon.ensures in
    let seen = ap (λ (n : Given). with_trees (ever n) (history c.push.new.self)) c.release_roots.ensures.given
    ∙ seen_more (ever was.nodes.given) _ _ (Dropped id) c.push.ensures.seen in
    load_entry _ _ _ _ _ c.args.pass _ c.in-Ended.place seen
    (last_place _ _ (seen_by was) _ _ c.in-Ended.place was.whole.stands seen end.3) facts
    (dropped_ends _ id was.whole.orderly facts.loading)

pub returns-in-Kept-clause-answer : goal.returns-in-Kept-clause-answer
returns-in-Kept-clause-answer g c =
    let was = c.args.self.now in
    let id = c.args.pass.id in
    let facts = pass_facts _ c.args.pass was.whole.orderly c.requires.has in
    let end : EndsIn was.registry id (Kept c.in-Kept.place) c.abandon.new.self =
    subst (λ (o : RegEnd). EndsIn was.registry id o c.abandon.new.self) c.in-Kept.is c.abandon.ensures in
    let seen = seen_more (ever was.nodes.given) _ _ (Dropped id) c.push.ensures.seen in
    load_entry _ _ _ _ _ c.args.pass _ c.in-Kept.place seen
    (last_place _ _ (seen_by was) _ _ c.in-Kept.place was.whole.stands seen end.3) facts
    (dropped_ends _ id was.whole.orderly facts.loading)

pub returns-in-Kept-clause-rest : goal.returns-in-Kept-clause-rest
returns-in-Kept-clause-rest g c = goes_on_alike _ _ _ _ _ (later_same _)

pub returns-in-Ended-clause-reach : goal.returns-in-Ended-clause-reach
returns-in-Ended-clause-reach g c =
    let was = c.args.self.now in
    reach_still was.nodes c.release_roots.new.nodes was.registry c.abandon.new.self (pins_of was) (pins_of was)
    (with_trees (ever c.release_roots.new.nodes.given) (history c.push.new.self))
    (same_numbers was.nodes c.release_roots.new.nodes
    (ap (λ (n : Given). ever n) c.release_roots.ensures.given)) (λ p has still.
    told-given_up was.registry c.abandon.new.self c.args.pass.id c.abandon.result (queries_of was.pin) p.ids p.place
    was.whole.used (pin_runs was.pin p has) c.abandon.ensures)

pub returns-in-Kept-clause-reach : goal.returns-in-Kept-clause-reach
returns-in-Kept-clause-reach g c =
    let was = c.args.self.now in
    reach_still was.nodes was.nodes was.registry c.abandon.new.self (pins_of was) (pins_of was)
    (with_trees (ever was.nodes.given) (history c.push.new.self))
    (λ n key at. at) (λ p has still.
    told-given_up was.registry c.abandon.new.self c.args.pass.id c.abandon.result (queries_of was.pin) p.ids p.place
    was.whole.used (pin_runs was.pin p has) c.abandon.ensures)
