use Rattle.std.proofs.Common.{◌≡◌, ◌∙◌, ℕ, ◌+◌, ◌≤◌, List, ◌++◌, Contains, refl, sym, ap, subst, arith}
use Rattle.hall_history.specs.History.{Asked, Closed}
use Rattle.hall_history.specs.declared.seat.PinView.{PinView}
use Rattle.memo_rooms.specs.Rooms.{kept_under}
use Rattle.node_key.specs.Stands.{KeyAt}
use Rattle.node_store.specs.Given.{Given, ever, stakes_of}
use Rattle.node_store.specs.Kept.{KeepsFor}
use Rattle.registry_core.proofs.ToldCalls.{told-closed}
use Rattle.registry_core.specs.Closing.{ClosesIn}
use Rattle.registry_core.specs.Registry.{RegistryValue}
use Rattle.registry_core.specs.Roots.{roots_kept}
use Rattle.registry_core.specs.Staying.{KeepsTold}
use Rattle.registry_core.specs.declared.answers.RegClose.{RegClose}
use Rattle.registry_core.specs.declared.answers.RegClose.TheVariants as close
use Rattle.registry_core.specs.declared.answers.RegEnd.TheVariants.{Ended, Kept}
use Rattle.plain_hall.specs.Loading.{passes_of}
use Rattle.plain_hall.specs.KeptHistory.{HasSpace, entries_owed, history}
use Rattle.plain_hall.specs.PlainHall.{pins_of, seen_by}
use Rattle.plain_hall.specs.PlainSeat.{queries_of}
use Rattle.plain_hall.specs.Profiles.{AreProfiles}
use Rattle.plain_hall.specs.Rooted.{stakes_under, with_trees}
use Rattle.plain_hall.specs.declared.hall.PlainHall.{PlainHall}
use Rattle.plain_hall.proofs.Found.{held_more}
use Rattle.plain_hall.proofs.OwnEntries.{asked_loads, asked_next, asked_unknown, asks_own, makes_own}
use Rattle.plain_hall.proofs.OwedEnds.{owed-closed, owed-closed_kept}
use Rattle.plain_hall.proofs.Passes.{closed_passes}
use Rattle.plain_hall.proofs.PinFacts.{pin_runs}
use Rattle.plain_hall.proofs.Reached.{reach_still}
use Rattle.plain_hall.proofs.RootStakes.{keeps_taken}
use Rattle.plain_hall.proofs.Views.{goes_on_alike}
use Rattle.plain_hall.proofs.WholeAfter.{same_numbers, seen_more}
use Rattle.plain_hall.proofs.WholeCalls.{ClosesTrace, closed_sealed, closes_ended, closes_kept}
use Rattle.plain_hall.proofs.WholeCalls.{ended_roots, kept_roots, whole_asked, whole_closed}
use Rattle.hall_trait.proofs.Views.{later_same}
use Rattle.plain_hall.proofs.hall.PlainHallHall.close.Goals as goal

-- what the registry answered
answered : (r q : RegistryValue) (id : ℕ) (a b : RegClose) → a ≡ b → ClosesIn r id a q → ClosesIn r id b q
answered r q id a b is closes = subst (λ (o : RegClose). ClosesIn r id o q) is closes

ended_by : (was : PlainHall) (q : RegistryValue) (id place : ℕ) (roots : List ℕ) (a : RegClose)
    → a ≡ close.Ended place roots → ClosesIn was.registry id a q
    → ClosesTrace was.registry id (Ended place roots) q
ended_by was q id place roots a is closes = closes_ended was.registry q id place roots was.whole.stands.sound
    (answered was.registry q id a (close.Ended place roots) is closes)

kept_by : (was : PlainHall) (q : RegistryValue) (id place : ℕ) (a : RegClose) → a ≡ close.Kept place
    → ClosesIn was.registry id a q → ClosesTrace was.registry id (Kept place) q
kept_by was q id place a is closes = closes_kept was.registry q id place was.whole.stands.sound
    (answered was.registry q id a (close.Kept place) is closes)

-- the end of the trace was owed
ended_owed : (was : PlainHall) (q : RegistryValue) (id place : ℕ) (roots : List ℕ) (a : RegClose)
    → a ≡ close.Ended place roots → ClosesIn was.registry id a q
    → entries_owed q + 1 ≤ entries_owed was.registry
ended_owed was q id place roots a is closes = owed-closed was.registry q id place roots was.whole.stands.sound
    (answered was.registry q id a (close.Ended place roots) is closes)

kept_owed : (was : PlainHall) (q : RegistryValue) (id place : ℕ) (a : RegClose) → a ≡ close.Kept place
    → ClosesIn was.registry id a q → entries_owed q + 1 ≤ entries_owed was.registry
kept_owed was q id place a is closes = owed-closed_kept was.registry q id place was.whole.stands.sound
    (answered was.registry q id a (close.Kept place) is closes)

-- what the pin is told stays
told : (was : PlainHall) (q : RegistryValue) (id : ℕ) (a : RegClose) → ClosesIn was.registry id a q
    → (p : PinView) → Contains (pins_of was) p → KeepsTold was.registry q p.ids p.place
told was q id a closes p has = told-closed was.registry q id a (queries_of was.pin) p.ids p.place
    was.whole.stands.sound was.whole.used (pin_runs was.pin p has) closes

-- the roots that come free are released
freed : (was : PlainHall) (q : RegistryValue) (id place : ℕ) (roots : List ℕ)
    → ClosesTrace was.registry id (Ended place roots) q
    → KeepsFor was.nodes (stakes_under (ever was.nodes.given) roots
    ++ stakes_under (ever was.nodes.given) (roots_kept q.traces))
freed was q id place roots closes = keeps_taken was.nodes (ever was.nodes.given)
    (roots_kept was.registry.traces) (roots_kept q.traces) roots
    (ended_roots was.registry q id place roots was.whole.stands.sound closes.ends) was.whole.roots

pub push-requires : goal.push-requires
push-requires g c =
    let was = c.args.self.now in
    omega (
      arith,
      was.space,
      ended_owed was c.close.new.self c.args.id c.in-Ended.place c.in-Ended.roots _
          c.in-Ended.is c.close.ensures,
    )

pub push-requires-in-Kept : goal.push-requires-in-Kept
push-requires-in-Kept g c =
    let was = c.args.self.now in
    omega (
      arith,
      was.space,
      kept_owed was c.close.new.self c.args.id c.in-Kept.place _ c.in-Kept.is
          c.close.ensures,
    )

pub release_roots-requires-clause-roots : goal.release_roots-requires-clause-roots
release_roots-requires-clause-roots g c =
    let was = c.args.self.now in
    let closes = ended_by was c.close.new.self c.args.id c.in-Ended.place c.in-Ended.roots _ c.in-Ended.is
    c.close.ensures in
    (_, freed was c.close.new.self c.args.id c.in-Ended.place c.in-Ended.roots closes)

pub invariant_of-self : goal.invariant_of-self
invariant_of-self g c =
    let was = c.args.self.now in
    let new = c.close.new.self in
    let closes = ended_by was new c.args.id c.in-Ended.place c.in-Ended.roots _ c.in-Ended.is c.close.ensures
    in
    let same = ap (λ (n : Given). ever n) c.release_roots.ensures.given in
    record {
      whole = whole_closed was.nodes c.release_roots.new.nodes was.registry new (history was.past) _ c.args.id
          _ (queries_of was.pin) c.push.ensures.seen closes same c.release_roots.ensures.store
          (c.release_roots.ensures.roots _ (freed was new c.args.id c.in-Ended.place c.in-Ended.roots closes))
          was.whole;
      space = c.push.ensures.space (entries_owed new)
          (omega (
            arith,
            was.space,
            ended_owed was new c.args.id c.in-Ended.place c.in-Ended.roots _
                c.in-Ended.is c.close.ensures,
          ));
      held = held_more _ _ _ was.pin c.push.ensures.seen was.held;
      profiles = subst (λ (key_at : KeyAt). AreProfiles key_at (kept_under was.memos)) (sym same)
          was.profiles;
    }

pub invariant_of-self-in-Kept : goal.invariant_of-self-in-Kept
invariant_of-self-in-Kept g c =
    let was = c.args.self.now in
    let new = c.close.new.self in
    let closes = kept_by was new c.args.id c.in-Kept.place _ c.in-Kept.is c.close.ensures in
    record {
      whole = whole_closed was.nodes was.nodes was.registry new (history was.past) _ c.args.id _
          (queries_of was.pin) c.push-in-Kept.ensures.seen closes refl was.whole.store
          (subst (λ (roots : List ℕ). KeepsFor was.nodes (stakes_under (ever was.nodes.given) roots))
          (sym (kept_roots was.registry new c.args.id c.in-Kept.place closes.ends)) was.whole.roots)
          was.whole;
      space = c.push-in-Kept.ensures.space (entries_owed new)
          (omega (
            arith,
            was.space,
            kept_owed was new c.args.id c.in-Kept.place _ c.in-Kept.is
                c.close.ensures,
          ));
      held = held_more _ _ _ was.pin c.push-in-Kept.ensures.seen was.held;
      profiles = was.profiles;
    }

pub invariant_of-self-in-Loading : goal.invariant_of-self-in-Loading
invariant_of-self-in-Loading g c =
    let was = c.args.self.now in
    let new = c.close.new.self in
    let (fits, t, on, loads, is, becomes) = answered was.registry new c.args.id _
    (close.Loading c.in-Loading.place) c.in-Loading.is c.close.ensures in
    record {
      whole = whole_asked was.nodes was.registry new (history was.past) _ _ c.push_asked.ensures.seen becomes
          fits was.whole;
      space = subst (λ (r : RegistryValue). HasSpace c.push_asked.new.self (entries_owed r))
          (sym becomes) (c.push_asked.ensures.space (entries_owed was.registry) was.space);
      held = held_more _ _ _ was.pin c.push_asked.ensures.seen was.held;
      profiles = was.profiles;
    }

pub invariant_of-self-in-Unknown : goal.invariant_of-self-in-Unknown
invariant_of-self-in-Unknown g c =
    let was = c.args.self.now in
    let new = c.close.new.self in
    let (fits, none, next, is, becomes) = answered was.registry new c.args.id _
    (close.Unknown c.in-Unknown.next c.in-Unknown.place) c.in-Unknown.is c.close.ensures in
    record {
      whole = whole_asked was.nodes was.registry new (history was.past) _ _
          c.push_asked-in-Unknown.ensures.seen becomes fits was.whole;
      space = subst (λ (r : RegistryValue). HasSpace c.push_asked-in-Unknown.new.self (entries_owed r))
          (sym becomes) (c.push_asked-in-Unknown.ensures.space (entries_owed was.registry) was.space);
      held = held_more _ _ _ was.pin c.push_asked-in-Unknown.ensures.seen was.held;
      profiles = was.profiles;
    }

pub returns-in-Ended-clause-answer : goal.returns-in-Ended-clause-answer
returns-in-Ended-clause-answer g c =
    let was = c.args.self.now in
    let id = c.args.id in
    let closes = ended_by was c.close.new.self id c.in-Ended.place c.in-Ended.roots _ c.in-Ended.is
    c.close.ensures in
    let seen = ap (λ (n : Given). with_trees (ever n) (history c.push.new.self)) c.release_roots.ensures.given
    ∙ seen_more (ever was.nodes.given) _ _ (Closed id) c.push.ensures.seen in
    makes_own was.nodes was.registry (history was.past) (queries_of was.pin) _ _ _ _ (Closed id)
    c.in-Ended.place was.whole closes.fits (ap (λ (n : Given). stakes_of n) c.release_roots.ensures.given)
    seen closes.ends.3
    (ap passes_of seen ∙ closed_passes (seen_by was) id (closed_sealed was.nodes was.registry c.close.new.self
    (history was.past) id _ (queries_of was.pin) closes was.whole))

pub returns-in-Kept-clause-answer : goal.returns-in-Kept-clause-answer
returns-in-Kept-clause-answer g c =
    let was = c.args.self.now in
    let id = c.args.id in
    let closes = kept_by was c.close.new.self id c.in-Kept.place _ c.in-Kept.is c.close.ensures in
    let seen = seen_more (ever was.nodes.given) _ _ (Closed id) c.push-in-Kept.ensures.seen in
    makes_own was.nodes was.registry (history was.past) (queries_of was.pin) _ _ _ _ (Closed id)
    c.in-Kept.place was.whole closes.fits refl seen closes.ends.3
    (ap passes_of seen ∙ closed_passes (seen_by was) id (closed_sealed was.nodes was.registry c.close.new.self
    (history was.past) id _ (queries_of was.pin) closes was.whole))

pub returns-in-Loading-clause-answer : goal.returns-in-Loading-clause-answer
returns-in-Loading-clause-answer g c =
    let was = c.args.self.now in
    let (fits, t, on, loads, is, becomes) = answered was.registry c.close.new.self c.args.id _
    (close.Loading c.in-Loading.place) c.in-Loading.is c.close.ensures in
    let seen = seen_more (ever was.nodes.given) _ _ Asked c.push_asked.ensures.seen in (
      asks_own was.nodes was.registry (history was.past) (queries_of was.pin) _ _ _ c.in-Loading.place
          was.whole fits seen is,
      asked_loads was.nodes was.registry (history was.past) (queries_of was.pin) _ c.args.id t was.whole
          seen on loads,
    )

pub returns-in-Unknown-clause-answer : goal.returns-in-Unknown-clause-answer
returns-in-Unknown-clause-answer g c =
    let was = c.args.self.now in
    let (fits, none, next, is, becomes) = answered was.registry c.close.new.self c.args.id _
    (close.Unknown c.in-Unknown.next c.in-Unknown.place) c.in-Unknown.is c.close.ensures in
    let seen = seen_more (ever was.nodes.given) _ _ Asked c.push_asked-in-Unknown.ensures.seen in (
      asks_own was.nodes was.registry (history was.past) (queries_of was.pin) _ _ _ c.in-Unknown.place
          was.whole fits seen is,
      asked_unknown was.nodes was.registry (history was.past) (queries_of was.pin) _ c.args.id was.whole
          seen none,
      asked_next was.nodes was.registry (history was.past) (queries_of was.pin) _ c.in-Unknown.next
          was.whole seen next,
    )

-- ---- what goes on

pub returns-in-Kept-clause-rest : goal.returns-in-Kept-clause-rest
returns-in-Kept-clause-rest g c = goes_on_alike _ _ _ _ _ (later_same _)

pub returns-in-Loading-clause-rest : goal.returns-in-Loading-clause-rest
returns-in-Loading-clause-rest g c = goes_on_alike _ _ _ _ _ (later_same _)

pub returns-in-Unknown-clause-rest : goal.returns-in-Unknown-clause-rest
returns-in-Unknown-clause-rest g c =
    goes_on_alike _ _ _ _ _ (later_same _)

pub returns-in-Spent-clause-rest : goal.returns-in-Spent-clause-rest
returns-in-Spent-clause-rest g c = goes_on_alike _ _ _ _ _ (later_same _)

pub returns-in-Ended-clause-reach : goal.returns-in-Ended-clause-reach
returns-in-Ended-clause-reach g c =
    let was = c.args.self.now in
    reach_still was.nodes c.release_roots.new.nodes was.registry c.close.new.self _ _ (seen_by was)
    (same_numbers was.nodes c.release_roots.new.nodes
    (ap (λ (n : Given). ever n) c.release_roots.ensures.given))
    (λ p has left. told was c.close.new.self c.args.id c.close.result c.close.ensures p has)

pub returns-in-Kept-clause-reach : goal.returns-in-Kept-clause-reach
returns-in-Kept-clause-reach g c =
    let was = c.args.self.now in
    reach_still was.nodes was.nodes was.registry c.close.new.self _ _ (seen_by was)
    (same_numbers was.nodes was.nodes refl)
    (λ p has left. told was c.close.new.self c.args.id c.close.result c.close.ensures p has)

pub returns-in-Loading-clause-reach : goal.returns-in-Loading-clause-reach
returns-in-Loading-clause-reach g c =
    let was = c.args.self.now in
    reach_still was.nodes was.nodes was.registry c.close.new.self _ _ (seen_by was)
    (same_numbers was.nodes was.nodes refl)
    (λ p has left. told was c.close.new.self c.args.id c.close.result c.close.ensures p has)

pub returns-in-Unknown-clause-reach : goal.returns-in-Unknown-clause-reach
returns-in-Unknown-clause-reach g c =
    let was = c.args.self.now in
    reach_still was.nodes was.nodes was.registry c.close.new.self _ _ (seen_by was)
    (same_numbers was.nodes was.nodes refl)
    (λ p has left. told was c.close.new.self c.args.id c.close.result c.close.ensures p has)
