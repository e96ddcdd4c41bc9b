use Rattle.hall_trait.proofs.Views.{later_then}
use Rattle.std.proofs.Common.{◌≡◌, List, [], ◌++◌, ap, sym, ◌∙◌, subst, arith}
use Rattle.std.specs.Prelude.{unwrap_or}
use Rattle.hall_history.specs.declared.asks.AskIds.{AskIds}
use Rattle.node_store.specs.Given.{Given, ever}
use Rattle.node_store.specs.Kept.{KeepsFor}
use Rattle.registry_core.proofs.RootsGivenBack.{roots-given_back}
use Rattle.registry_core.proofs.UsedByQueries.{used-in_use}
use Rattle.registry_core.specs.Asking.{after_unpin}
use Rattle.registry_core.specs.Registry.{RegistryValue}
use Rattle.registry_core.specs.Roots.{ExchangesRoots, roots_freed_by, roots_kept}
use Rattle.registry_core.specs.UsedBy.{AreUsedBy}
use Rattle.registry_core.specs.declared.answers.RegUnpin.{RegUnpin}
use Rattle.memo_rooms.specs.Rooms.{kept_under}
use Rattle.plain_hall.specs.KeptHistory.{history}
use Rattle.plain_hall.specs.PlainHall.{pins_of}
use Rattle.plain_hall.specs.Rooted.{stakes_under}
use Rattle.plain_hall.specs.Whole.{IsSoundHall}
use Rattle.hall_trait.specs.Pin.{pin_view}
use Rattle.plain_hall.specs.Rooted.{with_trees}
use Rattle.plain_hall.proofs.PinFacts.{pin_query}
use Rattle.plain_hall.proofs.RootStakes.{keeps_both}
use Rattle.plain_hall.proofs.WholeCalls.{whole_unpinned}
use Rattle.plain_hall.proofs.Owed.{owed-unpinned}
use Rattle.plain_hall.proofs.ProfilesKept.{profiles_still}
use Rattle.plain_hall.proofs.Reached.{reach_still}
use Rattle.plain_hall.proofs.Views.{goes_on_alike}
use Rattle.plain_hall.proofs.WholeAfter.{same_numbers}
use Rattle.plain_hall.proofs.hall.PlainHallHall.unpin.Goals as goal

pub unpin-freed-requires : goal.unpin-freed-requires
unpin-freed-requires g c =
    let was = c.args.self.now in
    used-in_use was.registry c.args.pin.ids []
    (subst (λ (qs : List AskIds). AreUsedBy was.registry.traces qs)
    (pin_query was.pin (pin_view c.args.pin) c.requires) was.whole.used)

-- what comes free are the roots that the registry gives up
freed_swap : (r q : RegistryValue) (ids : AskIds) (freed : RegUnpin)
    → Rattle.registry_core.specs.Registry.IsSoundRegistry r
    → freed ≡ Rattle.registry_core.specs.Asking.unpinned ids r.traces
    → ExchangesRoots (roots_kept r.traces) (roots_kept (after_unpin r ids).traces)
    (unwrap_or freed.first [] ++ unwrap_or freed.second []) []
freed_swap r q ids freed sound is = subst (λ (f : RegUnpin). ExchangesRoots (roots_kept r.traces)
    (roots_kept (after_unpin r ids).traces) (roots_freed_by f) []) (sym is) (roots-given_back r ids sound)

pub release_freed-requires-clause-roots : goal.release_freed-requires-clause-roots
release_freed-requires-clause-roots g c =
    let was = c.args.self.now in
    let key_at = ever was.nodes.given in
    let ids = c.args.pin.ids in
    let freed = c.unpin-freed.result in (
      _,
      keeps_both was.nodes key_at (roots_kept was.registry.traces)
          (roots_kept (after_unpin was.registry ids).traces) (unwrap_or freed.first [])
          (unwrap_or freed.second []) (freed_swap was.registry was.registry ids freed was.whole.stands.sound
          c.unpin-freed.ensures.roots) was.whole.roots,
    )

pub release_freed-requires-2-clause-roots : goal.release_freed-requires-2-clause-roots
release_freed-requires-2-clause-roots g c =
    let was = c.args.self.now in
    let key_at = ever was.nodes.given in
    let ids = c.args.pin.ids in
    let freed = c.unpin-freed.result in
    let left = stakes_under key_at (roots_kept (after_unpin was.registry ids).traces) in
    let nodes = c.release_freed.new.nodes in
    let keeps = c.release_freed.ensures.roots (stakes_under key_at (unwrap_or freed.second []) ++ left)
    (keeps_both was.nodes key_at (roots_kept was.registry.traces)
    (roots_kept (after_unpin was.registry ids).traces) (unwrap_or freed.first [])
    (unwrap_or freed.second []) (freed_swap was.registry was.registry ids freed was.whole.stands.sound
    c.unpin-freed.ensures.roots) was.whole.roots) in (
      left,
      subst (λ (n : Given). KeepsFor nodes (stakes_under (ever n) (unwrap_or freed.second []) ++ left))
          (sym c.release_freed.ensures.given) keeps,
    )

pub invariant_of-self : goal.invariant_of-self
invariant_of-self g c =
    let was = c.args.self.now in
    let key_at = ever was.nodes.given in
    let ids = c.args.pin.ids in
    let freed = c.unpin-freed.result in
    let left = stakes_under key_at (roots_kept (after_unpin was.registry ids).traces) in
    let nodes = c.release_freed.new.nodes in
    let keeps = c.release_freed.ensures.roots (stakes_under key_at (unwrap_or freed.second []) ++ left)
    (keeps_both was.nodes key_at (roots_kept was.registry.traces)
    (roots_kept (after_unpin was.registry ids).traces) (unwrap_or freed.first [])
    (unwrap_or freed.second []) (freed_swap was.registry was.registry ids freed was.whole.stands.sound
    c.unpin-freed.ensures.roots) was.whole.roots) in
    let last = c.release_freed-2.ensures.roots left
    (subst (λ (n : Given). KeepsFor nodes (stakes_under (ever n) (unwrap_or freed.second []) ++ left))
    (sym c.release_freed.ensures.given) keeps) in
    record {
      whole = whole_unpinned was.nodes c.release_freed-2.new.nodes was.registry c.unpin-freed.new.self
          (history was.past) ids [] c.unpin-freed.ensures.rest
          (ap (λ (n : Given). ever n) (c.release_freed-2.ensures.given ∙ c.release_freed.ensures.given))
          c.release_freed-2.ensures.store last
          (subst (λ (qs : List AskIds). IsSoundHall was.nodes was.registry (history was.past) qs)
          (pin_query was.pin (pin_view c.args.pin) c.requires) was.whole);
      space = omega (
        arith,
        was.space,
        owed-unpinned was.registry c.unpin-freed.new.self ids c.unpin-freed.ensures.rest,
      );
      held = λ pin none. absurd cc;
      profiles = profiles_still was.nodes c.release_freed-2.new.nodes (kept_under was.memos)
          (same_numbers was.nodes c.release_freed-2.new.nodes
          (ap (λ (n : Given). ever n) (c.release_freed-2.ensures.given ∙ c.release_freed.ensures.given)))
          was.profiles;
    }

pub returns-clause-rest : goal.returns-clause-rest
returns-clause-rest g c =
    goes_on_alike _ _ _ _ _ (later_then _ _ _ c.release_freed.ensures.next c.release_freed-2.ensures.next)

pub returns-clause-reach : goal.returns-clause-reach
returns-clause-reach g c =
    let was = c.args.self.now in
    reach_still was.nodes c.release_freed-2.new.nodes was.registry c.unpin-freed.new.self (pins_of was) []
    (with_trees (ever c.release_freed-2.new.nodes.given) (history was.past))
    (same_numbers was.nodes c.release_freed-2.new.nodes
    (ap (λ (n : Given). ever n) (c.release_freed-2.ensures.given ∙ c.release_freed.ensures.given)))
    (λ p has none. absurd (omega (arith, none.1)))
