-- The trace that is found was changed, if there is one.
use Rattle.std.proofs.Common.{ap, refl, ◌≡◌, Some}
use Rattle.registry_core.specs.Registry.{kept_trace, with_changed}
use Rattle.registry_core.specs.Trace.{used_less}
use Rattle.registry_core.specs.declared.traces.Traces.TheInside.{Inside}
use Rattle.registry_core.proofs.ById.{AreKept, AreKept-from, keys_kept, lent_kept, unwritten_kept}
use Rattle.registry_core.proofs.ById.{values_kept, written_kept}
use Rattle.registry_core.proofs.traces.Traces.lower.Goals as goal
use Rattle.registry_core.proofs.traces.Traces.lower.Goals.{Joined-get_mut, in-Some, in_default, In-Some}

-- what is lent is kept
lent : (c : In-Some) → kept_trace c.args.self.now c.args.id ≡ Some c.in-Some.trace.now
lent c = lent_kept c.args.id c.in-Some.trace.now
    (AreKept-from _ _ c.self.invariant.0 c.self.invariant.1 c.self.view_is) c.in-Some.ensures.value

pub lower-requires : goal.lower-requires
lower-requires c = c.requires c.in-Some.trace.now (lent c)

-- what the map keeps then
after : (c : Joined-get_mut)
    → AreKept c.match-get_mut.self-inside.by_id.entries (with_changed c.args.id (used_less 1) c.args.self.now)
after c =
    let before = AreKept-from _ _ c.self.invariant.0 c.self.invariant.1 c.self.view_is in
    elim c.match-get_mut.branch [
      | in-Some w ↦ written_kept c.args.id (used_less 1) (λ t. refl) _ _ c.self.inside.by_id
          (c.get_mut.follows.lender w.lower.new.self) _ before w.in-Some.ensures.value w.lower.ensures
          (c.get_mut.follows.holds w.lower.new.self) (ap (λ (a : Inside). a.by_id.entries) w.self-inside-is)
      | in_default w ↦ unwritten_kept c.args.id (used_less 1) c.self.inside.by_id
          c.get_mut.follows.lender-at-none _ before w.in_default.ensures.value c.get_mut.follows.holds-at-none
          (ap (λ (a : Inside). a.by_id.entries) w.self-inside-is)
    ]

pub invariant_of-self : goal.invariant_of-self
invariant_of-self c = ((after c).rising, keys_kept (after c))

pub returns : goal.returns
returns c = values_kept (after c)
