use Rattle.std.proofs.Common.{◌≡◌, ◌+◌, length, sym, ap, ◌∙◌, arith}
use Rattle.hall_history.specs.History.{opened_ids}
use Rattle.registry_core.specs.Standing.{AreTrees, Start}
use Rattle.registry_core.specs.declared.answers.Opened.{Opened as OpenedTrace}
use Rattle.registry_core.proofs.FollowsRegistry.{all_told, awaited_none, loads_told}
use Rattle.registry_core.proofs.KeptTraces.{open_kept}
use Rattle.registry_core.proofs.OpenRows.{open_count_told}
use Rattle.registry_core.proofs.laws.following.Goals as goal

pub returns-clause-opened : goal.returns-clause-opened
returns-clause-opened c key_at place old new entries info o stands legal (fits, few, is, becomes) =
    let start : Start = record { place = place; id = 1 } in
    let next : o.id ≡ length (opened_ids entries) + 1 =
    ap (λ (o : OpenedTrace). o.id) is ∙ omega (arith, stands.next_id) in
    (next, legal, omega (arith, few, open_count_told (AreTrees key_at) start old entries stands))

pub returns-clause-published : goal.returns-clause-published
returns-clause-published c key_at start r entries id track p stands (t, kept, loading, free) is =
    let are = AreTrees key_at in (
      sym (loads_told are start r entries id t stands kept) ∙ loading,
      awaited_none are start r entries id track t stands kept free,
      is,
    )

pub returns-clause-sealed : goal.returns-clause-sealed
returns-clause-sealed c key_at start r entries id stands (t, kept, loading, all) =
    let are = AreTrees key_at in (
      sym (loads_told are start r entries id t stands kept) ∙ loading,
      λ track within. all_told are start r entries id track t stands kept all within,
    )

pub returns-clause-dropped : goal.returns-clause-dropped
returns-clause-dropped c key_at start r entries id stands (t, kept, loading) =
    sym (loads_told (AreTrees key_at) start r entries id t stands kept) ∙ loading

pub returns-clause-closed : goal.returns-clause-closed
returns-clause-closed c key_at start r entries id t stands sealed =
    let kept = (open_kept r.traces id t stands.sound.rising sealed.is_open).0 in (
      stands.opens id ∙ ap Rattle.std.specs.Prelude.is_some sealed.is_open,
      sym (loads_told (AreTrees key_at) start r entries id t stands kept) ∙ sealed.sealed,
    )
