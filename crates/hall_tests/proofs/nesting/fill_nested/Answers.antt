use Rattle.std.proofs.Common.{[], ◌∷◌, ◌∙◌, subst, sym}
use Rattle.hall_history.specs.Seat.{Seat}
use Rattle.hall_trait.specs.Reach.{FromStake}
use Rattle.node_key.specs.Stakes.{HasStakes, stake}
use Rattle.hall_tests.specs.Nested.{outermost}
use Rattle.hall_tests.proofs.SampleStakes.{has_one, has_the_stake}
use Rattle.hall_tests.proofs.nesting.fill_nested.Goals as goal

pub memo_fill-requires : goal.memo_fill-requires
memo_fill-requires g c =
    let t = outermost c.args.count in
    let x = stake c.stake_nested-n.result t in (
      FromStake x,
      t,
      g.met.H.Hall.staked c.stake_nested-n.new.hall x
          (has_the_stake _ x (has_one _ _ x c.stake_nested-n.ensures)),
      c.in_ok-entry.ensures,
    )

pub release-requires : goal.release-requires
release-requires g c =
    let t = outermost c.args.count in
    let x = stake c.stake_nested-n.result t in (
      t,
      subst (λ (s : Seat). HasStakes s.stakes (x ∷ []))
          (sym (c.rows_kept-kept.ensures ∙ c.memo_fill.ensures.rest.seat))
          (has_one _ _ x c.stake_nested-n.ensures),
    )
