use Rattle.std.proofs.Common.{[], ◌∷◌, subst, sym}
use Rattle.hall_history.specs.Seat.{Seat}
use Rattle.node_key.specs.Examples.{tenth}
use Rattle.node_key.specs.Stakes.{HasStakes, stake}
use Rattle.hall_tests.proofs.SampleStakes.{has_one}
use Rattle.hall_tests.proofs.looking.fill_and_release.Goals as goal

pub release-requires : goal.release-requires
release-requires g c =
    let x = stake c.stake_f-f.result.0 tenth in (
      tenth,
      subst (λ (s : Seat). HasStakes s.stakes (x ∷ [])) (sym c.fill_both.ensures)
          (has_one (g.H.Hall.view c.args.hall.now).seat (g.H.Hall.view c.stake_f-f.new.hall).seat x c.stake_f-f.ensures),
    )
