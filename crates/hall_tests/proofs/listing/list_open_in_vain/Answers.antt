use Rattle.std.proofs.Common.{Contains, List, subst, sym, true}
use Rattle.hall_history.specs.History.{Asked}
use Rattle.hall_history.specs.declared.seat.PassView.{PassView}
use Rattle.hall_trait.specs.Answers.{MakesOwnEntry}
use Rattle.hall_trait.specs.Pass.{pass_view}
use Rattle.plain_hall.specs.PlainHall.{seat_of}
use Rattle.hall_tests.proofs.SampleLoads.{adds_has, covers_on, info_on}
use Rattle.hall_tests.proofs.listing.list_open_in_vain.Goals as goal

pub abandon-requires-clause-has : goal.abandon-requires-clause-has
abandon-requires-clause-has g c =
    let listed = subst (λ h. MakesOwnEntry true (seat_of h) (seat_of c.list_in_vain.new.hall.inner) Asked 5)
    c.over-refusing.ensures c.list_in_vain.ensures in
    subst (λ (ps : List PassView). Contains ps (pass_view c.in_ok-pass.pass)) (sym listed.passes)
    (adds_has _ _ _ c.in_ok-pass.ensures.answer.passes)

pub abandon-requires-clause-covers : goal.abandon-requires-clause-covers
abandon-requires-clause-covers g c =
    let listed = subst (λ h. MakesOwnEntry true (seat_of h) (seat_of c.list_in_vain.new.hall.inner) Asked 5)
    c.over-refusing.ensures c.list_in_vain.ensures in
    let opened = c.in_ok-pass.ensures.answer in
    let pass = c.in_ok-pass.pass in
    let told = info_on _ _ Asked 5 pass.id _ listed.entered opened.opened in
    covers_on _ _ pass opened.fresh told
