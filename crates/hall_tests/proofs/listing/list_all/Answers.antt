use Rattle.hall_history.specs.History.{Asked, Closed}
use Rattle.hall_tests.proofs.SampleLoads.{covers_on, info_on}
use Rattle.hall_tests.proofs.listing.list_all.Goals as goal

pub abandon-requires-clause-covers : goal.abandon-requires-clause-covers
abandon-requires-clause-covers g c =
    let opened = c.in_ok-pass.ensures.answer in
    let pass = c.in_ok-pass.pass in
    let first = info_on _ _ Asked 7 pass.id _ c.list_tells-3.ensures.entered opened.opened in
    let closed = info_on _ _ (Closed 1) 8 pass.id _ c.close_tells.ensures.entered first in
    let last = info_on _ _ Asked 9 pass.id _ c.list_tells-4.ensures.entered closed in
    covers_on _ _ pass opened.fresh last
