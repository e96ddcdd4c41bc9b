use Rattle.node_key.specs.Examples.{half, tenth}
use Rattle.hall_tests.proofs.SampleStakes.{has_besides, has_caller, has_still, none_at_last, only_two}
use Rattle.hall_tests.proofs.hall.count_keys.Goals as goal

pub release-requires : goal.release-requires
release-requires g c = (
  half,
  has_caller _ _ _ _ _ _ _ _ _ c.stake_f-f.ensures c.stake_f-again.ensures c.stake_main-main.ensures
      c.stake_f-besides.ensures,
)

pub release-requires-2 : goal.release-requires-2
release-requires-2 g c =
    let two = only_two _ _ _ _ _ _ _ _ _ c.stake_f-f.ensures c.stake_f-again.ensures c.stake_main-main.ensures
    c.stake_f-besides.ensures in
    let first = has_caller _ _ _ _ _ _ _ _ _ c.stake_f-f.ensures c.stake_f-again.ensures
    c.stake_main-main.ensures c.stake_f-besides.ensures in
    (tenth, has_besides _ _ _ _ _ _ _ two (c.release.ensures.answer half first) c.stake_f-still.ensures)

pub release-requires-3 : goal.release-requires-3
release-requires-3 g c =
    let two = only_two _ _ _ _ _ _ _ _ _ c.stake_f-f.ensures c.stake_f-again.ensures c.stake_main-main.ensures
    c.stake_f-besides.ensures in
    let first = has_caller _ _ _ _ _ _ _ _ _ c.stake_f-f.ensures c.stake_f-again.ensures
    c.stake_main-main.ensures c.stake_f-besides.ensures in
    let five = c.release.ensures.answer half first in
    let besides = has_besides _ _ _ _ _ _ _ two five c.stake_f-still.ensures in
    (tenth, has_still _ _ _ _ _ _ _ two five c.stake_f-still.ensures _ (c.release-2.ensures.answer tenth besides))

pub returns : goal.returns
returns g c =
    let two = only_two _ _ _ _ _ _ _ _ _ c.stake_f-f.ensures c.stake_f-again.ensures c.stake_main-main.ensures
    c.stake_f-besides.ensures in
    let first = has_caller _ _ _ _ _ _ _ _ _ c.stake_f-f.ensures c.stake_f-again.ensures
    c.stake_main-main.ensures c.stake_f-besides.ensures in
    let five = c.release.ensures.answer half first in
    let besides = has_besides _ _ _ _ _ _ _ two five c.stake_f-still.ensures in
    let seven = c.release-2.ensures.answer tenth besides in
    let still = has_still _ _ _ _ _ _ _ two five c.stake_f-still.ensures _ seven in
    none_at_last _ _ _ _ _ _ _ two five c.stake_f-still.ensures _ _ c.requires seven
    (c.release-3.ensures.answer tenth still)
