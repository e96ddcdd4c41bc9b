use Rattle.std.proofs.Common.{[], ◌∷◌, ◌++◌, ◌∙◌, ap}
use Rattle.hall_trait.specs.View.{Account}
use Rattle.node_key.specs.Stakes.{stake}
use Rattle.builders.specs.Built.{stakes_held}
use Rattle.builders.proofs.Bags.{exchanges-then}
use Rattle.builders.proofs.ClosingCalls.{item-held, others-held}
use Rattle.builders.proofs.KeepingOthers.{reach_released}
use Rattle.hall_trait.proofs.Views.{goes_on_then}
use Rattle.builders.proofs.BuildingViews.{working_none}
use Rattle.builders.proofs.closing.with_item.Goals as goal

pub release_all-requires : goal.release_all-requires
release_all-requires g c = (
  c.requires.0.stored,
  others-held (g.H.Hall.view c.args.hall.now).seat c.args.innermost c.args.item c.requires.0 c.requires.1
      c.as_slice.result.now c.requires.2 (c.as_slice.ensures ∙ c.in-Err.ensures.err),
)

pub release-requires : goal.release-requires
release-requires g c =
    let gone = c.release_all.ensures.gone c.requires.0.stored
    (others-held (g.H.Hall.view c.args.hall.now).seat c.args.innermost c.args.item c.requires.0 c.requires.1
    c.as_slice.result.now c.requires.2 (c.as_slice.ensures ∙ c.in-Err.ensures.err)) in (
      c.requires.1.item.tree,
      (item-held (g.H.Hall.view c.args.hall.now).seat (g.H.Hall.view c.release_all.new.hall).seat
          c.args.innermost
          c.args.item
          c.requires.0 c.requires.1 c.requires.2 gone).0,
    )

pub returns-in-Err-clause-answer : goal.returns-in-Err-clause-answer
returns-in-Err-clause-answer g c call one held =
    let gone = c.release_all.ensures.gone call.stored
    (others-held (g.H.Hall.view c.args.hall.now).seat c.args.innermost c.args.item call one
    c.as_slice.result.now held (c.as_slice.ensures ∙ c.in-Err.ensures.err)) in
    let left = item-held (g.H.Hall.view c.args.hall.now).seat (g.H.Hall.view c.release_all.new.hall).seat
    c.args.innermost
    c.args.item call one held gone in
    exchanges-then (g.H.Hall.view c.args.hall.now).seat (g.H.Hall.view c.release_all.new.hall).seat
    (g.H.Hall.view c.release.new.self).seat (stakes_held (call.stored ++ one ∷ []))
    (stake c.args.item.number one.item.tree ∷ []) [] left.1 (c.release.ensures.answer one.item.tree left.0)

pub returns-in-Err-clause-rest : goal.returns-in-Err-clause-rest
returns-in-Err-clause-rest g c =
    working_none (g.H.Hall.view c.args.hall.now) (g.H.Hall.view c.release.new.self)
    (goes_on_then (g.H.Hall.view c.args.hall.now) (g.H.Hall.view c.release_all.new.hall)
    (g.H.Hall.view c.release.new.self) c.release_all.ensures.rest c.release.ensures.rest)

pub returns-in-Err-clause-work : goal.returns-in-Err-clause-work
returns-in-Err-clause-work g c =
    ap (λ (a : Account). a.work) (c.release.ensures.rest.account ∙ c.release_all.ensures.rest.account)

pub returns-in-Err-clause-reach : goal.returns-in-Err-clause-reach
returns-in-Err-clause-reach g c =
    let one = c.requires.1.item.tree in
    let gone = c.release_all.ensures.gone c.requires.0.stored
    (others-held (g.H.Hall.view c.args.hall.now).seat c.args.innermost c.args.item c.requires.0 c.requires.1
    c.as_slice.result.now c.requires.2 (c.as_slice.ensures ∙ c.in-Err.ensures.err)) in
    let left = item-held (g.H.Hall.view c.args.hall.now).seat (g.H.Hall.view c.release_all.new.hall).seat
    c.args.innermost c.args.item c.requires.0 c.requires.1 c.requires.2 gone in
    reach_released (g.H.Hall.view c.release_all.new.hall).seat (g.H.Hall.view c.release.new.self).seat
    (stake c.args.item.number one ∷ []) (g.H.Hall.reaches c.args.hall.now)
    (g.H.Hall.reaches c.release_all.new.hall) (g.H.Hall.reaches c.release.new.self)
    (c.release.ensures.answer one left.0) c.release_all.ensures.reach
    c.release.ensures.reach
