use Rattle.std.proofs.Common.{◌∙◌, ap, Err, Ok, map, refl}
use Rattle.trace_base.specs.declared.stream.Event.TheVariants.{Enter}
use Rattle.hall_trait.specs.declared.answers.HallFault.TheVariants.{Memory}
use Rattle.builders.specs.declared.built.OpenCall.{OpenCall}
use Rattle.hall_trait.specs.View.{Account}
use Rattle.builders.specs.Calls.{passed}
use Rattle.builders.proofs.KeepingOthers.{others_passed}
use Rattle.builders.proofs.BuildingViews.{working_none}
use Rattle.builders.proofs.CountingNodes.{enter-work}
use Rattle.builders.proofs.PassingCalls.{entered-passes, innermost-gone, innermost-held}
use Rattle.builders.proofs.building.enter.Goals as goal

pub release_all-requires : goal.release_all-requires
release_all-requires g c = (
  c.requires.1.stored,
  innermost-held (g.H.Hall.view c.args.hall.now).seat c.args.around.now.items c.args.innermost
      (Enter c.args.func c.args.start) c.as_slice.result.now c.requires.0 c.requires.1 c.requires.2
      (c.as_slice.ensures ∙ ap (λ (o : OpenCall). o.items) c.in-Err.ensures.value_returned),
)

pub returns-in-Ok-clause-answer : goal.returns-in-Ok-clause-answer
returns-in-Ok-clause-answer g c calls call held =
    entered-passes (g.H.Hall.view c.args.hall.now).seat c.args.around.now.items c.push.new.self.items
    c.args.innermost
    c.args.func c.args.start c.new.result calls call held c.in-Ok.ensures.items c.new.ensures

pub returns-in-Err-clause-answer : goal.returns-in-Err-clause-answer
returns-in-Err-clause-answer g c calls call held =
    innermost-gone (g.H.Hall.view c.args.hall.now).seat (g.H.Hall.view c.release_all.new.hall).seat
    c.args.around.now.items
    c.push.new.self.items c.args.innermost (Enter c.args.func c.args.start) Memory calls call held
    c.in-Err.ensures.items (c.release_all.ensures.gone call.stored
    (innermost-held (g.H.Hall.view c.args.hall.now).seat c.args.around.now.items c.args.innermost
    (Enter c.args.func c.args.start) c.as_slice.result.now calls call held
    (c.as_slice.ensures ∙ ap (λ (o : OpenCall). o.items) c.in-Err.ensures.value_returned)))

pub returns-in-Ok-clause-work : goal.returns-in-Ok-clause-work
returns-in-Ok-clause-work g c calls call held =
    enter-work (g.H.Hall.view c.args.hall.now).account.work (g.H.Hall.view c.args.hall.now).account.work
    (map passed calls)
    (passed call) c.args.func c.args.start
    (Ok (record { func = c.args.func; start = c.args.start; items = c.new.result })) refl

pub returns-in-Err-clause-work : goal.returns-in-Err-clause-work
returns-in-Err-clause-work g c calls call held =
    enter-work (g.H.Hall.view c.args.hall.now).account.work
    (g.H.Hall.view c.release_all.new.hall).account.work (map passed calls)
    (passed call) c.args.func c.args.start (Err Memory)
    (ap (λ (a : Account). a.work) c.release_all.ensures.rest.account)

pub returns-in-Err-clause-rest : goal.returns-in-Err-clause-rest
returns-in-Err-clause-rest g c =
    working_none (g.H.Hall.view c.args.hall.now) (g.H.Hall.view c.release_all.new.hall)
    c.release_all.ensures.rest

pub returns-in-Err-clause-reach : goal.returns-in-Err-clause-reach
returns-in-Err-clause-reach g c calls call held =
    others_passed (g.H.Hall.view c.args.hall.now).seat (g.H.Hall.view c.release_all.new.hall).seat calls call
    (Enter c.args.func c.args.start) c.push.new.self.items (Err Memory) (g.H.Hall.reaches c.args.hall.now)
    (g.H.Hall.reaches c.args.hall.now) (g.H.Hall.reaches c.release_all.new.hall)
    (returns-in-Err-clause-answer g c calls call held) (λ by_what n t has led. led)
    c.release_all.ensures.reach
