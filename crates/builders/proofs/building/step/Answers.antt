use Rattle.std.proofs.Common.{List, map, sym, subst}
use Rattle.trace_base.specs.declared.stream.Event.{Event}
use Rattle.builders.specs.Calls.{HoldsCalls, StoredCall, WorkOfEvent, passed}
use Rattle.builders.proofs.building.step.Goals as goal

pub returns-in-Enter-clause-work : goal.returns-in-Enter-clause-work
returns-in-Enter-clause-work g c =
    subst (λ (e : Event). (calls : List StoredCall) (call : StoredCall)
    → HoldsCalls (g.H.Hall.view c.args.hall.now).seat c.args.around.now.items c.args.innermost e calls call
    → WorkOfEvent (g.H.Hall.view c.args.hall.now).account.work (g.H.Hall.view c.enter.new.hall).account.work
    (map passed calls)
    (passed call) e c.enter.result) (sym c.in-Enter.is) c.enter.ensures.work

pub returns-in-Leave-clause-work : goal.returns-in-Leave-clause-work
returns-in-Leave-clause-work g c =
    subst (λ (e : Event). (calls : List StoredCall) (call : StoredCall)
    → HoldsCalls (g.H.Hall.view c.args.hall.now).seat c.args.around.now.items c.args.innermost e calls call
    → WorkOfEvent (g.H.Hall.view c.args.hall.now).account.work (g.H.Hall.view c.leave.new.hall).account.work
    (map passed calls)
    (passed call) e c.leave.result) (sym c.in-Leave.is) c.leave.ensures.work
