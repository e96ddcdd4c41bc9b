-- A trace that is named has the users that are taken away.
use Rattle.std.proofs.Common.{◌≡◌, ◌≤◌, ◌∙◌, ap, subst, sym, List}
use Rattle.std.specs.List.{All}
use Rattle.hall_history.specs.declared.asks.AskIds.{AskIds}
use Rattle.hall_history.specs.declared.asks.AskIds.TheVariants.{One, Two}
use Rattle.registry_core.specs.Asking.{times_asked, without_users}
use Rattle.registry_core.specs.Registry.{with_changed}
use Rattle.registry_core.specs.Trace.{Trace, used_less}
use Rattle.registry_core.proofs.UsersOfTraces.{fewer_left, lowered_twice, used_at_one, used_at_two}
use Rattle.registry_core.proofs.traces.Traces.lower_all.Goals as goal
use Rattle.registry_core.proofs.traces.Traces.lower_all.Goals.{In-Two}

-- what is named, by the pattern
are_used : (traces : List Trace) (ids named : AskIds) → ids ≡ named
    → All (λ (t : Trace). times_asked ids t.id ≤ t.users) traces
    → All (λ (t : Trace). times_asked named t.id ≤ t.users) traces
are_used traces ids named is =
    subst (λ asked. All (λ (t : Trace). times_asked asked t.id ≤ t.users) traces) is

pub lower-requires : goal.lower-requires
lower-requires c = λ t found. used_at_one c.in-One.a c.args.self.now t
    (are_used c.args.self.now c.args.ids (One c.in-One.a) c.in-One.is c.requires) found

-- where two ids are named
of_two : (c : In-Two)
    → All (λ (t : Trace). times_asked (Two c.in-Two.a c.in-Two.b) t.id ≤ t.users) c.args.self.now
of_two c = are_used c.args.self.now c.args.ids (Two c.in-Two.a c.in-Two.b) c.in-Two.is c.requires

pub lower-requires-in-Two : goal.lower-requires-in-Two
lower-requires-in-Two c = λ t found. used_at_two c.in-Two.a c.in-Two.b c.args.self.now t
    (of_two (goal.at.lower-requires-in-Two c).In-Two) found

pub lower-requires-in-Two-2 : goal.lower-requires-in-Two-2
lower-requires-in-Two-2 c = λ t found. used_at_one c.in-Two.b c.lower-in-Two.new.self t
    (subst (All (λ (t : Trace). times_asked (One c.in-Two.b) t.id ≤ t.users)) (sym c.lower-in-Two.ensures)
    (fewer_left c.in-Two.a c.in-Two.b c.args.self.now
    (of_two (goal.at.lower-requires-in-Two-2 c).In-Two))) found

pub returns-in-Two : goal.returns-in-Two
returns-in-Two c = c.lower-in-Two-2.ensures
    ∙ ap (λ (now : List Trace). with_changed c.in-Two.b (used_less 1) now) c.lower-in-Two.ensures
    ∙ lowered_twice c.in-Two.a c.in-Two.b c.args.self.now
    ∙ ap (λ ids. without_users ids c.args.self.now) (sym c.in-Two.is)
