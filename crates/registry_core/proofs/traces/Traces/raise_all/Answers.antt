-- Each of two users more leaves room for the other.
use Rattle.std.proofs.Common.{◌<◌, ◌-◌, ◌^◌, ◌∙◌, ap, arith, subst, sym, List}
use Rattle.std.specs.List.{All}
use Rattle.list_lemmas.proofs.All.{All-found}
use Rattle.registry_core.specs.Asking.{with_users}
use Rattle.registry_core.specs.Registry.{with_changed}
use Rattle.registry_core.specs.Trace.{Trace, used_more}
use Rattle.registry_core.proofs.UsersOfTraces.{fewer_than, raised_twice}
use Rattle.registry_core.proofs.traces.Traces.raise_all.Goals as goal

pub raise-requires : goal.raise-requires
raise-requires c = λ t found.
    let few = All-found (λ (t : Trace). t.users < 2 ^ 64 - 2) _ _ t c.requires found in
    omega arith

pub raise-requires-in-Two : goal.raise-requires-in-Two
raise-requires-in-Two c = λ t found.
    let few = All-found (λ (t : Trace). t.users < 2 ^ 64 - 2) _ _ t c.requires found in
    omega arith

pub raise-requires-in-Two-2 : goal.raise-requires-in-Two-2
raise-requires-in-Two-2 c = λ t found.
    All-found (λ (t : Trace). t.users < 2 ^ 64 - 1) _ _ t
    (subst (All (λ (t : Trace). t.users < 2 ^ 64 - 1)) (sym c.raise-in-Two.ensures)
    (fewer_than (2 ^ 64 - 2) (2 ^ 64 - 1) c.in-Two.a c.args.self.now (omega arith) c.requires)) found

pub returns-in-Two : goal.returns-in-Two
returns-in-Two c = c.raise-in-Two-2.ensures
    ∙ ap (λ (now : List Trace). with_changed c.in-Two.b (used_more 1) now) c.raise-in-Two.ensures
    ∙ raised_twice c.in-Two.a c.in-Two.b c.args.self.now
    ∙ ap (λ ids. with_users ids c.args.self.now) (sym c.in-Two.is)
