use Rattle.std.proofs.Common.{Option, subst, Result}
use Rattle.memo_rooms.specs.Rooms.{LookTells, kept_under}
use Rattle.node_store.specs.Given.{ever}
use Rattle.trace_base.specs.declared.memory.Memory.{Memory}
use Rattle.whole_profiles.specs.declared.entry.Entry.{Entry}
use Rattle.plain_hall.proofs.ProfilesKept.{look_told}
use Rattle.plain_hall.proofs.Reached.{reached_stands}
use Rattle.plain_hall.proofs.Views.{keeps_kept, looks_alike}
use Rattle.plain_hall.proofs.hall.PlainHallHall.memo_look.Goals as goal

pub returns-in-Ok-clause-answer : goal.returns-in-Ok-clause-answer
returns-in-Ok-clause-answer g c by_what t reached =
    let was = c.args.self.now in
    look_told (ever was.nodes.given) (kept_under was.memos) c.args.n c.args.kind t c.in-Ok.found was.profiles
    (reached_stands was.nodes was.registry _ by_what c.args.n t reached)
    (subst (λ (o : Result (Option Entry) Memory). LookTells (kept_under was.memos c.args.n c.args.kind) o)
    c.in-Ok.is c.look.ensures.answer)

pub returns-in-Ok-clause-rest : goal.returns-in-Ok-clause-rest
returns-in-Ok-clause-rest g c = looks_alike c.in-Ok.found _ _ _ _ c.look.ensures.kept

pub returns-in-Err-clause-rest : goal.returns-in-Err-clause-rest
returns-in-Err-clause-rest g c = keeps_kept _ _ _ _ c.look.ensures.kept
