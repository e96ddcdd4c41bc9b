use Rattle.node_store.specs.Given.{ever}
use Rattle.plain_hall.specs.KeptHistory.{history}
use Rattle.plain_hall.specs.PlainSeat.{queries_of}
use Rattle.plain_hall.specs.Rooted.{with_trees}
use Rattle.plain_hall.proofs.Exchanging.{exchanged, interned, interns_there, tells_number}
use Rattle.plain_hall.proofs.WholeAfter.{seen_still, whole_still}
use Rattle.std.proofs.Common.{refl, subst, Result}
use Rattle.memo_rooms.specs.Rooms.{kept_under}
use Rattle.node_store.specs.Answering.{AnswersKey}
use Rattle.registry_core.proofs.ToldStays.{told-same}
use Rattle.shard_core.specs.declared.answers.Interned.{Interned}
use Rattle.shard_core.specs.declared.answers.ShardFault.{ShardFault}
use Rattle.plain_hall.specs.PlainHall.{pins_of}
use Rattle.plain_hall.proofs.ProfilesKept.{profiles_still}
use Rattle.plain_hall.proofs.Reached.{reach_still}
use Rattle.plain_hall.proofs.hall.PlainHallHall.intern.Goals as goal

pub invariant_of-self : goal.invariant_of-self
invariant_of-self g c =
    let was = c.args.self.now in
    record {
      whole = whole_still was.nodes c.intern.new.self was.registry (history was.past) (queries_of was.pin)
          c.intern.ensures.numbers c.intern.ensures.sound c.intern.ensures.kept was.whole;
      space = was.space;
      held = was.held;
      profiles = profiles_still was.nodes c.intern.new.self (kept_under was.memos) c.intern.ensures.numbers
          was.profiles;
    }

pub returns-in-Ok-clause-answer : goal.returns-in-Ok-clause-answer
returns-in-Ok-clause-answer g c t kids over has =
    let was = c.args.self.now in
    interned _ _ t kids c.in-Ok.interned (exchanged _ _ _ _ _ _ _
    (seen_still was.nodes c.intern.new.self was.registry (history was.past) (queries_of was.pin)
    c.intern.ensures.numbers was.whole) (c.in-Ok.ensures.stakes t kids over has))

pub returns-in-Ok-clause-tells : goal.returns-in-Ok-clause-tells
returns-in-Ok-clause-tells g c =
    let was = c.args.self.now in
    let key = c.args.key in
    tells_number was.nodes.rooms key c.in-Ok.interned
    (interns_there was.nodes c.intern.new.self key c.in-Ok.interned
    (subst (λ (o : Result Interned ShardFault). AnswersKey was.nodes key o c.intern.new.self) c.in-Ok.is
    c.intern.ensures.answer))

pub returns-in-Ok-clause-reach : goal.returns-in-Ok-clause-reach
returns-in-Ok-clause-reach g c =
    let was = c.args.self.now in
    reach_still was.nodes c.intern.new.self was.registry was.registry (pins_of was) (pins_of was)
    (with_trees (ever c.intern.new.self.given) (history was.past))
    c.intern.ensures.numbers (λ p has still. told-same was.registry was.registry p.ids p.place refl)
