use Rattle.node_store.specs.Given.{ever}
use Rattle.plain_hall.specs.KeptHistory.{history}
use Rattle.plain_hall.specs.PlainSeat.{queries_of}
use Rattle.plain_hall.specs.Rooted.{with_trees}
use Rattle.plain_hall.proofs.WholeAfter.{same_numbers, whole_still}
use Rattle.std.proofs.Common.{refl}
use Rattle.memo_rooms.specs.Rooms.{kept_under}
use Rattle.registry_core.proofs.ToldStays.{told-same}
use Rattle.plain_hall.specs.PlainHall.{pins_of}
use Rattle.plain_hall.proofs.ProfilesKept.{profiles_still}
use Rattle.plain_hall.proofs.Reached.{reach_still}
use Rattle.plain_hall.proofs.hall.PlainHallHall.release.Goals as goal

pub invariant_of-self : goal.invariant_of-self
invariant_of-self g c =
    let was = c.args.self.now in
    record {
      whole = whole_still was.nodes c.release.new.self was.registry (history was.past) (queries_of was.pin)
          (same_numbers was.nodes c.release.new.self c.release.ensures.numbers) c.release.ensures.sound
          c.release.ensures.kept was.whole;
      space = was.space;
      held = was.held;
      profiles = profiles_still was.nodes c.release.new.self (kept_under was.memos)
          (same_numbers was.nodes c.release.new.self c.release.ensures.numbers) was.profiles;
    }

pub returns-clause-reach : goal.returns-clause-reach
returns-clause-reach g c =
    let was = c.args.self.now in
    reach_still was.nodes c.release.new.self was.registry was.registry (pins_of was) (pins_of was)
    (with_trees (ever c.release.new.self.given) (history was.past))
    (same_numbers was.nodes c.release.new.self c.release.ensures.numbers)
    (λ p has still. told-same was.registry was.registry p.ids p.place refl)
