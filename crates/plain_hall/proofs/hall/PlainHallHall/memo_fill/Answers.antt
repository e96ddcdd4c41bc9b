use Rattle.memo_rooms.specs.Rooms.{kept_under}
use Rattle.node_store.specs.Given.{ever}
use Rattle.plain_hall.proofs.ProfilesKept.{fill_told, kind_of_whole, profiles_filled}
use Rattle.plain_hall.proofs.Reached.{reached_stands}
use Rattle.plain_hall.proofs.Views.{fills_alike}
use Rattle.plain_hall.proofs.hall.PlainHallHall.memo_fill.Goals as goal

pub fill-requires : goal.fill-requires
fill-requires g c = kind_of_whole c.args.kind c.requires.1 c.args.entry c.requires.3

pub invariant_of-self : goal.invariant_of-self
invariant_of-self g c =
    let was = c.args.self.now in
    record {
      whole = was.whole;
      space = was.space;
      held = was.held;
      profiles = profiles_filled (ever was.nodes.given) (kept_under was.memos) (kept_under c.fill.new.self)
          c.args.n c.args.kind c.args.entry c.requires.1 (reached_stands was.nodes was.registry _ c.requires.0
          c.args.n c.requires.1 c.requires.2) c.requires.3 c.fill.ensures.kept was.profiles;
    }

pub returns-clause-answer : goal.returns-clause-answer
returns-clause-answer g c = fill_told _ _ _ _ _ c.fill.ensures.kept

pub returns-clause-rest : goal.returns-clause-rest
returns-clause-rest g c =
    fills_alike _ _ (kept_under c.args.self.now.memos) (kept_under c.fill.new.self)
