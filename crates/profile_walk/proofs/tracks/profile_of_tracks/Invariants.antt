use Rattle.std.proofs.Common.{◌-◌, ◌≡◌, ◌≤◌, length, take}
use Rattle.std.specs.List.{AllByRecursion}
use Rattle.hall_history.specs.Asks.{first_id}
use Rattle.hall_trait.specs.Reach.{KeepsReach}
use Rattle.profile_walk.specs.Tracks.{levels_from, streams_from}
use Rattle.profile_walk.specs.Walks.{FillsBeside, OnlyWalks, ReadsBeside}
use Rattle.trace_base.specs.Stream.{IsLegal}
use Rattle.profile_walk.proofs.tracks.profile_of_tracks.Given as goal

abbrev pub invariant-tracks : goal.invariant-tracks
invariant-tracks g l =
    let seen = take l.pin.place (g.H.Hall.view l.fn.hall).seat.seen in
    let id = first_id l.pin.ids in
    let streams = streams_from seen id l.from (l.track - l.from) in record {
      upto : l.track - l.from ≤ l.to - l.from;
      is : l.profile ≡ g.P.NodeProfile.profile streams l.a l.b;
      over : l.over ≡ length streams;
      legal : AllByRecursion IsLegal streams;
      reads : ReadsBeside (g.H.Hall.view l.fn.hall).account (g.H.Hall.view l.hall).account
          (levels_from seen id l.from (l.track - l.from));
      fills : FillsBeside (g.H.Hall.view l.fn.hall).account (g.H.Hall.view l.hall).account 0;
      rest : OnlyWalks (g.H.Hall.view l.fn.hall) (g.H.Hall.view l.hall);
      reach : KeepsReach (g.H.Hall.view l.hall).seat (g.H.Hall.reaches l.fn.hall) (g.H.Hall.reaches l.hall);
    }
