use Rattle.std.proofs.Common.{◌≡◌, List, ◌+◌, ◌++◌, take, refl, ap, sym, subst, ◌∙◌, arith, append-nil}
use Rattle.std.proofs.Common.{length}
use Rattle.std.specs.List.{AllByRecursion}
use Rattle.hall_history.specs.Asks.{first_id}
use Rattle.hall_trait.specs.Pin.{pin_view}
use Rattle.hall_trait.specs.Reach.{FromPin}
use Rattle.profile_walk.proofs.Accounts.{read_more, read_none, read_then}
use Rattle.profile_walk.proofs.PublishedTracks.{levels-some, streams-none, streams-some, track-adds}
use Rattle.profile_walk.proofs.PublishedTracks.{track-legal}
use Rattle.profile_walk.proofs.Walking.{source_stays, walks_none, walks_then}
use Rattle.profile_walk.specs.Tracks.{levels_from, twice_levels}
use Rattle.trace_base.specs.Stream.{IsLegal}
use Rattle.trace_base.specs.declared.stream.TrackStream.{TrackStream}
use Rattle.profile_walk.proofs.tracks.add_track.Goals as goal

pub add_tree-requires : goal.add_tree-requires
add_tree-requires g c = (
  (FromPin (pin_view c.args.pin.now)),
  c.in-Root.ensures.answer.0.tree,
  c.requires.base.0,
  (track-adds g.P.NodeProfile.profile (take c.args.pin.now.place (g.H.Hall.view c.args.hall.now).seat.seen)
      (first_id c.args.pin.now.ids) c.args.track c.in-Root.start c.in-Root.root (g.H.Hall.view
      c.published.new.self).seat (g.H.Hall.reaches c.published.new.self) (FromPin (pin_view c.args.pin.now))
      c.args.a c.args.b c.requires.base.0 c.args.sum.now
      (source_stays (g.H.Hall.view c.args.hall.now).seat (g.H.Hall.view c.published.new.self).seat (FromPin
      (pin_view c.args.pin.now)) c.published.ensures.rest.seat
      c.requires.has) c.in-Root.ensures.answer c.requires.base.1 c.requires.base.2 c.requires.base.3),
)

pub returns-in_err-add_tree-in-Root-clause-legal : goal.returns-in_err-add_tree-in-Root-clause-legal
returns-in_err-add_tree-in-Root-clause-legal g c =
    let told = track-legal (take c.args.pin.now.place (g.H.Hall.view c.args.hall.now).seat.seen)
    (first_id c.args.pin.now.ids) c.args.track c.in-Root.start c.in-Root.root ((g.H.Hall.reaches
    c.published.new.self) (FromPin (pin_view c.args.pin.now)))
    c.in-Root.ensures.answer in told.0

pub returns-in_ok-add_tree-in-Root-clause-legal : goal.returns-in_ok-add_tree-in-Root-clause-legal
returns-in_ok-add_tree-in-Root-clause-legal g c =
    let told = track-legal (take c.args.pin.now.place (g.H.Hall.view c.args.hall.now).seat.seen)
    (first_id c.args.pin.now.ids) c.args.track c.in-Root.start c.in-Root.root ((g.H.Hall.reaches
    c.published.new.self) (FromPin (pin_view c.args.pin.now)))
    c.in-Root.ensures.answer in told.0

pub returns-in_err-add_tree-in-Root-clause-reads : goal.returns-in_err-add_tree-in-Root-clause-reads
returns-in_err-add_tree-in-Root-clause-reads g c =
    let told = c.in-Root.ensures.answer in
    let adds = (track-adds g.P.NodeProfile.profile (take c.args.pin.now.place (g.H.Hall.view
    c.args.hall.now).seat.seen)
    (first_id c.args.pin.now.ids) c.args.track c.in-Root.start c.in-Root.root (g.H.Hall.view
    c.published.new.self).seat (g.H.Hall.reaches c.published.new.self) (FromPin (pin_view c.args.pin.now))
    c.args.a c.args.b c.requires.base.0 c.args.sum.now
    (source_stays (g.H.Hall.view c.args.hall.now).seat (g.H.Hall.view c.published.new.self).seat (FromPin
    (pin_view c.args.pin.now)) c.published.ensures.rest.seat
    c.requires.has) c.in-Root.ensures.answer c.requires.base.1 c.requires.base.2 c.requires.base.3) in
    read_more (g.H.Hall.view c.args.hall.now).account (g.H.Hall.view c.add_tree.new.hall).account
    (0 + twice_levels told.0.tree)
    (levels_from (take c.args.pin.now.place (g.H.Hall.view c.args.hall.now).seat.seen) (first_id
    c.args.pin.now.ids) c.args.track 1)
    (omega (
      arith,
      levels-some (take c.args.pin.now.place (g.H.Hall.view c.args.hall.now).seat.seen)
          (first_id c.args.pin.now.ids) c.args.track told.0 told.1,
    ))
    (read_then (g.H.Hall.view c.args.hall.now).account (g.H.Hall.view c.published.new.self).account
    (g.H.Hall.view c.add_tree.new.hall).account 0
    (twice_levels told.0.tree)
    (read_none (g.H.Hall.view c.args.hall.now).account (g.H.Hall.view c.published.new.self).account
    c.published.ensures.rest.rest.account)
    (c.add_tree.ensures.reads (FromPin (pin_view c.args.pin.now)) told.0.tree c.requires.base.0 adds))

pub returns-in_ok-add_tree-in-Root-clause-reads : goal.returns-in_ok-add_tree-in-Root-clause-reads
returns-in_ok-add_tree-in-Root-clause-reads g c =
    let told = c.in-Root.ensures.answer in
    let adds = (track-adds g.P.NodeProfile.profile (take c.args.pin.now.place (g.H.Hall.view
    c.args.hall.now).seat.seen)
    (first_id c.args.pin.now.ids) c.args.track c.in-Root.start c.in-Root.root (g.H.Hall.view
    c.published.new.self).seat (g.H.Hall.reaches c.published.new.self) (FromPin (pin_view c.args.pin.now))
    c.args.a c.args.b c.requires.base.0 c.args.sum.now
    (source_stays (g.H.Hall.view c.args.hall.now).seat (g.H.Hall.view c.published.new.self).seat (FromPin
    (pin_view c.args.pin.now)) c.published.ensures.rest.seat
    c.requires.has) c.in-Root.ensures.answer c.requires.base.1 c.requires.base.2 c.requires.base.3) in
    read_more (g.H.Hall.view c.args.hall.now).account (g.H.Hall.view c.add_tree.new.hall).account
    (0 + twice_levels told.0.tree)
    (levels_from (take c.args.pin.now.place (g.H.Hall.view c.args.hall.now).seat.seen) (first_id
    c.args.pin.now.ids) c.args.track 1)
    (omega (
      arith,
      levels-some (take c.args.pin.now.place (g.H.Hall.view c.args.hall.now).seat.seen)
          (first_id c.args.pin.now.ids) c.args.track told.0 told.1,
    ))
    (read_then (g.H.Hall.view c.args.hall.now).account (g.H.Hall.view c.published.new.self).account
    (g.H.Hall.view c.add_tree.new.hall).account 0
    (twice_levels told.0.tree)
    (read_none (g.H.Hall.view c.args.hall.now).account (g.H.Hall.view c.published.new.self).account
    c.published.ensures.rest.rest.account)
    (c.add_tree.ensures.reads (FromPin (pin_view c.args.pin.now)) told.0.tree c.requires.base.0 adds))

pub returns-in_err-add_tree-in-Root-clause-rest : goal.returns-in_err-add_tree-in-Root-clause-rest
returns-in_err-add_tree-in-Root-clause-rest g c =
    walks_then (g.H.Hall.view c.args.hall.now) (g.H.Hall.view c.published.new.self) (g.H.Hall.view
    c.add_tree.new.hall) (walks_none (g.H.Hall.view c.args.hall.now) (g.H.Hall.view c.published.new.self)
    c.published.ensures.rest) c.add_tree.ensures.rest

pub returns-in_ok-add_tree-in-Root-clause-rest : goal.returns-in_ok-add_tree-in-Root-clause-rest
returns-in_ok-add_tree-in-Root-clause-rest g c =
    walks_then (g.H.Hall.view c.args.hall.now) (g.H.Hall.view c.published.new.self) (g.H.Hall.view
    c.add_tree.new.hall) (walks_none (g.H.Hall.view c.args.hall.now) (g.H.Hall.view c.published.new.self)
    c.published.ensures.rest) c.add_tree.ensures.rest

pub returns-in-NotYet-clause-answer : goal.returns-in-NotYet-clause-answer
returns-in-NotYet-clause-answer g c base all few e =
    e ∙ ap (λ (l : List TrackStream). g.P.NodeProfile.profile l c.args.a c.args.b)
    (sym (append-nil base) ∙ ap (λ (l : List TrackStream). base ++ l)
    (sym (streams-none (take c.args.pin.now.place (g.H.Hall.view c.args.hall.now).seat.seen) (first_id
    c.args.pin.now.ids) c.args.track c.in-NotYet.ensures.answer)))

pub returns-in-NotYet-clause-legal : goal.returns-in-NotYet-clause-legal
returns-in-NotYet-clause-legal g c =
    subst (λ (l : List TrackStream). AllByRecursion IsLegal l)
    (sym (streams-none (take c.args.pin.now.place (g.H.Hall.view c.args.hall.now).seat.seen) (first_id
    c.args.pin.now.ids) c.args.track c.in-NotYet.ensures.answer)) tt

pub returns-in-NotYet-clause-over : goal.returns-in-NotYet-clause-over
returns-in-NotYet-clause-over g c =
    subst (λ (l : List TrackStream). 0 ≡ length l)
    (sym (streams-none (take c.args.pin.now.place (g.H.Hall.view c.args.hall.now).seat.seen) (first_id
    c.args.pin.now.ids) c.args.track c.in-NotYet.ensures.answer)) refl

pub returns-in_ok-add_tree-in-Root-clause-answer : goal.returns-in_ok-add_tree-in-Root-clause-answer
returns-in_ok-add_tree-in-Root-clause-answer g c base all few e =
    let told = c.in-Root.ensures.answer in
    c.in_ok-add_tree-in-Root.ensures.answer (FromPin (pin_view c.args.pin.now)) told.0.tree base
    (track-adds g.P.NodeProfile.profile (take c.args.pin.now.place (g.H.Hall.view c.args.hall.now).seat.seen)
    (first_id c.args.pin.now.ids) c.args.track c.in-Root.start c.in-Root.root (g.H.Hall.view
    c.published.new.self).seat (g.H.Hall.reaches c.published.new.self) (FromPin (pin_view c.args.pin.now))
    c.args.a c.args.b base c.args.sum.now
    (source_stays (g.H.Hall.view c.args.hall.now).seat (g.H.Hall.view c.published.new.self).seat (FromPin
    (pin_view c.args.pin.now)) c.published.ensures.rest.seat
    c.requires.has) c.in-Root.ensures.answer all few e)
    ∙ ap (λ (l : List TrackStream). g.P.NodeProfile.profile (base ++ l) c.args.a c.args.b)
    (sym (streams-some (take c.args.pin.now.place (g.H.Hall.view c.args.hall.now).seat.seen) (first_id
    c.args.pin.now.ids) c.args.track c.in-Root.start told.0 told.1 told.3))

pub returns-in_ok-add_tree-in-Root-clause-over : goal.returns-in_ok-add_tree-in-Root-clause-over
returns-in_ok-add_tree-in-Root-clause-over g c =
    let told = track-legal (take c.args.pin.now.place (g.H.Hall.view c.args.hall.now).seat.seen)
    (first_id c.args.pin.now.ids) c.args.track c.in-Root.start c.in-Root.root ((g.H.Hall.reaches
    c.published.new.self) (FromPin (pin_view c.args.pin.now)))
    c.in-Root.ensures.answer in sym told.1
