use Rattle.std.proofs.Common.{◌≡◌, ℕ, List, ◌+◌, ◌-◌, ◌<◌, take, refl, ap, sym, subst, ◌∙◌, arith, length}
use Rattle.std.specs.List.{AllByRecursion, Contains}
use Rattle.std.proofs.lemmas.List.{length-append}
use Rattle.hall_history.specs.Asks.{first_id}
use Rattle.hall_history.specs.History.{tracks_of}
use Rattle.list_lemmas.proofs.Each.{all_append}
use Rattle.hall_history.specs.Seat.{Seat}
use Rattle.hall_trait.specs.Pin.{pin_view}
use Rattle.profile_walk.proofs.Accounts.{fill_none, fill_then, read_more, read_none, read_then}
use Rattle.profile_walk.proofs.PublishedTracks.{levels-next, levels-upto, streams-few, streams-next}
use Rattle.profile_walk.proofs.Walking.{reach_on, walks_same, walks_then}
use Rattle.profile_walk.specs.Tracks.{levels_from, streams_from}
use Rattle.profile_walk.specs.Walks.{ReadsBeside}
use Rattle.trace_base.specs.Stream.{IsLegal}
use Rattle.trace_base.specs.declared.stream.TrackStream.{TrackStream}
use Rattle.profile_walk.proofs.tracks.profile_of_tracks.Goals as goal

pub add_track-requires-clause-has : goal.add_track-requires-clause-has
add_track-requires-clause-has g c =
    subst (λ (s : Seat). Contains s.pins (pin_view c.args.pin.now)) (sym c.tracks.invariant.rest.seat)
    c.requires.has

pub add_track-requires-clause-within : goal.add_track-requires-clause-within
add_track-requires-clause-within g c =
    subst (λ (s : Seat). c.tracks.track < tracks_of (take c.args.pin.now.place s.seen) (first_id
    c.args.pin.now.ids))
    (sym c.tracks.invariant.rest.seat) (omega (arith, c.requires.within))

pub add_track-requires-clause-base : goal.add_track-requires-clause-base
add_track-requires-clause-base g c =
    let n = c.tracks.track - c.args.from in (
      streams_from (take c.args.pin.now.place (g.H.Hall.view c.args.hall.now).seat.seen) (first_id
          c.args.pin.now.ids) c.args.from n,
      c.tracks.invariant.legal,
      omega (
        arith,
        streams-few (take c.args.pin.now.place (g.H.Hall.view c.args.hall.now).seat.seen)
            (first_id c.args.pin.now.ids) c.args.from n,
      ),
      c.tracks.invariant.is,
    )

pub tracks-init : goal.tracks-init
tracks-init g c =
    let none : c.args.from - c.args.from ≡ 0 = omega arith in record {
      upto = omega arith;
      is = c.empty-profile.ensures c.args.a c.args.b
          ∙ ap (λ (n : ℕ). g.P.NodeProfile.profile (streams_from (take c.args.pin.now.place (g.H.Hall.view
          c.args.hall.now).seat.seen) (first_id c.args.pin.now.ids) c.args.from n) c.args.a c.args.b)
          (sym none);
      over = ap (λ (n : ℕ). length (streams_from (take c.args.pin.now.place (g.H.Hall.view
          c.args.hall.now).seat.seen) (first_id c.args.pin.now.ids) c.args.from n)) (sym none);
      legal = subst (λ (n : ℕ). AllByRecursion IsLegal (streams_from (take c.args.pin.now.place
          (g.H.Hall.view c.args.hall.now).seat.seen) (first_id c.args.pin.now.ids) c.args.from n)) (sym none) tt;
      reads = subst (λ (n : ℕ). ReadsBeside (g.H.Hall.view c.args.hall.now).account (g.H.Hall.view
          c.args.hall.now).account (levels_from (take c.args.pin.now.place (g.H.Hall.view
          c.args.hall.now).seat.seen) (first_id c.args.pin.now.ids) c.args.from n))
          (sym none) (read_none (g.H.Hall.view c.args.hall.now).account (g.H.Hall.view
          c.args.hall.now).account refl);
      fills = fill_none (g.H.Hall.view c.args.hall.now).account (g.H.Hall.view c.args.hall.now).account refl;
      rest = walks_same (g.H.Hall.view c.args.hall.now);
      reach = λ by_what n t has led. led;
    }

pub overflow_add-over : goal.overflow_add-over
overflow_add-over g c =
    omega (
      arith,
      c.tracks.invariant.over,
      c.in_ok-over.ensures.over,
      streams-few (take c.args.pin.now.place (g.H.Hall.view c.args.hall.now).seat.seen) (first_id
          c.args.pin.now.ids) c.args.from (c.tracks.track - c.args.from),
      streams-few (take c.args.pin.now.place (g.H.Hall.view c.tracks.hall).seat.seen) (first_id
          c.args.pin.now.ids) c.tracks.track 1,
    )

pub returns-in_err-over-clause-reads : goal.returns-in_err-over-clause-reads
returns-in_err-over-clause-reads g c =
    read_more (g.H.Hall.view c.args.hall.now).account (g.H.Hall.view c.add_track.new.hall).account
    (levels_from (take c.args.pin.now.place (g.H.Hall.view c.args.hall.now).seat.seen) (first_id
    c.args.pin.now.ids) c.args.from (c.tracks.track - c.args.from)
    + levels_from (take c.args.pin.now.place (g.H.Hall.view c.tracks.hall).seat.seen) (first_id
    c.args.pin.now.ids) c.tracks.track 1)
    (levels_from (take c.args.pin.now.place (g.H.Hall.view c.args.hall.now).seat.seen) (first_id
    c.args.pin.now.ids) c.args.from (c.args.to - c.args.from))
    (omega (
      arith,
      (levels-next (take c.args.pin.now.place (g.H.Hall.view c.args.hall.now).seat.seen) (take
          c.args.pin.now.place (g.H.Hall.view c.tracks.hall).seat.seen) (first_id c.args.pin.now.ids) c.args.from
          c.tracks.track
          (ap (λ (s : Seat). take c.args.pin.now.place s.seen) c.tracks.invariant.rest.seat)
          c.tracks.auto.track),
      levels-upto (take c.args.pin.now.place (g.H.Hall.view c.args.hall.now).seat.seen) (first_id
          c.args.pin.now.ids) c.args.from (c.tracks.track + 1 - c.args.from) (c.args.to - c.args.from)
          (omega arith),
    ))
    (read_then (g.H.Hall.view c.args.hall.now).account (g.H.Hall.view c.tracks.hall).account (g.H.Hall.view
    c.add_track.new.hall).account
    (levels_from (take c.args.pin.now.place (g.H.Hall.view c.args.hall.now).seat.seen) (first_id
    c.args.pin.now.ids) c.args.from (c.tracks.track - c.args.from))
    (levels_from (take c.args.pin.now.place (g.H.Hall.view c.tracks.hall).seat.seen) (first_id
    c.args.pin.now.ids) c.tracks.track 1) c.tracks.invariant.reads c.add_track.ensures.reads)

pub returns-in_err-over-clause-rest : goal.returns-in_err-over-clause-rest
returns-in_err-over-clause-rest g c =
    walks_then (g.H.Hall.view c.args.hall.now) (g.H.Hall.view c.tracks.hall) (g.H.Hall.view
    c.add_track.new.hall) c.tracks.invariant.rest c.add_track.ensures.rest

pub tracks-preserved : goal.tracks-preserved
tracks-preserved g c = record {
  upto = omega arith;
  is = c.in_ok-over.ensures.answer (streams_from (take c.args.pin.now.place (g.H.Hall.view
      c.args.hall.now).seat.seen) (first_id c.args.pin.now.ids) c.args.from (c.tracks.track - c.args.from))
      c.tracks.invariant.legal (omega (
        arith,
        streams-few (take c.args.pin.now.place (g.H.Hall.view
            c.args.hall.now).seat.seen) (first_id c.args.pin.now.ids) c.args.from (c.tracks.track - c.args.from),
      ))
      c.tracks.invariant.is
      ∙ ap (λ (l : List TrackStream). g.P.NodeProfile.profile l c.args.a c.args.b) (sym (streams-next (take
      c.args.pin.now.place (g.H.Hall.view c.args.hall.now).seat.seen) (take c.args.pin.now.place
      (g.H.Hall.view c.tracks.hall).seat.seen) (first_id c.args.pin.now.ids) c.args.from c.tracks.track
      (ap (λ (s : Seat). take c.args.pin.now.place s.seen) c.tracks.invariant.rest.seat)
      c.tracks.auto.track));
  over = omega (
    arith,
    c.tracks.invariant.over,
    c.in_ok-over.ensures.over,
    ap (λ (l : List TrackStream). length l) (streams-next (take c.args.pin.now.place (g.H.Hall.view
        c.args.hall.now).seat.seen) (take c.args.pin.now.place (g.H.Hall.view c.tracks.hall).seat.seen) (first_id
        c.args.pin.now.ids) c.args.from c.tracks.track
        (ap (λ (s : Seat). take c.args.pin.now.place s.seen) c.tracks.invariant.rest.seat)
        c.tracks.auto.track),
    length-append (streams_from (take c.args.pin.now.place (g.H.Hall.view c.args.hall.now).seat.seen)
        (first_id c.args.pin.now.ids) c.args.from (c.tracks.track - c.args.from))
        (streams_from (take c.args.pin.now.place (g.H.Hall.view c.tracks.hall).seat.seen) (first_id
        c.args.pin.now.ids) c.tracks.track 1),
  );
  legal = subst (λ (l : List TrackStream). AllByRecursion IsLegal l) (sym (streams-next (take
      c.args.pin.now.place (g.H.Hall.view c.args.hall.now).seat.seen) (take c.args.pin.now.place (g.H.Hall.view
      c.tracks.hall).seat.seen) (first_id c.args.pin.now.ids) c.args.from c.tracks.track
      (ap (λ (s : Seat). take c.args.pin.now.place s.seen) c.tracks.invariant.rest.seat) c.tracks.auto.track))
      (all_append IsLegal (streams_from (take c.args.pin.now.place (g.H.Hall.view c.args.hall.now).seat.seen)
      (first_id c.args.pin.now.ids) c.args.from (c.tracks.track - c.args.from))
      (streams_from (take c.args.pin.now.place (g.H.Hall.view c.tracks.hall).seat.seen) (first_id
      c.args.pin.now.ids) c.tracks.track 1) c.tracks.invariant.legal c.add_track.ensures.legal);
  reads = subst (λ (n : ℕ). ReadsBeside (g.H.Hall.view c.args.hall.now).account (g.H.Hall.view
      c.add_track.new.hall).account n) (sym (levels-next (take c.args.pin.now.place (g.H.Hall.view
      c.args.hall.now).seat.seen) (take c.args.pin.now.place (g.H.Hall.view c.tracks.hall).seat.seen) (first_id
      c.args.pin.now.ids) c.args.from c.tracks.track
      (ap (λ (s : Seat). take c.args.pin.now.place s.seen) c.tracks.invariant.rest.seat) c.tracks.auto.track))
      (read_then (g.H.Hall.view c.args.hall.now).account (g.H.Hall.view c.tracks.hall).account (g.H.Hall.view
      c.add_track.new.hall).account
      (levels_from (take c.args.pin.now.place (g.H.Hall.view c.args.hall.now).seat.seen) (first_id
      c.args.pin.now.ids) c.args.from (c.tracks.track - c.args.from))
      (levels_from (take c.args.pin.now.place (g.H.Hall.view c.tracks.hall).seat.seen) (first_id
      c.args.pin.now.ids) c.tracks.track 1) c.tracks.invariant.reads c.in_ok-over.ensures.reads);
  fills = fill_then (g.H.Hall.view c.args.hall.now).account (g.H.Hall.view c.tracks.hall).account
      (g.H.Hall.view c.add_track.new.hall).account 0 0 c.tracks.invariant.fills c.in_ok-over.ensures.fills;
  rest = walks_then (g.H.Hall.view c.args.hall.now) (g.H.Hall.view c.tracks.hall) (g.H.Hall.view
      c.add_track.new.hall) c.tracks.invariant.rest c.in_ok-over.ensures.rest;
  reach = reach_on (g.H.Hall.view c.tracks.hall).seat (g.H.Hall.view c.add_track.new.hall).seat
      (g.H.Hall.reaches c.args.hall.now) (g.H.Hall.reaches c.tracks.hall) (g.H.Hall.reaches c.add_track.new.hall)
      c.in_ok-over.ensures.rest.seat c.tracks.invariant.reach
      c.in_ok-over.ensures.reach;
}

pub returns-clause-profile : goal.returns-clause-profile
returns-clause-profile g c =
    let all : c.tracks.track - c.args.from ≡ c.args.to - c.args.from = omega arith in
    c.tracks.invariant.is
    ∙ ap (λ (n : ℕ). g.P.NodeProfile.profile (streams_from (take c.args.pin.now.place (g.H.Hall.view
    c.args.hall.now).seat.seen) (first_id c.args.pin.now.ids) c.args.from n) c.args.a c.args.b) all

pub returns-clause-over : goal.returns-clause-over
returns-clause-over g c =
    let all : c.tracks.track - c.args.from ≡ c.args.to - c.args.from = omega arith in
    c.tracks.invariant.over ∙ ap (λ (n : ℕ). length (streams_from (take c.args.pin.now.place (g.H.Hall.view
    c.args.hall.now).seat.seen) (first_id c.args.pin.now.ids) c.args.from n)) all

pub returns-clause-reads : goal.returns-clause-reads
returns-clause-reads g c =
    let all : c.tracks.track - c.args.from ≡ c.args.to - c.args.from = omega arith in
    subst (λ (n : ℕ). ReadsBeside (g.H.Hall.view c.args.hall.now).account (g.H.Hall.view
    c.tracks.hall).account (levels_from (take c.args.pin.now.place (g.H.Hall.view c.args.hall.now).seat.seen)
    (first_id c.args.pin.now.ids) c.args.from n)) all
    c.tracks.invariant.reads
