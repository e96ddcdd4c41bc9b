use Rattle.std.proofs.Common.{◌≡◌, ◌++◌, ◌∷◌, [], List, length, refl, sym, ap, ◌∙◌, rules, append_assoc}
use Rattle.std.proofs.Common.{append-nil, arith, ℕ, Err}
use Rattle.std.proofs.lemmas.List.{nil_from_length}
use Rattle.std.specs.Vec.Iter.{into_iter_items}
use Rattle.trace_base.specs.declared.stream.TrackStream.{TrackStream}
use Rattle.node_key.specs.Stakes.{stake}
use Rattle.node_key.specs.Trees.{tree}
use Rattle.builders.proofs.BuildingViews.{building_then, refused_then, working_none, working_same, working_then}
use Rattle.builders.proofs.Spending.{spends_later}
use Rattle.trace_session.proofs.GoingOn.{refused_alone}
use Rattle.trace_session.proofs.Loading.{Loading-start, Loading-next, Loading-more, Loading-still}
use Rattle.trace_session.proofs.Loading.{Loading-dropped, Loading-sealed}
use Rattle.trace_session.proofs.Staking.{stake_given, stake_used, stakes_still}
use Rattle.trace_session.proofs.load.publish_all.Goals as goal

pub loop-s-init : goal.loop-s-init
loop-s-init g c = record {
  loading = Loading-start (g.H.Hall.view c.args.hall.now) c.args.pass c.args.tracks c.requires.passes
      c.requires.pins c.requires.fresh c.requires.tracks;
  stakes = c.requires.stakes;
  rest = search rules;
  goes_on = working_same (g.H.Hall.view c.args.hall.now);
}

pub build_track-requires : goal.build_track-requires
build_track-requires g c =
    let whole : c.loop-s.yielded ++ c.in-Some.s ∷ into_iter_items c.next.new.self ≡ c.args.tracks =
    ap (λ (l : List TrackStream). c.loop-s.yielded ++ l) (sym c.in-Some.ensures.steps.0) ∙
    c.loop-s.invariant.rest in
    let next = Loading-next (g.H.Hall.view c.args.hall.now) (g.H.Hall.view c.loop-s.hall) c.args.pass.id
    c.args.tracks c.loop-s.yielded (into_iter_items c.next.new.self) c.in-Some.s c.loop-s.pass
    c.loop-s.invariant.loading whole in
    next.1.3.legal

pub publish-requires-clause-root : goal.publish-requires-clause-root
publish-requires-clause-root g c =
    let whole : c.loop-s.yielded ++ c.in-Some.s ∷ into_iter_items c.next.new.self ≡ c.args.tracks =
    ap (λ (l : List TrackStream). c.loop-s.yielded ++ l) (sym c.in-Some.ensures.steps.0) ∙
    c.loop-s.invariant.rest in
    let old = g.H.Hall.view c.args.hall.now in
    let now = g.H.Hall.view c.loop-s.hall in
    let mid = g.H.Hall.view c.build_track.new.hall in
    let given = stake c.in-Ok.root (tree c.in-Some.s) in
    let built = Loading-still old now mid c.args.pass.id c.args.tracks c.loop-s.yielded c.loop-s.pass []
    (given ∷ []) c.in-Ok.ensures.answer c.in-Ok.ensures.rest.alone c.loop-s.invariant.loading in
    let next = Loading-next old mid c.args.pass.id c.args.tracks c.loop-s.yielded
    (into_iter_items c.next.new.self) c.in-Some.s c.loop-s.pass built whole in (
      length c.loop-s.yielded,
      c.in-Some.s,
      next.0,
      record {
        fits = next.1;
        begins = refl;
        staked = stake_given now.seat.stakes mid.seat.stakes given c.in-Ok.ensures.answer.stakes;
      },
    )

pub loop-s-preserved : goal.loop-s-preserved
loop-s-preserved g c =
    let whole : c.loop-s.yielded ++ c.in-Some.s ∷ into_iter_items c.next.new.self ≡ c.args.tracks =
    ap (λ (l : List TrackStream). c.loop-s.yielded ++ l) (sym c.in-Some.ensures.steps.0) ∙
    c.loop-s.invariant.rest in
    let old = g.H.Hall.view c.args.hall.now in
    let now = g.H.Hall.view c.loop-s.hall in
    let mid = g.H.Hall.view c.build_track.new.hall in
    let new = g.H.Hall.view c.publish.new.self in
    let given = stake c.in-Ok.root (tree c.in-Some.s) in
    let built = Loading-still old now mid c.args.pass.id c.args.tracks c.loop-s.yielded c.loop-s.pass []
    (given ∷ []) c.in-Ok.ensures.answer c.in-Ok.ensures.rest.alone c.loop-s.invariant.loading in
    let next = Loading-next old mid c.args.pass.id c.args.tracks c.loop-s.yielded
    (into_iter_items c.next.new.self) c.in-Some.s c.loop-s.pass built whole in
    let published = c.publish.ensures.answer (length c.loop-s.yielded) c.in-Some.s next.0 (record {
      fits = next.1;
      begins = refl;
      staked = stake_given now.seat.stakes mid.seat.stakes given c.in-Ok.ensures.answer.stakes;
    }) in
    record {
      loading = Loading-more old mid new c.args.pass.id c.args.tracks c.loop-s.yielded c.in-Some.s
          c.loop-s.pass c.publish.new.pass c.publish.result built next.0 published.entered
          c.publish.ensures.rest.alone c.publish.ensures.pass;
      stakes = stake_used now.seat.stakes mid.seat.stakes new.seat.stakes given c.loop-s.invariant.stakes
          c.in-Ok.ensures.answer.stakes published.stakes;
      rest = append_assoc c.loop-s.yielded (c.in-Some.s ∷ []) (into_iter_items c.next.new.self) ∙ whole;
      goes_on = working_then old mid new
          (working_then old now mid c.loop-s.invariant.goes_on c.in-Ok.ensures.rest)
          (working_none mid new c.publish.ensures.rest);
    }

pub returns-in-Err-clause-published : goal.returns-in-Err-clause-published
returns-in-Err-clause-published g c =
    let whole : c.loop-s.yielded ++ c.in-Some.s ∷ into_iter_items c.next.new.self ≡ c.args.tracks =
    ap (λ (l : List TrackStream). c.loop-s.yielded ++ l) (sym c.in-Some.ensures.steps.0) ∙
    c.loop-s.invariant.rest in
    let old = g.H.Hall.view c.args.hall.now in
    let now = g.H.Hall.view c.loop-s.hall in
    let mid = g.H.Hall.view c.build_track.new.hall in
    let unbuilt = Loading-still old now mid c.args.pass.id c.args.tracks c.loop-s.yielded c.loop-s.pass [] []
    c.in-Err.ensures.answer (refused_alone now mid c.in-Err.fault c.in-Err.ensures.rest)
    c.loop-s.invariant.loading in
    Loading-dropped old mid (g.H.Hall.view c.abandon.new.self) c.args.pass.id c.args.tracks c.loop-s.yielded
    (c.in-Some.s ∷ into_iter_items c.next.new.self) c.loop-s.pass c.abandon.result unbuilt
    (stakes_still now.seat.stakes mid.seat.stakes c.loop-s.invariant.stakes c.in-Err.ensures.answer.stakes)
    c.abandon.ensures.stakes whole c.abandon.ensures.answer

pub returns-in-Err-clause-rest : goal.returns-in-Err-clause-rest
returns-in-Err-clause-rest g c =
    let now = g.H.Hall.view c.loop-s.hall in
    let new = g.H.Hall.view c.abandon.new.self in
    building_then {X = ℕ} (g.H.Hall.view c.args.hall.now) now new (Err c.in-Err.fault)
    c.loop-s.invariant.goes_on
    (refused_then now (g.H.Hall.view c.build_track.new.hall) new c.in-Err.fault c.in-Err.ensures.rest
    c.abandon.ensures.rest)

pub returns-in-Err-clause-spent : goal.returns-in-Err-clause-spent
returns-in-Err-clause-spent g c =
    spends_later (g.H.Hall.view c.build_track.new.hall).rooms (g.H.Hall.view c.abandon.new.self).rooms
    c.in-Err.fault c.abandon.ensures.rest.rooms c.in-Err.ensures.spent

pub returns-clause-rest : goal.returns-clause-rest
returns-clause-rest g c =
    let now = g.H.Hall.view c.loop-s.hall in
    let new = g.H.Hall.view c.seal.new.self in
    working_then (g.H.Hall.view c.args.hall.now) now new c.loop-s.invariant.goes_on
    (working_none now new c.seal.ensures.rest)

pub returns-clause-published : goal.returns-clause-published
returns-clause-published g c =
    let none : into_iter_items c.loop-s.s-iterator ≡ [] =
    nil_from_length (into_iter_items c.loop-s.s-iterator)
    (omega (arith, c.in-None.ensures.steps.0, c.loop-s.s-iterator.rest.ok)) in
    let all : c.loop-s.yielded ≡ c.args.tracks = sym (append-nil c.loop-s.yielded) ∙ ap
    (λ (l : List TrackStream). c.loop-s.yielded ++ l) (sym none) ∙ c.loop-s.invariant.rest in
    Loading-sealed (g.H.Hall.view c.args.hall.now) (g.H.Hall.view c.loop-s.hall)
    (g.H.Hall.view c.seal.new.self) c.args.pass.id c.args.tracks c.loop-s.yielded c.loop-s.pass
    c.seal.result c.loop-s.invariant.loading c.loop-s.invariant.stakes c.seal.ensures.stakes all
    c.seal.ensures.answer
