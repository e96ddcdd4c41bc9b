use Rattle.std.proofs.Common.{◌≡◌, ℕ, ◌+◌, ◌≤◌, ◌<◌, ◌⊎◌, ◌∷◌, [], Option, IfSome, sym, subst, ◌∙◌, arith}
use Rattle.std.proofs.lemmas.Result.{on_ok_weaker}
use Rattle.node_key.specs.Events.{stream_from}
use Rattle.profile_walk.proofs.Accounts.{read_more, read_one, read_then}
use Rattle.profile_walk.proofs.Crossings.{crossings_below-few}
use Rattle.profile_walk.proofs.KidsWalked.{outside-skipped}
use Rattle.profile_walk.proofs.Summing.{fit-two, is-ordered, sum-two}
use Rattle.profile_walk.proofs.Walking.{add_on, source_stays, walk_on, walk_read, walks_read, walks_then}
use Rattle.profile_walk.specs.Crossing.{crossings_below}
use Rattle.profile_walk.specs.Tracks.{twice_levels}
use Rattle.profile_walk.proofs.tracks.add_tree.Goals as goal

pub returns-in_err-own-in-Across-clause-reads : goal.returns-in_err-own-in-Across-clause-reads
returns-in_err-own-in-Across-clause-reads g c by_what t base add =
    let can = (walk_read (g.H.Hall.view c.args.hall.now).seat (g.H.Hall.view c.read-key.new.self).seat
    (g.H.Hall.reaches c.read-key.new.self) by_what t c.read-key.result c.read-key.ensures.rest.seat add.has
    (c.read-key.ensures.answer by_what t add.led) add.sums) in
    read_more (g.H.Hall.view c.args.hall.now).account (g.H.Hall.view c.profile_of_key.new.hall).account (1 +
    crossings_below c.args.a c.args.b c.args.at t.kids) (twice_levels t)
    (omega (arith, crossings_below-few c.args.a c.args.b c.args.at t.kids add.sums.timed.1))
    (read_then (g.H.Hall.view c.args.hall.now).account (g.H.Hall.view c.read-key.new.self).account
    (g.H.Hall.view c.profile_of_key.new.hall).account 1 (crossings_below c.args.a c.args.b c.args.at t.kids)
    (read_one (g.H.Hall.view c.args.hall.now).account (g.H.Hall.view c.read-key.new.self).account
    c.read-key.ensures.rest.rest.account)
    (c.profile_of_key.ensures.reads by_what t can))

pub returns-in_err-own-in-Across-clause-rest : goal.returns-in_err-own-in-Across-clause-rest
returns-in_err-own-in-Across-clause-rest g c =
    walks_then (g.H.Hall.view c.args.hall.now) (g.H.Hall.view c.read-key.new.self) (g.H.Hall.view
    c.profile_of_key.new.hall) (walks_read (g.H.Hall.view c.args.hall.now) (g.H.Hall.view
    c.read-key.new.self) c.read-key.ensures.rest) c.profile_of_key.ensures.rest

pub add-requires-clause-ordered : goal.add-requires-clause-ordered
add-requires-clause-ordered g c =
    is-ordered g.met.P.NodeProfile.laws c.requires.2 c.args.a c.args.b c.args.sum.now c.requires.3.is

pub add-requires-clause-other_ordered : goal.add-requires-clause-other_ordered
add-requires-clause-other_ordered g c =
    is-ordered g.met.P.NodeProfile.laws (stream_from c.requires.1 c.args.at ∷ []) c.args.a c.args.b
    c.in_ok-own-in-Across.own
    (c.in_ok-own-in-Across.ensures.answer c.requires.0 c.requires.1
    (walk_read (g.H.Hall.view c.args.hall.now).seat (g.H.Hall.view c.read-key.new.self).seat
    (g.H.Hall.reaches c.read-key.new.self) c.requires.0 c.requires.1 c.read-key.result
    c.read-key.ensures.rest.seat c.requires.3.has
    (c.read-key.ensures.answer c.requires.0 c.requires.1 c.requires.3.led) c.requires.3.sums))

pub add-requires-clause-fits : goal.add-requires-clause-fits
add-requires-clause-fits g c =
    fit-two g.met.P.NodeProfile.laws c.requires.2 (stream_from c.requires.1 c.args.at ∷ []) c.args.a c.args.b
    c.args.sum.now
    c.in_ok-own-in-Across.own c.requires.3.is (c.in_ok-own-in-Across.ensures.answer c.requires.0 c.requires.1
    (walk_read (g.H.Hall.view c.args.hall.now).seat (g.H.Hall.view c.read-key.new.self).seat
    (g.H.Hall.reaches c.read-key.new.self) c.requires.0 c.requires.1 c.read-key.result
    c.read-key.ensures.rest.seat c.requires.3.has
    (c.read-key.ensures.answer c.requires.0 c.requires.1 c.requires.3.led) c.requires.3.sums))
    c.requires.3.fit

pub returns-in_err-own-in-Inside-clause-rest : goal.returns-in_err-own-in-Inside-clause-rest
returns-in_err-own-in-Inside-clause-rest g c =
    walks_then (g.H.Hall.view c.args.hall.now) (g.H.Hall.view c.read-key.new.self) (g.H.Hall.view
    c.look.new.hall) (walks_read (g.H.Hall.view c.args.hall.now) (g.H.Hall.view c.read-key.new.self)
    c.read-key.ensures.rest) c.look.ensures.rest

pub add-requires-in-Some-clause-other_ordered : goal.add-requires-in-Some-clause-other_ordered
add-requires-in-Some-clause-other_ordered g c =
    is-ordered g.met.P.NodeProfile.laws (stream_from c.requires.1 c.args.at ∷ []) c.args.a c.args.b
    c.in-Some.own
    (subst (λ (o : Option g.row.P.Denot). IfSome o (λ p. p ≡ g.P.NodeProfile.whole c.requires.1)) c.in-Some.is
    (c.in_ok-own-in-Inside.ensures.answer c.requires.0 c.requires.1 (c.read-key.ensures.reach c.requires.0
    c.args.n c.requires.1
    (source_stays (g.H.Hall.view c.args.hall.now).seat (g.H.Hall.view c.read-key.new.self).seat c.requires.0
    c.read-key.ensures.rest.seat c.requires.3.has) c.requires.3.led))
    ∙ sym (g.met.P.NodeProfile.laws.inside c.requires.1 c.args.at c.args.a c.args.b c.requires.3.sums.timed
    c.in-Inside.ensures.0 (omega (
      arith,
      c.in-Inside.ensures.1,
      (c.read-key.ensures.answer c.requires.0
          c.requires.1 c.requires.3.led).1.dur,
    ))))

pub add-requires-in-Some-clause-fits : goal.add-requires-in-Some-clause-fits
add-requires-in-Some-clause-fits g c =
    fit-two g.met.P.NodeProfile.laws c.requires.2 (stream_from c.requires.1 c.args.at ∷ []) c.args.a c.args.b
    c.args.sum.now
    c.in-Some.own c.requires.3.is (subst (λ (o : Option g.row.P.Denot). IfSome o (λ p. p ≡
    g.P.NodeProfile.whole c.requires.1)) c.in-Some.is
    (c.in_ok-own-in-Inside.ensures.answer c.requires.0 c.requires.1 (c.read-key.ensures.reach c.requires.0
    c.args.n c.requires.1
    (source_stays (g.H.Hall.view c.args.hall.now).seat (g.H.Hall.view c.read-key.new.self).seat c.requires.0
    c.read-key.ensures.rest.seat c.requires.3.has) c.requires.3.led))
    ∙ sym (g.met.P.NodeProfile.laws.inside c.requires.1 c.args.at c.args.a c.args.b c.requires.3.sums.timed
    c.in-Inside.ensures.0 (omega (
      arith,
      c.in-Inside.ensures.1,
      (c.read-key.ensures.answer c.requires.0
          c.requires.1 c.requires.3.led).1.dur,
    )))) c.requires.3.fit

pub add_whole-requires : goal.add_whole-requires
add_whole-requires g c = (
  c.requires.0,
  c.requires.1,
  c.args.at,
  c.args.a,
  c.args.b,
  c.requires.2,
  (add_on g.P.NodeProfile.profile (g.H.Hall.view c.read-key.new.self).seat (g.H.Hall.view
      c.look.new.hall).seat (g.H.Hall.reaches c.read-key.new.self) (g.H.Hall.reaches c.look.new.hall)
      c.requires.0 c.args.n c.requires.1 c.args.at c.args.a c.args.b
      c.requires.2 c.args.sum.now c.look.ensures.rest.seat c.look.ensures.reach
      (add_on g.P.NodeProfile.profile (g.H.Hall.view c.args.hall.now).seat (g.H.Hall.view
      c.read-key.new.self).seat (g.H.Hall.reaches c.args.hall.now) (g.H.Hall.reaches c.read-key.new.self)
      c.requires.0 c.args.n c.requires.1 c.args.at c.args.a c.args.b
      c.requires.2 c.args.sum.now c.read-key.ensures.rest.seat c.read-key.ensures.reach c.requires.3)),
  (walk_on (g.H.Hall.view c.read-key.new.self).seat (g.H.Hall.view c.look.new.hall).seat (g.H.Hall.reaches
      c.read-key.new.self) (g.H.Hall.reaches c.look.new.hall) c.requires.0 c.requires.1 c.read-key.result
      c.look.ensures.rest.seat
      c.look.ensures.reach (walk_read (g.H.Hall.view c.args.hall.now).seat (g.H.Hall.view
      c.read-key.new.self).seat (g.H.Hall.reaches c.read-key.new.self) c.requires.0 c.requires.1
      c.read-key.result c.read-key.ensures.rest.seat c.requires.3.has
      (c.read-key.ensures.answer c.requires.0 c.requires.1 c.requires.3.led) c.requires.3.sums)),
  c.in-Inside.ensures.0,
  omega (
    arith,
    c.in-Inside.ensures.1,
    (c.read-key.ensures.answer c.requires.0 c.requires.1 c.requires.3.led).1.dur,
  ),
)

pub returns-in-None-clause-answer : goal.returns-in-None-clause-answer
returns-in-None-clause-answer g c by_what t base add =
    c.add_whole.ensures.answer by_what t c.args.at c.args.a c.args.b base
    (add_on g.P.NodeProfile.profile (g.H.Hall.view c.read-key.new.self).seat (g.H.Hall.view
    c.look.new.hall).seat (g.H.Hall.reaches c.read-key.new.self) (g.H.Hall.reaches c.look.new.hall) by_what
    c.args.n t c.args.at c.args.a c.args.b
    base c.args.sum.now c.look.ensures.rest.seat c.look.ensures.reach
    (add_on g.P.NodeProfile.profile (g.H.Hall.view c.args.hall.now).seat (g.H.Hall.view
    c.read-key.new.self).seat (g.H.Hall.reaches c.args.hall.now) (g.H.Hall.reaches c.read-key.new.self)
    by_what c.args.n t c.args.at c.args.a c.args.b
    base c.args.sum.now c.read-key.ensures.rest.seat c.read-key.ensures.reach add))
    (walk_on (g.H.Hall.view c.read-key.new.self).seat (g.H.Hall.view c.look.new.hall).seat (g.H.Hall.reaches
    c.read-key.new.self) (g.H.Hall.reaches c.look.new.hall) by_what t c.read-key.result
    c.look.ensures.rest.seat
    c.look.ensures.reach (walk_read (g.H.Hall.view c.args.hall.now).seat (g.H.Hall.view
    c.read-key.new.self).seat (g.H.Hall.reaches c.read-key.new.self) by_what t c.read-key.result
    c.read-key.ensures.rest.seat add.has
    (c.read-key.ensures.answer by_what t add.led) add.sums))
    c.in-Inside.ensures.0
    (omega (arith, c.in-Inside.ensures.1, (c.read-key.ensures.answer by_what t add.led).1.dur))

pub returns-in-None-clause-rest : goal.returns-in-None-clause-rest
returns-in-None-clause-rest g c =
    walks_then (g.H.Hall.view c.args.hall.now) (g.H.Hall.view c.look.new.hall) (g.H.Hall.view
    c.add_whole.new.hall)
    (walks_then (g.H.Hall.view c.args.hall.now) (g.H.Hall.view c.read-key.new.self) (g.H.Hall.view
    c.look.new.hall) (walks_read (g.H.Hall.view c.args.hall.now) (g.H.Hall.view c.read-key.new.self)
    c.read-key.ensures.rest) c.look.ensures.rest)
    c.add_whole.ensures.rest

pub returns-in-Some-clause-rest : goal.returns-in-Some-clause-rest
returns-in-Some-clause-rest g c =
    walks_then (g.H.Hall.view c.args.hall.now) (g.H.Hall.view c.read-key.new.self) (g.H.Hall.view
    c.look.new.hall) (walks_read (g.H.Hall.view c.args.hall.now) (g.H.Hall.view c.read-key.new.self)
    c.read-key.ensures.rest) c.look.ensures.rest

pub returns-in-Outside-clause-answer : goal.returns-in-Outside-clause-answer
returns-in-Outside-clause-answer g c by_what t base add =
    add.is
    ∙ sym (outside-skipped g.met.P.NodeProfile.laws base t c.args.at c.args.a c.args.b add.sums
    (subst (λ (n : ℕ). (c.args.at + n < c.args.a) ⊎ (c.args.b ≤ c.args.at))
    (c.read-key.ensures.answer by_what t add.led).1.dur c.in-Outside.ensures))

pub returns-in_ok-own-in-Across-clause-answer : goal.returns-in_ok-own-in-Across-clause-answer
returns-in_ok-own-in-Across-clause-answer g c by_what t base add =
    on_ok_weaker c.add.result (λ e. e ∙ sum-two g.met.P.NodeProfile.laws base (stream_from t c.args.at ∷ [])
    c.args.a c.args.b
    c.args.sum.now c.in_ok-own-in-Across.own add.is
    (c.in_ok-own-in-Across.ensures.answer by_what t (walk_read (g.H.Hall.view c.args.hall.now).seat
    (g.H.Hall.view c.read-key.new.self).seat (g.H.Hall.reaches c.read-key.new.self) by_what t
    c.read-key.result c.read-key.ensures.rest.seat add.has
    (c.read-key.ensures.answer by_what t add.led) add.sums))) c.add.ensures.ok

pub returns-in_ok-own-in-Across-clause-reads : goal.returns-in_ok-own-in-Across-clause-reads
returns-in_ok-own-in-Across-clause-reads g c by_what t base add =
    let can = (walk_read (g.H.Hall.view c.args.hall.now).seat (g.H.Hall.view c.read-key.new.self).seat
    (g.H.Hall.reaches c.read-key.new.self) by_what t c.read-key.result c.read-key.ensures.rest.seat add.has
    (c.read-key.ensures.answer by_what t add.led) add.sums) in
    read_more (g.H.Hall.view c.args.hall.now).account (g.H.Hall.view c.profile_of_key.new.hall).account (1 +
    crossings_below c.args.a c.args.b c.args.at t.kids) (twice_levels t)
    (omega (arith, crossings_below-few c.args.a c.args.b c.args.at t.kids add.sums.timed.1))
    (read_then (g.H.Hall.view c.args.hall.now).account (g.H.Hall.view c.read-key.new.self).account
    (g.H.Hall.view c.profile_of_key.new.hall).account 1 (crossings_below c.args.a c.args.b c.args.at t.kids)
    (read_one (g.H.Hall.view c.args.hall.now).account (g.H.Hall.view c.read-key.new.self).account
    c.read-key.ensures.rest.rest.account)
    (c.profile_of_key.ensures.reads by_what t can))

pub returns-in_ok-own-in-Across-clause-rest : goal.returns-in_ok-own-in-Across-clause-rest
returns-in_ok-own-in-Across-clause-rest g c =
    walks_then (g.H.Hall.view c.args.hall.now) (g.H.Hall.view c.read-key.new.self) (g.H.Hall.view
    c.profile_of_key.new.hall) (walks_read (g.H.Hall.view c.args.hall.now) (g.H.Hall.view
    c.read-key.new.self) c.read-key.ensures.rest) c.profile_of_key.ensures.rest
