use Rattle.std.proofs.Common.{ap, ◌+◌, ◌∷◌, [], sym, ◌∙◌, arith}
use Rattle.node_key.specs.Events.{stream_from}
use Rattle.profile_walk.proofs.Accounts.{read_filled, read_more, read_then}
use Rattle.profile_walk.proofs.Crossings.{crossings-none}
use Rattle.profile_walk.proofs.KidsWalked.{whole-is}
use Rattle.profile_walk.proofs.Summing.{fit-two, is-ordered, sum-two}
use Rattle.profile_walk.proofs.Walking.{source_stays, walks_fill, walks_then}
use Rattle.whole_profiles.specs.Whole.{whole_profile}
use Rattle.whole_profiles.specs.declared.memo_kind.MemoKind.{MemoKind}
use Rattle.profile_walk.specs.Crossing.{crossings_below}
use Rattle.profile_walk.proofs.tracks.add_whole.Goals as goal

pub add-requires-clause-ordered : goal.add-requires-clause-ordered
add-requires-clause-ordered g c =
    let by_what = c.requires.0 in
    let t = c.requires.1 in
    let at = c.requires.2 in
    let a = c.requires.3 in
    let b = c.requires.4 in
    let add = c.requires.6 in
    let can = c.requires.7 in
    is-ordered g.met.P.NodeProfile.laws c.requires.5 a b c.args.sum.now add.is

pub add-requires-clause-other_ordered : goal.add-requires-clause-other_ordered
add-requires-clause-other_ordered g c =
    let by_what = c.requires.0 in
    let t = c.requires.1 in
    let at = c.requires.2 in
    let a = c.requires.3 in
    let b = c.requires.4 in
    let add = c.requires.6 in
    let can = c.requires.7 in
    is-ordered g.met.P.NodeProfile.laws (stream_from t at ∷ []) a b c.in_ok-own.own (whole-is
    g.met.P.NodeProfile.laws t c.args.key.now.dur c.in_ok-own.own can.sums can.read.1.dur
    (c.in_ok-own.ensures.answer by_what t can)
    ∙ sym (g.met.P.NodeProfile.laws.inside t at a b can.sums.timed c.requires.8 c.requires.9))

pub add-requires-clause-fits : goal.add-requires-clause-fits
add-requires-clause-fits g c =
    let by_what = c.requires.0 in
    let t = c.requires.1 in
    let at = c.requires.2 in
    let a = c.requires.3 in
    let b = c.requires.4 in
    let add = c.requires.6 in
    let can = c.requires.7 in
    fit-two g.met.P.NodeProfile.laws c.requires.5 (stream_from t at ∷ []) a b c.args.sum.now c.in_ok-own.own
    add.is (whole-is g.met.P.NodeProfile.laws t c.args.key.now.dur c.in_ok-own.own can.sums can.read.1.dur
    (c.in_ok-own.ensures.answer by_what t can)
    ∙ sym (g.met.P.NodeProfile.laws.inside t at a b can.sums.timed c.requires.8 c.requires.9)) add.fit

pub returns-clause-answer : goal.returns-clause-answer
returns-clause-answer g c by_what t at a b base add can low high =
    c.in_ok-add.ensures.ok
    ∙ sum-two g.met.P.NodeProfile.laws base (stream_from t at ∷ []) a b c.args.sum.now c.in_ok-own.own add.is
    (whole-is g.met.P.NodeProfile.laws t c.args.key.now.dur c.in_ok-own.own can.sums can.read.1.dur
    (c.in_ok-own.ensures.answer by_what t can)
    ∙ sym (g.met.P.NodeProfile.laws.inside t at a b can.sums.timed low high))

pub returns-in_err-own-clause-reads : goal.returns-in_err-own-clause-reads
returns-in_err-own-clause-reads g c =
    read_more (g.H.Hall.view c.args.hall.now).account (g.H.Hall.view c.profile_of_key.new.hall).account
    (crossings_below 0 (c.args.key.now.dur + 1) 0 c.requires.1.kids) 0
    (omega (
      arith,
      crossings-none 0 (c.args.key.now.dur + 1) 0 c.requires.1.kids (omega arith)
          (omega (arith, c.requires.7.sums.timed.0, c.requires.7.read.1.dur)),
    ))
    (c.profile_of_key.ensures.reads c.requires.0 c.requires.1 c.requires.7)

pub returns-in_err-add-clause-reads : goal.returns-in_err-add-clause-reads
returns-in_err-add-clause-reads g c =
    read_more (g.H.Hall.view c.args.hall.now).account (g.H.Hall.view c.profile_of_key.new.hall).account
    (crossings_below 0 (c.args.key.now.dur + 1) 0 c.requires.1.kids) 0
    (omega (
      arith,
      crossings-none 0 (c.args.key.now.dur + 1) 0 c.requires.1.kids (omega arith)
          (omega (arith, c.requires.7.sums.timed.0, c.requires.7.read.1.dur)),
    ))
    (c.profile_of_key.ensures.reads c.requires.0 c.requires.1 c.requires.7)

pub returns-clause-reads : goal.returns-clause-reads
returns-clause-reads g c =
    let reads = read_more (g.H.Hall.view c.args.hall.now).account (g.H.Hall.view
    c.profile_of_key.new.hall).account
    (crossings_below 0 (c.args.key.now.dur + 1) 0 c.requires.1.kids) 0
    (omega (
      arith,
      crossings-none 0 (c.args.key.now.dur + 1) 0 c.requires.1.kids (omega arith)
          (omega (arith, c.requires.7.sums.timed.0, c.requires.7.read.1.dur)),
    ))
    (c.profile_of_key.ensures.reads c.requires.0 c.requires.1 c.requires.7) in
    read_then (g.H.Hall.view c.args.hall.now).account (g.H.Hall.view c.profile_of_key.new.hall).account
    (g.H.Hall.view c.memo_fill.new.self).account 0 0 reads
    (read_filled (g.H.Hall.view c.profile_of_key.new.hall).account (g.H.Hall.view
    c.memo_fill.new.self).account c.memo_fill.ensures.rest.rest.account)

pub returns-clause-rest : goal.returns-clause-rest
returns-clause-rest g c =
    walks_then (g.H.Hall.view c.args.hall.now) (g.H.Hall.view c.profile_of_key.new.hall) (g.H.Hall.view
    c.memo_fill.new.self) c.profile_of_key.ensures.rest (walks_fill (g.H.Hall.view c.profile_of_key.new.hall)
    (g.H.Hall.view c.memo_fill.new.self) c.memo_fill.ensures.rest)

pub memo_fill-requires : goal.memo_fill-requires
memo_fill-requires g c =
    let by_what = c.requires.0 in
    let t = c.requires.1 in
    let add = c.requires.6 in
    let can = c.requires.7 in
    let has = source_stays (g.H.Hall.view c.args.hall.now).seat (g.H.Hall.view c.profile_of_key.new.hall).seat
    by_what c.profile_of_key.ensures.rest.seat add.has in
    let is = whole-is g.met.P.NodeProfile.laws t c.args.key.now.dur c.in_ok-own.own can.sums can.read.1.dur
    (c.in_ok-own.ensures.answer by_what t can) in (
      by_what,
      t,
      c.profile_of_key.ensures.reach by_what c.args.n t has add.led,
      c.into_entry.ensures t is ∙ ap (λ (k : MemoKind). whole_profile k t) (sym c.kind.ensures),
    )
