use Rattle.std.proofs.Common.{◌≡◌, ℕ, ◌+◌, ◌++◌, ◌∷◌, [], Option, Ok, IfSome, true, get_or, refl, ap, sym}
use Rattle.std.proofs.Common.{◌∙◌}
use Rattle.std.proofs.Common.{arith, subst}
use Rattle.std.proofs.lemmas.Option.{get_or_from_slice_get}
use Rattle.std.proofs.lemmas.Result.{IfOk-weaker}
use Rattle.node_key.specs.Events.{stream_from}
use Rattle.node_key.specs.declared.key.Kid.{Kid}
use Rattle.profile_laws.specs.Parts.{parts}
use Rattle.profile_laws.specs.Streams.{idle}
use Rattle.profile_walk.proofs.Accounts.{between_then, fill_none, fill_then, read_between, read_filled}
use Rattle.profile_walk.proofs.Accounts.{read_more, read_none, read_one, read_then}
use Rattle.profile_walk.proofs.Crossings.{crossings-none}
use Rattle.profile_walk.proofs.FirstKids.{first-crossings}
use Rattle.profile_walk.proofs.Fitting.{fits-tree}
use Rattle.profile_walk.proofs.KidsWalked.{across-done, aside-done, closing-fits, inside-next, lies-aside}
use Rattle.profile_walk.proofs.KidsWalked.{node-is}
use Rattle.profile_walk.proofs.KidsWalked.{outside-skipped, reads_across, reads_after_miss, reads_failed}
use Rattle.profile_walk.proofs.KidsWalked.{run-at}
use Rattle.profile_walk.proofs.KidsWalked.{unknown-read, walk-kid, whole-is}
use Rattle.profile_walk.proofs.Summing.{is-ordered, kid-ends, summed-next}
use Rattle.profile_walk.proofs.Walking.{reach_on, source_stays, walk_on, walk_read, walks_fill, walks_read}
use Rattle.profile_walk.proofs.Walking.{walks_same, walks_then}
use Rattle.profile_walk.specs.Crossing.{crossings_below, is_across}
use Rattle.profile_walk.specs.Summed.{first, kid_parts}
use Rattle.profile_walk.specs.Walks.{after_look}
use Rattle.profile_walk.specs.declared.place.Place.{Place}
use Rattle.whole_profiles.specs.Whole.{whole_profile}
use Rattle.whole_profiles.specs.declared.memo_kind.MemoKind.{MemoKind}
use Rattle.profile_walk.proofs.parts.+walk.Goals as goal

abbrev none : Kid
none = record { gap = 0; span = 0; node = 0 }

-- ---- a kid that lies across

pub add_across-read-below-requires : goal.add_across-read-below-requires
add_across-read-below-requires g t c =
    let w = c.requires.walk in
    let kid = walk-kid w.3 w.4 c.requires.more none in (w.0, kid.u.tree, kid.led)

pub add_across-overflow_add-place : goal.add_across-overflow_add-place
add_across-overflow_add-place g t c =
    let w = c.requires.walk in
    let kid = walk-kid w.3 w.4 c.requires.more none in omega (arith, kid-ends kid.here, kid.gap)

pub add_across-profile_of_key-requires : goal.add_across-profile_of_key-requires
add_across-profile_of_key-requires g t c κs within =
    let w = c.requires.walk in
    let kid = walk-kid w.3 w.4 c.requires.more none in
    let read = c.read-below.ensures.answer w.0 kid.u.tree kid.led in
    let can = walk_read (g.H.Hall.view c.args.hall.now).seat (g.H.Hall.view c.read-below.new.self).seat
    (g.H.Hall.reaches c.read-below.new.self) w.0 kid.u.tree c.read-below.result
    c.read-below.ensures.rest.seat w.3.has read kid.sums in (
      omega (arith, kid.lower, read.1.height, c.decreases),
      (
        within.0,
        (
          within.1.0,
          (
            within.1.1,
            ((w.0, kid.u.tree, can), omega (arith, kid-ends kid.here, kid.gap, read.1.dur)),
          ),
        ),
      ),
    )

pub add_across-returns-in_err-own-clause-reads : goal.add_across-returns-in_err-own-clause-reads
add_across-returns-in_err-own-clause-reads g t c by_what tree at can summed =
    let kid = walk-kid can summed c.requires.more none in
    let next = get_or c.args.key.now.kids c.args.place.index none in
    let read = c.read-below.ensures.answer by_what kid.u.tree kid.led in
    let below = walk_read (g.H.Hall.view c.args.hall.now).seat (g.H.Hall.view c.read-below.new.self).seat
    (g.H.Hall.reaches c.read-below.new.self) by_what kid.u.tree c.read-below.result
    c.read-below.ensures.rest.seat can.has read kid.sums in
    let across = subst (λ (k : Kid). is_across c.args.a c.args.b (c.args.place.from + k.gap)
    (c.args.place.from + k.gap + k.span) ≡ true)
    (sym (get_or_from_slice_get c.args.key.now.kids c.args.place.index c.requires.across.0 none
    c.requires.across.1)) c.requires.across.2 in
    let reads = read_then (g.H.Hall.view c.args.hall.now).account (g.H.Hall.view
    c.read-below.new.self).account (g.H.Hall.view c.profile_of_key.new.hall).account 1
    (crossings_below c.args.a c.args.b (c.args.place.from + next.gap) kid.u.tree.kids)
    (read_one (g.H.Hall.view c.args.hall.now).account (g.H.Hall.view c.read-below.new.self).account
    c.read-below.ensures.rest.rest.account)
    (c.profile_of_key.ensures.reads by_what kid.u.tree below) in
    reads_failed _ (g.H.Hall.view c.args.hall.now).account (g.H.Hall.view c.profile_of_key.new.hall).account
    c.args.a c.args.b at tree c.args.place c.from_residual.result 0
    (1 + crossings_below c.args.a c.args.b (c.args.place.from + next.gap) kid.u.tree.kids)
    c.from_residual.ensures.1 reads
    (omega (
      arith,
      across-done kid across (c.args.place.index + 1) refl,
      first-crossings c.args.a c.args.b at (c.args.place.index + 1) tree.kids,
    ))

pub add_across-returns-in_err-own-clause-rest : goal.add_across-returns-in_err-own-clause-rest
add_across-returns-in_err-own-clause-rest g t c =
    walks_then (g.H.Hall.view c.args.hall.now) (g.H.Hall.view c.read-below.new.self)
    (g.H.Hall.view c.profile_of_key.new.hall)
    (walks_read (g.H.Hall.view c.args.hall.now) (g.H.Hall.view c.read-below.new.self)
    c.read-below.ensures.rest)
    c.profile_of_key.ensures.rest

pub add_across-add_kid-requires : goal.add_across-add_kid-requires
add_across-add_kid-requires g t c =
    let w = c.requires.walk in
    let by_what = w.0 in
    let can = w.3 in
    let kid = walk-kid can w.4 c.requires.more none in
    let read = c.read-below.ensures.answer by_what kid.u.tree kid.led in
    let below = walk_read (g.H.Hall.view c.args.hall.now).seat (g.H.Hall.view c.read-below.new.self).seat
    (g.H.Hall.reaches c.read-below.new.self) by_what kid.u.tree c.read-below.result
    c.read-below.ensures.rest.seat can.has read kid.sums in
    record {
      at = (
        w.1,
        can.read.0,
        w.2,
        kid.u,
        kid.here,
        c.in_ok-own.ensures.answer by_what kid.u.tree below
            ∙ ap (λ (n : ℕ). g.P.NodeProfile.profile (stream_from kid.u.tree (c.args.place.from + n) ∷ [])
            c.args.a c.args.b) kid.gap,
      );
    }

pub add_across-returns-clause-answer : goal.add_across-returns-clause-answer
add_across-returns-clause-answer g t c by_what tree at can summed =
    let kid = walk-kid can summed c.requires.more none in
    let read = c.read-below.ensures.answer by_what kid.u.tree kid.led in
    let below = walk_read (g.H.Hall.view c.args.hall.now).seat (g.H.Hall.view c.read-below.new.self).seat
    (g.H.Hall.reaches c.read-below.new.self) by_what kid.u.tree c.read-below.result
    c.read-below.ensures.rest.seat can.has read kid.sums in
    c.add_kid.ensures.answer tree can.read.0 at kid.u kid.here
    (c.in_ok-own.ensures.answer by_what kid.u.tree below
    ∙ ap (λ (n : ℕ). g.P.NodeProfile.profile (stream_from kid.u.tree (c.args.place.from + n) ∷ []) c.args.a
    c.args.b) kid.gap)

pub add_across-returns-clause-reads : goal.add_across-returns-clause-reads
add_across-returns-clause-reads g t c by_what tree at can summed =
    let kid = walk-kid can summed c.requires.more none in
    let next = get_or c.args.key.now.kids c.args.place.index none in
    let read = c.read-below.ensures.answer by_what kid.u.tree kid.led in
    let below = walk_read (g.H.Hall.view c.args.hall.now).seat (g.H.Hall.view c.read-below.new.self).seat
    (g.H.Hall.reaches c.read-below.new.self) by_what kid.u.tree c.read-below.result
    c.read-below.ensures.rest.seat can.has read kid.sums in
    let across = subst (λ (k : Kid). is_across c.args.a c.args.b (c.args.place.from + k.gap)
    (c.args.place.from + k.gap + k.span) ≡ true)
    (sym (get_or_from_slice_get c.args.key.now.kids c.args.place.index c.requires.across.0 none
    c.requires.across.1)) c.requires.across.2 in
    let reads = read_then (g.H.Hall.view c.args.hall.now).account (g.H.Hall.view
    c.read-below.new.self).account (g.H.Hall.view c.profile_of_key.new.hall).account 1
    (crossings_below c.args.a c.args.b (c.args.place.from + next.gap) kid.u.tree.kids)
    (read_one (g.H.Hall.view c.args.hall.now).account (g.H.Hall.view c.read-below.new.self).account
    c.read-below.ensures.rest.rest.account)
    (c.profile_of_key.ensures.reads by_what kid.u.tree below) in
    reads_across (g.H.Hall.view c.args.hall.now).account (g.H.Hall.view c.profile_of_key.new.hall).account
    c.args.a c.args.b at tree c.args.place c.add_kid.result 0
    (1 + crossings_below c.args.a c.args.b (c.args.place.from + next.gap) kid.u.tree.kids) reads
    (IfOk-weaker c.add_kid.result _ _ (λ (behind : Place) (e : behind.index ≡ c.args.place.index + 1).
    omega (arith, across-done kid across behind.index e)) c.add_kid.ensures.index)
    (omega (
      arith,
      across-done kid across (c.args.place.index + 1) refl,
      first-crossings c.args.a c.args.b at (c.args.place.index + 1) tree.kids,
    ))

pub add_across-returns-clause-rest : goal.add_across-returns-clause-rest
add_across-returns-clause-rest g t c =
    walks_then (g.H.Hall.view c.args.hall.now) (g.H.Hall.view c.read-below.new.self)
    (g.H.Hall.view c.profile_of_key.new.hall)
    (walks_read (g.H.Hall.view c.args.hall.now) (g.H.Hall.view c.read-below.new.self)
    c.read-below.ensures.rest)
    c.profile_of_key.ensures.rest

-- ---- one step

pub add_next-overflow_add-start : goal.add_next-overflow_add-start
add_next-overflow_add-start g t c =
    let w = c.requires.walk in
    let kid = walk-kid w.3 w.4 c.requires.more none in omega (arith, kid-ends kid.here, kid.gap)

pub add_next-overflow_add-start-2 : goal.add_next-overflow_add-start-2
add_next-overflow_add-start-2 g t c =
    let w = c.requires.walk in
    let kid = walk-kid w.3 w.4 c.requires.more none in omega (arith, kid-ends kid.here, kid.gap, kid.span)

pub add_next-pass_kid-requires : goal.add_next-pass_kid-requires
add_next-pass_kid-requires g t c =
    let w = c.requires.walk in
    let kid = walk-kid w.3 w.4 c.requires.more none in record { at = (w.1, w.3.read.0, w.2, kid.u, kid.here) }

pub add_next-add_across-requires : goal.add_next-add_across-requires
add_next-add_across-requires g t c κs within =
    let w = c.requires.walk in
    let kid = walk-kid w.3 w.4 c.requires.more none in (
      omega (arith, c.decreases),
      (
        within.0,
        (
          within.1.0,
          (within.1.1, ((w.0, w.1, w.2, w.3, w.4), ((_, kid.found, c.in-Across.ensures), c.requires.more))),
        ),
      ),
    )

pub add_next-look-requires : goal.add_next-look-requires
add_next-look-requires g t c =
    let w = c.requires.walk in
    let kid = walk-kid w.3 w.4 c.requires.more none in (w.0, kid.u.tree, kid.led)

pub add_next-returns-in_err-own-in-Inside-clause-reads :
    goal.add_next-returns-in_err-own-in-Inside-clause-reads
add_next-returns-in_err-own-in-Inside-clause-reads g t c by_what tree at can summed =
    reads_failed _ (g.H.Hall.view c.args.hall.now).account (g.H.Hall.view c.look.new.hall).account c.args.a
    c.args.b at tree c.args.place c.from_residual.result 0 0
    c.from_residual.ensures.1
    (read_none (g.H.Hall.view c.args.hall.now).account (g.H.Hall.view c.look.new.hall).account
    c.in_err-own-in-Inside.ensures.account)
    (omega (arith, first-crossings c.args.a c.args.b at c.args.place.index tree.kids))

pub add_next-add_run-requires : goal.add_next-add_run-requires
add_next-add_run-requires g t c =
    let w = c.requires.walk in
    let by_what = w.0 in
    let kid = walk-kid w.3 w.4 c.requires.more none in
    let run = run-at {whole = g.P.NodeProfile.whole} {own = c.in-Some.own} w.3 kid c.requires.more
    c.in-Inside.ensures.0 c.in-Inside.ensures.1
    (λ v led sums. subst (λ (o : Option g.row.P.Denot). IfSome o (λ p. p ≡ g.P.NodeProfile.whole v))
    c.in-Some.is
    (c.in_ok-own-in-Inside.ensures.answer by_what v led)) in
    record { at = (w.1, w.3.read.0, w.2, _, run) }

pub add_next-add_unknown-requires : goal.add_next-add_unknown-requires
add_next-add_unknown-requires g t c κs within =
    let w = c.requires.walk in
    let kid = walk-kid w.3 w.4 c.requires.more none in
    let can = walk_on (g.H.Hall.view c.args.hall.now).seat (g.H.Hall.view c.look.new.hall).seat
    (g.H.Hall.reaches c.args.hall.now) (g.H.Hall.reaches c.look.new.hall) w.0 w.1 c.args.key.now
    c.look.ensures.rest.seat c.look.ensures.reach w.3 in (
      omega (arith, c.decreases),
      (
        within.0,
        (
          within.1.0,
          (
            within.1.1,
            (
              (w.0, w.1, w.2, can, w.4),
              ((_, kid.found, c.in-Inside.ensures.0, c.in-Inside.ensures.1), c.requires.more),
            ),
          ),
        ),
      ),
    )

pub add_next-returns-in-Outside-clause-answer : goal.add_next-returns-in-Outside-clause-answer
add_next-returns-in-Outside-clause-answer g t c by_what tree at can summed =
    let kid = walk-kid can summed c.requires.more none in
    summed-next kid.here c.pass_kid.result c.pass_kid.new.sum c.pass_kid.ensures.index
    (c.pass_kid.ensures.from tree can.read.0 at kid.u kid.here)
    (c.pass_kid.ensures.sum tree can.read.0 at kid.u kid.here
    ∙ sym (outside-skipped g.met.P.NodeProfile.laws
    (kid_parts at (first c.args.place.index tree.kids)
    ++ idle c.args.place.from (c.args.place.from + kid.u.gap) ∷ []) kid.u.tree
    (c.args.place.from + kid.u.gap) c.args.a c.args.b kid.sums (lies-aside kid c.in-Outside.ensures)))

pub add_next-returns-in-Outside-clause-reads : goal.add_next-returns-in-Outside-clause-reads
add_next-returns-in-Outside-clause-reads g t c by_what tree at can summed =
    let kid = walk-kid can summed c.requires.more none in
    read_between (g.H.Hall.view c.args.hall.now).account (g.H.Hall.view c.args.hall.now).account 0
    (crossings_below c.args.a c.args.b at (first c.args.place.index tree.kids))
    (crossings_below c.args.a c.args.b at (first c.pass_kid.result.index tree.kids) + 0)
    (omega (arith, aside-done kid c.in-Outside.ensures c.pass_kid.result.index c.pass_kid.ensures.index))
    (read_none (g.H.Hall.view c.args.hall.now).account (g.H.Hall.view c.args.hall.now).account refl)

pub add_next-returns-in-Outside-clause-rest : goal.add_next-returns-in-Outside-clause-rest
add_next-returns-in-Outside-clause-rest g t c = walks_same (g.H.Hall.view c.args.hall.now)

pub add_next-returns-in-Some-clause-answer : goal.add_next-returns-in-Some-clause-answer
add_next-returns-in-Some-clause-answer g t c by_what tree at can summed =
    let kid = walk-kid can summed c.requires.more none in
    let run = run-at {whole = g.P.NodeProfile.whole} {own = c.in-Some.own} can kid c.requires.more
    c.in-Inside.ensures.0 c.in-Inside.ensures.1
    (λ v led sums. subst (λ (o : Option g.row.P.Denot). IfSome o (λ p. p ≡ g.P.NodeProfile.whole v))
    c.in-Some.is
    (c.in_ok-own-in-Inside.ensures.answer by_what v led)) in
    c.add_run.ensures.answer tree can.read.0 at (get_or c.args.key.now.kids c.args.place.index none) run

pub add_next-returns-in-Some-clause-reads : goal.add_next-returns-in-Some-clause-reads
add_next-returns-in-Some-clause-reads g t c by_what tree at can summed =
    let kid = walk-kid can summed c.requires.more none in
    let run = run-at {whole = g.P.NodeProfile.whole} {own = c.in-Some.own} can kid c.requires.more
    c.in-Inside.ensures.0 c.in-Inside.ensures.1
    (λ v led sums. subst (λ (o : Option g.row.P.Denot). IfSome o (λ p. p ≡ g.P.NodeProfile.whole v))
    c.in-Some.is
    (c.in_ok-own-in-Inside.ensures.answer by_what v led)) in
    let same = c.in_ok-own-in-Inside.ensures.account
    ∙ ap (λ (o : Option g.row.P.Denot). after_look (Ok o) (g.H.Hall.view c.args.hall.now).account)
    c.in-Some.is in
    reads_across (g.H.Hall.view c.args.hall.now).account (g.H.Hall.view c.look.new.hall).account c.args.a
    c.args.b at tree c.args.place c.add_run.result 0 0
    (read_none (g.H.Hall.view c.args.hall.now).account (g.H.Hall.view c.look.new.hall).account same)
    (IfOk-weaker c.add_run.result _ _ (λ (behind : Place) e. omega (arith, e))
    (c.add_run.ensures.across tree can.read.0 at (get_or c.args.key.now.kids c.args.place.index none) run))
    (omega (arith, first-crossings c.args.a c.args.b at c.args.place.index tree.kids))

pub add_next-returns-in-None-clause-answer : goal.add_next-returns-in-None-clause-answer
add_next-returns-in-None-clause-answer g t c by_what tree at can summed =
    let can' = walk_on (g.H.Hall.view c.args.hall.now).seat (g.H.Hall.view c.look.new.hall).seat
    (g.H.Hall.reaches c.args.hall.now) (g.H.Hall.reaches c.look.new.hall) by_what tree c.args.key.now
    c.look.ensures.rest.seat c.look.ensures.reach can in
    c.add_unknown.ensures.answer by_what tree at can' summed

pub add_next-returns-in-None-clause-reads : goal.add_next-returns-in-None-clause-reads
add_next-returns-in-None-clause-reads g t c by_what tree at can summed =
    let can' = walk_on (g.H.Hall.view c.args.hall.now).seat (g.H.Hall.view c.look.new.hall).seat
    (g.H.Hall.reaches c.args.hall.now) (g.H.Hall.reaches c.look.new.hall) by_what tree c.args.key.now
    c.look.ensures.rest.seat c.look.ensures.reach can in
    let missed = c.in_ok-own-in-Inside.ensures.account
    ∙ ap (λ (o : Option g.row.P.Denot). after_look (Ok o) (g.H.Hall.view c.args.hall.now).account)
    c.in-None.is in
    reads_after_miss (g.H.Hall.view c.args.hall.now).account (g.H.Hall.view c.look.new.hall).account
    (g.H.Hall.view c.add_unknown.new.hall).account c.args.a c.args.b
    at tree c.args.place c.add_unknown.result missed (c.add_unknown.ensures.reads by_what tree at can' summed)

pub add_next-returns-in-None-clause-rest : goal.add_next-returns-in-None-clause-rest
add_next-returns-in-None-clause-rest g t c =
    walks_then (g.H.Hall.view c.args.hall.now) (g.H.Hall.view c.look.new.hall)
    (g.H.Hall.view c.add_unknown.new.hall) c.look.ensures.rest c.add_unknown.ensures.rest

-- ---- a kid that the memo doesn't know

pub add_unknown-read-below-requires : goal.add_unknown-read-below-requires
add_unknown-read-below-requires g t c =
    let w = c.requires.walk in
    let kid = walk-kid w.3 w.4 c.requires.more none in (w.0, kid.u.tree, kid.led)

pub add_unknown-overflow_add-below : goal.add_unknown-overflow_add-below
add_unknown-overflow_add-below g t c =
    let w = c.requires.walk in
    let kid = walk-kid w.3 w.4 c.requires.more none in
    let read = c.read-below.ensures.answer w.0 kid.u.tree kid.led in
    omega (arith, kid-ends kid.here, read.1.dur)

pub add_unknown-profile_of_key-requires : goal.add_unknown-profile_of_key-requires
add_unknown-profile_of_key-requires g t c κs within =
    let w = c.requires.walk in
    let kid = walk-kid w.3 w.4 c.requires.more none in
    let read = c.read-below.ensures.answer w.0 kid.u.tree kid.led in
    let can = walk_read (g.H.Hall.view c.args.hall.now).seat (g.H.Hall.view c.read-below.new.self).seat
    (g.H.Hall.reaches c.read-below.new.self) w.0 kid.u.tree c.read-below.result
    c.read-below.ensures.rest.seat w.3.has read kid.sums in (
      omega (arith, kid.lower, read.1.height, c.decreases),
      (
        within.0,
        (
          within.1.0,
          (
            within.1.1,
            ((w.0, kid.u.tree, can), omega (arith, kid-ends kid.here, read.1.dur)),
          ),
        ),
      ),
    )

pub add_unknown-returns-in_err-own-clause-reads : goal.add_unknown-returns-in_err-own-clause-reads
add_unknown-returns-in_err-own-clause-reads g t c by_what tree at can summed =
    let kid = walk-kid can summed c.requires.more none in
    let read = c.read-below.ensures.answer by_what kid.u.tree kid.led in
    let below = walk_read (g.H.Hall.view c.args.hall.now).seat (g.H.Hall.view c.read-below.new.self).seat
    (g.H.Hall.reaches c.read-below.new.self) by_what kid.u.tree c.read-below.result
    c.read-below.ensures.rest.seat can.has read kid.sums in
    let reads = unknown-read (g.H.Hall.view c.args.hall.now).account (g.H.Hall.view
    c.read-below.new.self).account (g.H.Hall.view c.profile_of_key.new.hall).account
    (crossings_below 0 (c.read-below.result.dur + 1) 0 kid.u.tree.kids)
    (crossings-none 0 (c.read-below.result.dur + 1) 0 kid.u.tree.kids (omega arith)
    (omega (arith, kid.sums.timed.0, read.1.dur)))
    (read_one (g.H.Hall.view c.args.hall.now).account (g.H.Hall.view c.read-below.new.self).account
    c.read-below.ensures.rest.rest.account)
    (c.profile_of_key.ensures.reads by_what kid.u.tree below) in
    reads_failed _ (g.H.Hall.view c.args.hall.now).account (g.H.Hall.view c.profile_of_key.new.hall).account
    c.args.a c.args.b at tree c.args.place c.from_residual.result 1 1
    c.from_residual.ensures.1 reads
    (omega (arith, first-crossings c.args.a c.args.b at c.args.place.index tree.kids))

pub add_unknown-returns-in_err-own-clause-rest : goal.add_unknown-returns-in_err-own-clause-rest
add_unknown-returns-in_err-own-clause-rest g t c =
    walks_then (g.H.Hall.view c.args.hall.now) (g.H.Hall.view c.read-below.new.self) (g.H.Hall.view
    c.profile_of_key.new.hall)
    (walks_read (g.H.Hall.view c.args.hall.now) (g.H.Hall.view c.read-below.new.self)
    c.read-below.ensures.rest) c.profile_of_key.ensures.rest

pub add_unknown-add_run-requires : goal.add_unknown-add_run-requires
add_unknown-add_run-requires g t c =
    let w = c.requires.walk in
    let by_what = w.0 in
    let can = w.3 in
    let kid = walk-kid can w.4 c.requires.more none in
    let inside = inside-next c.args.key.now c.args.place c.args.a c.args.b none c.requires.inside.0
    c.requires.inside.1 c.requires.inside.2 c.requires.inside.3 in
    let run = run-at {whole = g.P.NodeProfile.whole} {own = c.in_ok-own.own} can kid c.requires.more
    inside.0 inside.1
    (λ v led sums. let v_read = c.read-below.ensures.answer by_what v led in
    whole-is g.met.P.NodeProfile.laws v c.read-below.result.dur c.in_ok-own.own sums v_read.1.dur
    (c.in_ok-own.ensures.answer by_what v (walk_read (g.H.Hall.view c.args.hall.now).seat (g.H.Hall.view
    c.read-below.new.self).seat (g.H.Hall.reaches c.read-below.new.self) by_what v c.read-below.result
    c.read-below.ensures.rest.seat can.has v_read sums))) in
    record { at = (w.1, can.read.0, w.2, _, run) }

pub add_unknown-returns-in_err-behind-clause-reads : goal.add_unknown-returns-in_err-behind-clause-reads
add_unknown-returns-in_err-behind-clause-reads g t c by_what tree at can summed =
    let kid = walk-kid can summed c.requires.more none in
    let read = c.read-below.ensures.answer by_what kid.u.tree kid.led in
    let below = walk_read (g.H.Hall.view c.args.hall.now).seat (g.H.Hall.view c.read-below.new.self).seat
    (g.H.Hall.reaches c.read-below.new.self) by_what kid.u.tree c.read-below.result
    c.read-below.ensures.rest.seat can.has read kid.sums in
    let reads = unknown-read (g.H.Hall.view c.args.hall.now).account (g.H.Hall.view
    c.read-below.new.self).account (g.H.Hall.view c.profile_of_key.new.hall).account
    (crossings_below 0 (c.read-below.result.dur + 1) 0 kid.u.tree.kids)
    (crossings-none 0 (c.read-below.result.dur + 1) 0 kid.u.tree.kids (omega arith)
    (omega (arith, kid.sums.timed.0, read.1.dur)))
    (read_one (g.H.Hall.view c.args.hall.now).account (g.H.Hall.view c.read-below.new.self).account
    c.read-below.ensures.rest.rest.account)
    (c.profile_of_key.ensures.reads by_what kid.u.tree below) in
    reads_failed _ (g.H.Hall.view c.args.hall.now).account (g.H.Hall.view c.profile_of_key.new.hall).account
    c.args.a c.args.b at tree c.args.place
    c.from_residual-in_err-behind.result 1 1 c.from_residual-in_err-behind.ensures.1 reads
    (omega (arith, first-crossings c.args.a c.args.b at c.args.place.index tree.kids))

pub add_unknown-returns-in_err-behind-clause-rest : goal.add_unknown-returns-in_err-behind-clause-rest
add_unknown-returns-in_err-behind-clause-rest g t c =
    walks_then (g.H.Hall.view c.args.hall.now) (g.H.Hall.view c.read-below.new.self) (g.H.Hall.view
    c.profile_of_key.new.hall)
    (walks_read (g.H.Hall.view c.args.hall.now) (g.H.Hall.view c.read-below.new.self)
    c.read-below.ensures.rest) c.profile_of_key.ensures.rest

pub add_unknown-memo_fill-requires : goal.add_unknown-memo_fill-requires
add_unknown-memo_fill-requires g t c =
    let w = c.requires.walk in
    let by_what = w.0 in
    let can = w.3 in
    let kid = walk-kid can w.4 c.requires.more none in
    let has' = source_stays (g.H.Hall.view c.args.hall.now).seat (g.H.Hall.view c.read-below.new.self).seat
    by_what c.read-below.ensures.rest.seat can.has in
    let has'' = source_stays (g.H.Hall.view c.read-below.new.self).seat (g.H.Hall.view
    c.profile_of_key.new.hall).seat by_what c.profile_of_key.ensures.rest.seat has' in
    let node = (get_or c.args.key.now.kids c.args.place.index none).node in
    let read = c.read-below.ensures.answer by_what kid.u.tree kid.led in
    let is = whole-is g.met.P.NodeProfile.laws kid.u.tree c.read-below.result.dur c.in_ok-own.own kid.sums
    read.1.dur (c.in_ok-own.ensures.answer by_what kid.u.tree (walk_read (g.H.Hall.view c.args.hall.now).seat
    (g.H.Hall.view c.read-below.new.self).seat (g.H.Hall.reaches c.read-below.new.self) by_what kid.u.tree
    c.read-below.result c.read-below.ensures.rest.seat can.has read kid.sums)) in (
      by_what,
      kid.u.tree,
      c.profile_of_key.ensures.reach by_what node kid.u.tree has''
          (c.read-below.ensures.reach by_what node kid.u.tree has' kid.led),
      c.into_entry.ensures kid.u.tree is
          ∙ ap (λ (k : MemoKind). whole_profile k kid.u.tree) (sym c.kind.ensures),
    )

pub add_unknown-returns-clause-answer : goal.add_unknown-returns-clause-answer
add_unknown-returns-clause-answer g t c by_what tree at can summed =
    let kid = walk-kid can summed c.requires.more none in
    let inside = inside-next c.args.key.now c.args.place c.args.a c.args.b none c.requires.inside.0
    c.requires.inside.1 c.requires.inside.2 c.requires.inside.3 in
    let run = run-at {whole = g.P.NodeProfile.whole} {own = c.in_ok-own.own} can kid c.requires.more
    inside.0 inside.1
    (λ v led sums. let v_read = c.read-below.ensures.answer by_what v led in
    whole-is g.met.P.NodeProfile.laws v c.read-below.result.dur c.in_ok-own.own sums v_read.1.dur
    (c.in_ok-own.ensures.answer by_what v (walk_read (g.H.Hall.view c.args.hall.now).seat (g.H.Hall.view
    c.read-below.new.self).seat (g.H.Hall.reaches c.read-below.new.self) by_what v c.read-below.result
    c.read-below.ensures.rest.seat can.has v_read sums))) in
    c.in_ok-behind.ensures.answer tree can.read.0 at (get_or c.args.key.now.kids c.args.place.index none) run

pub add_unknown-returns-clause-reads : goal.add_unknown-returns-clause-reads
add_unknown-returns-clause-reads g t c by_what tree at can summed =
    let kid = walk-kid can summed c.requires.more none in
    let inside = inside-next c.args.key.now c.args.place c.args.a c.args.b none c.requires.inside.0
    c.requires.inside.1 c.requires.inside.2 c.requires.inside.3 in
    let run = run-at {whole = g.P.NodeProfile.whole} {own = c.in_ok-own.own} can kid c.requires.more
    inside.0 inside.1
    (λ v led sums. let v_read = c.read-below.ensures.answer by_what v led in
    whole-is g.met.P.NodeProfile.laws v c.read-below.result.dur c.in_ok-own.own sums v_read.1.dur
    (c.in_ok-own.ensures.answer by_what v (walk_read (g.H.Hall.view c.args.hall.now).seat (g.H.Hall.view
    c.read-below.new.self).seat (g.H.Hall.reaches c.read-below.new.self) by_what v c.read-below.result
    c.read-below.ensures.rest.seat can.has v_read sums))) in
    let read = c.read-below.ensures.answer by_what kid.u.tree kid.led in
    let below = walk_read (g.H.Hall.view c.args.hall.now).seat (g.H.Hall.view c.read-below.new.self).seat
    (g.H.Hall.reaches c.read-below.new.self) by_what kid.u.tree c.read-below.result
    c.read-below.ensures.rest.seat can.has read kid.sums in
    let reads = unknown-read (g.H.Hall.view c.args.hall.now).account (g.H.Hall.view
    c.read-below.new.self).account (g.H.Hall.view c.profile_of_key.new.hall).account
    (crossings_below 0 (c.read-below.result.dur + 1) 0 kid.u.tree.kids)
    (crossings-none 0 (c.read-below.result.dur + 1) 0 kid.u.tree.kids (omega arith)
    (omega (arith, kid.sums.timed.0, read.1.dur)))
    (read_one (g.H.Hall.view c.args.hall.now).account (g.H.Hall.view c.read-below.new.self).account
    c.read-below.ensures.rest.rest.account)
    (c.profile_of_key.ensures.reads by_what kid.u.tree below) in
    let filled = read_then (g.H.Hall.view c.args.hall.now).account (g.H.Hall.view
    c.profile_of_key.new.hall).account
    (g.H.Hall.view c.memo_fill.new.self).account 1 0 reads
    (read_filled (g.H.Hall.view c.profile_of_key.new.hall).account (g.H.Hall.view
    c.memo_fill.new.self).account
    c.memo_fill.ensures.rest.rest.account) in
    read_between (g.H.Hall.view c.args.hall.now).account (g.H.Hall.view c.memo_fill.new.self).account (1 + 0)
    (crossings_below c.args.a c.args.b at (first c.args.place.index tree.kids))
    (crossings_below c.args.a c.args.b at (first c.in_ok-behind.behind.index tree.kids) + 1)
    (omega (
      arith,
      c.in_ok-behind.ensures.across tree can.read.0 at
          (get_or c.args.key.now.kids c.args.place.index none) run,
    )) filled

pub add_unknown-returns-clause-rest : goal.add_unknown-returns-clause-rest
add_unknown-returns-clause-rest g t c =
    walks_then (g.H.Hall.view c.args.hall.now) (g.H.Hall.view c.profile_of_key.new.hall) (g.H.Hall.view
    c.memo_fill.new.self)
    (walks_then (g.H.Hall.view c.args.hall.now) (g.H.Hall.view c.read-below.new.self) (g.H.Hall.view
    c.profile_of_key.new.hall)
    (walks_read (g.H.Hall.view c.args.hall.now) (g.H.Hall.view c.read-below.new.self)
    c.read-below.ensures.rest) c.profile_of_key.ensures.rest)
    (walks_fill (g.H.Hall.view c.profile_of_key.new.hall) (g.H.Hall.view c.memo_fill.new.self)
    c.memo_fill.ensures.rest)

pub profile_of_key-kids-init : goal.profile_of_key-kids-init
profile_of_key-kids-init g t c = record {
  within = omega arith;
  summed = λ by_what tree can. record {
    in_time = omega (arith, c.requires.in_time, can.read.1.dur);
    within = omega arith;
    from = omega arith;
    is = c.empty-sum.ensures c.args.a c.args.b;
  };
  reads = λ by_what tree can. read_none (g.H.Hall.view c.args.hall.now).account (g.H.Hall.view
      c.args.hall.now).account refl;
  fills = fill_none (g.H.Hall.view c.args.hall.now).account (g.H.Hall.view c.args.hall.now).account refl;
  rest = walks_same (g.H.Hall.view c.args.hall.now);
  reach = λ by_what n tree has led. led;
}

pub profile_of_key-add_next-requires : goal.profile_of_key-add_next-requires
profile_of_key-add_next-requires g t c κs within =
    let w = c.requires.walk in
    let can = walk_on (g.H.Hall.view c.args.hall.now).seat (g.H.Hall.view c.kids.hall).seat (g.H.Hall.reaches
    c.args.hall.now) (g.H.Hall.reaches c.kids.hall) w.0 w.1 c.args.key.now c.kids.invariant.rest.seat
    c.kids.invariant.reach w.2 in (
      omega (arith, c.decreases),
      (
        within.0,
        (
          within.1.0,
          (
            within.1.1,
            ((w.0, w.1, c.args.at, can, c.kids.invariant.summed w.0 w.1 w.2), c.kids-test.true),
          ),
        ),
      ),
    )

pub profile_of_key-returns-in_err-place-clause-reads : goal.profile_of_key-returns-in_err-place-clause-reads
profile_of_key-returns-in_err-place-clause-reads g t c by_what tree can =
    let can' = walk_on (g.H.Hall.view c.args.hall.now).seat (g.H.Hall.view c.kids.hall).seat
    (g.H.Hall.reaches c.args.hall.now) (g.H.Hall.reaches c.kids.hall) by_what tree c.args.key.now
    c.kids.invariant.rest.seat
    c.kids.invariant.reach can in
    between_then (g.H.Hall.view c.args.hall.now).account (g.H.Hall.view c.kids.hall).account (g.H.Hall.view
    c.add_next.new.hall).account
    (crossings_below c.args.a c.args.b c.args.at (first c.kids.place.index tree.kids))
    (crossings_below c.args.a c.args.b c.args.at tree.kids) (c.kids.invariant.reads by_what tree can)
    (c.in_err-place.ensures.reads by_what tree c.args.at can' (c.kids.invariant.summed by_what tree can))

pub profile_of_key-returns-in_err-place-clause-rest : goal.profile_of_key-returns-in_err-place-clause-rest
profile_of_key-returns-in_err-place-clause-rest g t c =
    walks_then (g.H.Hall.view c.args.hall.now) (g.H.Hall.view c.kids.hall) (g.H.Hall.view
    c.add_next.new.hall) c.kids.invariant.rest c.add_next.ensures.rest

pub profile_of_key-kids-preserved : goal.profile_of_key-kids-preserved
profile_of_key-kids-preserved g t c = record {
  within = c.in_ok-place.ensures.index.1;
  summed = λ by_what tree can.
      let can' = walk_on (g.H.Hall.view c.args.hall.now).seat (g.H.Hall.view c.kids.hall).seat
      (g.H.Hall.reaches c.args.hall.now) (g.H.Hall.reaches c.kids.hall) by_what tree c.args.key.now
      c.kids.invariant.rest.seat c.kids.invariant.reach can in
      c.in_ok-place.ensures.answer by_what tree c.args.at can' (c.kids.invariant.summed by_what tree can);
  reads = λ by_what tree can.
      let can' = walk_on (g.H.Hall.view c.args.hall.now).seat (g.H.Hall.view c.kids.hall).seat
      (g.H.Hall.reaches c.args.hall.now) (g.H.Hall.reaches c.kids.hall) by_what tree c.args.key.now
      c.kids.invariant.rest.seat c.kids.invariant.reach can in
      between_then (g.H.Hall.view c.args.hall.now).account (g.H.Hall.view c.kids.hall).account (g.H.Hall.view
      c.add_next.new.hall).account
      (crossings_below c.args.a c.args.b c.args.at (first c.kids.place.index tree.kids))
      (crossings_below c.args.a c.args.b c.args.at (first c.in_ok-place.place.index tree.kids))
      (c.kids.invariant.reads by_what tree can)
      (c.in_ok-place.ensures.reads by_what tree c.args.at can' (c.kids.invariant.summed by_what tree can));
  fills = fill_then (g.H.Hall.view c.args.hall.now).account (g.H.Hall.view c.kids.hall).account
      (g.H.Hall.view c.add_next.new.hall).account 0 0 c.kids.invariant.fills c.in_ok-place.ensures.fills;
  rest = walks_then (g.H.Hall.view c.args.hall.now) (g.H.Hall.view c.kids.hall) (g.H.Hall.view
      c.add_next.new.hall) c.kids.invariant.rest c.in_ok-place.ensures.rest;
  reach = reach_on (g.H.Hall.view c.kids.hall).seat (g.H.Hall.view c.add_next.new.hall).seat
      (g.H.Hall.reaches c.args.hall.now) (g.H.Hall.reaches c.kids.hall) (g.H.Hall.reaches c.add_next.new.hall)
      c.in_ok-place.ensures.rest.seat c.kids.invariant.reach
      c.in_ok-place.ensures.reach;
}

pub profile_of_key-add_end-requires-clause-end : goal.profile_of_key-add_end-requires-clause-end
profile_of_key-add_end-requires-clause-end g t c =
    let w = c.requires.walk in (w.1, w.2.read.0, w.2.read.1, w.2.sums, c.kids.invariant.summed w.0 w.1 w.2)

pub profile_of_key-close_node-requires-clause-ordered : goal.profile_of_key-close_node-requires-clause-ordered
profile_of_key-close_node-requires-clause-ordered g t c =
    let w = c.requires.walk in
    let so_far = c.kids.invariant.summed w.0 w.1 w.2 in
    let is = c.add_end.ensures w.1 w.2.read.0 w.2.read.1 w.2.sums so_far in
    is-ordered g.met.P.NodeProfile.laws (parts w.1 c.args.at) c.args.a c.args.b c.add_end.new.sum is

pub profile_of_key-close_node-requires-clause-fits : goal.profile_of_key-close_node-requires-clause-fits
profile_of_key-close_node-requires-clause-fits g t c called =
    let w = c.requires.walk in
    let so_far = c.kids.invariant.summed w.0 w.1 w.2 in
    let is = c.add_end.ensures w.1 w.2.read.0 w.2.read.1 w.2.sums so_far in
    subst g.P.Sums.fits
    (sym (closing-fits g.met.P.NodeProfile.laws w.1 c.args.at c.args.a c.args.b c.args.key.now.func
    c.is_in.result
    c.add_end.new.sum w.2.sums (omega (arith, so_far.in_time)) is w.2.read.1.func c.is_in.ensures called))
    (g.met.P.NodeProfile.laws.fit (stream_from w.1 c.args.at ∷ []) c.args.a c.args.b
    (fits-tree w.1 c.args.at w.2.sums (omega (arith, so_far.in_time))))

pub profile_of_key-returns-in_err-close_node-clause-reads :
    goal.profile_of_key-returns-in_err-close_node-clause-reads
profile_of_key-returns-in_err-close_node-clause-reads g t c by_what tree can =
    read_more (g.H.Hall.view c.args.hall.now).account (g.H.Hall.view c.kids.hall).account
    (crossings_below c.args.a c.args.b c.args.at (first c.kids.place.index tree.kids))
    (crossings_below c.args.a c.args.b c.args.at tree.kids)
    (first-crossings c.args.a c.args.b c.args.at c.kids.place.index tree.kids)
    (c.kids.invariant.reads by_what tree can)

pub profile_of_key-returns-clause-answer : goal.profile_of_key-returns-clause-answer
profile_of_key-returns-clause-answer g t c by_what tree can =
    let so_far = c.kids.invariant.summed by_what tree can in
    node-is g.met.P.NodeProfile.laws tree c.args.at c.args.a c.args.b c.args.key.now.func c.is_in.result
    c.add_end.new.sum c.close_node.new.sum can.sums (omega (arith, so_far.in_time))
    (c.add_end.ensures tree can.read.0 can.read.1 can.sums so_far) can.read.1.func c.is_in.ensures
    c.in_ok-close_node.ensures.group c.in_ok-close_node.ensures.call

pub profile_of_key-returns-clause-reads : goal.profile_of_key-returns-clause-reads
profile_of_key-returns-clause-reads g t c by_what tree can =
    read_more (g.H.Hall.view c.args.hall.now).account (g.H.Hall.view c.kids.hall).account
    (crossings_below c.args.a c.args.b c.args.at (first c.kids.place.index tree.kids))
    (crossings_below c.args.a c.args.b c.args.at tree.kids)
    (first-crossings c.args.a c.args.b c.args.at c.kids.place.index tree.kids)
    (c.kids.invariant.reads by_what tree can)
