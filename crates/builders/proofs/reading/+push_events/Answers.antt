use Rattle.std.proofs.Common.{ℕ, ◌+◌, arith, refl, ap, sym, get_or}
use Rattle.std.proofs.lemmas.Result.{on_ok_weaker}
use Rattle.node_key.specs.declared.key.Kid.{Kid}
use Rattle.call_tree.proofs.Below.{events-written}
use Rattle.builders.proofs.KeyReading.{ReadingKids-end, ReadingKids-next, ReadingKids-start, ReadingKids-step}
use Rattle.builders.proofs.KeyReading.{kid_read}
use Rattle.builders.proofs.OnlyReading.{reads_one, reads_same, reads_then, source_kept}
use Rattle.builders.proofs.reading.+push_events.Goals as goal

abbrev none : Kid
none = record { gap = 0; span = 0; node = 0 }

pub loop-i-init : goal.loop-i-init
loop-i-init g t c = record {
  reading = λ by_what has. ReadingKids-start (g.H.Hall.reaches c.args.hall.now by_what) c.args.key.now
      c.args.at c.push_of_call.new.list c.args.key.now.within;
  rest = reads_same (g.H.Hall.view c.args.hall.now);
}

pub read-below-requires : goal.read-below-requires
read-below-requires g t c =
    let by_what = c.requires.leads.0 in
    let reads = c.requires.leads.2 in
    let here = kid_read (g.H.Hall.reaches c.args.hall.now by_what) c.requires.leads.1 c.args.key.now
    c.loop-i.i none reads.1 c.loop-i-test.true in (
      by_what,
      here.branch.tree,
      (c.loop-i.invariant.reading by_what reads.0).kept (get_or c.args.key.now.kids c.loop-i.i none).node
          here.branch.tree here.led,
    )

pub push_events-requires : goal.push_events-requires
push_events-requires g t c κs within =
    let by_what = c.requires.leads.0 in
    let reads = c.requires.leads.2 in
    let so_far = c.loop-i.invariant.reading by_what reads.0 in
    let here = kid_read (g.H.Hall.reaches c.args.hall.now by_what) c.requires.leads.1 c.args.key.now
    c.loop-i.i none reads.1 c.loop-i-test.true in
    let read = c.read-below.ensures.answer by_what here.branch.tree
    (so_far.kept (get_or c.args.key.now.kids c.loop-i.i none).node here.branch.tree here.led) in
    let next = ReadingKids-next (g.H.Hall.reaches c.args.hall.now by_what)
    (g.H.Hall.reaches c.loop-i.hall by_what) c.args.key.now c.args.at c.push_of_call.new.list c.loop-i.list
    c.loop-i.from c.loop-i.i (get_or c.args.key.now.kids c.loop-i.i none) c.requires.leads.1 so_far reads.1
    here in
    let has = source_kept (g.H.Hall.view c.args.hall.now).seat (g.H.Hall.view c.read-below.new.self).seat
    by_what (reads_then (g.H.Hall.view c.args.hall.now) (g.H.Hall.view c.loop-i.hall)
    (g.H.Hall.view c.read-below.new.self) c.loop-i.invariant.rest
    (reads_one (g.H.Hall.view c.loop-i.hall) (g.H.Hall.view c.read-below.new.self)
    c.read-below.ensures.rest)).seat reads.0 in (
      omega (arith, here.lower, read.1.height, c.decreases),
      (
        within.0,
        (
          within.1,
          (
            (by_what, here.branch.tree, (has, read)),
            omega (arith, next, here.span, read.1.dur, c.requires.in_time),
          ),
        ),
      ),
    )

pub loop-i-preserved : goal.loop-i-preserved
loop-i-preserved g t c =
    let read = reads_then (g.H.Hall.view c.args.hall.now) (g.H.Hall.view c.loop-i.hall)
    (g.H.Hall.view c.read-below.new.self) c.loop-i.invariant.rest
    (reads_one (g.H.Hall.view c.loop-i.hall) (g.H.Hall.view c.read-below.new.self)
    c.read-below.ensures.rest) in
    let below = c.in_ok-push_events.ensures.rest in record {
      reading = λ by_what has.
          let has' = source_kept (g.H.Hall.view c.args.hall.now).seat
          (g.H.Hall.view c.read-below.new.self).seat by_what read.seat has in
          let has'' = source_kept (g.H.Hall.view c.read-below.new.self).seat
          (g.H.Hall.view c.push_events.new.hall).seat by_what below.seat has' in
          ReadingKids-step (g.H.Hall.reaches c.args.hall.now by_what)
          (g.H.Hall.reaches c.loop-i.hall by_what) (g.H.Hall.reaches c.read-below.new.self by_what)
          (g.H.Hall.reaches c.push_events.new.hall by_what) c.args.key.now c.read-below.result c.args.at
          c.push_of_call.new.list c.loop-i.list c.push_events.new.list c.loop-i.from _ c.loop-i.i
          (get_or c.args.key.now.kids c.loop-i.i none) (c.loop-i.invariant.reading by_what has)
          (λ t r. kid_read (g.H.Hall.reaches c.args.hall.now by_what) t c.args.key.now c.loop-i.i none r
          c.loop-i-test.true)
          (λ t led. c.read-below.ensures.answer by_what t led)
          (λ t r. c.in_ok-push_events.ensures.answer by_what t (has', r)) refl
          (λ m t led. c.read-below.ensures.reach by_what m t has' led)
          (λ m t led. c.in_ok-push_events.ensures.reach by_what m t has'' led);
      rest = reads_then (g.H.Hall.view c.args.hall.now) (g.H.Hall.view c.read-below.new.self)
          (g.H.Hall.view c.push_events.new.hall) read below;
    }

pub returns-clause-answer : goal.returns-clause-answer
returns-clause-answer g t c by_what tree (has, reads) =
    on_ok_weaker c.push_of_call-2.result
    (λ e. events-written tree c.args.at c.args.key.now.func c.args.list.now c.push_of_call.new.list
    c.loop-i.list
    c.push_of_call-2.new.list (c.args.at + c.args.key.now.dur) reads.1.func c.in_ok-push_of_call.ensures
    (ReadingKids-end (g.H.Hall.reaches c.args.hall.now by_what) (g.H.Hall.reaches c.loop-i.hall by_what)
    c.args.key.now c.args.at c.push_of_call.new.list c.loop-i.list c.loop-i.from c.loop-i.i tree
    (c.loop-i.invariant.reading by_what has) reads
    (omega arith)) e (ap (λ (n : ℕ). c.args.at + n) reads.1.dur))
    c.push_of_call-2.ensures

pub returns-clause-reach : goal.returns-clause-reach
returns-clause-reach g t c by_what n tree has led =
    (c.loop-i.invariant.reading by_what (source_kept (g.H.Hall.view c.loop-i.hall).seat
    (g.H.Hall.view c.args.hall.now).seat by_what (sym c.loop-i.invariant.rest.seat) has)).kept n tree led

pub returns-in_err-push_of_call-clause-rest : goal.returns-in_err-push_of_call-clause-rest
returns-in_err-push_of_call-clause-rest g t c = reads_same (g.H.Hall.view c.args.hall.now)

pub returns-in_err-push_events-clause-rest : goal.returns-in_err-push_events-clause-rest
returns-in_err-push_events-clause-rest g t c =
    reads_then (g.H.Hall.view c.args.hall.now) (g.H.Hall.view c.read-below.new.self)
    (g.H.Hall.view c.push_events.new.hall)
    (reads_then (g.H.Hall.view c.args.hall.now) (g.H.Hall.view c.loop-i.hall)
    (g.H.Hall.view c.read-below.new.self) c.loop-i.invariant.rest
    (reads_one (g.H.Hall.view c.loop-i.hall) (g.H.Hall.view c.read-below.new.self)
    c.read-below.ensures.rest)) c.push_events.ensures.rest

pub returns-in_err-push_events-clause-reach : goal.returns-in_err-push_events-clause-reach
returns-in_err-push_events-clause-reach g t c by_what n tree has led =
    let mid = source_kept (g.H.Hall.view c.push_events.new.hall).seat
    (g.H.Hall.view c.read-below.new.self).seat by_what (sym c.push_events.ensures.rest.seat) has in
    let before = source_kept (g.H.Hall.view c.read-below.new.self).seat (g.H.Hall.view c.args.hall.now).seat
    by_what (sym (reads_then (g.H.Hall.view c.args.hall.now) (g.H.Hall.view c.loop-i.hall)
    (g.H.Hall.view c.read-below.new.self) c.loop-i.invariant.rest
    (reads_one (g.H.Hall.view c.loop-i.hall) (g.H.Hall.view c.read-below.new.self)
    c.read-below.ensures.rest)).seat) mid in
    c.push_events.ensures.reach by_what n tree has
    (c.read-below.ensures.reach by_what n tree mid
    ((c.loop-i.invariant.reading by_what before).kept n tree led))
