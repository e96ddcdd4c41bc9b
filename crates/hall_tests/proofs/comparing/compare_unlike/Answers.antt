use Rattle.hall_tests.proofs.comparing.compare_unlike.Goals as goal

pub lasts_half-requires-2-clause-seen : goal.lasts_half-requires-2-clause-seen
lasts_half-requires-2-clause-seen g c = c.lasts_half.ensures.still c.args.b c.requires.second

pub same_tells-requires-clause-first : goal.same_tells-requires-clause-first
same_tells-requires-clause-first g c =
    c.lasts_half-2.ensures.still c.args.a (c.lasts_half.ensures.still c.args.a c.requires.first)

pub same_tells-requires-clause-second : goal.same_tells-requires-clause-second
same_tells-requires-clause-second g c =
    c.lasts_half-2.ensures.still c.args.b (c.lasts_half.ensures.still c.args.b c.requires.second)

pub same_tells-requires-2-clause-first : goal.same_tells-requires-2-clause-first
same_tells-requires-2-clause-first g c =
    let n = c.args.b in
    let timed = c.lasts_half-2.ensures.still n (c.lasts_half.ensures.still n c.requires.second) in
    c.same_tells.ensures.still n timed

pub same_tells-requires-2-clause-second : goal.same_tells-requires-2-clause-second
same_tells-requires-2-clause-second g c =
    let n = c.args.a in
    let timed = c.lasts_half-2.ensures.still n (c.lasts_half.ensures.still n c.requires.first) in
    c.same_tells.ensures.still n timed

pub same_tells-requires-3-clause-first : goal.same_tells-requires-3-clause-first
same_tells-requires-3-clause-first g c =
    let n = c.args.a in
    let timed = c.lasts_half-2.ensures.still n (c.lasts_half.ensures.still n c.requires.first) in
    let once = c.same_tells.ensures.still n timed in
    c.same_tells-2.ensures.still n once

pub same_tells-requires-3-clause-second : goal.same_tells-requires-3-clause-second
same_tells-requires-3-clause-second g c =
    let n = c.args.a in
    let timed = c.lasts_half-2.ensures.still n (c.lasts_half.ensures.still n c.requires.first) in
    let once = c.same_tells.ensures.still n timed in
    c.same_tells-2.ensures.still n once

pub same_tells-requires-4-clause-first : goal.same_tells-requires-4-clause-first
same_tells-requires-4-clause-first g c =
    let n = c.args.b in
    let timed = c.lasts_half-2.ensures.still n (c.lasts_half.ensures.still n c.requires.second) in
    let once = c.same_tells.ensures.still n timed in
    let twice = c.same_tells-2.ensures.still n once in
    c.same_tells-3.ensures.still n twice

pub same_tells-requires-4-clause-second : goal.same_tells-requires-4-clause-second
same_tells-requires-4-clause-second g c =
    let n = c.args.b in
    let timed = c.lasts_half-2.ensures.still n (c.lasts_half.ensures.still n c.requires.second) in
    let once = c.same_tells.ensures.still n timed in
    let twice = c.same_tells-2.ensures.still n once in
    c.same_tells-3.ensures.still n twice

pub returns-clause-still : goal.returns-clause-still
returns-clause-still g c n seen =
    let timed = c.lasts_half-2.ensures.still n (c.lasts_half.ensures.still n seen) in
    let once = c.same_tells.ensures.still n timed in
    let twice = c.same_tells-2.ensures.still n once in
    let thrice = c.same_tells-3.ensures.still n twice in
    c.same_tells-4.ensures.still n thrice
