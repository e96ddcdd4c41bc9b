use Rattle.hall_tests.proofs.comparing.compare_below.Goals as goal

pub same_tells-requires-2-clause-first : goal.same_tells-requires-2-clause-first
same_tells-requires-2-clause-first g c =
    c.same_tells.ensures.still c.args.root (c.first_kid-f.ensures.still c.args.root
    (c.first_kid-main.ensures.still c.args.root c.requires.seen))

pub same_tells-requires-3-clause-second : goal.same_tells-requires-3-clause-second
same_tells-requires-3-clause-second g c =
    let main = c.first_kid-main.result in
    c.same_tells-2.ensures.still main (c.same_tells.ensures.still main
    (c.first_kid-f.ensures.still main c.first_kid-main.ensures.kid))

pub same_tells-requires-4-clause-first : goal.same_tells-requires-4-clause-first
same_tells-requires-4-clause-first g c =
    let f = c.first_kid-f.result in
    c.same_tells-3.ensures.still f (c.same_tells-2.ensures.still f (c.same_tells.ensures.still f
    c.first_kid-f.ensures.kid))

pub same_tells-requires-4-clause-second : goal.same_tells-requires-4-clause-second
same_tells-requires-4-clause-second g c =
    let f = c.first_kid-f.result in
    c.same_tells-3.ensures.still f (c.same_tells-2.ensures.still f (c.same_tells.ensures.still f
    c.first_kid-f.ensures.kid))
