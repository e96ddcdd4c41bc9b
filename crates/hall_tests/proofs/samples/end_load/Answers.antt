use Rattle.std.proofs.Common.{refl}
use Rattle.hall_tests.proofs.SampleTracks.{at_rest_again, covers_after, has_pass, is_whole}
use Rattle.hall_tests.proofs.samples.end_load.Goals as goal

pub seal-requires-clause-has : goal.seal-requires-clause-has
seal-requires-clause-has g c =
    let load = c.requires in
    let published = c.publish.ensures.answer load.track load.stream load.next load.root in
    has_pass _ _ _ _ _ _ load published c.publish.ensures.pass

pub seal-requires-clause-covers : goal.seal-requires-clause-covers
seal-requires-clause-covers g c =
    let load = c.requires in
    let published = c.publish.ensures.answer load.track load.stream load.next load.root in
    covers_after _ _ _ _ _ _ load published c.publish.ensures.pass

pub seal-requires-clause-whole : goal.seal-requires-clause-whole
seal-requires-clause-whole g c =
    let load = c.requires in
    let published = c.publish.ensures.answer load.track load.stream load.next load.root in
    is_whole _ _ _ _ _ _ load published c.publish.ensures.pass

pub abandon-requires-clause-has : goal.abandon-requires-clause-has
abandon-requires-clause-has g c =
    let load = c.requires in
    let published = c.publish.ensures.answer load.track load.stream load.next load.root in
    has_pass _ _ _ _ _ _ load published c.publish.ensures.pass

pub abandon-requires-clause-covers : goal.abandon-requires-clause-covers
abandon-requires-clause-covers g c =
    let load = c.requires in
    let published = c.publish.ensures.answer load.track load.stream load.next load.root in
    covers_after _ _ _ _ _ _ load published c.publish.ensures.pass

pub returns-then-whole : goal.returns-then-whole
returns-then-whole g c =
    let load = c.requires in
    let published = c.publish.ensures.answer load.track load.stream load.next load.root in
    at_rest_again _ _ _ _ _ _ load published c.publish.ensures.pass _ _ _ c.seal.ensures.answer
    c.seal.ensures.stakes refl

pub returns-else-whole : goal.returns-else-whole
returns-else-whole g c =
    let load = c.requires in
    let published = c.publish.ensures.answer load.track load.stream load.next load.root in
    at_rest_again _ _ _ _ _ _ load published c.publish.ensures.pass _ _ _ c.abandon.ensures.answer
    c.abandon.ensures.stakes refl
