use Rattle.std.proofs.Common.{◌%◌, slice_set, subst, arith}
use Rattle.node_store.specs.Answering.{GivesBack}
use Rattle.node_store.specs.Kept.{NextNeverFalls, NodesKept}
use Rattle.node_store.proofs.Dropping.{dropping_begins, dropping_ends, dropping_goes_on, kept_case, kid_falls}
use Rattle.node_store.proofs.Dropping.{kid_requires, live_in_room, removed_case, removed_key}
use Rattle.node_store.proofs.Keeping.{kept}
use Rattle.node_store.proofs.store.NodeStore.+drop_other.Goals as goal

pub drop_one-requires : goal.drop_one-requires
drop_one-requires t c = live_in_room (kept c.self.inside.shards.items c.self.inside.given) c.args.self.now
    c.args.n
    c.index_mut.result.now c.self.view_is c.self.invariant c.requires c.index_mut.ensures.value

pub invariant_of-self : goal.invariant_of-self
invariant_of-self t c =
    (kept_case (kept c.self.inside.shards.items c.self.inside.given) c.args.self.now c.args.n
    c.index_mut.result.now
    c.drop_one.new.self c.self.view_is c.self.invariant c.requires c.index_mut.ensures.value
    c.in-Kept.ensures.answer).sound

pub invariant_of-self-in-Removed : goal.invariant_of-self-in-Removed
invariant_of-self-in-Removed t c =
    (removed_case (kept c.self.inside.shards.items c.self.inside.given) c.args.self.now c.args.n
    c.index_mut.result.now c.drop_one.new.self c.in-Removed.key c.self.view_is c.self.invariant c.requires
    c.index_mut.ensures.value c.in-Removed.ensures.answer).sound

pub returns-in-Kept-clause-kept : goal.returns-in-Kept-clause-kept
returns-in-Kept-clause-kept t c =
    subst (λ (s : NodesKept). GivesBack s c.args.n (kept (slice_set c.self.inside.shards.items (c.args.n % 16)
    c.drop_one.new.self) c.self.inside.given)) c.self.view_is
    (kept_case (kept c.self.inside.shards.items c.self.inside.given) c.args.self.now c.args.n
    c.index_mut.result.now
    c.drop_one.new.self c.self.view_is c.self.invariant c.requires c.index_mut.ensures.value
    c.in-Kept.ensures.answer).keeps

pub returns-in-Kept-clause-next : goal.returns-in-Kept-clause-next
returns-in-Kept-clause-next t c =
    subst (λ (s : NodesKept). NextNeverFalls s (kept (slice_set c.self.inside.shards.items (c.args.n % 16)
    c.drop_one.new.self) c.self.inside.given)) c.self.view_is
    (kept_case (kept c.self.inside.shards.items c.self.inside.given) c.args.self.now c.args.n
    c.index_mut.result.now
    c.drop_one.new.self c.self.view_is c.self.invariant c.requires c.index_mut.ensures.value
    c.in-Kept.ensures.answer).next

pub drop_other-requires : goal.drop_other-requires
drop_other-requires t c =
    let key = removed_key (kept c.self.inside.shards.items c.self.inside.given) c.args.self.now c.args.n
    c.index_mut.result.now c.drop_one.new.self c.in-Removed.key c.self.view_is c.self.invariant c.requires
    c.index_mut.ensures.value c.in-Removed.ensures.answer in
    let falls = kid_falls (kept c.self.inside.shards.items c.self.inside.given) c.args.self.now
    c.loop-kid.self
    c.args.n c.in-Removed.key c.loop-kid.kid-index (record { gap = 0; span = 0; node = 0 }) c.self.view_is
    c.loop-kid.invariant.given c.self.invariant key c.loop-kid-test.true in (
      omega (arith, falls, c.decreases),
      kid_requires c.args.self.now c.loop-kid.self c.args.n _ c.loop-kid.kid-index _ c.requires
          c.loop-kid.invariant c.loop-kid-test.true,
    )

pub loop-kid-init : goal.loop-kid-init
loop-kid-init t c =
    dropping_begins c.args.self.now c.self.inside.shards.items (slice_set c.self.inside.shards.items
    (c.args.n % 16)
    c.drop_one.new.self) c.self.inside.given c.args.n c.in-Removed.key c.self.view_is
    (removed_case (kept c.self.inside.shards.items c.self.inside.given) c.args.self.now c.args.n
    c.index_mut.result.now c.drop_one.new.self c.in-Removed.key c.self.view_is c.self.invariant c.requires
    c.index_mut.ensures.value c.in-Removed.ensures.answer)

pub loop-kid-preserved : goal.loop-kid-preserved
loop-kid-preserved t c =
    dropping_goes_on c.args.self.now c.loop-kid.self c.drop_other.new.self c.args.n _ c.loop-kid.kid-index _
    c.loop-kid.invariant c.loop-kid-test.true c.drop_other.ensures.given c.drop_other.ensures.kept
    c.drop_other.ensures.next c.drop_other.ensures.sound

pub returns-after-loop-kid-clause-kept : goal.returns-after-loop-kid-clause-kept
returns-after-loop-kid-clause-kept t c =
    dropping_ends c.args.self.now c.loop-kid.self c.args.n _ c.loop-kid.kid-index c.loop-kid.invariant
    c.loop-kid-test.false

pub returns-after-loop-kid-clause-sound : goal.returns-after-loop-kid-clause-sound
returns-after-loop-kid-clause-sound t c = c.loop-kid.invariant.sound

pub returns-in-Kept-clause-sound : goal.returns-in-Kept-clause-sound
returns-in-Kept-clause-sound t c =
    (kept_case (kept c.self.inside.shards.items c.self.inside.given) c.args.self.now c.args.n
    c.index_mut.result.now
    c.drop_one.new.self c.self.view_is c.self.invariant c.requires c.index_mut.ensures.value
    c.in-Kept.ensures.answer).sound
