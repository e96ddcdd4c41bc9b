use Rattle.std.proofs.Common.{sym, ap, ◌∙◌, is_some, true≢false, subst, List, ℕ, slice_get}
use Rattle.std.specs.List.{swap_remove}
use Rattle.std.proofs.lemmas.Option.{slice_get_within}
use Rattle.shard_core.specs.declared.answers.Dropped.TheVariants.{Kept, Removed}
use Rattle.shard_core.specs.Interning.{Drops}
use Rattle.shard_core.specs.Room.{Room, Stored, room_of}
use Rattle.shard_core.proofs.Answering.{unseen, kept, removed}
use Rattle.shard_core.proofs.shard.Shard.drop_one.Goals as goal

pub unreachable-requires : goal.unreachable-requires
unreachable-requires c = true≢false (sym c.requires ∙ ap is_some
    (unseen c.self.inside.room c.self.inside.next c.self.inside.nodes
    c.args.self.now c.args.n c.self.view_is c.in_default.ensures.absent))

pub count-count-requires : goal.count-count-requires
count-count-requires c = slice_get_within c.self.inside.nodes c.in-Some.place _ c.in-Some.ensures.found.1

pub set_count-requires : goal.set_count-requires
set_count-requires c = slice_get_within c.self.inside.nodes c.in-Some.place _ c.in-Some.ensures.found.1

pub take-requires : goal.take-requires
take-requires c = slice_get_within c.give_back.new.self c.in-Some.place _
    (ap (λ (l : List (ℕ × Stored)). slice_get l c.in-Some.place) c.give_back.ensures ∙
    c.in-Some.ensures.found.1)

pub invariant_of-self : goal.invariant_of-self
invariant_of-self c =
    let f = c.in-Some.ensures.found in
    (kept c.self.inside.room c.self.inside.next c.self.inside.nodes c.set_count.new.self c.in-Some.place
    c.args.n f.0 c.count-count.result c.self.invariant c.place.ensures.apart f.1 c.count-count.ensures.value
    c.if-count-gt-LAST_COUNT.true (c.set_count.ensures c.args.n f.0 f.1)).1

pub returns-then-count-gt-LAST_COUNT : goal.returns-then-count-gt-LAST_COUNT
returns-then-count-gt-LAST_COUNT c =
    let f = c.in-Some.ensures.found in
    let both = kept c.self.inside.room c.self.inside.next c.self.inside.nodes c.set_count.new.self
    c.in-Some.place
    c.args.n f.0 c.count-count.result c.self.invariant c.place.ensures.apart f.1 c.count-count.ensures.value
    c.if-count-gt-LAST_COUNT.true (c.set_count.ensures c.args.n f.0 f.1) in
    record {
      answer = subst (λ (r : Room). Drops r c.args.n Kept
          (room_of c.self.inside.room c.self.inside.next c.set_count.new.self)) c.self.view_is both.0;
      sound = both.1;
      same_room = ap (λ (r : Room). r.room) c.self.view_is;
    }

pub invariant_of-self-2 : goal.invariant_of-self-2
invariant_of-self-2 c =
    let f = c.in-Some.ensures.found in
    let t = c.take.ensures c.args.n f.0
    (ap (λ (l : List (ℕ × Stored)). slice_get l c.in-Some.place) c.give_back.ensures ∙ f.1) in
    let after = t.1 ∙ ap (λ (l : List (ℕ × Stored)). swap_remove l c.in-Some.place (c.args.n, f.0))
    c.give_back.ensures in
    (removed c.self.inside.room c.self.inside.next c.self.inside.nodes c.take.new.self c.in-Some.place
    c.args.n f.0 c.count-count.result c.take.result c.self.invariant c.place.ensures.apart f.1
    c.count-count.ensures.value c.if-count-gt-LAST_COUNT.false t.0 after).1

pub returns : goal.returns
returns c =
    let f = c.in-Some.ensures.found in
    let t = c.take.ensures c.args.n f.0
    (ap (λ (l : List (ℕ × Stored)). slice_get l c.in-Some.place) c.give_back.ensures ∙ f.1) in
    let after = t.1 ∙ ap (λ (l : List (ℕ × Stored)). swap_remove l c.in-Some.place (c.args.n, f.0))
    c.give_back.ensures in
    let both = removed c.self.inside.room c.self.inside.next c.self.inside.nodes c.take.new.self
    c.in-Some.place
    c.args.n f.0 c.count-count.result c.take.result c.self.invariant c.place.ensures.apart f.1
    c.count-count.ensures.value c.if-count-gt-LAST_COUNT.false t.0 after in
    record {
      answer = subst (λ (r : Room). Drops r c.args.n (Removed c.take.result)
          (room_of c.self.inside.room c.self.inside.next c.take.new.self)) c.self.view_is both.0;
      sound = both.1;
      same_room = ap (λ (r : Room). r.room) c.self.view_is;
    }
