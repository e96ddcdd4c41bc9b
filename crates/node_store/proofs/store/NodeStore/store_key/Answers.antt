use Rattle.std.proofs.Common.{◌≡◌, ◌∙◌, Ok, length, ◌<◌, subst, arith}
use Rattle.shard_core.specs.Interning.{Interns}
use Rattle.shard_core.specs.declared.answers.Interned.{Interned}
use Rattle.node_store.proofs.Storing.{IsAsked, first_of, known_last, known_sound, known_stored, new_sound}
use Rattle.node_store.proofs.Storing.{new_stored, refused_so}
use Rattle.node_store.proofs.Keeping.{kept}
use Rattle.node_store.proofs.store.NodeStore.store_key.Goals as goal
use Rattle.node_store.proofs.store.NodeStore.store_key.Goals.{After-know_or_add}

-- what is known of the key's room
asked : (c : After-know_or_add) → IsAsked (kept c.self.inside.shards.items c.self.inside.given)
    c.args.self.now c.args.key c.from-room.result c.index_mut.result.now
asked c = record {
  view = c.self.view_is;
  sound = c.self.invariant;
  has = c.requires.kids;
  others = c.requires.kept.0;
  keeps = c.requires.kept.1;
  room_is = c.from-room.ensures ∙ c.room_of_key.ensures.exact;
  room_at = c.index_mut.ensures.value;
  low = omega (arith, c.from-room.ensures, c.room_of_key.ensures.within);
}

in_range : (c : After-know_or_add) → c.from-room.result < length c.self.inside.given.rooms
in_range c = omega (arith, (asked c).low, c.self.invariant.lists)

-- the room's answer, as the arms name it
answer : (c : After-know_or_add) (a b : Interned) → a ≡ b
    → Interns c.index_mut.result.now c.args.key (Ok a) c.know_or_add.new.self
    → Interns c.index_mut.result.now c.args.key (Ok b) c.know_or_add.new.self
answer c a b =
    subst (λ (i : Interned). Interns c.index_mut.result.now c.args.key (Ok i) c.know_or_add.new.self)

pub invariant_of-self-in-Ok-New : goal.invariant_of-self-in-Ok-New
invariant_of-self-in-Ok-New c =
    let here = (goal.at.invariant_of-self-in-Ok-New c).After-know_or_add in
    new_sound (asked here) c.know_or_add.new.self c.in-Ok-New.n c.add.new.self
    (answer here _ _ c.in-Ok-New.field-0-is c.in-Ok-New.ensures.answer) c.in-Ok.ensures.ok

pub returns-in-Ok-New-clause-stored : goal.returns-in-Ok-New-clause-stored
returns-in-Ok-New-clause-stored c =
    let here = (goal.at.returns-in-Ok-New-clause-stored c).After-know_or_add in
    new_stored (asked here) c.know_or_add.new.self c.in-Ok-New.n c.add.new.self
    (answer here _ _ c.in-Ok-New.field-0-is c.in-Ok-New.ensures.answer) c.in-Ok.ensures.ok

pub returns-in-Ok-New-clause-sound : goal.returns-in-Ok-New-clause-sound
returns-in-Ok-New-clause-sound c =
    let here = (goal.at.returns-in-Ok-New-clause-sound c).After-know_or_add in
    new_sound (asked here) c.know_or_add.new.self c.in-Ok-New.n c.add.new.self
    (answer here _ _ c.in-Ok-New.field-0-is c.in-Ok-New.ensures.answer) c.in-Ok.ensures.ok

pub know-requires : goal.know-requires
know-requires c =
    let here = (goal.at.know-requires c).After-know_or_add in
    known_last (asked here) c.know_or_add.new.self c.in-Ok-Known.n c.add.new.self
    (answer here _ _ c.in-Ok-Known.field-0-is c.in-Ok-Known.ensures.answer) c.in-Ok.ensures.ok

pub invariant_of-self-in-Ok-Known : goal.invariant_of-self-in-Ok-Known
invariant_of-self-in-Ok-Known c =
    let here = (goal.at.invariant_of-self-in-Ok-Known c).After-know_or_add in
    known_sound (asked here) c.know_or_add.new.self c.in-Ok-Known.n c.know.new.self
    (answer here _ _ c.in-Ok-Known.field-0-is c.in-Ok-Known.ensures.answer)
    (c.know.ensures c.self.inside.given (first_of c.args.key) (in_range here) c.in-Ok.ensures.ok)

pub returns-in-Ok-Known-clause-stored : goal.returns-in-Ok-Known-clause-stored
returns-in-Ok-Known-clause-stored c =
    let here = (goal.at.returns-in-Ok-Known-clause-stored c).After-know_or_add in
    known_stored (asked here) c.know_or_add.new.self c.in-Ok-Known.n c.know.new.self
    (answer here _ _ c.in-Ok-Known.field-0-is c.in-Ok-Known.ensures.answer)
    (c.know.ensures c.self.inside.given (first_of c.args.key) (in_range here) c.in-Ok.ensures.ok)

pub returns-in-Ok-Known-clause-sound : goal.returns-in-Ok-Known-clause-sound
returns-in-Ok-Known-clause-sound c =
    let here = (goal.at.returns-in-Ok-Known-clause-sound c).After-know_or_add in
    known_sound (asked here) c.know_or_add.new.self c.in-Ok-Known.n c.know.new.self
    (answer here _ _ c.in-Ok-Known.field-0-is c.in-Ok-Known.ensures.answer)
    (c.know.ensures c.self.inside.given (first_of c.args.key) (in_range here) c.in-Ok.ensures.ok)

pub returns-in-Err-clause-stored : goal.returns-in-Err-clause-stored
returns-in-Err-clause-stored c =
    let here = (goal.at.returns-in-Err-clause-stored c).After-know_or_add in
    refused_so (asked here) c.know_or_add.new.self c.in-Err.fault c.take_back.new.self c.in-Err.ensures.answer
    (c.take_back.ensures c.self.inside.given (first_of c.args.key) (in_range here) c.in-Ok.ensures.ok)
