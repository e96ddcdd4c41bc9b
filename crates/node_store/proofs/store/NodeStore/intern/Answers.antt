use Rattle.std.proofs.Common.{subst}
use Rattle.shard_core.specs.declared.answers.Interned.{Interned}
use Rattle.shard_core.specs.declared.answers.Interned.TheVariants.{Known, New}
use Rattle.node_store.specs.Answering.{StoresIn, answered_number}
use Rattle.node_store.proofs.Dropping.{next_then}
use Rattle.node_store.proofs.Interning.{answered, answers_key, stored_next, gives, has_kids_after}
use Rattle.node_store.proofs.Interning.{keeps_numbers}
use Rattle.node_store.proofs.Interning.{known_keeps, new_keeps, refused_next}
use Rattle.node_store.proofs.KidLoops.{same_next}
use Rattle.node_store.proofs.store.NodeStore.intern.Goals as goal

pub returns-in_err-answer-clause-next : goal.returns-in_err-answer-clause-next
returns-in_err-answer-clause-next c = refused_next c.args.self.now c.store_key.new.self c.args.key _
    c.in_err-answer.ensures.stored

pub release_kids-requires-clause-staked : goal.release_kids-requires-clause-staked
release_kids-requires-clause-staked c =
    has_kids_after c.args.self.now c.store_key.new.self c.args.key (answered_number c.in_ok-answer.answer)
    c.store_key.ensures.before
    (answered c.args.self.now c.store_key.new.self c.args.key c.in_ok-answer.answer c.store_key.ensures.before
    c.requires.kept c.in_ok-answer.ensures.stored) c.requires.kids

pub hand_over_kids-requires-clause-staked : goal.hand_over_kids-requires-clause-staked
hand_over_kids-requires-clause-staked c =
    has_kids_after c.args.self.now c.store_key.new.self c.args.key (answered_number c.in_ok-answer.answer)
    c.store_key.ensures.before
    (answered c.args.self.now c.store_key.new.self c.args.key c.in_ok-answer.answer c.store_key.ensures.before
    c.requires.kept c.in_ok-answer.ensures.stored) c.requires.kids

pub release_kids-requires-clause-kept : goal.release_kids-requires-clause-kept
release_kids-requires-clause-kept c = (
  c.requires.kept.0,
  known_keeps c.args.self.now c.store_key.new.self c.args.key c.in-Known.field-0
      (answered c.args.self.now c.store_key.new.self c.args.key (Known c.in-Known.field-0)
      c.store_key.ensures.before c.requires.kept
      (subst (λ (a : Interned). StoresIn c.args.self.now c.args.key a c.store_key.new.self) c.in-Known.is
      c.in_ok-answer.ensures.stored)) c.requires.kids
      (subst (λ (a : Interned). StoresIn c.args.self.now c.args.key a c.store_key.new.self) c.in-Known.is
      c.in_ok-answer.ensures.stored)
      c.requires.kept.0 c.requires.kept.1,
)

pub returns-in-Known-clause-answer : goal.returns-in-Known-clause-answer
returns-in-Known-clause-answer c =
    answers_key c.args.self.now c.store_key.new.self c.release_kids.new.self c.args.key c.in_ok-answer.answer
    c.store_key.ensures.before c.requires.kept c.in_ok-answer.ensures.stored
    (answered c.args.self.now c.store_key.new.self c.args.key c.in_ok-answer.answer c.store_key.ensures.before
    c.requires.kept c.in_ok-answer.ensures.stored) c.release_kids.ensures.numbers

pub returns-in-Known-clause-stakes : goal.returns-in-Known-clause-stakes
returns-in-Known-clause-stakes c =
    gives c.args.self.now c.store_key.new.self c.release_kids.new.self c.args.key c.in_ok-answer.answer
    c.store_key.ensures.before
    (answered c.args.self.now c.store_key.new.self c.args.key c.in_ok-answer.answer c.store_key.ensures.before
    c.requires.kept c.in_ok-answer.ensures.stored) c.release_kids.ensures.stakes

pub returns-in-Known-clause-numbers : goal.returns-in-Known-clause-numbers
returns-in-Known-clause-numbers c =
    keeps_numbers c.args.self.now c.store_key.new.self c.release_kids.new.self c.args.key
    (answered_number c.in_ok-answer.answer)
    (answered c.args.self.now c.store_key.new.self c.args.key c.in_ok-answer.answer c.store_key.ensures.before
    c.requires.kept c.in_ok-answer.ensures.stored) c.release_kids.ensures.numbers

pub returns-in-Known-clause-next : goal.returns-in-Known-clause-next
returns-in-Known-clause-next c =
    next_then c.args.self.now c.store_key.new.self c.release_kids.new.self (stored_next c.args.self.now
    c.store_key.new.self c.args.key c.in_ok-answer.answer
    c.in_ok-answer.ensures.stored) c.release_kids.ensures.next

pub returns-in-Known-clause-kept : goal.returns-in-Known-clause-kept
returns-in-Known-clause-kept c =
    λ others keeps. c.release_kids.ensures.kept others (
    known_keeps c.args.self.now c.store_key.new.self c.args.key c.in-Known.field-0
    (answered c.args.self.now c.store_key.new.self c.args.key (Known c.in-Known.field-0)
    c.store_key.ensures.before c.requires.kept
    (subst (λ (a : Interned). StoresIn c.args.self.now c.args.key a c.store_key.new.self) c.in-Known.is
    c.in_ok-answer.ensures.stored)) c.requires.kids
    (subst (λ (a : Interned). StoresIn c.args.self.now c.args.key a c.store_key.new.self) c.in-Known.is
    c.in_ok-answer.ensures.stored)
    others keeps)

pub returns-in-New-clause-answer : goal.returns-in-New-clause-answer
returns-in-New-clause-answer c =
    answers_key c.args.self.now c.store_key.new.self c.hand_over_kids.new.self c.args.key
    c.in_ok-answer.answer c.store_key.ensures.before c.requires.kept c.in_ok-answer.ensures.stored
    (answered c.args.self.now c.store_key.new.self c.args.key c.in_ok-answer.answer c.store_key.ensures.before
    c.requires.kept c.in_ok-answer.ensures.stored) c.hand_over_kids.ensures.numbers

pub returns-in-New-clause-stakes : goal.returns-in-New-clause-stakes
returns-in-New-clause-stakes c =
    gives c.args.self.now c.store_key.new.self c.hand_over_kids.new.self c.args.key c.in_ok-answer.answer
    c.store_key.ensures.before
    (answered c.args.self.now c.store_key.new.self c.args.key c.in_ok-answer.answer c.store_key.ensures.before
    c.requires.kept c.in_ok-answer.ensures.stored) c.hand_over_kids.ensures.stakes

pub returns-in-New-clause-numbers : goal.returns-in-New-clause-numbers
returns-in-New-clause-numbers c =
    keeps_numbers c.args.self.now c.store_key.new.self c.hand_over_kids.new.self c.args.key
    (answered_number c.in_ok-answer.answer)
    (answered c.args.self.now c.store_key.new.self c.args.key c.in_ok-answer.answer c.store_key.ensures.before
    c.requires.kept c.in_ok-answer.ensures.stored) c.hand_over_kids.ensures.numbers

pub returns-in-New-clause-next : goal.returns-in-New-clause-next
returns-in-New-clause-next c =
    next_then c.args.self.now c.store_key.new.self c.hand_over_kids.new.self (stored_next c.args.self.now
    c.store_key.new.self c.args.key c.in_ok-answer.answer
    c.in_ok-answer.ensures.stored) (same_next c.store_key.new.self c.hand_over_kids.new.self
    c.hand_over_kids.ensures.rooms)

pub returns-in-New-clause-kept : goal.returns-in-New-clause-kept
returns-in-New-clause-kept c =
    new_keeps c.args.self.now c.store_key.new.self c.hand_over_kids.new.self c.args.key c.in-New.field-0
    c.store_key.ensures.before
    (answered c.args.self.now c.store_key.new.self c.args.key (New c.in-New.field-0)
    c.store_key.ensures.before c.requires.kept
    (subst (λ (a : Interned). StoresIn c.args.self.now c.args.key a c.store_key.new.self) c.in-New.is
    c.in_ok-answer.ensures.stored)) c.requires.kids
    (subst (λ (a : Interned). StoresIn c.args.self.now c.args.key a c.store_key.new.self) c.in-New.is
    c.in_ok-answer.ensures.stored) c.hand_over_kids.ensures.rooms c.hand_over_kids.ensures.stakes

pub release_kids-requires-clause-sound : goal.release_kids-requires-clause-sound
release_kids-requires-clause-sound c = c.store_key.ensures.sound

pub hand_over_kids-requires-clause-sound : goal.hand_over_kids-requires-clause-sound
hand_over_kids-requires-clause-sound c = c.store_key.ensures.sound
