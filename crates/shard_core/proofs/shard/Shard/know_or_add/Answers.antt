use Rattle.std.proofs.Common.{sym, ap, ◌∙◌, subst, ℕ, Ok, refl, ◌+◌, ◌*◌, ◌<◌, List}
use Rattle.std.proofs.Common.{slice_get}
use Rattle.std.proofs.lemmas.Option.{slice_get_within}
use Rattle.node_key.specs.declared.limits.TheConstants.{MAX_NUMBERS, STORE_ROOMS}
use Rattle.shard_core.specs.declared.answers.Interned.TheVariants.{New}
use Rattle.shard_core.specs.Interning.{Interns, IsSpent}
use Rattle.shard_core.specs.Room.{Room, Stored, IsThere, IsSound, room_of}
use Rattle.shard_core.proofs.RoomMaps.{absent_key}
use Rattle.shard_core.proofs.Answering.{raised, spent_numbers, fresh, added}
use Rattle.shard_core.proofs.shard.Shard.know_or_add.Goals as goal

pub invariant_of-self : goal.invariant_of-self
invariant_of-self c =
    let f = c.in-Some.ensures.found in
    (raised c.self.inside.room c.self.inside.next c.self.inside.nodes c.raise.new.nodes c.in-Some.place f.0
    c.args.key f.1 c.raise.result c.self.invariant c.raise.ensures.apart f.2
    (c.raise.ensures.full f.0 _ f.2) (c.raise.ensures.raised f.0 _ f.2)).1

pub returns-in-Some : goal.returns-in-Some
returns-in-Some c =
    let f = c.in-Some.ensures.found in
    let both = raised c.self.inside.room c.self.inside.next c.self.inside.nodes c.raise.new.nodes
    c.in-Some.place f.0 c.args.key f.1 c.raise.result c.self.invariant c.raise.ensures.apart f.2
    (c.raise.ensures.full f.0 _ f.2) (c.raise.ensures.raised f.0 _ f.2) in
    record {
      answer = subst (λ (r : Room). Interns r c.args.key c.raise.result
          (room_of c.self.inside.room c.self.inside.next c.raise.new.nodes)) c.self.view_is both.0;
      sound = both.1;
      same_room = ap (λ (r : Room). r.room) c.self.view_is;
    }

pub returns-in-None : goal.returns-in-None
returns-in-None c = record {
  answer = (
    subst (λ (r : Room). IsSpent r c.args.key MAX_NUMBERS) c.self.view_is
        (spent_numbers c.self.inside.room c.self.inside.next c.self.inside.nodes c.args.key c.self.invariant
        c.if-self-ge-MAX_NUMBERS.true c.in-None.ensures.absent),
    refl,
  );
  sound = subst IsSound c.self.view_is c.self.invariant;
  same_room = refl;
}

pub find_or_add-requires : goal.find_or_add-requires
find_or_add-requires c = fresh c.self.inside.room c.self.inside.next c.self.inside.nodes _ c.self.invariant
    (ap (λ (x : ℕ). STORE_ROOMS * c.self.inside.next + x) c.from.ensures)

-- where a key was found, the tables are as they were
pub raise-requires-in-There : goal.raise-requires-in-There
raise-requires-in-There c =
    let h = c.in-There.ensures in
    slice_get_within c.find_or_add.new.self c.in-There.place _
    (ap (λ (l : List (ℕ × Stored)). slice_get l c.in-There.place) h.0 ∙ h.3)

pub invariant_of-self-in-There : goal.invariant_of-self-in-There
invariant_of-self-in-There c =
    let h = c.in-There.ensures in
    let at = ap (λ (l : List (ℕ × Stored)). slice_get l c.in-There.place) h.0 ∙ h.3 in
    let sound = subst (λ (l : List (ℕ × Stored)). IsSound (room_of c.self.inside.room c.self.inside.next l))
    (sym h.0)
    c.self.invariant in
    (raised c.self.inside.room c.self.inside.next c.find_or_add.new.self c.raise-in-There.new.nodes c.in-There.place
    h.1
    c.args.key h.2 c.raise-in-There.result sound c.raise-in-There.ensures.apart at
    (c.raise-in-There.ensures.full h.1 _ at) (c.raise-in-There.ensures.raised h.1 _ at)).1

pub returns-in-There : goal.returns-in-There
returns-in-There c =
    let h = c.in-There.ensures in
    let at = ap (λ (l : List (ℕ × Stored)). slice_get l c.in-There.place) h.0 ∙ h.3 in
    let sound = subst (λ (l : List (ℕ × Stored)). IsSound (room_of c.self.inside.room c.self.inside.next l))
    (sym h.0)
    c.self.invariant in
    let both = raised c.self.inside.room c.self.inside.next c.find_or_add.new.self c.raise-in-There.new.nodes
    c.in-There.place h.1 c.args.key h.2 c.raise-in-There.result sound c.raise-in-There.ensures.apart at
    (c.raise-in-There.ensures.full h.1 _ at) (c.raise-in-There.ensures.raised h.1 _ at) in
    record {
      answer = subst (λ (r : Room). Interns r c.args.key c.raise-in-There.result
          (room_of c.self.inside.room c.self.inside.next c.raise-in-There.new.nodes))
          (ap (λ (l : List (ℕ × Stored)). room_of c.self.inside.room c.self.inside.next l) h.0 ∙
          c.self.view_is)
          both.0;
      sound = both.1;
      same_room = ap (λ (r : Room). r.room) c.self.view_is;
    }

pub invariant_of-self-in-Added : goal.invariant_of-self-in-Added
invariant_of-self-in-Added c =
    let h = c.in-Added.ensures in
    (added c.self.inside.room c.self.inside.next c.self.inside.nodes c.find_or_add.new.self _ c.args.key
    c.self.invariant
    c.if-self-ge-MAX_NUMBERS.false (c.requires ∙ sym (ap (λ (r : Room). r.room) c.self.view_is))
    (ap (λ (x : ℕ). STORE_ROOMS * c.self.inside.next + x) c.from.ensures) h.0 h.1).1

pub returns-in-Added : goal.returns-in-Added
returns-in-Added c =
    let h = c.in-Added.ensures in
    let both = added c.self.inside.room c.self.inside.next c.self.inside.nodes c.find_or_add.new.self _ c.args.key
    c.self.invariant c.if-self-ge-MAX_NUMBERS.false
    (c.requires ∙ sym (ap (λ (r : Room). r.room) c.self.view_is))
    (ap (λ (x : ℕ). STORE_ROOMS * c.self.inside.next + x) c.from.ensures) h.0 h.1 in
    record {
      answer = subst (λ (r : Room). Interns r c.args.key
          (Ok (New (STORE_ROOMS * c.self.inside.next + c.from.result)))
          (room_of c.self.inside.room (c.self.inside.next + 1) c.find_or_add.new.self)) c.self.view_is both.0;
      sound = both.1;
      same_room = ap (λ (r : Room). r.room) c.self.view_is;
    }

pub returns-in-NoMemory : goal.returns-in-NoMemory
returns-in-NoMemory c =
    let h = c.in-NoMemory.ensures in
    record {
      answer = (
        subst (λ (r : Room). ¬ IsThere r c.args.key) c.self.view_is
            (absent_key c.self.inside.room c.self.inside.next c.self.inside.nodes c.args.key h.0),
        subst (λ (r : Room). r.next < MAX_NUMBERS) c.self.view_is c.if-self-ge-MAX_NUMBERS.false,
        ap (λ (l : List (ℕ × Stored)). room_of c.self.inside.room c.self.inside.next l) h.1 ∙ c.self.view_is,
      );
      sound = subst (λ (l : List (ℕ × Stored)). IsSound (room_of c.self.inside.room c.self.inside.next l))
          (sym h.1)
          c.self.invariant;
      same_room = ap (λ (r : Room). r.room) c.self.view_is;
    }
