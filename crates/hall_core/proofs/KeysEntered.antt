-- A key is entered: what came of it in the rooms and in the stakes.
use Rattle.std.proofs.Common.{◌≡◌, ℕ, List, [], ◌∷◌, Some, Result, Ok, Err, ap, ◌∙◌}
use Rattle.std.proofs.Common.{refl, slice_get, slice_set, subst, sym}
use Rattle.list_lemmas.proofs.Positions.{set_same}
use Rattle.node_key.specs.Rooms.{room}
use Rattle.node_key.specs.Stakes.{Exchanges}
use Rattle.node_key.specs.Tree.{Tree}
use Rattle.node_key.specs.declared.key.NodeKey.{NodeKey}
use Rattle.node_key.specs.declared.stake.Stake.{Stake}
use Rattle.shard_core.specs.Interning.{Interns}
use Rattle.shard_core.specs.Room.{Room}
use Rattle.shard_core.specs.declared.answers.Interned.{Interned}
use Rattle.shard_core.specs.declared.answers.ShardFault.{ShardFault}
use Rattle.shard_core.specs.declared.answers.ShardFault.TheVariants.{Memory, Spent}
use Rattle.store_laws.specs.Store.{IsCanonic, Store}
use Rattle.hall_core.specs.Answering.{AnswersIntern}
use Rattle.hall_core.specs.OneTree.{IsStakedTree}
use Rattle.hall_core.specs.Steps.{InternsIn, Spends, number_told, handed_over}
use Rattle.hall_core.specs.declared.events.StepAnswer.{StepAnswer}
use Rattle.hall_core.specs.declared.events.StepAnswer.TheVariants as answer
use Rattle.hall_core.proofs.RoomsThere.{room-of-key}

-- what a room answers to a key, and the rooms after it; where no memory was found, they are as before
abbrev pub Enters : Store → NodeKey → Result Interned ShardFault → Store → Type 0
Enters rooms key (Ok i) after = (before : Room) × (r : Room) × (slice_get rooms (room key) ≡ Some before)
    × Interns before key (Ok i) r × (after ≡ slice_set rooms (room key) r)
Enters rooms key (Err (Spent v)) after = Spends rooms key v × (after ≡ rooms)
Enters rooms key (Err Memory) after = after ≡ rooms

-- what a key's room answered
entered-in : (rooms after : Store) (key : NodeKey) (answer : Result Interned ShardFault) (before r : Room)
    → slice_get rooms (room key) ≡ Some before → Interns before key answer r
    → after ≡ slice_set rooms (room key) r → Enters rooms key answer after
entered-in rooms after key (Ok i) before r at interns is = (before, r, at, interns, is)
entered-in rooms after key (Err (Spent v)) before r at (spent, same) is =
    ((before, at, spent), is ∙ ap (slice_set rooms (room key)) same ∙ set_same rooms (room key) before at)
entered-in rooms after key (Err Memory) before r at (absent, below, same) is =
    is ∙ ap (slice_set rooms (room key)) same ∙ set_same rooms (room key) before at

-- the same, since each key has a room
pub entered : (rooms after : Store) (key : NodeKey) (answer : Result Interned ShardFault) → IsCanonic rooms
    → ((before : Room) → slice_get rooms (room key) ≡ Some before
    → (r : Room) × Interns before key answer r × (after ≡ slice_set rooms (room key) r))
    → Enters rooms key answer after
entered rooms after key answer canonic does =
    let there = room-of-key rooms key canonic in
    let done = does there.0 there.1 in
    entered-in rooms after key answer there.0 done.0 there.1 done.1 done.2

-- a key that was entered, and the stake on its number
pub interns-in : (rooms after : Store) (key : NodeKey) (i : Interned) (mine mine' kids : List Stake)
    (t : Tree) → Enters rooms key (Ok i) after → IsStakedTree mine key t kids
    → Exchanges mine mine' (handed_over i kids) (record { number = number_told i; tree = t } ∷ [])
    → InternsIn key i rooms mine after mine'
interns-in rooms after key i mine mine' kids t (before, r, at, interns, is) staked swap = record {
  tree = t;
  kids = kids;
  over = staked.over;
  has = staked.has;
  before = before;
  after = r;
  there = at;
  answered = interns;
  rooms_now = is;
  exchanged = swap;
}

-- a key that was refused
pub refuses : (rooms after : Store) (key : NodeKey) (f : ShardFault) (a : StepAnswer)
    (mine mine' : List Stake) → Enters rooms key (Err f) after → mine' ≡ mine
    → ((v : ℕ) → f ≡ Spent v → a ≡ answer.Spent v)
    → (f ≡ Memory → a ≡ answer.Memory) → AnswersIntern key a rooms mine after mine'
refuses rooms after key (Spent v) a mine mine' (spent, same) kept is_spent is_memory =
    subst (λ (b : StepAnswer). AnswersIntern key b rooms mine after mine') (sym (is_spent v refl))
    (spent, (same, kept))
refuses rooms after key Memory a mine mine' same kept is_spent is_memory =
    subst (λ (b : StepAnswer). AnswersIntern key b rooms mine after mine') (sym (is_memory refl)) (same, kept)
