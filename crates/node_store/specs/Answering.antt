-- What the store answers to a key.
use Rattle.std.specs.Prelude.{◌≡◌, ◌+◌, ◌∷◌, [], ℕ, List, Ok, Err, Result, None, Some, slice_get, slice_set}
use Rattle.std.specs.Prelude.{⊤}
use Rattle.node_key.specs.Rooms.{room}
use Rattle.node_key.specs.Stakes.{Exchanges, HasStakes, IsOverStakes, stake}
use Rattle.node_key.specs.declared.stake.Stake.{Stake}
use Rattle.node_key.specs.Tree.{Tree}
use Rattle.node_key.specs.declared.key.NodeKey.{NodeKey}
use Rattle.shard_core.specs.Interning.{Interns, IsSpent}
use Rattle.shard_core.specs.Room.{Room}
use Rattle.shard_core.specs.declared.answers.Interned.{Interned}
use Rattle.shard_core.specs.declared.answers.Interned.TheVariants.{Known, New}
use Rattle.shard_core.specs.declared.answers.ShardFault.{ShardFault}
use Rattle.shard_core.specs.declared.answers.ShardFault.TheVariants.{Memory, Spent}
use Rattle.node_store.specs.Changes.{with_last, with_staked}
use Rattle.node_store.specs.Given.{Given, ever, staked_at, stakes_of}
use Rattle.node_store.specs.Kept.{KeepsFor, NodesKept}

-- the number that was found or given
abbrev pub answered_number : Interned → ℕ
answered_number (Known n) = n
answered_number (New n) = n

-- a new number was never given before
abbrev pub IsFirstGiven : Given → Interned → Type 0
IsFirstGiven given (Known n) = ⊤
IsFirstGiven given (New n) = ever given n ≡ None

-- the key's room answers, and the number is the key's
pub record IsInterned (old : NodesKept) (key : NodeKey) (answer : Interned) (new : NodesKept) : Type 0 where
  pub before : Room
  pub after : Room
  pub there : slice_get old.rooms (room key) ≡ Some before
  pub interns : Interns before key (Ok answer) after
  pub key_is : ever new.given (answered_number answer) ≡ Some key
  pub fresh : IsFirstGiven old.given answer

-- the number is used up for the key in its room
abbrev pub IsSpentThere : NodesKept → NodeKey → ℕ → Type 0
IsSpentThere s key v = (r : Room) × (slice_get s.rooms (room key) ≡ Some r) × IsSpent r key v

-- What is answered. A refusal changes nothing.
abbrev pub AnswersKey : NodesKept → NodeKey → Result Interned ShardFault → NodesKept → Type 0
AnswersKey old key (Ok answer) new = IsInterned old key answer new
AnswersKey old key (Err (Spent v)) new = IsSpentThere old key v × (new ≡ old)
AnswersKey old key (Err Memory) new = new ≡ old

-- where the owner has stakes on the kids of a tree with this key, they are given for one on the tree's number
abbrev pub GivesStake : NodesKept → NodeKey → Interned → NodesKept → Type 0
GivesStake old key answer new = (t : Tree) (kids : List Stake) → IsOverStakes t kids key
    → HasStakes (stakes_of old.given) kids
    → Exchanges (stakes_of old.given) (stakes_of new.given) kids (stake (answered_number answer) t ∷ [])

-- the owner has stakes on the kids of a tree with this key
abbrev pub HasKids : NodesKept → NodeKey → Type 0
HasKids s key = (t : Tree) × (kids : List Stake) × IsOverStakes t kids key
    × HasStakes (stakes_of s.given) kids

-- the owner has a stake on a number
abbrev pub HasStakeOn : NodesKept → ℕ → Type 0
HasStakeOn s n = (t : Tree) × HasStakes (stakes_of s.given) (stake n t ∷ [])

-- it has one less on it, and else the same
abbrev pub TakesStake : NodesKept → ℕ → NodesKept → Type 0
TakesStake old n new = (t : Tree) → HasStakes (stakes_of old.given) (stake n t ∷ [])
    → Exchanges (stakes_of old.given) (stakes_of new.given) (stake n t ∷ []) []

-- the numbers given after an answer: one more for a new key, and one stake more on a known number
abbrev pub given_after : Given → NodeKey → Interned → Given
given_after g key (New n) = with_last g (room key) (record { key = key; staked = 1 })
given_after g key (Known n) = with_staked g n (staked_at g n + 1)

-- the key's room answers, and there is one stake more on the number
pub record StoresIn (old : NodesKept) (key : NodeKey) (answer : Interned) (new : NodesKept) : Type 0 where
  pub before : Room
  pub after : Room
  pub there : slice_get old.rooms (room key) ≡ Some before
  pub interns : Interns before key (Ok answer) after
  pub rooms : new.rooms ≡ slice_set old.rooms (room key) after
  pub given : new.given ≡ given_after old.given key answer

abbrev pub StoresKey : NodesKept → NodeKey → Result Interned ShardFault → NodesKept → Type 0
StoresKey old key (Ok answer) new = StoresIn old key answer new
StoresKey old key (Err (Spent v)) new = IsSpentThere old key v × (new ≡ old)
StoresKey old key (Err Memory) new = new ≡ old

-- one of the others that the store is kept for is on a number
abbrev pub HasOther : NodesKept → ℕ → Type 0
HasOther s n = (others : List Stake) × (left : List Stake) × (t : Tree) × KeepsFor s others
    × Exchanges others left (stake n t ∷ []) []

-- the store is kept for those that are left when one on a number is given back
abbrev pub GivesBack : NodesKept → ℕ → NodesKept → Type 0
GivesBack old n new = (others left : List Stake) (t : Tree) → KeepsFor old others
    → Exchanges others left (stake n t ∷ []) [] → KeepsFor new left

-- the stakes of the owner are these, in whatever order
abbrev pub Owns : NodesKept → List Stake → Type 0
Owns s stakes = Exchanges stakes (stakes_of s.given) [] []
