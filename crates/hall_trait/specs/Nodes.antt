-- What the calls of a hall on nodes answer. Which numbers lead to which trees differs from hall to hall.
use Rattle.std.specs.Prelude.{◌≡◌, ◌⊎◌, ℕ, List, [], ◌∷◌, slice_get, Option, None, Some, Result, Ok, Err}
use Rattle.std.specs.List.{AllZip}
use Rattle.node_key.specs.Branches.{branches}
use Rattle.hall_history.specs.History.{Entry, PublishedTree, IsTrackTree, published_of}
use Rattle.node_key.specs.Keys.{IsKeyOf}
use Rattle.node_key.specs.Rooms.{room}
use Rattle.hall_history.specs.Seat.{Seat, ExchangesStakes}
use Rattle.node_key.specs.Stakes.{stake}
use Rattle.node_key.specs.declared.stake.Stake.{Stake}
use Rattle.node_key.specs.Tree.{Tree}
use Rattle.node_key.specs.declared.key.NodeKey.{NodeKey}
use Rattle.node_key.specs.declared.limits.TheConstants.{MAX_NUMBERS}
use Rattle.node_key.specs.declared.tree.Branch.{Branch}
use Rattle.shard_core.specs.Interning.{IsSpent}
use Rattle.shard_core.specs.Room.{Room, HasNode, IsThere, next_number}
use Rattle.shard_core.specs.declared.limits.TheConstants.{MAX_COUNT}
use Rattle.shard_core.specs.declared.answers.Interned.{Interned}
use Rattle.shard_core.specs.declared.answers.Interned.TheVariants.{Known, New}
use Rattle.hall_trait.specs.View.{Account, with_used_up, with_work}
use Rattle.hall_trait.specs.declared.answers.HallFault.{HallFault}
use Rattle.hall_trait.specs.declared.answers.HallFault.TheVariants as fault
use Rattle.hall_history.specs.declared.published.Published.{Published}
use Rattle.hall_history.specs.declared.published.Published.TheVariants.{Root, NotYet}

-- What intern answers: a stake on the node of this tree in place of those on its kids, or a fault that
-- changes nothing. It isn't told that too many traces are open.
abbrev pub StakesNode : Seat → Seat → Tree → List Stake → Result Interned HallFault → Type 0
StakesNode old new t kids (Ok (Known n)) = ExchangesStakes old new kids (stake n t ∷ [])
StakesNode old new t kids (Ok (New n)) = ExchangesStakes old new kids (stake n t ∷ [])
StakesNode old new t kids (Err (fault.Spent v)) = new ≡ old
StakesNode old new t kids (Err fault.Memory) = new ≡ old
StakesNode old new t kids (Err (fault.Full place)) = ⊥

-- this holds of the key's room
abbrev pub OfItsRoom : List Room → NodeKey → (Room → Type 0) → Type 0
OfItsRoom rooms key P = (r : Room) × (slice_get rooms (room key) ≡ Some r) × P r

-- a known key is there under its number, and a new one isn't, and gets the room's next number
abbrev pub TellsNumber : Room → NodeKey → Interned → Type 0
TellsNumber r key (Known n) = (c : ℕ) × HasNode r n key c
TellsNumber r key (New n) = (¬ IsThere r key) × (n ≡ next_number r)

-- What intern tells of the key's room, as it was, where the hall tells the rooms of its store: whether the key
-- is known, or why a number is used up. Where it doesn't tell them, the number that is used up is how many
-- numbers a room gives, or the greatest count.
abbrev pub InternTells : Option (List Room) → NodeKey → Result Interned HallFault → Type 0
InternTells (Some rooms) key (Ok interned) = OfItsRoom rooms key (λ r. TellsNumber r key interned)
InternTells (Some rooms) key (Err (fault.Spent v)) = OfItsRoom rooms key (λ r. IsSpent r key v)
InternTells (Some rooms) key (Err fault.Memory) = Unit {0}
InternTells (Some rooms) key (Err (fault.Full place)) = Unit {0}
InternTells None key (Ok interned) = Unit {0}
InternTells None key (Err (fault.Spent v)) = (v ≡ MAX_NUMBERS) ⊎ (v ≡ MAX_COUNT)
InternTells None key (Err fault.Memory) = Unit {0}
InternTells None key (Err (fault.Full place)) = Unit {0}

-- what the calls came to after an intern: a node that is interned counts as one
abbrev pub after_intern : Result Interned HallFault → Account → Account
after_intern (Ok interned) a = with_work 1 a
after_intern (Err (fault.Spent v)) a = with_used_up v a
after_intern (Err fault.Memory) a = a
after_intern (Err (fault.Full place)) a = a

-- What read answers of a node, where it is told which numbers lead to which trees: its key, over numbers that
-- lead to the kids of its tree, one for each.
abbrev pub ReadsNode : (ℕ → Tree → Type 0) → Tree → NodeKey → Type 0
ReadsNode leads t key = (ns : List ℕ) × IsKeyOf t ns key
    × AllZip (λ n (b : Branch). leads n b.tree) ns (branches t.kids)

-- What published answers of a track as of these entries, where it is told which numbers lead to which trees:
-- when it starts and a number that leads to its tree, which is that of a stream that fits it, or that it
-- isn't published there.
abbrev pub TellsTrack : List Entry → ℕ → ℕ → (ℕ → Tree → Type 0) → Published → Type 0
TellsTrack entries id track leads NotYet = published_of entries id track ≡ None
TellsTrack entries id track leads (Root start root) = (p : PublishedTree)
    × (published_of entries id track ≡ Some p) × IsTrackTree entries id track p × (start ≡ p.start)
    × leads root p.tree
