-- What an event answers, and what becomes of the world.
use Rattle.std.specs.Prelude.{◌≡◌, ◌++◌, ◌%◌, max, true, ℕ, List, [], ◌∷◌, Ok, None, Some}
use Rattle.std.specs.Prelude.{slice_get, slice_set}
use Rattle.std.specs.List.{Contains}
use Rattle.node_key.specs.Rooms.{room}
use Rattle.node_key.specs.Stakes.{Exchanges, HasStakes, IsOverStakes}
use Rattle.node_key.specs.declared.stake.Stake.{Stake}
use Rattle.node_key.specs.Tree.{Tree}
use Rattle.node_key.specs.declared.key.NodeKey.{NodeKey}
use Rattle.node_key.specs.declared.limits.TheConstants.{STORE_ROOMS}
use Rattle.shard_core.specs.Interning.{Drops, Interns, IsSpent}
use Rattle.shard_core.specs.Room.{Room}
use Rattle.shard_core.specs.declared.answers.Dropped.{Dropped}
use Rattle.shard_core.specs.declared.answers.Dropped.TheVariants.{Kept, Removed}
use Rattle.shard_core.specs.declared.answers.Interned.{Interned}
use Rattle.shard_core.specs.declared.answers.Interned.TheVariants.{Known, New}
use Rattle.store_laws.specs.Store.{Store, key_in}
use Rattle.hall_core.specs.Allowed.{IsActive}
use Rattle.hall_core.specs.World.{empty_seat}
use Rattle.hall_core.specs.declared.events.HallEvent.{HallEvent}
use Rattle.hall_core.specs.declared.events.HallEvent.TheVariants as event
use Rattle.hall_core.specs.declared.events.ReadOf.TheVariants as read
use Rattle.hall_core.specs.declared.events.StepAnswer.{StepAnswer}
use Rattle.hall_core.specs.declared.events.StepAnswer.TheVariants as answer
use Rattle.hall_core.specs.declared.world.SeatView.{SeatView}
use Rattle.hall_core.specs.declared.world.World.{World}

-- ---- keys and counts, in the store's rooms and the stakes of one seat

-- the number that a key has got or had
abbrev pub number_told : Interned → ℕ
number_told (Known n) = n
number_told (New n) = n

-- the stakes on the kids that are handed over: to a new node, whose kids they are from then on
abbrev pub handed_over : Interned → List Stake → List Stake
handed_over (Known n) kids = []
handed_over (New n) kids = kids

-- The key's room answers it, and there is a stake on its number, for a tree over stakes that are there.
pub record InternsIn (key : NodeKey) (i : Interned) (rooms : Store) (mine : List Stake) (rooms' : Store)
    (mine' : List Stake) : Type 0 where
  pub tree : Tree
  pub kids : List Stake
  pub over : IsOverStakes tree kids key
  pub has : HasStakes mine kids
  pub before : Room
  pub after : Room
  pub there : slice_get rooms (room key) ≡ Some before
  pub answered : Interns before key (Ok i) after
  pub rooms_now : rooms' ≡ slice_set rooms (room key) after
  pub exchanged : Exchanges mine mine' (handed_over i kids)
      (record { number = number_told i; tree = tree } ∷ [])

-- this number is used up for the key in its room
abbrev pub Spends : Store → NodeKey → ℕ → Type 0
Spends rooms key v = (r : Room) × (slice_get rooms (room key) ≡ Some r) × IsSpent r key v

-- the stakes that come free: where the node of the tree goes, those on its kids
abbrev pub AreFreed : Tree → Dropped → List Stake → Type 0
AreFreed t Kept kids = kids ≡ []
AreFreed t (Removed key) kids = IsOverStakes t kids key

-- The number's room lowers its count, and a stake on it goes. Where the node goes, there are the stakes
-- instead that it had on its kids.
pub record DropsIn (n : ℕ) (d : Dropped) (rooms : Store) (mine : List Stake) (rooms' : Store)
    (mine' : List Stake) : Type 0 where
  pub stake : Stake
  pub is_on : stake.number ≡ n
  pub has : Contains mine stake
  pub kids : List Stake
  pub freed : AreFreed stake.tree d kids
  pub before : Room
  pub after : Room
  pub there : slice_get rooms (n % STORE_ROOMS) ≡ Some before
  pub answered : Drops before n d after
  pub rooms_now : rooms' ≡ slice_set rooms (n % STORE_ROOMS) after
  pub exchanged : Exchanges mine mine' (stake ∷ []) kids

-- ---- one definition for each kind of event

-- the world with this seat in the place of the one of its index
abbrev pub with_seat : World → ℕ → SeatView → World
with_seat w i seat = record w { seats = slice_set w.seats i seat }

-- the world with these rooms of the store, where the seat of an index has these stakes
abbrev pub with_store : World → ℕ → SeatView → Store → List Stake → World
with_store w i seat rooms stakes = record {
  state = record w.state { shards = rooms };
  seats = slice_set w.seats i (record seat { stakes = stakes });
}

-- the store's rooms and the seat's stakes change in this way, and nothing else
pub record ChangesStore (old : World) (actor : ℕ)
    (Change : Store → List Stake → Store → List Stake → Type 0) (new : World) : Type 0 where
  pub seat : SeatView
  pub acts : IsActive old actor seat
  pub rooms : Store
  pub stakes : List Stake
  pub changed : Change old.state.shards seat.stakes rooms stakes
  pub now : new ≡ with_store old actor seat rooms stakes

-- a seat without anything comes last, which has seen what this one has
pub record AddsSeat (old : World) (actor : ℕ) (new : World) : Type 0 where
  pub seat : SeatView
  pub acts : IsActive old actor seat
  pub now : new ≡ record old { seats = old.seats ++ empty_seat seat.seen ∷ [] }

-- a seat that has ended, and has nothing
abbrev pub ended_seat : SeatView → SeatView
ended_seat s = record s { stakes = []; places = []; ended = true }

-- the stakes and places of the other seat move over, and it has ended
pub record JoinsSeats (old : World) (actor other : ℕ) (new : World) : Type 0 where
  pub seat : SeatView
  pub acts : IsActive old actor seat
  pub joined : SeatView
  pub was_active : IsActive old other joined
  pub stakes : List Stake
  pub moved : Exchanges seat.stakes stakes [] joined.stakes
  pub now : new ≡ with_seat (with_seat old other (ended_seat joined)) actor (record seat {
    stakes = stakes;
    seen = max seat.seen joined.seen;
    places = seat.places ++ joined.places;
  })

-- ---- all of them

-- The seat of this index makes the event, and the world changes. The answer that no memory was found changes
-- nothing, and a read needs none.
abbrev pub IsStep : World → ℕ → HallEvent → StepAnswer → World → Type 0
IsStep old actor (event.Intern key) (answer.Interned i) new = ChangesStore old actor (InternsIn key i) new
IsStep old actor (event.Intern key) (answer.Spent v) new = Spends old.state.shards key v × (new ≡ old)
IsStep old actor (event.Read (read.Node n)) (answer.Node key) new =
    (key_in old.state.shards n ≡ Some key) × (new ≡ old)
IsStep old actor (event.Drop n) (answer.Dropped d) new = ChangesStore old actor (DropsIn n d) new
IsStep old actor (event.Split None) answer.Split new = AddsSeat old actor new
IsStep old actor (event.Join other) answer.Joined new = JoinsSeats old actor other new
IsStep old actor (event.Read of) answer.Memory new = ⊥
IsStep old actor e answer.Memory new = new ≡ old
IsStep _ _ _ _ _ = ⊥
