-- What each call of a hall answers, what it does to the seat, and what it adds to what the seat's calls came
-- to. `alone` says that no other seat acts in this hall.
use Rattle.std.specs.Prelude.{◌≡◌, ℕ, ◌+◌, ◌≤◌, ◌<◌, Bool, false, List, [], ◌∷◌, length}
use Rattle.std.specs.Prelude.{Option, Some, Result, Ok, Err, IsTrue}
use Rattle.std.specs.Bool.{OnTrue}
use Rattle.std.specs.Option.{option_map}
use Rattle.hall_history.specs.declared.asks.AskIds.{AskIds}
use Rattle.hall_history.specs.declared.listing.Listing.{Listing}
use Rattle.trace_base.specs.declared.limits.TheConstants.{MAX_OPEN_TRACES, MAX_PLACES}
use Rattle.trace_base.specs.declared.names.TraceInfo.{TraceInfo}
use Rattle.trace_base.specs.declared.stream.TrackStream.{TrackStream}
use Rattle.hall_history.specs.History.{Entry, EntryOf, Opened, Published, Sealed, Dropped, Closed, Asked}
use Rattle.hall_history.specs.History.{FitsTrack, next_id, info_of, is_loading, is_open, open_ids, tracks_of}
use Rattle.hall_history.specs.History.{promised, published_tree}
use Rattle.hall_history.specs.Listing.{listed_rows}
use Rattle.hall_history.specs.Seat.{Seat, MakesEntry, Adds, Becomes}
use Rattle.hall_history.specs.declared.seat.PassView.{PassView}
use Rattle.node_key.specs.Stakes.{Exchanges, HasStakes, stake}
use Rattle.node_key.specs.Trees.{tree}
use Rattle.hall_trait.specs.Pass.{pass_view, IsFresh, advanced}
use Rattle.hall_trait.specs.Pin.{pin_view}
use Rattle.hall_history.specs.Asks.{AreOpen, IsFirstUnknown, first_id, second_id}
use Rattle.hall_trait.specs.View.{Account, with_used_up, with_work}
use Rattle.hall_trait.specs.declared.pass.LoadPass.{LoadPass}
use Rattle.hall_trait.specs.declared.pin.Pin.{Pin}
use Rattle.hall_trait.specs.declared.answers.HallFault.{HallFault}
use Rattle.hall_trait.specs.declared.answers.HallFault.TheVariants as fault
use Rattle.hall_trait.specs.declared.answers.AskAnswer.{AskAnswer}
use Rattle.hall_trait.specs.declared.answers.AskAnswer.TheVariants as answer
use Rattle.hall_trait.specs.declared.answers.CloseAnswer.{CloseAnswer}
use Rattle.hall_trait.specs.declared.answers.CloseAnswer.TheVariants as close

-- ---- places

-- the places that are taken or promised
abbrev pub places_taken : {X : Type 0} → List (EntryOf X) → ℕ
places_taken entries = length entries + promised entries

-- the places that a whole load needs: to open the trace, for each track, and to end the load
abbrev pub places_of_load : TraceInfo → ℕ
places_of_load info = length info.names.tracks + 2

-- so many more places fit
abbrev pub HasRoom : {X : Type 0} → List (EntryOf X) → ℕ → Type 0
HasRoom entries n = places_taken entries + n ≤ MAX_PLACES

-- n more places don't fit where p of them are taken or promised, which are never more than there are
abbrev pub LeavesNoRoom : ℕ → ℕ → Type 0
LeavesNoRoom n p = (p ≤ MAX_PLACES) × (MAX_PLACES < p + n)

-- ---- loads

-- Nothing happens, and the hall tells that p places are taken or promised, which leaves no room for n more.
pub record TellsUsedUp (alone : Bool) (old new : Seat) (n p : ℕ) : Type 0 where
  pub same : new ≡ old
  pub no_room : LeavesNoRoom n p
  pub taken : OnTrue alone (p ≡ places_taken old.seen)

-- the trace is opened under the next id, with a pass over all its tracks
pub record OpensTrace (alone : Bool) (old new : Seat) (info : TraceInfo) (pass : LoadPass) : Type 0 where
  pub entered : MakesEntry alone old new (Opened pass.id info) pass.place
  pub next : pass.id + 1 ≡ next_id new.seen
  pub opened : info_of new.seen pass.id ≡ Some info
  pub fresh : IsFresh pass (length info.names.tracks)
  pub passes : Adds old.passes new.passes (pass_view pass)
  pub pins : new.pins ≡ old.pins
  pub stakes : new.stakes ≡ old.stakes
  pub room : OnTrue alone (HasRoom old.seen (places_of_load info))

-- the most traces are open as of this place, which isn't told before the places are used up
pub record TellsFull (alone : Bool) (old new : Seat) (info : TraceInfo) (place : ℕ) : Type 0 where
  pub entered : MakesEntry alone old new Asked place
  pub full : length (open_ids new.seen) ≡ MAX_OPEN_TRACES
  pub passes : new.passes ≡ old.passes
  pub pins : new.pins ≡ old.pins
  pub stakes : new.stakes ≡ old.stakes
  pub room : OnTrue alone (HasRoom old.seen (places_of_load info))

-- What admit answers. Full comes where the most traces are open, and Spent, before it, where the entries of
-- the whole load don't fit any more.
abbrev pub Admits : Bool → Seat → Seat → TraceInfo → Result LoadPass HallFault → Type 0
Admits alone old new info (Ok pass) = OpensTrace alone old new info pass
Admits alone old new info (Err (fault.Full place)) = TellsFull alone old new info place
Admits alone old new info (Err (fault.Spent p)) = TellsUsedUp alone old new (places_of_load info) p
Admits alone old new info (Err fault.Memory) = new ≡ old

-- What the calls came to after an admit. An entry counts as one; a trace that is let in counts as the
-- entries of its load, which are all promised.
abbrev pub after_admit : TraceInfo → Result LoadPass HallFault → Account → Account
after_admit info (Ok pass) a = with_work (places_of_load info) a
after_admit info (Err (fault.Full place)) a = with_work 1 a
after_admit info (Err (fault.Spent p)) a = with_used_up p a
after_admit info (Err fault.Memory) a = a

-- What is left of a pass after an entry of its load: where a track is published the pass as it goes on, and
-- where the load ends nothing. No other entry is made with a pass.
abbrev pub left_after : {X : Type 0} → LoadPass → EntryOf X → List PassView
left_after pass (Published id track what) = pass_view (advanced pass) ∷ []
left_after pass (Sealed id) = []
left_after pass (Dropped id) = []
left_after pass (Opened id info) = pass_view pass ∷ []
left_after pass (Closed id) = pass_view pass ∷ []
left_after pass Asked = pass_view pass ∷ []

-- An entry of a load is made with its pass: among the seat's passes stands what is left of it. The pins stay.
pub record MakesLoadEntry (alone : Bool) (old new : Seat) (pass : LoadPass) (entry : Entry) (place : ℕ)
    : Type 0 where
  pub entered : MakesEntry alone old new entry place
  pub passes : Becomes old.passes new.passes (pass_view pass) (left_after pass entry)
  pub pins : new.pins ≡ old.pins

-- The number is that of the tree of this stream, which fits the track and begins at this time; the seat has a
-- stake on it.
pub record IsRootOf (seat : Seat) (id track start root : ℕ) (s : TrackStream) : Type 0 where
  pub fits : FitsTrack seat.seen id track s
  pub begins : start ≡ s.start
  pub staked : HasStakes seat.stakes (stake root (tree s) ∷ [])

-- the tree of the stream is published as this track, and the stake on it is handed over
pub record PublishesTree (alone : Bool) (old new : Seat) (pass : LoadPass) (track root : ℕ) (s : TrackStream)
    (place : ℕ) : Type 0 where
  pub entered : MakesLoadEntry alone old new pass (Published pass.id track (published_tree s)) place
  pub stakes : Exchanges old.stakes new.stakes (stake root (tree s) ∷ []) []

-- the pass is over all tracks of its trace
pub record CoversAll {X : Type 0} (entries : List (EntryOf X)) (pass : LoadPass) : Type 0 where
  pub from : pass.from ≡ 0
  pub to : pass.to ≡ tracks_of entries pass.id

-- ---- questions

-- the traces are held as of the place of the question, with their numbers of tracks
pub record PinsTraces (alone : Bool) (old new : Seat) (ids : AskIds) (pin : Pin) : Type 0 where
  pub entered : MakesEntry alone old new Asked pin.place
  pub are_open : AreOpen new.seen ids
  pub same_ids : pin.ids ≡ ids
  pub first : pin.first.tracks ≡ tracks_of new.seen (first_id ids)
  pub second : pin.second.tracks ≡ tracks_of new.seen (second_id ids)
  pub pins : Adds old.pins new.pins (pin_view pin)
  pub passes : new.passes ≡ old.passes
  pub stakes : new.stakes ≡ old.stakes
  pub room : OnTrue alone (HasRoom old.seen 1)

-- The seat makes this entry for itself: what it has stays.
pub record MakesOwnEntry (alone : Bool) (old new : Seat) (entry : Entry) (place : ℕ) : Type 0 where
  pub entered : MakesEntry alone old new entry place
  pub pins : new.pins ≡ old.pins
  pub passes : new.passes ≡ old.passes
  pub stakes : new.stakes ≡ old.stakes
  pub room : OnTrue alone (HasRoom old.seen 1)

-- What ask answers. Unknown tells the id that the next trace will get, too. Spent comes where no place is
-- left.
abbrev pub Asks : Bool → Seat → Seat → AskIds → AskAnswer → Type 0
Asks alone old new ids (answer.Pinned pin) = PinsTraces alone old new ids pin
Asks alone old new ids (answer.Unknown id next place) =
    MakesOwnEntry alone old new Asked place × IsFirstUnknown new.seen ids id × (next ≡ next_id new.seen)
Asks alone old new ids (answer.Spent p) = TellsUsedUp alone old new 1 p

-- what the calls came to after an ask: a question that has its entry counts as one
abbrev pub after_ask : AskAnswer → Account → Account
after_ask (answer.Pinned pin) a = with_work 1 a
after_ask (answer.Unknown id next place) a = with_work 1 a
after_ask (answer.Spent p) a = with_used_up p a

-- the names of a trace's functions
abbrev pub functions_of : {X : Type 0} → List (EntryOf X) → ℕ → Option (List (List ℕ))
functions_of entries id = option_map (λ (info : TraceInfo). info.names.functions) (info_of entries id)

-- both traces that are asked for have the same names of functions, in the same order
abbrev pub HaveSameFunctions : {X : Type 0} → List (EntryOf X) → AskIds → Type 0
HaveSameFunctions entries ids = functions_of entries (first_id ids) ≡ functions_of entries (second_id ids)

-- ---- closing and listing

-- What close answers. Unknown tells the id that the next trace will get, too, and Loading that the trace is
-- loading: its load must end first. Spent comes where no place is left.
abbrev pub Closes : Bool → Seat → Seat → ℕ → CloseAnswer → Type 0
Closes alone old new id (close.Closed place) = MakesOwnEntry alone old new (Closed id) place
Closes alone old new id (close.Unknown next place) =
    MakesOwnEntry alone old new Asked place × (is_open new.seen id ≡ false) × (next ≡ next_id new.seen)
Closes alone old new id (close.Loading place) =
    MakesOwnEntry alone old new Asked place × IsTrue (is_loading new.seen id)
Closes alone old new id (close.Spent p) = TellsUsedUp alone old new 1 p

-- what the calls came to after a close: it counts as one where it has its entry
abbrev pub after_close : CloseAnswer → Account → Account
after_close (close.Closed place) a = with_work 1 a
after_close (close.Unknown next place) a = with_work 1 a
after_close (close.Loading place) a = with_work 1 a
after_close (close.Spent p) a = with_used_up p a

-- What list answers: a row for each open trace, as of the place of the question. Want of memory changes
-- nothing, and it isn't told that too many traces are open.
abbrev pub Lists : Bool → Seat → Seat → Result Listing HallFault → Type 0
Lists alone old new (Ok listing) =
    MakesOwnEntry alone old new Asked listing.place × (listing.rows ≡ listed_rows new.seen)
Lists alone old new (Err (fault.Spent p)) = TellsUsedUp alone old new 1 p
Lists alone old new (Err fault.Memory) = new ≡ old
Lists alone old new (Err (fault.Full place)) = ⊥

-- what the calls came to after a list: it counts as one where it has its entry
abbrev pub after_list : Result Listing HallFault → Account → Account
after_list (Ok listing) a = with_work 1 a
after_list (Err (fault.Spent p)) a = with_used_up p a
after_list (Err fault.Memory) a = a
after_list (Err (fault.Full place)) a = a
