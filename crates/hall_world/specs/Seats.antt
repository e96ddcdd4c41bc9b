-- What a seat must have for an event, and what becomes of it. Both are about the seat and the history alone.
use Rattle.std.specs.Prelude.{◌≡◌, ◌⊎◌, ℕ, ◌+◌, ◌<◌, ◌≤◌, List, [], ◌∷◌, ◌++◌, count_by, false, max, map}
use Rattle.std.specs.Prelude.{◌==◌, take, drop, slice_get, slice_set, Option, None, Some}
use Rattle.std.specs.Arc.{arc_value}
use Rattle.std.specs.List.{Contains, filter_map, range_with_len}
use Rattle.std.specs.List.Sorted.{IsStrictlySortedBy}
use Rattle.std.specs.Option.{option_map}
use Rattle.std.specs.Ordering.{nat_cmp}
use Rattle.hall_history.specs.Asks.{first_id, id_at, second_id}
use Rattle.hall_history.specs.History.{Asked, Closed, Dropped, Entry, FitsTrack, Opened, Published, Sealed}
use Rattle.hall_history.specs.History.{PublishedTree, published_of, tracks_of}
use Rattle.hall_history.specs.declared.asks.AskIds.{AskIds}
use Rattle.hall_history.specs.declared.asks.PassState.TheVariants.{Straight, Whole}
use Rattle.hall_history.specs.declared.seat.PassView.{PassView}
use Rattle.hall_history.specs.declared.seat.PinView.{PinView}
use Rattle.hall_world.specs.OneTree.{IsStakedTree}
use Rattle.hall_world.specs.Passes.{AreAdjacent, back_part, fresh_pass, front_part, joined_pass, pass_after}
use Rattle.hall_world.specs.Past.{Past, next_place}
use Rattle.hall_world.specs.World.{empty_seat}
use Rattle.hall_world.specs.declared.events.HallEvent.{HallEvent}
use Rattle.hall_world.specs.declared.events.HallEvent.TheVariants as event
use Rattle.hall_world.specs.declared.events.ReadOf.{ReadOf}
use Rattle.hall_world.specs.declared.events.ReadOf.TheVariants as read
use Rattle.hall_world.specs.declared.events.StepAnswer.{StepAnswer}
use Rattle.hall_world.specs.declared.events.StepAnswer.TheVariants as answer
use Rattle.hall_world.specs.declared.world.SeatView.{SeatView}
use Rattle.node_key.specs.Stakes.{Exchanges, IsOverStakes, stake}
use Rattle.node_key.specs.Tree.{Tree}
use Rattle.node_key.specs.Trees.{tree}
use Rattle.node_key.specs.declared.stake.Stake.{Stake}
use Rattle.registry_core.specs.declared.answers.RegAsk.{RegAsk}
use Rattle.registry_core.specs.declared.answers.RegAsk.TheVariants as ask
use Rattle.registry_core.specs.declared.answers.RegClose.{RegClose}
use Rattle.registry_core.specs.declared.answers.RegClose.TheVariants as close
use Rattle.registry_core.specs.declared.answers.RegEnd.{RegEnd}
use Rattle.registry_core.specs.declared.answers.RegEnd.TheVariants as end
use Rattle.registry_core.specs.declared.answers.RegUnpin.{RegUnpin}
use Rattle.shard_core.specs.declared.answers.Dropped.{Dropped as DroppedNode}
use Rattle.shard_core.specs.declared.answers.Dropped.TheVariants as dropped
use Rattle.shard_core.specs.declared.answers.Interned.{Interned}
use Rattle.shard_core.specs.declared.answers.Interned.TheVariants.{Known, New}
use Rattle.trace_base.specs.Info.{IsLegalInfo}
use Rattle.trace_base.specs.declared.stream.TrackStream.{TrackStream}

-- ---- what it must have

-- whatever a seat reaches
abbrev pub anything : ℕ → Type 0
anything n = Unit {0}

-- the seat has the pin, and reads of its first trace, for 0, or of its second, for 1
pub record ReadsPin (seat : SeatView) (at which : ℕ) (p : PinView) : Type 0 where
  pub there : slice_get seat.pins at ≡ Some p
  pub one_of_two : which < 2

-- what it must have to read; `reaches` is which numbers it reaches
abbrev pub MayRead : (ℕ → Type 0) → List Entry → SeatView → ReadOf → Type 0
MayRead reaches seen seat (read.Node n) = reaches n
MayRead reaches seen seat (read.Root at which track) =
    (p : PinView) × ReadsPin seat at which p × (track < tracks_of seen (id_at p.ids which))
MayRead reaches seen seat (read.Info at which) = (p : PinView) × ReadsPin seat at which p
MayRead reaches seen seat (read.Names at) = (p : PinView) × (slice_get seat.pins at ≡ Some p)

-- The pass is straight, a stream fits its next track, and the seat has a stake on the number of its tree. The
-- stream begins at the given time.
pub record MayPublish (seen : List Entry) (seat : SeatView) (at start root : ℕ) : Type 0 where
  pub pass : PassView
  pub there : slice_get seat.passes at ≡ Some pass
  pub next : ℕ
  pub straight : pass.state ≡ Straight next
  pub stream : TrackStream
  pub fits : FitsTrack seen pass.id next stream
  pub begins : start ≡ stream.start
  pub staked : Contains seat.stakes (stake root (tree stream))

-- the pass of an index is over all tracks of its trace
pub record HasWholePass (seen : List Entry) (seat : SeatView) (at : ℕ) (p : PassView) : Type 0 where
  pub there : slice_get seat.passes at ≡ Some p
  pub from : p.from ≡ 0
  pub to : p.to ≡ tracks_of seen p.id

-- the pass of an index is straight, and may be cut at this track
pub record MayCut (seat : SeatView) (at cut : ℕ) (p : PassView) : Type 0 where
  pub there : slice_get seat.passes at ≡ Some p
  pub next : ℕ
  pub straight : p.state ≡ Straight next
  pub behind : next ≤ cut
  pub before : cut < p.to

-- What a seat must have for an event, given which numbers it reaches and the entries that it has seen. What it
-- takes to join another seat is said of both (MayJoin).
abbrev pub MayMake : (ℕ → Type 0) → List Entry → SeatView → HallEvent → Type 0
MayMake reaches seen seat (event.Intern key) =
    (t : Tree) × (kids : List Stake) × IsStakedTree seat.stakes key t kids
MayMake reaches seen seat (event.Read of) = MayRead reaches seen seat of
MayMake reaches seen seat (event.Drop n) = (x : Stake) × Contains seat.stakes x × (x.number ≡ n)
MayMake reaches seen seat (event.Split None) = Unit {0}
MayMake reaches seen seat (event.Split (Some (at, cut))) = (p : PassView) × MayCut seat at cut p
MayMake reaches seen seat (event.Join other) = Unit {0}
MayMake reaches seen seat (event.Admit info) = IsLegalInfo (arc_value info)
MayMake reaches seen seat (event.Publish at start root) = MayPublish seen seat at start root
MayMake reaches seen seat (event.Seal at) = (p : PassView) × HasWholePass seen seat at p × (p.state ≡ Whole)
MayMake reaches seen seat (event.Abandon at) = (p : PassView) × HasWholePass seen seat at p
MayMake reaches seen seat (event.Ask ids) = Unit {0}
MayMake reaches seen seat (event.Unpin at) = (p : PinView) × (slice_get seat.pins at ≡ Some p)
MayMake reaches seen seat (event.Close id) = Unit {0}
MayMake reaches seen seat event.List = Unit {0}

-- the pass of this index is adjacent to the other one, and none before it is
pub record IsFirstAdjacent (passes : List PassView) (part : PassView) (at : ℕ) (p : PassView) : Type 0 where
  pub there : slice_get passes at ≡ Some p
  pub adjacent : AreAdjacent p part
  pub first : (i : ℕ) (q : PassView) → i < at → slice_get passes i ≡ Some q → ¬ AreAdjacent q part

-- Another seat may be joined to this one if it has no pins, and either no passes, or one, which is adjacent to
-- one of this seat, and no stakes.
pub record MayJoin (seat other : SeatView) : Type 0 where
  pub pins : other.pins ≡ []
  pub passes : (other.passes ≡ []) ⊎ ((part : PassView) × (other.passes ≡ part ∷ []) × (other.stakes ≡ [])
      × (at : ℕ) × (p : PassView) × IsFirstAdjacent seat.passes part at p)

-- ---- its stakes

-- the number that a key has got or had
abbrev pub number_told : Interned → ℕ
number_told (Known n) = n
number_told (New n) = n

-- the stakes on the kids that are handed over: to a new node, whose kids they are from then on
abbrev pub handed_over : Interned → List Stake → List Stake
handed_over (Known n) kids = []
handed_over (New n) kids = kids

-- the stakes that come free: where the node of the tree goes, those on its kids
abbrev pub AreFreed : Tree → DroppedNode → List Stake → Type 0
AreFreed t dropped.Kept kids = kids ≡ []
AreFreed t (dropped.Removed key) kids = IsOverStakes t kids key

-- the trees that were published of a trace, in the order of its tracks
abbrev pub published_trees : List Entry → ℕ → List Tree
published_trees entries id = filter_map (λ track. option_map (λ (p : PublishedTree). p.tree)
    (published_of entries id track)) (range_with_len 0 (tracks_of entries id))

-- the stakes on the roots of a trace, which are given in the order of its tracks: each is on the tree that was
-- published
pub record AreRootStakes (entries : List Entry) (id : ℕ) (roots : List ℕ) (stakes : List Stake) : Type 0 where
  pub numbers : map (λ x. x.number) stakes ≡ roots
  pub trees : map (λ x. x.tree) stakes ≡ published_trees entries id

-- a seat like this one, where some stakes are exchanged for others
pub record Restaked (seat : SeatView) (taken given : List Stake) (after : SeatView) : Type 0 where
  pub stakes : List Stake
  pub exchanged : Exchanges seat.stakes stakes taken given
  pub now : after ≡ record seat { stakes = stakes }

-- ---- what becomes of it

-- the list without what is at this index
abbrev pub without_at : {X : Type 0} → ℕ → List X → List X
without_at i xs = take i xs ++ drop (i + 1) xs

-- the seat after it made an entry, which got this place
abbrev pub entered : ℕ → SeatView → SeatView
entered place s = record s { seen = place; places = s.places ++ place ∷ [] }

-- no entry is made, and the seat stays as it is
abbrev pub Keeps : SeatView → List Entry → SeatView → Type 0
Keeps seat entries after = (entries ≡ []) × (after ≡ seat)

-- one entry is made
abbrev pub Enters : Past → Entry → SeatView → List Entry → SeatView → Type 0
Enters past entry seat entries after = (entries ≡ entry ∷ []) × (after ≡ entered (next_place past) seat)

-- one entry is made, and stakes come free on the roots of a trace
abbrev pub EntersFreeing : Past → Entry → SeatView → (ℕ × List ℕ) → List Entry → SeatView → Type 0
EntersFreeing past entry seat (id, roots) entries after = (entries ≡ entry ∷ []) × (freed : List Stake)
    × AreRootStakes past.entries id roots freed
    × Restaked (entered (next_place past) seat) [] freed after

-- the next track of a pass is published with the stake on its root, which the seat had
pub record Publishes (past : Past) (seat : SeatView) (at start root : ℕ) (entries : List Entry)
    (after : SeatView) : Type 0 where
  pub pass : PassView
  pub there : slice_get seat.passes at ≡ Some pass
  pub track : ℕ
  pub straight : pass.state ≡ Straight track
  pub tree : Tree
  pub has : Contains seat.stakes (stake root tree)
  pub made : entries ≡ Published pass.id track (record { start = start; tree = tree }) ∷ []
  pub restaked : Restaked (entered (next_place past)
      (record seat { passes = slice_set seat.passes at (pass_after pass) })) (stake root tree ∷ []) [] after

-- what becomes of a seat whose trace's load is given up
abbrev pub AfterEnd : Past → ℕ → SeatView → RegEnd → List Entry → SeatView → Type 0
AfterEnd past id seat (end.Ended place roots) entries after =
    EntersFreeing past (Dropped id) seat (id, roots) entries after
AfterEnd past id seat (end.Kept place) entries after = Enters past (Dropped id) seat entries after

-- what becomes of a seat that asked
abbrev pub AfterAsk : Past → AskIds → SeatView → RegAsk → List Entry → SeatView → Type 0
AfterAsk past ids seat (ask.Pinned place) entries after =
    Enters past Asked (record seat { pins = seat.pins ++ record { ids = ids; place = place } ∷ [] }) entries after
AfterAsk past ids seat (ask.Unknown id next place) entries after = Enters past Asked seat entries after
AfterAsk past ids seat (ask.Spent p) entries after = Keeps seat entries after

-- the roots of each trace of a pin that came free, as stakes
pub record AreFreedStakes (entries : List Entry) (ids : AskIds) (freed : RegUnpin) (stakes : List Stake)
    : Type 0 where
  pub first : List Stake
  pub second : List Stake
  pub of_first : (roots : List ℕ) → freed.first ≡ Some roots → AreRootStakes entries (first_id ids) roots first
  pub of_second : (roots : List ℕ) → freed.second ≡ Some roots
      → AreRootStakes entries (second_id ids) roots second
  pub none_of_first : freed.first ≡ None → first ≡ []
  pub none_of_second : freed.second ≡ None → second ≡ []
  pub both : stakes ≡ first ++ second

-- what becomes of a seat that closed a trace
abbrev pub AfterClose : Past → ℕ → SeatView → RegClose → List Entry → SeatView → Type 0
AfterClose past id seat (close.Ended place roots) entries after =
    EntersFreeing past (Closed id) seat (id, roots) entries after
AfterClose past id seat (close.Kept place) entries after = Enters past (Closed id) seat entries after
AfterClose past id seat (close.Loading place) entries after = Enters past Asked seat entries after
AfterClose past id seat (close.Unknown next place) entries after = Enters past Asked seat entries after
AfterClose past id seat (close.Spent p) entries after = Keeps seat entries after

-- What becomes of a seat by its event and the answer, and which entries are made, given the history before.
abbrev pub Changes : Past → SeatView → HallEvent → StepAnswer → List Entry → SeatView → Type 0
Changes past seat (event.Intern key) (answer.Interned i) entries after = (entries ≡ []) × (t : Tree)
    × (kids : List Stake) × IsStakedTree seat.stakes key t kids
    × Restaked seat (handed_over i kids) (stake (number_told i) t ∷ []) after
Changes past seat (event.Intern key) (answer.Spent v) entries after = Keeps seat entries after
Changes past seat (event.Read of) a entries after = Keeps seat entries after
Changes past seat (event.Drop n) (answer.Dropped d) entries after = (entries ≡ []) × (x : Stake)
    × Contains seat.stakes x × (x.number ≡ n) × (kids : List Stake) × AreFreed x.tree d kids
    × Restaked seat (x ∷ []) kids after
Changes past seat (event.Admit info) (answer.Opened opened) entries after =
    Enters past (Opened opened.id (arc_value info))
    (record seat { passes = seat.passes ++ fresh_pass opened.id (arc_value info) ∷ [] }) entries after
Changes past seat (event.Admit info) (answer.Full place) entries after = Enters past Asked seat entries after
Changes past seat (event.Admit info) (answer.Spent p) entries after = Keeps seat entries after
Changes past seat (event.Publish at start root) (answer.Placed place) entries after =
    Publishes past seat at start root entries after
Changes past seat (event.Seal at) (answer.Placed place) entries after = (p : PassView)
    × (slice_get seat.passes at ≡ Some p)
    × Enters past (Sealed p.id) (record seat { passes = without_at at seat.passes }) entries after
Changes past seat (event.Abandon at) (answer.Ended ended) entries after = (p : PassView)
    × (slice_get seat.passes at ≡ Some p)
    × AfterEnd past p.id (record seat { passes = without_at at seat.passes }) ended entries after
Changes past seat (event.Ask ids) (answer.Asked asked) entries after =
    AfterAsk past ids seat asked entries after
Changes past seat (event.Unpin at) (answer.Unpinned freed) entries after = (entries ≡ []) × (p : PinView)
    × (slice_get seat.pins at ≡ Some p) × (stakes : List Stake)
    × AreFreedStakes past.entries p.ids freed stakes
    × Restaked (record seat { pins = without_at at seat.pins }) [] stakes after
Changes past seat (event.Close id) (answer.Closed closed) entries after =
    AfterClose past id seat closed entries after
Changes past seat event.List (answer.Listed listing) entries after = Enters past Asked seat entries after
Changes past seat event.List (answer.Spent p) entries after = Keeps seat entries after
Changes _ _ _ _ _ _ = ⊥

-- ---- two seats

-- the seat makes another one, which has seen as much, and gives it the back part of a pass, if any
abbrev pub Splits : SeatView → Option (ℕ × ℕ) → SeatView → SeatView → Type 0
Splits seat None left right = (left ≡ seat) × (right ≡ empty_seat seat.seen)
Splits seat (Some (at, cut)) left right = (p : PassView) × (slice_get seat.passes at ≡ Some p)
    × (left ≡ record seat { passes = slice_set seat.passes at (front_part p cut) })
    × (right ≡ record (empty_seat seat.seen) { passes = back_part p cut ∷ [] })

-- what becomes of the passes where the passes of another seat are put to them
abbrev pub JoinsPasses : List PassView → List PassView → List PassView → Type 0
JoinsPasses passes [] after = after ≡ passes
JoinsPasses passes (part ∷ []) after = (at : ℕ) × (p : PassView) × IsFirstAdjacent passes part at p
    × (after ≡ slice_set passes at (joined_pass p part))
JoinsPasses passes (part ∷ more ∷ rest) after = ⊥

-- The seat takes over the stakes and the places of another one, which rise again, and its pass. It has seen
-- what both had.
pub record Joins (seat other after : SeatView) : Type 0 where
  pub stakes : Exchanges seat.stakes after.stakes [] other.stakes
  pub pins : after.pins ≡ seat.pins
  pub passes : JoinsPasses seat.passes other.passes after.passes
  pub seen : after.seen ≡ max seat.seen other.seen
  pub rising : IsStrictlySortedBy nat_cmp after.places
  pub places : (k : ℕ) → count_by (λ place. place == k) after.places
      ≡ count_by (λ place. place == k) seat.places + count_by (λ place. place == k) other.places
  pub active : after.ended ≡ false
