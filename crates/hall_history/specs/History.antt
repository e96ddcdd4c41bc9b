-- The history of a hall: the list of its entries. The k-th entry has place k, counted from 1. What is open,
-- loading or published after some entries are filters over them.
use Rattle.std.specs.Prelude.{◌≡◌, ℕ, ◌+◌, ◌-◌, ◌<◌, Bool, false, not, if◌then◌else◌, ◌&&◌, ◌==◌, List}
use Rattle.std.specs.Prelude.{length, take, filter, sum_by, slice_get, Option, None, Some, IsTrue, IsSome}
use Rattle.std.specs.List.{list_any, filter_map}
use Rattle.std.specs.Option.{option_map, option_map_or}
use Rattle.trace_base.specs.Info.{IsLegalInfo, Fits}
use Rattle.trace_base.specs.declared.limits.TheConstants.{MAX_OPEN_TRACES}
use Rattle.trace_base.specs.declared.names.TraceInfo.{TraceInfo}
use Rattle.trace_base.specs.declared.stream.TrackStream.{TrackStream}
use Rattle.node_key.specs.Tree.{Tree}
use Rattle.node_key.specs.Trees.{tree}
use Rattle.node_key.specs.Events.{stream_from}

-- A trace was opened with these names and messages, this was published as a track of it, all of it was
-- sealed, its loading was dropped, it was closed, or a seat asked, which carries nothing.
pub data EntryOf (X : Type 0) : Type 0 where
  Opened : (id : ℕ) (info : TraceInfo) → EntryOf X
  Published : (id track : ℕ) (what : X) → EntryOf X
  Sealed : (id : ℕ) → EntryOf X
  Dropped : (id : ℕ) → EntryOf X
  Closed : (id : ℕ) → EntryOf X
  Asked : EntryOf X

-- what is published of a track: when it starts, in nanoseconds, and its tree
pub record PublishedTree : Type 0 where
  pub start : ℕ
  pub tree : Tree

abbrev pub Entry : Type 0
Entry = EntryOf PublishedTree

-- ---- what an entry does

-- the id of a trace that the entry opens
abbrev pub opened_id : {X : Type 0} → EntryOf X → Option ℕ
opened_id (Opened id info) = Some id
opened_id (Published id track what) = None
opened_id (Sealed id) = None
opened_id (Dropped id) = None
opened_id (Closed id) = None
opened_id Asked = None

-- what the entry opens the trace with
abbrev pub info_opened : {X : Type 0} → ℕ → EntryOf X → Option TraceInfo
info_opened id (Opened other info) = if other == id then Some info else None
info_opened id (Published other track what) = None
info_opened id (Sealed other) = None
info_opened id (Dropped other) = None
info_opened id (Closed other) = None
info_opened id Asked = None

-- what the entry publishes as this track of the trace
abbrev pub published_as : {X : Type 0} → ℕ → ℕ → EntryOf X → Option X
published_as id track (Published other which what) = if other == id && which == track then Some what else None
published_as id track (Opened other info) = None
published_as id track (Sealed other) = None
published_as id track (Dropped other) = None
published_as id track (Closed other) = None
published_as id track Asked = None

-- whether the entry publishes a track of the trace
abbrev pub publishes : {X : Type 0} → ℕ → EntryOf X → Bool
publishes id (Published other track what) = other == id
publishes id (Opened other info) = false
publishes id (Sealed other) = false
publishes id (Dropped other) = false
publishes id (Closed other) = false
publishes id Asked = false

-- whether the entry seals the trace
abbrev pub seals : {X : Type 0} → ℕ → EntryOf X → Bool
seals id (Sealed other) = other == id
seals id (Opened other info) = false
seals id (Published other track what) = false
seals id (Dropped other) = false
seals id (Closed other) = false
seals id Asked = false

-- whether the entry ends the trace
abbrev pub ends : {X : Type 0} → ℕ → EntryOf X → Bool
ends id (Dropped other) = other == id
ends id (Closed other) = other == id
ends id (Opened other info) = false
ends id (Published other track what) = false
ends id (Sealed other) = false
ends id Asked = false

-- ---- what is so after some entries, whatever is published

-- the ids of all traces that were opened, in order
unfoldable pub opened_ids : {X : Type 0} → List (EntryOf X) → List ℕ
opened_ids entries = filter_map opened_id entries

-- the id that the next trace gets
abbrev pub next_id : {X : Type 0} → List (EntryOf X) → ℕ
next_id entries = length (opened_ids entries) + 1

-- what the trace was opened with
unfoldable pub info_of : {X : Type 0} → List (EntryOf X) → ℕ → Option TraceInfo
info_of entries id = slice_get (filter_map (info_opened id) entries) 0

-- what was published as this track of the trace, whatever became of the trace
unfoldable pub published_of : {X : Type 0} → List (EntryOf X) → ℕ → ℕ → Option X
published_of entries id track = slice_get (filter_map (published_as id track) entries) 0

-- whether the trace is open: it was opened, and neither dropped nor closed
unfoldable pub is_open : {X : Type 0} → List (EntryOf X) → ℕ → Bool
is_open entries id = list_any (λ other. other == id) (opened_ids entries) && not (list_any (ends id) entries)

-- whether the trace is loading: open, and not yet sealed
unfoldable pub is_loading : {X : Type 0} → List (EntryOf X) → ℕ → Bool
is_loading entries id = is_open entries id && not (list_any (seals id) entries)

-- the ids of the open traces, in order
unfoldable pub open_ids : {X : Type 0} → List (EntryOf X) → List ℕ
open_ids entries = filter (is_open entries) (opened_ids entries)

-- the number of the trace's tracks
abbrev pub tracks_of : {X : Type 0} → List (EntryOf X) → ℕ → ℕ
tracks_of entries id = option_map_or (λ (info : TraceInfo). length info.names.tracks) (info_of entries id) 0

-- how many tracks of the trace were published
unfoldable pub published_count : {X : Type 0} → List (EntryOf X) → ℕ → ℕ
published_count entries id = length (filter (publishes id) entries)

-- the places that are promised to loading traces: one a track that isn't published yet, and one for the seal
unfoldable pub promised : {X : Type 0} → List (EntryOf X) → ℕ
promised entries = sum_by (λ id. tracks_of entries id - published_count entries id + 1)
    (filter (is_loading entries) (opened_ids entries))

-- the stream may be published as this track of the trace
abbrev pub FitsTrack : {X : Type 0} → List (EntryOf X) → ℕ → ℕ → TrackStream → Type 0
FitsTrack entries id track s = (info : TraceInfo) × (info_of entries id ≡ Some info)
    × (track < length info.names.tracks) × Fits s info track

-- ---- trees and streams

-- what is published of a stream
abbrev pub published_tree : TrackStream → PublishedTree
published_tree s = record { start = s.start; tree = tree s }

-- the stream that was published; it is read off the start and the tree
abbrev pub stream_published : PublishedTree → TrackStream
stream_published p = stream_from p.tree p.start

-- the stream that was published as this track of the trace, whatever became of the trace
unfoldable pub stream_of : List Entry → ℕ → ℕ → Option TrackStream
stream_of entries id track = option_map stream_published (published_of entries id track)

-- this may be published as this track of the trace: it is the start and the tree of a stream that fits
abbrev pub IsTrackTree : {X : Type 0} → List (EntryOf X) → ℕ → ℕ → PublishedTree → Type 0
IsTrackTree entries id track p = (s : TrackStream) × FitsTrack entries id track s × (p ≡ published_tree s)

-- ---- legal histories

-- Whether an entry may come after these. Ids are given in order, and at most MAX_OPEN_TRACES are open at
-- once. A track is published once, while its trace is loading, as the tree of a stream that fits it. A trace
-- is sealed when all its tracks are published. A loading trace may be dropped, and a sealed one closed.
abbrev pub MayFollow : List Entry → Entry → Type 0
MayFollow entries (Opened id info) = (id ≡ next_id entries) × IsLegalInfo info
    × (length (open_ids entries) < MAX_OPEN_TRACES)
MayFollow entries (Published id track p) =
    IsTrue (is_loading entries id) × (published_of entries id track ≡ None) × IsTrackTree entries id track p
MayFollow entries (Sealed id) = IsTrue (is_loading entries id)
    × ((track : ℕ) → track < tracks_of entries id → IsSome (published_of entries id track))
MayFollow entries (Dropped id) = IsTrue (is_loading entries id)
MayFollow entries (Closed id) = IsTrue (is_open entries id) × (is_loading entries id ≡ false)
MayFollow entries Asked = Unit {0}

-- a legal history: each entry may come after those before it
abbrev pub IsLegalHistory : List Entry → Type 0
IsLegalHistory entries = (k : ℕ) (e : Entry) → slice_get entries k ≡ Some e → MayFollow (take k entries) e
