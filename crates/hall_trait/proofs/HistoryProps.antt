-- A history is legal in at most one way, so that a ghost field can keep that it is.
use Rattle.std.specs.Prelude.{◌≡◌, ℕ, ◌<◌, List, length, slice_get, Some}
use Rattle.std.specs.Coded.{Coded, code_by, coded×, coded_ℕ}
use Rattle.std.proofs.Common.{refl, sym, ap, ◌∙◌}
use Rattle.std.proofs.Props.{props}
use base.Stored.{Coded-set}
use mathlib.Core.HLevel.{is_prop→PathP}
use Rattle.trace_base.specs.Info.{IsLegalInfo, Fits, Spans}
use Rattle.trace_base.specs.Stream.{IsLegal}
use Rattle.trace_base.specs.declared.names.TraceInfo.{TraceInfo}
use Rattle.trace_base.specs.declared.names.Container.{Container}
use Rattle.trace_base.specs.declared.names.Track.{Track}
use Rattle.trace_base.specs.declared.stream.TrackStream.{TrackStream}
use Rattle.trace_base.specs.contracts.names.Container as container
use Rattle.trace_base.specs.contracts.names.Track as track
use Rattle.trace_base.specs.contracts.names.TraceInfo as info
use Rattle.hall_history.specs.History.{Entry, EntryOf, Opened, Published, Sealed, Dropped, Closed, Asked}
use Rattle.hall_history.specs.History.{FitsTrack, IsTrackTree, MayFollow, IsLegalHistory, PublishedTree}
use Rattle.hall_history.specs.History.{info_of, published_tree, stream_published}
use Rattle.node_key.specs.Tree.{Tree, tree_code}
use Rattle.hall_trait.proofs.PublishedStreams.{stream_read_back}

Container-set : IsSet Container
Container-set = Coded-set container.the_row.coded

Track-set : IsSet Track
Track-set = Coded-set track.the_row.coded

pub TraceInfo-set : IsSet TraceInfo
TraceInfo-set = Coded-set info.the_row.coded

-- what is published is stored as a pair
published_code : Coded PublishedTree
published_code = code_by (ℕ × Tree) (coded× coded_ℕ tree_code) (λ p. (p.start, p.tree))
    (λ q. record { start = q.0; tree = q.1 }) (λ _. refl)

pub PublishedTree-set : IsSet PublishedTree
PublishedTree-set = Coded-set published_code

IsLegalInfo-prop : (i : TraceInfo) → IsProp (IsLegalInfo i)
IsLegalInfo-prop i = hlevel props

IsLegal-prop : (s : TrackStream) → IsProp (IsLegal s)
IsLegal-prop s = hlevel props

Interval : TrackStream → TraceInfo → ℕ → Type 0
Interval s info track = (t : Track) × (c : Container) × (slice_get info.names.tracks track ≡ Some t)
    × (slice_get info.names.containers t.container ≡ Some c) × Spans s c

Interval-prop : (s : TrackStream) (info : TraceInfo) (track : ℕ) → IsProp (Interval s info track)
unfolding Interval
Interval-prop s info track u v =
    let same_track : u.0 ≡ v.0 = cc in
    let same_container : u.1 ≡ v.1 = cc in
    λ i. (
      same_track i,
      same_container i,
      is_prop→PathP (λ i. slice_get info.names.tracks track ≡ Some (same_track i))
          (λ i. hlevel (props, Track-set)) u.2 v.2 i,
      is_prop→PathP (λ i. slice_get info.names.containers (same_track i).container ≡ Some (same_container i))
          (λ i. hlevel (props, Container-set)) u.3 v.3 i,
      is_prop→PathP (λ i. Spans s (same_container i)) (λ i. hlevel props) u.4 v.4 i,
    )

Fits-prop : (s : TrackStream) (info : TraceInfo) (track : ℕ) → IsProp (Fits s info track)
unfolding Interval
Fits-prop s info track = hlevel (props, IsLegal-prop, Interval-prop s info track)

MayBeTrack : {X : Type 0} → List (EntryOf X) → ℕ → ℕ → TrackStream → Type 0
MayBeTrack entries id track s = FitsTrack entries id track s

MayBeTrack-prop : {X : Type 0} (entries : List (EntryOf X)) (id track : ℕ) (s : TrackStream)
    → IsProp (MayBeTrack entries id track s)
unfolding MayBeTrack
MayBeTrack-prop entries id track s u v =
    let same_info : u.0 ≡ v.0 = cc in
    λ i. (
      same_info i,
      is_prop→PathP (λ i. info_of entries id ≡ Some (same_info i)) (λ i. hlevel (props, TraceInfo-set)) u.1
          v.1 i,
      is_prop→PathP (λ i. track < length (same_info i).names.tracks) (λ i. hlevel props) u.2 v.2 i,
      is_prop→PathP (λ i. Fits s (same_info i) track) (λ i. Fits-prop s (same_info i) track) u.3 v.3 i,
    )

-- what is published is the tree of one stream that fits
IsTrackTree-prop : {X : Type 0} (entries : List (EntryOf X)) (id track : ℕ) (p : PublishedTree)
    → IsProp (IsTrackTree entries id track p)
unfolding MayBeTrack
IsTrackTree-prop entries id track p u v =
    let back = λ (w : IsTrackTree entries id track p). stream_read_back w.0 w.1.3.legal in
    let same : u.0 ≡ v.0 = sym (back u) ∙ ap stream_published (sym u.2 ∙ v.2) ∙ back v in
    λ i. (
      same i,
      is_prop→PathP (λ i. MayBeTrack entries id track (same i))
          (λ i. MayBeTrack-prop entries id track (same i)) u.1 v.1 i,
      is_prop→PathP (λ i. p ≡ published_tree (same i)) (λ i. hlevel (props, PublishedTree-set)) u.2 v.2 i,
    )

MayFollow-prop : (entries : List Entry) (e : Entry) → IsProp (MayFollow entries e)
unfolding MayBeTrack
MayFollow-prop entries (Opened id info) = hlevel (props, IsLegalInfo-prop)
MayFollow-prop entries (Published id track p) =
    hlevel (props, PublishedTree-set, IsTrackTree-prop entries id track p)
MayFollow-prop entries (Sealed id) = hlevel props
MayFollow-prop entries (Dropped id) = hlevel props
MayFollow-prop entries (Closed id) = hlevel props
MayFollow-prop entries Asked = hlevel

pub IsLegalHistory-prop : (entries : List Entry) → IsProp (IsLegalHistory entries)
IsLegalHistory-prop entries = hlevel MayFollow-prop
