-- What a profile of streams is, whatever kind it is of: flat, or by call paths. Intervals are half-open, in
-- nanoseconds.
use Rattle.std.specs.Prelude.{◌≡◌, ◌⊎◌, ℕ, ◌+◌, ◌-◌, ◌<◌, ◌≤◌, Bool, List, [], ◌∷◌, map, max, min}
use Rattle.node_key.specs.Events.{stream_from}
use Rattle.node_key.specs.Tree.{Tree}
use Rattle.profile_laws.specs.Parts.{IsTimed, parts}
use Rattle.profile_laws.specs.Sizes.{FitTogether}
use Rattle.profile_laws.specs.Streams.{idle, joined, later}
use Rattle.profile_math.specs.Laws.{IsComplete}
use Rattle.trace_base.specs.Flat.{is_within, time_with}
use Rattle.trace_base.specs.declared.stream.TrackStream.{TrackStream}

-- what is made of streams over an interval
abbrev pub ProfileOf : Type 0 → Type 0
ProfileOf X = List TrackStream → ℕ → ℕ → X

-- ---- of streams

-- a stream that is two streams, one behind the other, has the profile of the two
abbrev pub OfJoined : {X : Type 0} → ProfileOf X → Type 0
OfJoined profile = (s t : TrackStream) (more : List TrackStream) (a b : ℕ) → IsComplete s → IsComplete t
    → s.end ≡ t.start → profile (joined s t ∷ more) a b ≡ profile (s ∷ t ∷ more) a b

-- a profile moves in time with its streams
abbrev pub OfLater : {X : Type 0} → ProfileOf X → Type 0
OfLater profile = (streams : List TrackStream) (d a b : ℕ)
    → profile (map (later d) streams) (a + d) (b + d) ≡ profile streams a b

-- over an interval that encloses the whole stream, the profile is that of the whole stream
abbrev pub OfEnclosed : {X : Type 0} → ProfileOf X → Type 0
OfEnclosed profile = (s : TrackStream) (a b : ℕ) → IsComplete s → a ≤ s.start → s.end < b
    → profile (s ∷ []) a b ≡ profile (s ∷ []) s.start (s.end + 1)

-- a stream that begins at the end of the interval or behind it, or that ends before it begins, adds nothing
abbrev pub OfOutside : {X : Type 0} → ProfileOf X → Type 0
OfOutside profile = (s : TrackStream) (more : List TrackStream) (a b : ℕ) → IsComplete s
    → (s.end < a) ⊎ (b ≤ s.start) → profile (s ∷ more) a b ≡ profile more a b

-- a stream without events has the time that it has in common with the interval, in which no call is open
abbrev pub OfIdle : {X : Type 0} → ProfileOf X → (ℕ → X) → Type 0
OfIdle profile bare = (from to a b : ℕ) → profile (idle from to ∷ []) a b ≡ bare (min to b - max from a)

-- the numbers of a profile fit where the streams are complete and neither last too long nor have too many
-- calls
abbrev pub OfFitting : {X : Type 0} → ProfileOf X → (X → Type 0) → Type 0
OfFitting profile fits = (streams : List TrackStream) (a b : ℕ) → FitTogether streams
    → fits (profile streams a b)

-- A stream that ends where the interval begins, or before, has no time in it, whatever calls are asked for. A
-- call that takes no time may begin at its end.
abbrev pub HasNoTimeBefore : Type 0
HasNoTimeBefore = (has : List ℕ → Bool) (s : TrackStream) (a b : ℕ) → IsComplete s → s.end ≤ a
    → time_with has a b s ≡ 0

-- A stream that begins and ends within the interval, or where it begins or ends, has all its time in it. A
-- call that takes no time may begin at its end.
abbrev pub HasAllTimeWithin : Type 0
HasAllTimeWithin = (has : List ℕ → Bool) (s : TrackStream) (a b : ℕ) → IsComplete s → a ≤ s.start
    → s.end ≤ b → time_with has a b s ≡ time_with has s.start (s.end + 1) s

-- ---- of trees

-- the profile of a group is the sum of those of its kids and of the time in which no kid runs
abbrev pub OfGroup : {X : Type 0} → ProfileOf X → Type 0
OfGroup profile = (t : Tree) (at a b : ℕ) → IsTimed t → t.func ≡ 0
    → profile (stream_from t at ∷ []) a b ≡ profile (parts t at) a b

-- That of a call is the closing of this sum. The call counts where it begins within the interval.
abbrev pub OfCall : {X : Type 0} → ProfileOf X → (ℕ → Bool → X → X) → Type 0
OfCall profile closing = (t : Tree) (at a b : ℕ) → IsTimed t → 1 ≤ t.func
    → profile (stream_from t at ∷ []) a b ≡ closing t.func (is_within a b at) (profile (parts t at) a b)

-- a tree that begins within the interval and ends before it does has its whole profile there, wherever it
-- begins
abbrev pub OfInside : {X : Type 0} → ProfileOf X → (Tree → X) → Type 0
OfInside profile whole = (t : Tree) (at a b : ℕ) → IsTimed t → a ≤ at → at + t.dur < b
    → profile (stream_from t at ∷ []) a b ≡ whole t
