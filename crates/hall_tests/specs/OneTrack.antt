-- Loads of traces with one track, or two, which last half a second.
use Rattle.std.specs.Prelude.{◌≡◌, ℕ, ◌+◌, [], ◌∷◌, length, true}
use Rattle.trace_base.specs.declared.names.TraceInfo.{TraceInfo}
use Rattle.trace_base.specs.declared.stream.TrackStream.{TrackStream}
use Rattle.node_key.specs.Stakes.{Exchanges, stake}
use Rattle.node_key.specs.Trees.{tree}
use Rattle.hall_history.specs.Seat.{Seat}
use Rattle.hall_trait.specs.Answers.{CoversAll, IsRootOf, OpensTrace}
use Rattle.hall_trait.specs.Pass.{IsNext, pass_view}
use Rattle.hall_trait.specs.declared.pass.LoadPass.{LoadPass}

-- the trace has one track, and two functions
pub record HasOneTrack (info : TraceInfo) : Type 0 where
  pub tracks : info.names.tracks ≡ record { container = 0; kind = 0 } ∷ []
  pub containers : info.names.containers ≡ record { name = 48 ∷ []; start = 0; end = 500000000 } ∷ []
  pub functions : length info.names.functions ≡ 2

-- the trace has two tracks of one container, and two functions
pub record HasTwoTracks (info : TraceInfo) : Type 0 where
  pub tracks : info.names.tracks ≡ record { container = 0; kind = 0 }
      ∷ record { container = 0; kind = 1 } ∷ []
  pub containers : info.names.containers ≡ record { name = 48 ∷ []; start = 0; end = 500000000 } ∷ []
  pub functions : length info.names.functions ≡ 2

-- a trace of one track is opened with the pass
abbrev pub OpensOneTrack : Seat → Seat → LoadPass → Type 0
OpensOneTrack old new pass = (info : TraceInfo) × OpensTrace true old new info pass × HasOneTrack info

-- The seat has this pass, whose last track comes next, and a stake on the root of a tree that fits that
-- track, and nothing else.
pub record HasLoadAlone (seat : Seat) (pass : LoadPass) (n : ℕ) : Type 0 where
  pub stream : TrackStream
  pub track : ℕ
  pub next : IsNext pass track
  pub last : pass.to ≡ track + 1
  pub covers : CoversAll seat.seen pass
  pub root : IsRootOf seat pass.id track 0 n stream
  pub stakes : Exchanges [] seat.stakes [] (stake n (tree stream) ∷ [])
  pub passes : seat.passes ≡ pass_view pass ∷ []
  pub pins : seat.pins ≡ []
