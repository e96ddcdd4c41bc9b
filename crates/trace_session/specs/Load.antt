-- What publishing the tracks of a new trace leaves.
use Rattle.std.specs.Prelude.{◌≡◌, ℕ, List, [], ◌∷◌, ◌++◌, length, take, slice_get, Some, Result, Ok}
use Rattle.std.specs.Prelude.{Err}
use Rattle.trace_base.specs.Info.{Fits}
use Rattle.trace_base.specs.declared.names.TraceInfo.{TraceInfo}
use Rattle.trace_base.specs.declared.stream.TrackStream.{TrackStream}
use Rattle.hall_history.specs.History.{Entry, Sealed, Dropped, info_of}
use Rattle.hall_history.specs.Seat.{IsAtRest}
use Rattle.hall_trait.specs.View.{HallView}
use Rattle.hall_trait.specs.declared.answers.HallFault.{HallFault}
use Rattle.hall_trait.specs.declared.answers.HallFault.TheVariants as fault
use Rattle.session_proto.specs.declared.reply.No.TheVariants as no
use Rattle.session_proto.specs.declared.reply.Reply.{Reply}
use Rattle.session_proto.specs.declared.reply.Reply.TheVariants as reply
use Rattle.trace_session.specs.Served.{published_from}
use Rattle.trace_session.specs.Serving.{Grows}

-- each stream fits the track of its place
abbrev pub FitAll : TraceInfo → List TrackStream → Type 0
FitAll info tracks = (i : ℕ) (s : TrackStream) → slice_get tracks i ≡ Some s → Fits s info i

-- the trace was opened with an info that these streams are the tracks of
pub record AreTracksOf (entries : List Entry) (id : ℕ) (tracks : List TrackStream) : Type 0 where
  pub info : TraceInfo
  pub opened : info_of entries id ≡ Some info
  pub count : length info.names.tracks ≡ length tracks
  pub fit : FitAll info tracks

-- all tracks are published, and the trace is sealed at this place
pub record PublishesAll (old new : HallView) (id : ℕ) (tracks : List TrackStream) (place : ℕ) : Type 0 where
  pub before : List ℕ
  pub grows : Grows old.alone old.seat new.seat (before ++ place ∷ [])
      (published_from id 0 tracks ++ Sealed id ∷ [])
  pub rest : IsAtRest new.seat

-- the load is given up behind some of them
pub record GivesUp (old new : HallView) (id : ℕ) (tracks : List TrackStream) : Type 0 where
  pub count : ℕ
  pub block : List ℕ
  pub grows : Grows old.alone old.seat new.seat block
      (published_from id 0 (take count tracks) ++ Dropped id ∷ [])
  pub rest : IsAtRest new.seat

-- what publishing them answers
abbrev pub Publishes : HallView → HallView → ℕ → List TrackStream → Result ℕ HallFault → Type 0
Publishes old new id tracks (Ok place) = PublishesAll old new id tracks place
Publishes old new id tracks (Err e) = GivesUp old new id tracks

-- the reply to a load that the hall refused, at once or on the way
abbrev pub refusal_of : HallFault → Reply
refusal_of fault.Memory = reply.No no.Memory
refusal_of (fault.Spent n) = reply.No (no.Spent n)
refusal_of (fault.Full place) = reply.No (no.Full place)
