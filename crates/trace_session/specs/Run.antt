-- What a run of the program does.
use Rattle.std.specs.Prelude.{◌≡◌, ◌⊎◌, ℕ, List, ◌∷◌, ◌++◌, [], codes, Option}
use Rattle.trace_base.specs.Outside.{Rose, Told}
use Rattle.hall_history.specs.Left.{left_of}
use Rattle.hall_history.specs.declared.left.Left.{Left}
use Rattle.session_proto.specs.Reply.{spaced}
use Rattle.hall_trait.specs.View.{HallView}
use Rattle.plain_hall.specs.PlainHall.{view_at_first}
use Rattle.trace_session.specs.Output.{WritesFront}
use Rattle.trace_session.specs.Session.{IsSession}
use Rattle.trace_session.specs.declared.sessions.End.{End}
use Rattle.trace_session.specs.declared.sessions.End.TheVariants as ends

-- the line that tells the words
abbrev pub usage_text : List ℕ
usage_text = codes "usage: cccgd batch, cccgd serve <addr> <workers> <each>, cccgd gen <seed> <size>\n"

-- the line that tells what is left of the loads: how many traces are open, and how many different subtrees
-- their trees have
abbrev pub left_text : Left → List ℕ
left_text left = codes "LEFT" ++ spaced left.traces ++ spaced left.nodes ++ 10 ∷ []

-- the exit status for the end of a session behind which all was written
abbrev pub status_of : End → ℕ
status_of ends.Quit = 0
status_of ends.Eof = 0
status_of ends.Cut = 6
status_of ends.ReadFault = 3
status_of ends.WriteFault = 3

-- what a source tells: the bytes that are left to read, and how often it failed
pub record SourceState : Type 0 where
  pub left : Option (List ℕ)
  pub faults : ℕ

-- what a sink tells: the bytes that it holds, and how often it failed
pub record SinkState : Type 0 where
  pub held : Option (List ℕ)
  pub faults : ℕ

-- a session ends by a fault only where that object's own count of faults rose in it
abbrev pub EndsByCause : End → SourceState → SourceState → SinkState → SinkState → Type 0
EndsByCause ends.ReadFault source source' sink sink' = Rose source.faults source'.faults
EndsByCause ends.WriteFault source source' sink sink' = Rose sink.faults sink'.faults
EndsByCause end source source' sink sink' = Unit {0}

-- What is written behind a session, and the status: the line that tells what is left. Where the sink failed
-- in the session nothing is, and where its count of faults rises then, a front of the line alone.
abbrev pub TellsLeft : End → Left → SinkState → SinkState → ℕ → Type 0
TellsLeft ends.WriteFault left sink sink' status = (sink' ≡ sink) × (status ≡ 3)
TellsLeft end left sink sink' status =
    (Told sink.held sink'.held (λ was now. now ≡ was ++ left_text left) × (status ≡ status_of end))
    ⊎ (Told sink.held sink'.held (WritesFront (left_text left)) × Rose sink.faults sink'.faults
    × (status ≡ 3))

-- One session over a new hall that no one else acts in; then what is left of its loads is told. `ended` is
-- what the hall tells at the end, and `middle` what the sink tells behind the session.
abbrev pub RunsBatch : SourceState → SourceState → SinkState → SinkState → ℕ → Type 0
RunsBatch source source' sink sink' status =
    (end : End) × (ended : HallView) × (middle : SinkState)
    × IsSession (record { hall = view_at_first 0; left = source.left; held = sink.held })
    (record { hall = ended; left = source'.left; held = middle.held }) end
    × EndsByCause end source source' sink middle × TellsLeft end (left_of ended.seat.seen) middle sink' status
