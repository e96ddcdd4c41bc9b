-- One step of a session: a request is read and answered, or the session ends.
use Rattle.std.specs.Prelude.{◌≡◌, ◌≢◌, ℕ, List, [], ◌++◌, Option, None, Some}
use Rattle.trace_base.specs.Outside.{Told}
use Rattle.session_proto.specs.Reply.{reply_text}
use Rattle.session_proto.specs.declared.reply.Reply.{Reply}
use Rattle.session_proto.specs.declared.request.Request.TheVariants as line
use Rattle.request_reader.specs.Incoming.{Spells, Takes}
use Rattle.request_reader.specs.Requests.{WholeRequest, Line, first_request}
use Rattle.request_reader.specs.declared.incoming.Incoming.{Incoming}
use Rattle.request_reader.specs.declared.incoming.Incoming.TheVariants as incoming
use Rattle.request_reader.specs.declared.incoming.InputEnd.{InputEnd}
use Rattle.request_reader.specs.declared.incoming.InputEnd.TheVariants as inputs
use Rattle.trace_session.specs.Output.{WritesFront}
use Rattle.trace_session.specs.Serving.{Serves}
use Rattle.trace_session.specs.State.{SessionState}
use Rattle.trace_session.specs.declared.sessions.End.{End}
use Rattle.trace_session.specs.declared.sessions.End.TheVariants as ends

-- the text was written, or a front of it where the sink failed
abbrev pub WritesText : Option End → List ℕ → List ℕ → List ℕ → Type 0
WritesText (Some ends.WriteFault) text was now = WritesFront text was now
WritesText result text was now = now ≡ was ++ text

-- behind a request the session goes on, or it ends behind QUIT, or where the sink failed
abbrev pub EndsBehind : WholeRequest → Option End → Type 0
EndsBehind request None = request ≢ Line line.Quit
EndsBehind request (Some ends.Quit) = request ≡ Line line.Quit
EndsBehind request (Some ends.WriteFault) = Unit {0}
EndsBehind request (Some end) = ⊥

-- The request was served, and its reply written. What is left to read doesn't matter.
pub record AnswersOne (old new : SessionState) (request : WholeRequest) (result : Option End) : Type 0 where
  pub reply : Reply
  pub serves : Serves old.hall new.hall request reply
  pub written : Told old.held new.held (λ was now. WritesText result (reply_text reply) was now)
  pub ends : EndsBehind request result

-- A request was taken from what was left to read, and answered.
pub record TakesOne (old new : SessionState) (result : Option End) : Type 0 where
  pub request : WholeRequest
  pub taken : Takes old.left new.left (λ bytes. Spells bytes request)
  pub answers : AnswersOne old new request result

-- Nothing was served, and nothing written: the bytes taken hold no whole request.
pub record TakesNone (old new : SessionState) (P : List ℕ → List ℕ → Type 0) : Type 0 where
  pub hall : new.hall ≡ old.hall
  pub held : new.held ≡ old.held
  pub taken : Told old.left new.left (λ was now. (bytes : List ℕ) × (was ≡ bytes ++ now)
      × (first_request bytes ≡ None) × P bytes now)

-- What a step does, by its result. `pending` is what of the bytes that are left to read waits in the buffer.
abbrev pub Steps : SessionState → SessionState → List ℕ → Option End → Type 0
Steps old new pending (Some ends.Eof) =
    TakesNone old new (λ bytes now. (bytes ≡ []) × (now ≡ [])) × (pending ≡ [])
Steps old new pending (Some ends.Cut) =
    TakesNone old new (λ bytes now. (bytes ≢ []) × (now ≡ [])) × (pending ≡ [])
Steps old new pending (Some ends.ReadFault) =
    TakesNone old new (λ bytes now. Unit {0}) × (pending ≡ [])
Steps old new pending result = TakesOne old new result

-- what came is the last request, or it isn't
abbrev pub EndsWith : Incoming → Option End → Type 0
EndsWith i None = i ≢ incoming.Line line.Quit
EndsWith i (Some ends.Quit) = i ≡ incoming.Line line.Quit
EndsWith i (Some end) = ⊥

-- the end of the session at the end of its input
abbrev pub end_at : InputEnd → End
end_at inputs.End = ends.Eof
end_at inputs.Cut = ends.Cut
end_at inputs.Failed = ends.ReadFault
