-- What a session did: the requests that it served, and what it wrote, read and left.
use Rattle.std.specs.Prelude.{◌≡◌, ◌≢◌, ℕ, ◌+◌, List, [], ◌∷◌, ◌++◌, length, map}
use Rattle.std.specs.Bool.{OnTrue}
use Rattle.std.specs.List.{AllByRecursion}
use Rattle.trace_base.specs.Outside.{Told}
use Rattle.hall_history.specs.History.{IsLegalHistory}
use Rattle.hall_history.specs.Seat.{Begins, IsAtRest}
use Rattle.session_proto.specs.Reply.{reply_text}
use Rattle.request_reader.specs.Requests.{WholeRequest, Requests, AfterQuit, Between, Inside}
use Rattle.request_reader.specs.Requests.{requests_of}
use Rattle.trace_session.specs.Output.{WritesFront}
use Rattle.trace_session.specs.Served.{Served, IsServed, Rise, TellsOfStore, blocks_of, output_of}
use Rattle.trace_session.specs.Served.{spent_numbers}
use Rattle.trace_session.specs.Serving.{GoesOnServing}
use Rattle.trace_session.specs.State.{SessionState}
use Rattle.trace_session.specs.declared.sessions.End.{End}
use Rattle.trace_session.specs.declared.sessions.End.TheVariants as ends

-- the requests that were served
abbrev pub requests_served : List Served → List WholeRequest
requests_served served = map (λ (x : Served). x.request) served

-- What was served is what the given bytes ask. At Quit the last request is QUIT; at Eof the bytes end between
-- two requests, and at Cut inside one. Where the source failed all whole requests were served, and where the
-- sink did, the first ones.
abbrev pub Answers : End → Requests → List Served → Type 0
Answers ends.Quit asked served = asked ≡ record { all = requests_served served; ending = AfterQuit }
Answers ends.Eof asked served = asked ≡ record { all = requests_served served; ending = Between }
Answers ends.Cut asked served = asked ≡ record { all = requests_served served; ending = Inside }
Answers ends.ReadFault asked served = (asked.all ≡ requests_served served) × (asked.ending ≢ AfterQuit)
Answers ends.WriteFault asked served = Begins (requests_served served) asked.all

-- nothing is left to read where the session ended with its source
abbrev pub LeavesNothing : End → List ℕ → Type 0
LeavesNothing ends.Eof now = now ≡ []
LeavesNothing ends.Cut now = now ≡ []
LeavesNothing end now = Unit {0}

-- the bytes that the source gave, and what was served of them
abbrev pub ReadsRequests : End → List ℕ → List ℕ → List Served → Type 0
ReadsRequests end was now served = (given : List ℕ) × (was ≡ given ++ now)
    × Answers end (requests_of given) served × LeavesNothing end now

-- All replies were written, one after another; where the sink failed, all but the last, and of that a front
-- alone.
abbrev pub WritesReplies : End → List ℕ → List ℕ → List Served → Type 0
WritesReplies ends.WriteFault was now served =
    (earlier : List Served) × (last : Served) × (served ≡ earlier ++ last ∷ [])
    × WritesFront (reply_text last.reply) (was ++ output_of earlier) now
WritesReplies end was now served = now ≡ was ++ output_of served

-- Each request came when the seat had seen so many entries: n of them at the first, and m behind the last.
-- The places of its block lie behind these and among those that were seen when the next one came.
abbrev pub ComeInOrder : ℕ → List Served → ℕ → Type 0
ComeInOrder n [] m = n ≡ m
ComeInOrder n (x ∷ served) m = (x.before ≡ n) × (after : ℕ) × Rise n x.block after
    × ComeInOrder after served m

-- A session, from old to new. Each request was served in the history that the seat has seen at its end, which
-- is legal. The seat's new places are the blocks in order and nothing else, and a seat that is alone saw no
-- entries but those. It is left at rest. The numbers that the hall told as used up are those that the replies
-- tell, in order. Where the hall tells its rooms, these say which numbers of the store are used up.
pub record IsSession (old new : SessionState) (end : End) : Type 0 where
  pub served : List Served
  pub each : AllByRecursion (IsServed old.hall.alone new.hall.seat.seen) served
  pub seen : Begins old.hall.seat.seen new.hall.seat.seen
  pub legal : IsLegalHistory new.hall.seat.seen
  pub order : ComeInOrder (length old.hall.seat.seen) served (length new.hall.seat.seen)
  pub places : new.hall.seat.places ≡ old.hall.seat.places ++ blocks_of served
  pub lone : OnTrue old.hall.alone
      (length new.hall.seat.seen ≡ length old.hall.seat.seen + length (blocks_of served))
  pub rest : IsAtRest new.hall.seat
  pub goes_on : GoesOnServing (spent_numbers served) old.hall new.hall
  pub of_store : AllByRecursion (λ (x : Served). TellsOfStore new.hall.rooms x.block x.reply) served
  pub input : Told old.left new.left (λ was now. ReadsRequests end was now served)
  pub output : Told old.held new.held (λ was now. WritesReplies end was now served)
