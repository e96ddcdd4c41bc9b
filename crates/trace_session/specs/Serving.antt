-- How serving a request changes what it is served from.
use Rattle.std.specs.Prelude.{◌≡◌, ℕ, Bool, List, ◌++◌, length, option_to_list}
use Rattle.std.specs.Bool.{OnTrue}
use Rattle.std.specs.Option.{option_map}
use Rattle.hall_history.specs.History.{Entry}
use Rattle.hall_history.specs.Seat.{Seat, Begins, IsAtRest}
use Rattle.session_proto.specs.declared.reply.Reply.{Reply}
use Rattle.request_reader.specs.Requests.{WholeRequest}
use Rattle.hall_trait.specs.View.{Account, GoesOn, HallView, with_account, with_memo}
use Rattle.trace_session.specs.Served.{AreAt, Rise, IsAnswered, TellsOfStore, standing, spent_number}

-- The seat made these entries, at the places of the block, which rise behind what it had seen, and no others.
-- A seat that is alone saw no others either.
pub record Grows (alone : Bool) (old new : Seat) (block : List ℕ) (entries : List Entry) : Type 0 where
  pub at : AreAt new.seen block entries
  pub rises : Rise (length old.seen) block (length new.seen)
  pub places : new.places ≡ old.places ++ block
  pub seen : Begins old.seen new.seen
  pub lone : OnTrue alone (new.seen ≡ old.seen ++ entries)

-- so many more numbers were told as used up
abbrev pub with_numbers : List ℕ → Account → Account
with_numbers ns a = record a { used_up = option_map (λ (was : List ℕ). was ++ ns) a.used_up }

-- All that the hall tells beside the seat goes on. These numbers were told as used up; work was done, nodes were
-- read, and profiles looked up and filled in, or none.
abbrev pub GoesOnServing : List ℕ → HallView → HallView → Type 0
GoesOnServing ns from to = GoesOn (with_memo to.memo (with_account (λ a. record (with_numbers ns a) {
  work = to.account.work;
  missed = to.account.missed;
  reads = to.account.reads;
  fills = to.account.fills;
}) from)) to

-- The request was served with this reply, and the seat is at rest again. The numbers that the hall told as
-- used up are those that the reply tells.
pub record Serves (old new : HallView) (request : WholeRequest) (reply : Reply) : Type 0 where
  pub block : List ℕ
  pub entries : List Entry
  pub grows : Grows old.alone old.seat new.seat block entries
  pub answered : IsAnswered (standing old.alone new.seat.seen (length old.seat.seen) block) request reply
      entries
  pub rest : IsAtRest new.seat
  pub goes_on : GoesOnServing (option_to_list (spent_number reply)) old new
  pub of_store : TellsOfStore new.rooms block reply
