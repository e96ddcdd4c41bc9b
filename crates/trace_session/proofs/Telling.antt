-- What objects of the outside tell, from one state to the next; and which reply is told.
use Rattle.std.proofs.Common.{length, ◌≡◌, ℕ, false, List, Option, None}
use Rattle.std.proofs.Common.{option_to_list, refl, subst, inl, inr}
use Rattle.hall_history.specs.History.{Entry}
use Rattle.hall_trait.specs.View.{HallView}
use Rattle.session_proto.specs.Reply.{is_short, is_short_refusal}
use Rattle.session_proto.specs.declared.reply.NamedRow.{NamedRow}
use Rattle.session_proto.specs.declared.reply.No.{No}
use Rattle.session_proto.specs.declared.reply.No.TheVariants as no
use Rattle.session_proto.specs.declared.reply.Reply.{Reply}
use Rattle.session_proto.specs.declared.reply.Reply.TheVariants as reply
use Rattle.session_proto.specs.declared.request.Request.TheVariants as line
use Rattle.session_proto.specs.declared.request.Sel.TheVariants.{All}
use Rattle.request_reader.specs.Requests.{WholeRequest, Line, Load}
use Rattle.trace_session.specs.Served.{Standing, standing, IsAnswered, spent_number}
use Rattle.trace_session.specs.Serving.{GoesOnServing, Serves}

-- a profile that was answered may be told as want of memory
flat_untold : (s : Standing) (request : WholeRequest) (over : ℕ) (bare : ℕ) (rows : List NamedRow) (place : ℕ)
    (entries : List Entry) → IsAnswered s request (reply.Flat over bare rows place) entries
    → IsAnswered s request (reply.No no.Memory) entries
flat_untold s (Line (line.Flat id All a b)) over bare rows place entries own = inr own.0
flat_untold s request over bare rows place entries own = absurd own

-- so may a line that is refused
refusal_untold : (s : Standing) (request : WholeRequest) (n : No) (entries : List Entry)
    → is_short_refusal n ≡ false → IsAnswered s request (reply.No n) entries
    → IsAnswered s request (reply.No no.Memory) entries
refusal_untold s (Load text) (no.Text at word) entries long own = inl own.4
refusal_untold s (Line (line.Put len)) (no.Text at word) entries long own = absurd own
refusal_untold s (Line (line.Flat id All a b)) (no.Text at word) entries long own = absurd own
refusal_untold s (Line line.Quit) (no.Text at word) entries long own = absurd own
refusal_untold s request (no.Text at word) entries long own = absurd own
refusal_untold s request n entries long own = absurd (cc)

long_refusal : (n : No) → is_short_refusal n ≡ false → spent_number (reply.No n) ≡ None
long_refusal (no.Text at word) long = refl
long_refusal n long = absurd (cc)

-- only a profile and a line that is refused may be long
untold : (s : Standing) (request : WholeRequest) (r : Reply) (entries : List Entry) → is_short r ≡ false
    → IsAnswered s request r entries → IsAnswered s request (reply.No no.Memory) entries
untold s request (reply.Flat over bare rows place) entries long own =
    flat_untold s request over bare rows place entries own
untold s request (reply.Put id tracks functions messages place) entries long own = absurd (cc)
untold s request reply.Quit entries long own = absurd (cc)
untold s request (reply.No n) entries long own = refusal_untold s request n entries long own

long_number : (r : Reply) → is_short r ≡ false → spent_number r ≡ None
long_number (reply.Flat over bare rows place) long = refl
long_number (reply.Put id tracks functions messages place) long = absurd (cc)
long_number reply.Quit long = absurd (cc)
long_number (reply.No n) long = long_refusal n long

-- a profile is told as want of memory
pub Serves-untold : (old new : HallView) (request : WholeRequest) (r : Reply)
    → is_short r ≡ false → Serves old new request r → Serves old new request (reply.No no.Memory)
Serves-untold old new request r long s = record {
  block = s.block;
  entries = s.entries;
  grows = s.grows;
  answered = untold (standing old.alone new.seat.seen (length old.seat.seen) s.block) request r s.entries long
      s.answered;
  rest = s.rest;
  goes_on = subst (λ (o : Option ℕ). GoesOnServing (option_to_list o) old new) (long_number r long) s.goes_on;
  of_store = λ p made is. absurd (cc);
}
