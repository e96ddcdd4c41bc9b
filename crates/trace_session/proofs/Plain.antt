-- Requests that need nothing of the hall, and the request that came.
use Rattle.std.proofs.Common.{◌≡◌, ℕ, List, refl, sym, subst}
use Rattle.hall_history.specs.Seat.{IsAtRest}
use Rattle.request_reader.specs.Requests.{WholeRequest, Line, Load, Large, Unreadable}
use Rattle.session_proto.specs.declared.reply.No.TheVariants as no
use Rattle.session_proto.specs.declared.reply.Reply.{Reply}
use Rattle.session_proto.specs.declared.reply.Reply.TheVariants as reply
use Rattle.session_proto.specs.declared.request.Request.{Request}
use Rattle.session_proto.specs.declared.request.Request.TheVariants.{Quit}
use Rattle.trace_session.specs.Serving.{Serves}
use Rattle.hall_trait.specs.View.{HallView}
use Rattle.trace_session.proofs.GoingOn.{serving_same}
use Rattle.trace_session.proofs.Opening.{Serves-still, put_memory}

pub serves_quit : (s : HallView) → IsAtRest s.seat → Serves s s (Line Quit) reply.Quit
serves_quit s rest = Serves-still s s (Line Quit) reply.Quit refl rest refl
    (serving_same s)

pub serves_unreadable : (s : HallView) (request : WholeRequest) → IsAtRest s.seat
    → request ≡ Unreadable → Serves s s request (reply.No no.Grammar)
serves_unreadable s request rest is =
    subst (λ (r : WholeRequest). Serves s s r (reply.No no.Grammar)) (sym is)
    (Serves-still s s Unreadable (reply.No no.Grammar) refl rest refl
    (serving_same s))

pub serves_dropped : (s : HallView) (request : WholeRequest) → IsAtRest s.seat
    → ((bytes : List ℕ) × (request ≡ Load bytes)) → Serves s s request (reply.No no.Memory)
serves_dropped s request rest is =
    subst (λ (r : WholeRequest). Serves s s r (reply.No no.Memory)) (sym is.1)
    (put_memory s is.0 rest)

pub serves_large : (s : HallView) (request : WholeRequest) → IsAtRest s.seat
    → request ≡ Large → Serves s s request (reply.No no.Large)
serves_large s request rest is =
    subst (λ (r : WholeRequest). Serves s s r (reply.No no.Large)) (sym is)
    (Serves-still s s Large (reply.No no.Large) refl rest refl (serving_same s))

-- the request that was served is the one that came
pub serves_line : (old new : HallView) (request : WholeRequest) (line : Request) (r : Reply)
    → Serves old new (Line line) r → request ≡ Line line → Serves old new request r
serves_line old new request line r s is =
    subst (λ (q : WholeRequest). Serves old new q r) (sym is) s

pub serves_load : (old new : HallView) (request : WholeRequest) (text : List ℕ) (r : Reply)
    → Serves old new (Load text) r → request ≡ Load text → Serves old new request r
serves_load old new request text r s is =
    subst (λ (q : WholeRequest). Serves old new q r) (sym is) s
