-- One step of a session.
use Rattle.std.proofs.Common.{◌≡◌, ◌≢◌, ℕ, List, [], ◌++◌, Option, None, Some, Ok, Err, refl, sym}
use Rattle.std.proofs.Common.{◌∙◌, ap, subst, inl, inr}
use Rattle.trace_base.specs.Outside.{Told}
use Rattle.trace_base.proofs.Telling.{told_as}
use Rattle.session_proto.specs.declared.reply.No.TheVariants as no
use Rattle.session_proto.specs.declared.reply.Reply.{Reply}
use Rattle.session_proto.specs.declared.reply.Reply.TheVariants as reply
use Rattle.session_proto.specs.declared.request.Request.TheVariants as line
use Rattle.request_reader.specs.Incoming.{Comes, Is, Spells, Takes}
use Rattle.request_reader.proofs.Cutting.{first_request-nil}
use Rattle.request_reader.specs.Requests.{WholeRequest, Line, Load, Large, Unreadable, first_request}
use Rattle.request_reader.specs.declared.incoming.Incoming.{Incoming}
use Rattle.request_reader.specs.declared.incoming.Incoming.TheVariants as incoming
use Rattle.request_reader.specs.declared.incoming.InputEnd.{InputEnd}
use Rattle.request_reader.specs.declared.incoming.InputEnd.TheVariants as inputs
use Rattle.trace_session.specs.Output.{WritesFront}
use Rattle.trace_session.specs.Serving.{Serves}
use Rattle.trace_session.specs.State.{SessionState}
use Rattle.trace_session.specs.Step.{Steps, AnswersOne, EndsWith, EndsBehind, WritesText, end_at}
use Rattle.trace_session.specs.Text.{IsTold}
use Rattle.trace_session.specs.declared.sessions.End.{End}
use Rattle.trace_session.specs.declared.sessions.End.TheVariants as ends
use Rattle.trace_session.proofs.Telling.{Serves-untold}

-- the reply that is told was served, and its text written
answered_one : (old new : SessionState) (request : WholeRequest) (result : Option End)
    (r : Reply)
    (bytes : List ℕ) → Serves old.hall new.hall request r → IsTold r bytes
    → Told old.held new.held (λ was now. WritesText result bytes was now) → EndsBehind request result
    → AnswersOne old new request result
answered_one old new request result r bytes s (inl text) w e = record {
  reply = r;
  serves = s;
  written = subst (λ (b : List ℕ). Told old.held new.held (λ was now. WritesText result b was now)) text w;
  ends = e;
}
answered_one old new request result r bytes s (inr untold) w e = record {
  reply = reply.No no.Memory;
  serves = Serves-untold old.hall new.hall request r untold.0 s;
  written = subst (λ (b : List ℕ). Told old.held new.held (λ was now. WritesText result b was now)) untold.1
      w;
  ends = e;
}

-- the request that came is QUIT where QUIT came
quit_came : (i : Incoming) (text : List ℕ) (request : WholeRequest) → Is i text request
    → i ≡ incoming.Line line.Quit → request ≡ Line line.Quit
quit_came (incoming.Line q) text request is came = let same : q ≡ line.Quit = cc in is ∙ ap (λ z. Line z) same
quit_came incoming.Load text request is came = absurd (cc)
quit_came incoming.Dropped text request is came = absurd (cc)
quit_came incoming.Large text request is came = absurd (cc)
quit_came incoming.Unreadable text request is came = absurd (cc)

came_quit : (i : Incoming) (text : List ℕ) (request : WholeRequest) → Is i text request
    → request ≡ Line line.Quit → i ≡ incoming.Line line.Quit
came_quit (incoming.Line q) text request is quits =
    let both : Line q ≡ Line line.Quit = sym is ∙ quits in
    let same : q ≡ line.Quit = cc in ap (λ z. incoming.Line z) same
came_quit incoming.Load text request is quits =
    let both : Load text ≡ Line line.Quit = sym is ∙ quits in absurd (cc)
came_quit incoming.Dropped text request is quits =
    let both : Load is.0 ≡ Line line.Quit = sym is.1 ∙ quits in absurd (cc)
came_quit incoming.Large text request is quits =
    let both : Large ≡ Line line.Quit = sym is ∙ quits in absurd (cc)
came_quit incoming.Unreadable text request is quits =
    let both : Unreadable ≡ Line line.Quit = sym is ∙ quits in absurd (cc)

ends_behind : (i : Incoming) (text : List ℕ) (request : WholeRequest) (result : Option End)
    → Is i text request
    → EndsWith i result → EndsBehind request result
ends_behind i text request None is e = λ quits. e (came_quit i text request is quits)
ends_behind i text request (Some ends.Quit) is e = quit_came i text request is e
ends_behind i text request (Some end) is e = absurd e

-- where the sink didn't fail, all of a text is written
all_text : (i : Incoming) (result : Option End) (bytes was now : List ℕ) → EndsWith i result → now ≡ was
    ++ bytes
    → WritesText result bytes was now
all_text i None bytes was now e w = w
all_text i (Some ends.Quit) bytes was now e w = w
all_text i (Some end) bytes was now e w = absurd e

-- a request was served, and all of its reply written
pub answered_all : (old new : SessionState) (i : Incoming) (text : List ℕ)
    (request : WholeRequest)
    (result : Option End) (r : Reply) (bytes : List ℕ) → Is i text request → EndsWith i result
    → Serves old.hall new.hall request r → IsTold r bytes
    → Told old.held new.held (λ was now. now ≡ was ++ bytes) → AnswersOne old new request result
answered_all old new i text request result r bytes is e s told w =
    answered_one old new request result r bytes s told
    (told_as (λ was now. now ≡ was ++ bytes) (λ was now. WritesText result bytes was now) old.held new.held
    (λ was now. all_text i result bytes was now e) w)
    (ends_behind i text request result is e)

-- and the sink failed
pub answered_front : (old new : SessionState) (request : WholeRequest) (r : Reply)
    (bytes : List ℕ) → Serves old.hall new.hall request r → IsTold r bytes
    → Told old.held new.held (WritesFront bytes) → AnswersOne old new request (Some ends.WriteFault)
answered_front old new request r bytes s told w =
    answered_one old new request (Some ends.WriteFault) r bytes s told w tt

-- the request that came; of a load whose text was dropped it is known where the source tells
pub came : (i : Incoming) (text : List ℕ) (left left' : Option (List ℕ)) → Comes left left' text (Ok i)
    → (request : WholeRequest) × Is i text request × Takes left left' (λ taken. Spells taken request)
came i text (Some x) (Some y) t = (t.2.0, t.2.1, (t.0, t.1, t.2.2))
came i text (Some x) None t = absurd t
came i text None (Some y) t = absurd t
came (incoming.Line request) text None None t = (Line request, refl, tt)
came incoming.Load text None None t = (Load text, refl, tt)
came incoming.Dropped text None None t = (Load [], ([], refl), tt)
came incoming.Large text None None t = (Large, refl, tt)
came incoming.Unreadable text None None t = (Unreadable, refl, tt)

steps_by : (old new : SessionState) (pending : List ℕ) (request : WholeRequest)
    (result : Option End) → Takes old.left new.left (λ bytes. Spells bytes request)
    → AnswersOne old new request result → EndsBehind request result → Steps old new pending result
steps_by old new pending request None taken answers e =
    record { request = request; taken = taken; answers = answers }
steps_by old new pending request (Some ends.Quit) taken answers e =
    record { request = request; taken = taken; answers = answers }
steps_by old new pending request (Some ends.WriteFault) taken answers e =
    record { request = request; taken = taken; answers = answers }
steps_by old new pending request (Some end) taken answers e = absurd e

-- what came was answered
pub stepped : (old new : SessionState) (pending text : List ℕ) (i : Incoming)
    (result : Option End) → Comes old.left new.left text (Ok i)
    → ((request : WholeRequest) → Is i text request → AnswersOne old new request result)
    → Steps old new pending result
stepped old new pending text i result comes answers =
    let c = came i text old.left new.left comes in
    let a = answers c.0 c.1 in
    steps_by old new pending c.0 result c.2 a a.ends

-- the source ended between two requests, or inside one, or failed
eof_none : (left left' : Option (List ℕ)) → Told left left' (λ was now. (was ≡ []) × (now ≡ []))
    → Told left left' (λ was now. (bytes : List ℕ) × (was ≡ bytes ++ now) × (first_request bytes ≡ None)
    × ((bytes ≡ []) × (now ≡ [])))
eof_none left left' t = told_as (λ was now. (was ≡ []) × (now ≡ [])) (λ was now. (bytes : List ℕ)
    × (was ≡ bytes ++ now) × (first_request bytes ≡ None) × ((bytes ≡ []) × (now ≡ []))) left left'
    (λ x y p. ([], p.0 ∙ sym p.1, first_request-nil, (refl, p.1))) t

cut_none : (left left' : Option (List ℕ))
    → Takes left left' (λ taken. (taken ≢ []) × (first_request taken ≡ None))
    → (left' ≢ None → left' ≡ Some []) → Told left left' (λ was now. (bytes : List ℕ) × (was ≡ bytes ++ now)
    × (first_request bytes ≡ None) × ((bytes ≢ []) × (now ≡ [])))
cut_none (Some x) (Some y) t all =
    let told : Some y ≡ Some [] = all (λ is. absurd (cc)) in
    let none : y ≡ [] = cc in
    (t.0, t.1, t.2.1, (t.2.0, none))
cut_none (Some x) None t all = absurd t
cut_none None (Some y) t all = absurd t
cut_none None None t all = tt

fault_none : (left left' : Option (List ℕ)) → Takes left left' (λ taken. first_request taken ≡ None)
    → Told left left' (λ was now. (bytes : List ℕ) × (was ≡ bytes ++ now) × (first_request bytes ≡ None)
    × Unit {0})
fault_none left left' t = told_as (λ was now. (bytes : List ℕ) × (was ≡ bytes ++ now)
    × (first_request bytes ≡ None)) (λ was now. (bytes : List ℕ) × (was ≡ bytes ++ now)
    × (first_request bytes ≡ None) × Unit {0}) left left' (λ x y p. (p.0, p.1, p.2, tt)) t

-- nothing came
pub ended_early : (old new : SessionState) (pending text : List ℕ) (end : InputEnd)
    → Comes old.left new.left text (Err end) → pending ≡ [] → new.hall ≡ old.hall → new.held ≡ old.held
    → Steps old new pending (Some (end_at end))
ended_early old new pending text inputs.End comes none hall held =
    (record { hall = hall; held = held; taken = eof_none old.left new.left comes }, none)
ended_early old new pending text inputs.Cut comes none hall held =
    (record { hall = hall; held = held; taken = cut_none old.left new.left comes.0 comes.1 }, none)
ended_early old new pending text inputs.Failed comes none hall held =
    (record { hall = hall; held = held; taken = fault_none old.left new.left comes }, none)
