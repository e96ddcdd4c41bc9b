-- The ends of a session.
use Rattle.std.proofs.Common.{◌≡◌, ◌≢◌, ℕ, List, [], ◌∷◌, ◌++◌, length, Option, None, Some, refl, sym}
use Rattle.std.proofs.Common.{ap, ◌∙◌, subst, append_assoc}
use Rattle.std.proofs.lemmas.List.{append-nil}
use Rattle.trace_base.specs.Outside.{Told}
use Rattle.trace_base.proofs.Telling.{told_as, told_then}
use Rattle.hall_history.specs.History.{IsLegalHistory}
use Rattle.hall_history.specs.Seat.{Begins}
use Rattle.session_proto.specs.Reply.{reply_text}
use Rattle.session_proto.specs.declared.reply.Reply.{Reply}
use Rattle.request_reader.proofs.Cutting.{requests_of-append, requests_of-quit, requests_of-none}
use Rattle.request_reader.specs.Incoming.{Spells, Takes, left_to_read}
use Rattle.session_proto.specs.declared.request.Request.TheVariants.{Quit}
use Rattle.request_reader.specs.Requests.{WholeRequest, Line, Requests, Ending}
use Rattle.request_reader.specs.Requests.{AfterQuit, Between, Inside, requests_of, rest_only, onto}
use Rattle.request_reader.specs.Requests.{first_request}
use Rattle.trace_session.specs.Output.{WritesFront}
use Rattle.trace_session.specs.Served.{Served}
use Rattle.trace_session.specs.Session.{IsSession, ReadsRequests, WritesReplies, Answers, LeavesNothing}
use Rattle.trace_session.specs.Session.{requests_served}
use Rattle.hall_trait.specs.View.{HallView}
use Rattle.trace_session.specs.State.{SessionState}
use Rattle.trace_session.specs.Step.{Steps, TakesOne, TakesNone}
use Rattle.trace_session.specs.declared.sessions.End.{End}
use Rattle.trace_session.specs.declared.sessions.End.TheVariants as ends
use Rattle.trace_session.proofs.Sofar.{Sofar, Done, Spell, HasRead, HasWritten, in_front, one_more, done_more}
use Rattle.trace_session.proofs.Sofar.{written_more, requests_more}

-- what is left to read is what waits, and what is left in the source
told_pending : (p : List ℕ) (P R : List ℕ → List ℕ → Type 0) (a src : Option (List ℕ))
    → ((x y : List ℕ) → P x (p ++ y) → R x y) → Told a (left_to_read p src) P → Told a src R
told_pending p P R (Some x) (Some y) f t = f x y t
told_pending p P R (Some x) None f t = absurd t
told_pending p P R None (Some y) f t = absurd t
told_pending p P R None None f t = tt

-- what was read, and the bytes taken since
abbrev pub HasTaken : List Served → (List ℕ → List ℕ → Type 0) → List ℕ → List ℕ → Type 0
HasTaken served Q was is = (given bytes : List ℕ) × (was ≡ given ++ bytes ++ is)
    × Spell given (requests_served served) × Q bytes is

taken_then : (served : List Served) (Q : List ℕ → List ℕ → Type 0) (a b c : Option (List ℕ))
    → Told a b (HasRead served) → Told b c (λ was is. (bytes : List ℕ) × (was ≡ bytes ++ is) × Q bytes is)
    → Told a c (HasTaken served Q)
taken_then served Q a b c =
    told_then (HasRead served) (λ was is. (bytes : List ℕ) × (was ≡ bytes ++ is) × Q bytes is)
    (HasTaken served Q) a b c
    (λ x y z p q. (
      p.0,
      q.0,
      p.1 ∙ ap (λ (l : List ℕ). p.0 ++ l) q.1 ∙ sym (append_assoc p.0 q.0 z),
      p.2,
      q.2,
    ))

-- what was done stays done where nothing more is
done_still : (old now new : HallView) (served : List Served) → new ≡ now → Done old now served
    → Done old new served
done_still old now new served same d = subst (λ (n : HallView). Done old n served) (sym same) d

-- the source ended or failed, and nothing waits; `src` is what the source has left
ended : (end : End) (Q : List ℕ → List ℕ → Type 0) (old now new : SessionState)
    (src : Option (List ℕ)) (pending : List ℕ) → new.left ≡ left_to_read pending src
    → (s : Sofar old now) → TakesNone now new Q → pending ≡ []
    → ((given bytes is : List ℕ) → Spell given (requests_served s.served) → first_request bytes ≡ None
    → Q bytes is → Answers end (requests_of (given ++ bytes)) s.served)
    → ((bytes is : List ℕ) → Q bytes is → LeavesNothing end is)
    → ((was is : List ℕ) → HasWritten s.served was is → WritesReplies end was is s.served)
    → IsLegalHistory new.hall.seat.seen → IsSession old (record new { left = src }) end
ended end Q old now new src pending lies s t none answers leaves writes legal =
    let d = done_still old.hall now.hall new.hall s.served t.hall s.done in
    let out = subst (λ (h : Option (List ℕ)). Told old.held h (HasWritten s.served)) (sym t.held) s.output in
    let is_left : new.left ≡ left_to_read [] src = lies ∙ ap (λ (p : List ℕ). left_to_read p src) none in
    let took = subst (λ (l : Option (List ℕ)). Told now.left l (λ was is. (bytes : List ℕ)
    × (was ≡ bytes ++ is) × (first_request bytes ≡ None) × Q bytes is)) is_left t.taken in
    let joined = taken_then s.served (λ bytes is. (first_request bytes ≡ None) × Q bytes is) old.left now.left
    (left_to_read [] src) s.input (told_as (λ was is. (bytes : List ℕ) × (was ≡ bytes ++ is)
    × (first_request bytes ≡ None) × Q bytes is) (λ was is. (bytes : List ℕ) × (was ≡ bytes ++ is)
    × ((first_request bytes ≡ None) × Q bytes is)) now.left (left_to_read [] src)
    (λ x y p. (p.0, p.1, (p.2, p.3))) took) in
    record {
      served = s.served;
      each = d.each;
      seen = d.seen;
      legal = legal;
      order = d.order;
      places = d.places;
      lone = d.lone;
      rest = d.rest;
      goes_on = d.goes_on;
      of_store = d.of_store;
      input = told_pending [] (HasTaken s.served (λ bytes is. (first_request bytes ≡ None) × Q bytes is))
          (λ was is. ReadsRequests end was is s.served) old.left src
          (λ x y p. (p.0 ++ p.1, p.2, answers p.0 p.1 y p.3 p.4.0 p.4.1, leaves p.1 y p.4.1)) joined;
      output = told_as (HasWritten s.served) (λ was is. WritesReplies end was is s.served) old.held new.held
          writes out;
    }

-- the requests of bytes that hold no whole one behind others
rest_answers : (served : List Served) (given bytes : List ℕ) → Spell given (requests_served served)
    → first_request bytes ≡ None → requests_of (given ++ bytes) ≡ in_front (requests_served served)
    (rest_only bytes)
rest_answers served given bytes spell none = spell bytes ∙ ap (in_front (requests_served served))
    (requests_of-none bytes none)

-- none behind them
none_behind : (rs : List WholeRequest) (ending : Ending) → in_front rs (record { all = []; ending = ending })
    ≡ record { all = rs; ending = ending }
none_behind rs ending = ap (λ (l : List WholeRequest). made l) (append-nil rs)
  where
    made : List WholeRequest → Requests
    made l = record { all = l; ending = ending }

pub eof_answers : (served : List Served) (given bytes is : List ℕ) → Spell given (requests_served served)
    → first_request bytes ≡ None → (bytes ≡ []) × (is ≡ []) → Answers ends.Eof (requests_of (given ++ bytes))
    served
eof_answers served given bytes is spell none q =
    rest_answers served given bytes spell none ∙ ap
    (λ (b : List ℕ). in_front (requests_served served) (rest_only b)) q.0 ∙ none_behind
    (requests_served served) Between

rest_inside : (bytes : List ℕ) → bytes ≢ [] → rest_only bytes ≡ record { all = []; ending = Inside }
rest_inside [] some = absurd (some refl)
rest_inside (b ∷ bs) some = refl

pub cut_answers : (served : List Served) (given bytes is : List ℕ) → Spell given (requests_served served)
    → first_request bytes ≡ None → (bytes ≢ []) × (is ≡ []) → Answers ends.Cut (requests_of (given ++ bytes))
    served
cut_answers served given bytes is spell none q =
    rest_answers served given bytes spell none ∙ ap (in_front (requests_served served))
    (rest_inside bytes q.0) ∙ none_behind (requests_served served) Inside

rest_all : (bytes : List ℕ) → (rest_only bytes).all ≡ []
rest_all [] = refl
rest_all (b ∷ bs) = refl

rest_open : (bytes : List ℕ) → (rest_only bytes).ending ≢ AfterQuit
rest_open [] is = absurd (cc)
rest_open (b ∷ bs) is = absurd (cc)

pub failed_answers : (served : List Served) (given bytes is : List ℕ) → Spell given (requests_served served)
    → first_request bytes ≡ None → Unit {0} → Answers ends.ReadFault (requests_of (given ++ bytes)) served
failed_answers served given bytes is spell none q =
    let same = rest_answers served given bytes spell none in (
      ap (λ (r : Requests). r.all) same ∙ ap (λ (l : List WholeRequest). requests_served served ++ l)
          (rest_all bytes) ∙ append-nil (requests_served served),
      λ closed. rest_open bytes (sym (ap (λ (r : Requests). r.ending) same) ∙ closed),
    )

-- a request was the last; `src` is what the source has left
one_ended : (end : End) (old now new : SessionState) (src : Option (List ℕ)) (pending : List ℕ)
    → new.left ≡ left_to_read pending src → (s : Sofar old now)
    → (t : TakesOne now new (Some end))
    → ((given bytes : List ℕ) → Spell given (requests_served s.served) → Spells bytes t.request
    → Answers end (requests_of (given ++ bytes ++ pending))
    (one_more s.served t.request (length now.hall.seat.seen) t.answers.serves.block t.answers.reply))
    → ((is : List ℕ) → LeavesNothing end is)
    → Told old.held new.held (λ was is. WritesReplies end was is
    (one_more s.served t.request (length now.hall.seat.seen) t.answers.serves.block t.answers.reply))
    → IsLegalHistory new.hall.seat.seen → IsSession old (record new { left = src }) end
one_ended end old now new src pending lies s t answers leaves writes legal =
    let x = one_more s.served t.request (length now.hall.seat.seen) t.answers.serves.block t.answers.reply
    in
    let d = done_more old.hall now.hall new.hall s.served t.request t.answers.reply s.done
    t.answers.serves in
    let took = subst (λ (l : Option (List ℕ)). Takes now.left l (λ bytes. Spells bytes t.request)) lies
    t.taken
    in
    let joined = taken_then s.served (λ bytes is. Spells bytes t.request) old.left now.left
    (left_to_read pending src) s.input took in
    record {
      served = x;
      each = d.each;
      seen = d.seen;
      legal = legal;
      order = d.order;
      places = d.places;
      lone = d.lone;
      rest = d.rest;
      goes_on = d.goes_on;
      of_store = d.of_store;
      input = told_pending pending (HasTaken s.served (λ bytes is. Spells bytes t.request))
          (λ was is. ReadsRequests end was is x) old.left src
          (λ a b p. (
            (p.0 ++ p.1) ++ pending,
            p.2 ∙ sym (append_assoc (p.0 ++ p.1) pending b),
            answers p.0 p.1 p.3 p.4,
            leaves b,
          )) joined;
      output = writes;
    }

pub quit_answers : (served : List Served) (request : WholeRequest) (before : ℕ) (block : List ℕ) (r : Reply)
    (given bytes pending : List ℕ) → request ≡ Line Quit → Spell given (requests_served served)
    → Spells bytes request → Answers ends.Quit (requests_of (given ++ bytes ++ pending))
    (one_more served request before block r)
quit_answers served request before block r given bytes pending is spell spells =
    let quits : Spells bytes (Line Quit) = subst (λ (q : WholeRequest). Spells bytes q) is spells in
    ap requests_of (append_assoc given bytes pending) ∙ spell (bytes ++ pending) ∙ ap
    (in_front (requests_served served)) (requests_of-quit bytes pending quits)
    ∙ ap (λ (l : List WholeRequest). made l) (ap (λ (q : WholeRequest). requests_served served ++ q ∷ [])
    (sym is) ∙ sym (requests_more served request before block r))
  where
    made : List WholeRequest → Requests
    made l = record { all = l; ending = AfterQuit }

onto_begins : (r : WholeRequest) (behind : Requests) → Begins (r ∷ []) (onto r behind).all
onto_begins (Line Quit) behind = ([], refl)
onto_begins r behind = (behind.all, refl)

pub fault_answers : (served : List Served) (request : WholeRequest) (before : ℕ) (block : List ℕ) (r : Reply)
    (given bytes pending : List ℕ) → Spell given (requests_served served) → Spells bytes request
    → Answers ends.WriteFault (requests_of (given ++ bytes ++ pending))
    (one_more served request before block r)
fault_answers served request before block r given bytes pending spell spells =
    let same = ap requests_of (append_assoc given bytes pending) ∙ spell (bytes ++ pending) ∙ ap
    (in_front (requests_served served)) (requests_of-append bytes pending request spells) in
    let b = onto_begins request (requests_of pending) in (
      b.0,
      ap (λ (q : Requests). q.all) same ∙ ap (λ (l : List WholeRequest). requests_served served ++ l) b.1
          ∙ sym (append_assoc (requests_served served) (request ∷ []) b.0) ∙ ap (λ (l : List WholeRequest). l
          ++ b.0) (sym (requests_more served request before block r)),
    )

pub fault_writes : (served : List Served) (request : WholeRequest) (before : ℕ) (block : List ℕ) (r : Reply)
    (a b c : Option (List ℕ)) → Told a b (HasWritten served)
    → Told b c (λ was is. WritesFront (reply_text r) was is)
    → Told a c (λ was is. WritesReplies ends.WriteFault was is (one_more served request before block r))
fault_writes served request before block r a b c =
    told_then (HasWritten served) (λ was is. WritesFront (reply_text r) was is)
    (λ was is. WritesReplies ends.WriteFault was is (one_more served request before block r)) a b c
    (λ x y z p q. (
      served,
      (record { request = request; before = before; block = block; reply = r }),
      refl,
      subst (λ (l : List ℕ). WritesFront (reply_text r) l z) p q,
    ))

-- a step that ends the session; `src` is what the source has left
pub step_ends : (end : End) (old now new : SessionState) (src : Option (List ℕ))
    (pending : List ℕ) → new.left ≡ left_to_read pending src → Sofar old now
    → Steps now new pending (Some end) → IsLegalHistory new.hall.seat.seen
    → IsSession old (record new { left = src }) end
step_ends ends.Quit old now new src pending lies s t legal =
    one_ended ends.Quit old now new src pending lies s t
    (λ given bytes. quit_answers s.served t.request (length now.hall.seat.seen) t.answers.serves.block
    t.answers.reply given bytes pending t.answers.ends)
    (λ is. tt)
    (written_more s.served t.request (length now.hall.seat.seen) t.answers.serves.block t.answers.reply
    old.held
    now.held new.held s.output t.answers.written) legal
step_ends ends.WriteFault old now new src pending lies s t legal =
    one_ended ends.WriteFault old now new src pending lies s t
    (λ given bytes. fault_answers s.served t.request (length now.hall.seat.seen) t.answers.serves.block
    t.answers.reply given bytes pending)
    (λ is. tt)
    (fault_writes s.served t.request (length now.hall.seat.seen) t.answers.serves.block t.answers.reply
    old.held
    now.held new.held s.output t.answers.written) legal
step_ends ends.Eof old now new src pending lies s t legal =
    ended ends.Eof (λ bytes is. (bytes ≡ []) × (is ≡ [])) old now new src pending lies s t.0 t.1
    (eof_answers s.served) (λ bytes is q. q.1) (λ was is w. w) legal
step_ends ends.Cut old now new src pending lies s t legal =
    ended ends.Cut (λ bytes is. (bytes ≢ []) × (is ≡ [])) old now new src pending lies s t.0 t.1
    (cut_answers s.served) (λ bytes is q. q.1) (λ was is w. w) legal
step_ends ends.ReadFault old now new src pending lies s t legal =
    ended ends.ReadFault (λ bytes is. Unit {0}) old now new src pending lies s t.0 t.1
    (failed_answers s.served) (λ bytes is q. tt) (λ was is w. w) legal
