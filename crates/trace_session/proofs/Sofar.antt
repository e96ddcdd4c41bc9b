-- A session under way.
use Rattle.std.proofs.Common.{◌≡◌, ◌≢◌, ℕ, ◌+◌, ◌≤◌, Bool, List, [], ◌∷◌, ◌++◌, length, Option, None, Some}
use Rattle.std.proofs.Common.{option_to_list, refl, sym, ap, ◌∙◌, subst, append_assoc, arith, length-append}
use Rattle.std.proofs.lemmas.Grind.{flat_map-append}
use Rattle.std.proofs.lemmas.List.{append-nil, map-append}
use Rattle.std.proofs.lemmas.List.Elements.{filter_map-append}
use Rattle.std.specs.Bool.{OnTrue}
use Rattle.std.specs.List.{AllByRecursion, cons_option}
use Rattle.list_lemmas.proofs.Booleans.{OnTrue-all, OnTrue-both}
use Rattle.list_lemmas.proofs.Each.{all_push}
use Rattle.trace_base.specs.Outside.{Told}
use Rattle.trace_base.proofs.Telling.{told_same, told_then}
use Rattle.hall_history.specs.History.{Entry}
use Rattle.hall_history.specs.Seat.{Begins, IsAtRest}
use Rattle.session_proto.specs.Reply.{reply_text}
use Rattle.session_proto.specs.declared.reply.Reply.{Reply}
use Rattle.request_reader.proofs.Cutting.{requests_of-append}
use Rattle.request_reader.specs.Incoming.{Spells, Takes, left_to_read}
use Rattle.session_proto.specs.declared.request.Request.TheVariants.{Quit}
use Rattle.request_reader.specs.Requests.{WholeRequest, Line, Requests, Ending}
use Rattle.request_reader.specs.Requests.{requests_of, onto}
use Rattle.hall_trait.specs.View.{HallView}
use Rattle.trace_session.specs.Served.{Served, IsAnswered, IsServed, TellsOfStore, standing}
use Rattle.trace_session.specs.Served.{blocks_of, output_of, spent_numbers, spent_number}
use Rattle.trace_session.proofs.GoingOn.{serving_same, serving_then}
use Rattle.trace_session.proofs.Numbers.{tells_later}
use Rattle.trace_session.specs.Serving.{GoesOnServing, Serves}
use Rattle.trace_session.specs.Session.{ComeInOrder, requests_served}
use Rattle.trace_session.specs.State.{SessionState}
use Rattle.trace_session.specs.Step.{TakesOne}
use Rattle.trace_session.proofs.Grow.{Begins-trans, AreAt-length}
use Rattle.trace_session.proofs.Later.{all_later}
use Rattle.trace_session.proofs.Rising.{ComeInOrder-push}

-- what was served, apart from what was read and written
pub record Done (old now : HallView) (served : List Served) : Type 0 where
  pub each : AllByRecursion (IsServed old.alone now.seat.seen) served
  pub seen : Begins old.seat.seen now.seat.seen
  pub order : ComeInOrder (length old.seat.seen) served (length now.seat.seen)
  pub places : now.seat.places ≡ old.seat.places ++ blocks_of served
  pub lone : OnTrue old.alone (length now.seat.seen ≡ length old.seat.seen + length (blocks_of served))
  pub rest : IsAtRest now.seat
  pub goes_on : GoesOnServing (spent_numbers served) old now
  pub of_store : AllByRecursion (λ (x : Served). TellsOfStore now.rooms x.block x.reply) served

-- these requests in front of those of other bytes
abbrev pub in_front : List WholeRequest → Requests → Requests
in_front rs behind = record { all = rs ++ behind.all; ending = behind.ending }

-- the bytes are these requests, whatever follows them
abbrev pub Spell : List ℕ → List WholeRequest → Type 0
Spell bytes rs = (more : List ℕ) → requests_of (bytes ++ more) ≡ in_front rs (requests_of more)

-- the bytes read so far are the requests served
abbrev pub HasRead : List Served → List ℕ → List ℕ → Type 0
HasRead served was is = (given : List ℕ) × (was ≡ given ++ is) × Spell given (requests_served served)

abbrev pub HasWritten : List Served → List ℕ → List ℕ → Type 0
HasWritten served was is = is ≡ was ++ output_of served

-- these requests were served, and all of their replies written
pub record Sofar (old now : SessionState) : Type 0 where
  pub served : List Served
  pub done : Done old.hall now.hall served
  pub input : Told old.left now.left (HasRead served)
  pub output : Told old.held now.held (HasWritten served)

-- one request more
abbrev pub one_more : List Served → WholeRequest → ℕ → List ℕ → Reply → List Served
one_more served request before block r = served
    ++ (record { request = request; before = before; block = block; reply = r }) ∷ []

one_number : (r : Reply) (o : Option ℕ) → spent_number r ≡ o → cons_option o [] ≡ option_to_list o
one_number r None is = refl
one_number r (Some n) is = refl

numbers_more : (served : List Served) (request : WholeRequest) (before : ℕ) (block : List ℕ) (r : Reply)
    → spent_numbers (one_more served request before block r) ≡ spent_numbers served
    ++ option_to_list (spent_number r)
numbers_more served request before block r =
    filter_map-append (λ (x : Served). spent_number x.reply) served
    ((record { request = request; before = before; block = block; reply = r }) ∷ [])
    ∙ ap (λ (l : List ℕ). spent_numbers served ++ l) (one_number r (spent_number r) refl)

pub done_more : (old now new : HallView) (served : List Served) (request : WholeRequest) (r : Reply)
    → Done old now served → (s : Serves now new request r)
    → Done old new (one_more served request (length now.seat.seen) s.block r)
done_more old now new served request r d s =
    let alone = old.alone in
    let before = length now.seat.seen in
    let x : Served = record { request = request; before = before; block = s.block; reply = r } in
    let blocks : blocks_of (served ++ x ∷ []) ≡ blocks_of served
    ++ s.block = flat_map-append (λ (y : Served). y.block) served (x ∷ []) ∙ ap
    (λ (l : List ℕ). blocks_of served ++ l) (append-nil s.block) in
    let later = subst (λ (h : List Entry). AllByRecursion (IsServed alone h) served) (sym s.grows.seen.1)
    (all_later alone now.seat.seen s.grows.seen.0 served d.each) in
    let came : before ≤ length new.seat.seen =
    omega (arith, ap length s.grows.seen.1, length-append now.seat.seen s.grows.seen.0) in
    let answered = subst (λ (a : Bool). IsAnswered (standing a new.seat.seen before s.block) request r
    s.entries) d.goes_on.alone s.answered in
    record {
      each = all_push (IsServed alone new.seat.seen) served x later (s.entries, s.grows.at, came, answered);
      seen = Begins-trans old.seat.seen now.seat.seen new.seat.seen d.seen s.grows.seen;
      order = ComeInOrder-push (length old.seat.seen) before (length new.seat.seen) served x d.order refl
          s.grows.rises;
      places = s.grows.places ∙ ap (λ (l : List ℕ). l ++ s.block) d.places
          ∙ append_assoc old.seat.places (blocks_of served) s.block
          ∙ ap (λ (l : List ℕ). old.seat.places ++ l) (sym blocks);
      lone = OnTrue-both alone (λ (had : before ≡ length old.seat.seen + length (blocks_of served))
          (own : new.seat.seen ≡ now.seat.seen ++ s.entries).
          omega (
            arith,
            had,
            ap length own,
            length-append now.seat.seen s.entries,
            AreAt-length new.seat.seen s.block s.entries s.grows.at,
            ap length blocks,
            length-append (blocks_of served) s.block,
          )) d.lone (subst (λ (a : Bool). OnTrue a (new.seat.seen ≡ now.seat.seen ++ s.entries))
          d.goes_on.alone s.grows.lone);
      rest = s.rest;
      goes_on = subst (λ (ns : List ℕ). GoesOnServing ns old new)
          (sym (numbers_more served request before s.block r))
          (serving_then old now new (spent_numbers served) (option_to_list (spent_number r)) d.goes_on
          s.goes_on);
      of_store = all_push (λ (x : Served). TellsOfStore new.rooms x.block x.reply) served
          (record { request = request; before = before; block = s.block; reply = r })
          (tells_later now.rooms new.rooms served s.goes_on.rooms d.of_store) s.of_store;
    }

-- the texts of one reply more
pub output_more : (served : List Served) (request : WholeRequest) (before : ℕ) (block : List ℕ) (r : Reply)
    → output_of (one_more served request before block r) ≡ output_of served ++ reply_text r
output_more served request before block r =
    flat_map-append (λ (y : Served). reply_text y.reply) served
    ((record { request = request; before = before; block = block; reply = r }) ∷ [])
    ∙ ap (λ (l : List ℕ). output_of served ++ l) (append-nil (reply_text r))

pub written_more : (served : List Served) (request : WholeRequest) (before : ℕ) (block : List ℕ) (r : Reply)
    (a b c : Option (List ℕ)) → Told a b (HasWritten served) → Told b c (λ was is. is ≡ was ++ reply_text r)
    → Told a c (HasWritten (one_more served request before block r))
written_more served request before block r a b c =
    told_then (HasWritten served) (λ was is. is ≡ was ++ reply_text r)
    (HasWritten (one_more served request before block r)) a b c
    (λ x y z p q. q ∙ ap (λ (l : List ℕ). l ++ reply_text r) p ∙ append_assoc x (output_of served)
    (reply_text r) ∙ ap (λ (l : List ℕ). x ++ l) (sym (output_more served request before block r)))

-- a request that isn't QUIT stands in front of those behind it
onto_front : (r : WholeRequest) (behind : Requests) → r ≢ Line Quit
    → onto r behind ≡ in_front (r ∷ []) behind
onto_front (Line Quit) behind no_quit = absurd (no_quit refl)
onto_front r behind no_quit = refl

pub requests_more : (served : List Served) (request : WholeRequest) (before : ℕ) (block : List ℕ) (r : Reply)
    → requests_served (one_more served request before block r) ≡ requests_served served ++ request ∷ []
requests_more served request before block r = map-append (λ (x : Served). x.request) served
    ((record { request = request; before = before; block = block; reply = r }) ∷ [])

spell_more : (given taken : List ℕ) (rs : List WholeRequest) (r : WholeRequest) → r ≢ Line Quit
    → Spell given rs
    → Spells taken r → Spell (given ++ taken) (rs ++ r ∷ [])
spell_more given taken rs r no_quit front spells = λ more.
    ap requests_of (append_assoc given taken more) ∙ front (taken ++ more) ∙ ap (in_front rs)
    (requests_of-append taken more r spells ∙ onto_front r (requests_of more) no_quit)
    ∙ ap (λ (l : List WholeRequest). record_of l (requests_of more).ending)
    (sym (append_assoc rs (r ∷ []) (requests_of more).all))
  where
    record_of : List WholeRequest → Ending → Requests
    record_of all ending = record { all = all; ending = ending }

pub read_more : (served : List Served) (request : WholeRequest) (before : ℕ) (block : List ℕ) (r : Reply)
    (a b c : Option (List ℕ)) → request ≢ Line Quit → Told a b (HasRead served)
    → Takes b c (λ bytes. Spells bytes request) → Told a c (HasRead (one_more served request before block r))
read_more served request before block r a b c no_quit =
    told_then (HasRead served) (λ was now. (taken : List ℕ) × (was ≡ taken ++ now) × Spells taken request)
    (HasRead (one_more served request before block r)) a b c
    (λ x y z p q. (
      p.0 ++ q.0,
      p.1 ∙ ap (λ (l : List ℕ). p.0 ++ l) q.1 ∙ sym (append_assoc p.0 q.0 z),
      subst (λ (rs : List WholeRequest). Spell (p.0 ++ q.0) rs)
          (sym (requests_more served request before block r))
          (spell_more p.0 q.0 (requests_served served) request no_quit p.2 q.2),
    ))

-- the session goes on
pub sofar_more : (old now new : SessionState) → Sofar old now → TakesOne now new None → Sofar old new
sofar_more old now new s t =
    let before = length now.hall.seat.seen in
    let block = t.answers.serves.block in
    record {
      served = one_more s.served t.request before block t.answers.reply;
      done = done_more old.hall now.hall new.hall s.served t.request t.answers.reply s.done
          t.answers.serves;
      input = read_more s.served t.request before block t.answers.reply old.left now.left new.left
          t.answers.ends s.input t.taken;
      output = written_more s.served t.request before block t.answers.reply old.held now.held new.held
          s.output
          t.answers.written;
    }

-- a session that begins
pub sofar_none : (s : SessionState) → IsAtRest s.hall.seat
    → Sofar s (record s { left = left_to_read [] s.left })
sofar_none s rest = record {
  served = [];
  done = record {
    each = tt;
    seen = ([], sym (append-nil s.hall.seat.seen));
    order = refl;
    places = sym (append-nil s.hall.seat.places);
    lone = OnTrue-all s.hall.alone (omega arith);
    rest = rest;
    goes_on = serving_same s.hall;
    of_store = tt;
  };
  input = told_same (HasRead []) s.left (left_to_read [] s.left) (λ x. ([], refl, λ more. refl))
      (same s.left);
  output = told_same (HasWritten []) s.held s.held (λ x. sym (append-nil x)) refl;
}
  where
    same : (o : Option (List ℕ)) → left_to_read [] o ≡ o
    same None = refl
    same (Some l) = refl
