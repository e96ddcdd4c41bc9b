-- What a question of the hall makes of a query.
use Rattle.std.proofs.Common.{◌≡◌, ℕ, ◌⊎◌, ⊎_elim, Bool, true, false, cond, List, [], ◌∷◌, ◌++◌, length, take}
use Rattle.std.proofs.Common.{Option, refl, sym, ap, ◌∙◌, subst, inr, arith, rules, option_to_list, None}
use Rattle.std.proofs.lemmas.List.{take_all}
use Rattle.trace_base.specs.Flat.{flat}
use Rattle.hall_history.specs.declared.asks.AskIds.TheVariants.{One}
use Rattle.hall_trait.specs.Answers.{Asks, PinsTraces, TellsUsedUp, after_ask}
use Rattle.hall_trait.specs.View.{GoesOn, HallView, with_account, with_used_up}
use Rattle.hall_trait.specs.declared.answers.AskAnswer.TheVariants as answer
use Rattle.hall_history.specs.History.{Entry, Asked, is_open}
use Rattle.hall_trait.specs.Pin.{pin_view}
use Rattle.hall_history.specs.Seat.{Seat, MakesNoEntry, IsAtRest, Removes}
use Rattle.hall_history.specs.declared.seat.PinView.{PinView}
use Rattle.hall_trait.specs.declared.pin.Pin.{Pin}
use Rattle.session_proto.specs.declared.reply.No.TheVariants as no
use Rattle.session_proto.specs.declared.reply.Reply.{Reply}
use Rattle.session_proto.specs.declared.reply.Reply.TheVariants as reply
use Rattle.session_proto.specs.declared.request.Request.TheVariants.{Flat}
use Rattle.session_proto.specs.declared.request.Sel.TheVariants.{All}
use Rattle.request_reader.specs.Requests.{Line}
use Rattle.trace_session.specs.Replies.{flat_reply, profile_reply, streams_of, functions_of}
use Rattle.trace_session.specs.Served.{IsAnswered, standing, spent_number}
use Rattle.trace_session.specs.Serving.{GoesOnServing, Serves}
use Rattle.trace_session.proofs.GoingOn.{serving_told, serving_worked}
use Rattle.trace_session.proofs.Grow.{Grows-one, Grows-still}
use Rattle.trace_session.proofs.Loading.{Becomes-one}
use Rattle.trace_session.proofs.Numbers.{tells_none}
use Rattle.trace_session.proofs.Opening.{Serves-still, had_places, used_up_still}

-- as of the last place all is seen
take_last : (entries : List Entry) (place : ℕ) → place ≡ length entries → take place entries ≡ entries
take_last entries place is = take_all place entries (omega arith)

-- a reply that tells no number
no_number : (r : Reply) (old new : HallView) → spent_number r ≡ None → GoesOnServing [] old new
    → GoesOnServing (option_to_list (spent_number r)) old new
no_number r old new is = subst (λ (o : Option ℕ). GoesOnServing (option_to_list o) old new) (sym is)

-- the trace isn't open
pub Serves-unknown : (old new : HallView) (id a b unknown next place : ℕ) → IsAtRest old.seat
    → Asks old.alone old.seat new.seat (One id) (answer.Unknown unknown next place)
    → GoesOn (with_account (after_ask (answer.Unknown unknown next place)) old) new
    → Serves old new (Line (Flat id All a b)) (reply.No (no.Unknown unknown place))
unfolding flat_reply
Serves-unknown old new id a b unknown next place rest (m, first, following) p =
    let h = take place new.seat.seen in
    let grows = Grows-one old.alone old.seat new.seat Asked place m.entered in
    let all : h ≡ new.seat.seen = take_last new.seat.seen place m.entered.last in
    let closed : is_open h id ≡ false = rw all first.1 in
    let own : reply.No (no.Unknown unknown place) ≡ flat_reply h place id a b =
    ap (λ (i : ℕ). reply.No (no.Unknown i place)) first.0
    ∙ sym (ap (λ (o : Bool). cond o (profile_reply (length (streams_of h id)) (functions_of h id) place
    (flat (streams_of h id) a b)) (reply.No (no.Unknown id place))) closed) in
    record {
      block = place ∷ [];
      entries = Asked ∷ [];
      grows = grows;
      answered = (refl, own, had_places old.alone old.seat.seen new.seat.seen 1 place h grows.seen m.room);
      rest = record {
        no_stakes = m.stakes ∙ rest.no_stakes;
        no_pins = m.pins ∙ rest.no_pins;
        no_passes = m.passes ∙ rest.no_passes;
      };
      goes_on = serving_worked old new 1 p;
      of_store = tells_none new.rooms (place ∷ []) (reply.No (no.Unknown unknown place)) refl;
    }

-- no place was left
pub Serves-no_place : (old new : HallView) (id a b n : ℕ) → IsAtRest old.seat
    → TellsUsedUp old.alone old.seat new.seat 1 n → GoesOn (with_account (with_used_up n) old) new
    → Serves old new (Line (Flat id All a b)) (reply.No (no.Spent n))
Serves-no_place old new id a b n rest m p =
    Serves-still old new (Line (Flat id All a b)) (reply.No (no.Spent n)) m.same rest
    (refl, used_up_still old.alone old.seat new.seat 1 n m) (serving_told old new n p)

-- the profile that a pin sees of the trace
abbrev pub seen_profile : List Entry → ℕ → ℕ → ℕ → ℕ → Reply
seen_profile seen place id a b = profile_reply (length (streams_of seen id)) (functions_of seen id) place
    (flat (streams_of seen id) a b)

-- what a pin saw is the reply, or there was no memory
pub Serves-seen : (old new : HallView) (mid : Seat) (id a b : ℕ) (pin : Pin) (r : Reply)
    → IsAtRest old.seat → PinsTraces old.alone old.seat mid (One id) pin
    → Removes mid.pins new.seat.pins (pin_view pin) → new.seat.passes ≡ mid.passes
    → new.seat.stakes ≡ mid.stakes → MakesNoEntry mid new.seat → GoesOnServing [] old new
    → (r ≡ seen_profile (take pin.place mid.seen) pin.place id a b) ⊎ (r ≡ reply.No no.Memory)
    → Serves old new (Line (Flat id All a b)) r
unfolding flat_reply
Serves-seen old new mid id a b pin r rest m gone passes stakes none goes_on seen =
    let h = take pin.place mid.seen in
    let profile = seen_profile h pin.place id a b in
    let all : h ≡ mid.seen = take_last mid.seen pin.place m.entered.last in
    let open_ : is_open h id ≡ true = rw all (search (rules, m.are_open)) in
    let pins : mid.pins ≡ pin_view pin ∷ [] = m.pins ∙ ap (λ (ps : List PinView). ps ++ pin_view pin ∷ [])
    rest.no_pins in
    let asks = Grows-one old.alone old.seat mid Asked pin.place m.entered in
    let own : profile ≡ flat_reply h pin.place id a b =
    sym (ap (λ (o : Bool). cond o profile (reply.No (no.Unknown id pin.place))) open_) in
    let room = had_places old.alone old.seat.seen mid.seen 1 pin.place h asks.seen m.room in
    let answers : (q : Reply) → Type 0 = λ q. IsAnswered (standing old.alone mid.seen (length old.seat.seen)
    (pin.place ∷ [])) (Line (Flat id All a b)) q (Asked ∷ []) in
    let untold : spent_number r ≡ None = ⊎_elim (λ (is : r ≡ profile). ap spent_number is)
    (λ (is : r ≡ reply.No no.Memory). ap spent_number is) seen in
    record {
      block = pin.place ∷ [];
      entries = Asked ∷ [];
      grows = Grows-still old.alone old.seat mid new.seat (pin.place ∷ []) (Asked ∷ []) asks none;
      answered = subst (λ (s : List Entry). IsAnswered (standing old.alone s (length old.seat.seen)
          (pin.place ∷ [])) (Line (Flat id All a b)) r (Asked ∷ [])) (sym none.seen)
          (⊎_elim (λ (is : r ≡ profile). subst answers (sym is) (refl, own, room))
          (λ (is : r ≡ reply.No no.Memory). subst answers (sym is) (inr refl)) seen);
      rest = record {
        no_pins = Becomes-one (pin_view pin) new.seat.pins []
            (subst (λ (ps : List PinView). Removes ps new.seat.pins (pin_view pin)) pins gone);
        no_passes = passes ∙ m.passes ∙ rest.no_passes;
        no_stakes = stakes ∙ m.stakes ∙ rest.no_stakes;
      };
      goes_on = no_number r old new untold goes_on;
      of_store = tells_none new.rooms (pin.place ∷ []) r untold;
    }
