-- What a load that was let in, or not, makes of a PUT.
use Rattle.std.proofs.Common.{◌≡◌, ℕ, Bool, List, [], ◌∷◌, ◌++◌, length, take, Option, Some, Result}
use Rattle.std.proofs.Common.{Bor, Err, option_to_list, refl, sym, ap, ◌∙◌, subst, inl, inr, arith}
use Rattle.std.proofs.lemmas.List.{take_all}
use Rattle.std.proofs.Math.Seq.{take-append_seam}
use Rattle.std.specs.Bool.{OnTrue}
use Rattle.trace_base.specs.declared.limits.TheConstants.{MAX_OPEN_TRACES}
use Rattle.trace_base.specs.declared.messages.LinkEvent.{LinkEvent}
use Rattle.trace_base.specs.declared.messages.MsgTable.{MsgTable}
use Rattle.trace_base.specs.Messages.{table_of}
use Rattle.trace_base.specs.declared.names.TraceInfo.{TraceInfo}
use Rattle.trace_base.specs.declared.text.TraceText.{TraceText}
use Rattle.hall_trait.specs.Answers.{Admits, HasRoom, OpensTrace, TellsFull, TellsUsedUp, after_admit}
use Rattle.hall_trait.specs.Answers.{places_taken, places_of_load}
use Rattle.hall_trait.specs.View.{GoesOn, HallView, with_account}
use Rattle.hall_history.specs.History.{Entry, Opened, Sealed, Dropped, Asked, open_ids}
use Rattle.hall_history.specs.Seat.{Seat, Begins, IsAtRest}
use Rattle.hall_trait.specs.declared.answers.HallFault.{HallFault}
use Rattle.hall_trait.specs.declared.answers.HallFault.TheVariants as fault
use Rattle.hall_trait.specs.declared.pass.LoadPass.{LoadPass}
use Rattle.session_proto.specs.declared.reply.No.TheVariants as no
use Rattle.session_proto.specs.declared.reply.Reply.{Reply}
use Rattle.session_proto.specs.declared.reply.Reply.TheVariants as reply
use Rattle.paje_lines.specs.Text.{info_of_text}
use Rattle.paje_reader.specs.TextSaid.{Says, Reads, text_refusal}
use Rattle.paje_reader.specs.Why.{word_of}
use Rattle.paje_reader.specs.declared.read_fault.ReadFault.{ReadFault}
use Rattle.paje_reader.specs.declared.read_fault.ReadFault.TheVariants.{Refused}
use Rattle.paje_reader.specs.declared.read_fault.ReadRefusal.{ReadRefusal}
use Rattle.request_reader.specs.Requests.{WholeRequest, Load}
use Rattle.shard_core.specs.Room.{Room}
use Rattle.builders.specs.Spending.{BuildSpends, IsStoreSpent}
use Rattle.builders.specs.View.{GoesOnBuilding}
use Rattle.trace_session.specs.Load.{PublishesAll, GivesUp, refusal_of}
use Rattle.trace_session.specs.Replies.{opened_reply}
use Rattle.trace_session.specs.Served.{IsAnswered, Standing, standing, HasPlaces, IsUsedUp, published_from}
use Rattle.trace_session.specs.Served.{TellsOfStore}
use Rattle.trace_session.proofs.GoingOn.{serving_on, serving_refused, serving_same, serving_then}
use Rattle.trace_session.proofs.GoingOn.{serving_told, serving_worked}
use Rattle.trace_session.proofs.Numbers.{tells_none, tells_without}
use Rattle.trace_session.specs.Served.{load_entries}
use Rattle.trace_session.specs.Served.{dropped_entries, last_place}
use Rattle.trace_session.specs.Served.{spent_number}
use Rattle.trace_session.specs.Serving.{GoesOnServing, Grows, Serves}
use Rattle.trace_session.proofs.Grow.{grows_none, Grows-one, Grows-trans, last_place-push}

-- what the seat had seen when the request came
pub seen_before : (old new : List Entry) → Begins old new → take (length old) new ≡ old
seen_before old new b = ap (λ (h : List Entry). take (length old) h) b.1 ∙ take-append_seam old b.0

-- there was room behind it
pub had_places : (alone : Bool) (old new : List Entry) (n place : ℕ) (seen : List Entry) → Begins old new
    → OnTrue alone (HasRoom old n)
    → HasPlaces (record { alone = alone; before = take (length old) new; place = place; seen = seen }) n
had_places alone old new n place seen b room =
    subst (λ (h : List Entry). OnTrue alone (HasRoom h n)) (sym (seen_before old new b)) room

-- nothing happened
pub Serves-still : (old new : HallView) (request : WholeRequest) (r : Reply) → new.seat ≡ old.seat
    → IsAtRest old.seat
    → IsAnswered (standing old.alone old.seat.seen (length old.seat.seen) []) request r []
    → GoesOnServing (option_to_list (spent_number r)) old new → Serves old new request r
Serves-still old new request r same rest answered goes_on = record {
  block = [];
  entries = [];
  grows = subst (λ (s : Seat). Grows old.alone old.seat s [] []) (sym same) (grows_none old.alone old.seat);
  answered = subst
      (λ (s : Seat). IsAnswered (standing old.alone s.seen (length old.seat.seen) []) request r [])
      (sym same) answered;
  rest = subst IsAtRest (sym same) rest;
  goes_on = goes_on;
  of_store = tells_without new.rooms r;
}

-- the places were used up
pub used_up_still : (alone : Bool) (old new : Seat) (n p : ℕ) → TellsUsedUp alone old new n p
    → IsUsedUp (standing alone old.seen (length old.seen) []) n p
used_up_still alone old new n p m = (
  m.no_room,
  subst (λ (h : List Entry). OnTrue alone (p ≡ places_taken h))
      (sym (take_all (length old.seen) old.seen (omega arith))) m.taken,
)

-- the most traces were open
pub Serves-full : (old new : HallView) (text : List ℕ) (t : TraceText) (place : ℕ) → Says text t
    → IsAtRest old.seat → TellsFull old.alone old.seat new.seat (info_of_text t) place
    → GoesOnServing [] old new → Serves old new (Load text) (reply.No (no.Full place))
Serves-full old new text t place form rest m goes_on =
    let grows = Grows-one old.alone old.seat new.seat Asked place m.entered in
    let whole : take place new.seat.seen ≡ new.seat.seen =
    take_all place new.seat.seen (omega (arith, m.entered.last)) in
    record {
      block = place ∷ [];
      entries = Asked ∷ [];
      grows = grows;
      answered = (
        t,
        form,
        refl,
        refl,
        subst (λ (h : List Entry). length (open_ids h) ≡ MAX_OPEN_TRACES) (sym whole) m.full,
        had_places old.alone old.seat.seen new.seat.seen (places_of_load (info_of_text t)) place
            (take place new.seat.seen) grows.seen m.room,
      );
      rest = record {
        no_stakes = m.stakes ∙ rest.no_stakes;
        no_pins = m.pins ∙ rest.no_pins;
        no_passes = m.passes ∙ rest.no_passes;
      };
      goes_on = goes_on;
      of_store = tells_none new.rooms (place ∷ []) (reply.No (no.Full place)) refl;
    }

-- the trace was opened and sealed
pub Serves-opened : (old mid new : HallView) (text : List ℕ) (t : TraceText) (pass : LoadPass) (place : ℕ)
    → Says text t → OpensTrace old.alone old.seat mid.seat (info_of_text t) pass
    → PublishesAll mid new pass.id t.tracks place → mid.alone ≡ old.alone → GoesOnServing [] old new
    → Serves old new (Load text) (opened_reply pass.id t place)
Serves-opened old mid new text t pass place form m p same goes_on =
    let opened = Grows-one old.alone old.seat mid.seat (Opened pass.id (info_of_text t)) pass.place m.entered
    in
    let later = published_from pass.id 0 t.tracks ++ Sealed pass.id ∷ [] in
    let all = Grows-trans old.alone old.seat mid.seat new.seat (pass.place ∷ []) (p.before ++ place ∷ [])
    (Opened pass.id (info_of_text t) ∷ []) later opened
    (subst (λ (a : Bool). Grows a mid.seat new.seat (p.before ++ place ∷ []) later) same p.grows)
    in
    let block = pass.place ∷ p.before ++ place ∷ [] in
    let last : last_place block ≡ place = last_place-push (pass.place ∷ p.before) place in
    record {
      block = block;
      entries = load_entries pass.id t;
      grows = all;
      answered = (
        t,
        form,
        refl,
        ap (λ (k : ℕ). opened_reply pass.id t k) (sym last),
        had_places old.alone old.seat.seen new.seat.seen (places_of_load (info_of_text t)) (last_place block)
            (take (last_place block) new.seat.seen) all.seen m.room,
      );
      rest = p.rest;
      goes_on = goes_on;
      of_store = tells_none new.rooms block (opened_reply pass.id t place) refl;
    }

-- the load was given up, for want of memory or since a number of the store is used up
given_up : (f : HallFault) (s : Standing) (text : List ℕ) (t : TraceText) (id n : ℕ)
    (was now : HallView) → Says text t → GoesOnBuilding {X = ℕ} (Err f) was now
    → IsAnswered s (Load text) (refusal_of f) (dropped_entries id t n)
given_up fault.Memory s text t id n was now form told = inr (id, n, t, form, refl)
given_up (fault.Spent v) s text t id n was now form told = (t, form, inr (id, n, refl))
given_up (fault.Full place) s text t id n was now form told = absurd told

given_numbers : (f : HallFault) (rooms : Option (List Room)) (block : List ℕ) → BuildSpends {X = ℕ} rooms
    (Err f)
    → TellsOfStore rooms block (refusal_of f)
given_numbers fault.Memory rooms block spends = tells_none rooms block (reply.No no.Memory) refl
given_numbers (fault.Spent v) rooms block spends =
    λ p made is. let same : v ≡ p = cc in subst (IsStoreSpent rooms) same spends
given_numbers (fault.Full place) rooms block spends = tells_none rooms block (reply.No (no.Full place)) refl

pub Serves-dropped : (old mid new : HallView) (text : List ℕ) (t : TraceText) (pass : LoadPass)
    (f : HallFault) → Says text t → OpensTrace old.alone old.seat mid.seat (info_of_text t) pass
    → GivesUp mid new pass.id t.tracks → GoesOnServing [] old mid → GoesOnBuilding {X = ℕ} (Err f) mid new
    → BuildSpends {X = ℕ} new.rooms (Err f) → Serves old new (Load text) (refusal_of f)
Serves-dropped old mid new text t pass f form m p opens built spends =
    let opened = Grows-one old.alone old.seat mid.seat (Opened pass.id (info_of_text t)) pass.place m.entered
    in
    let block = pass.place ∷ p.block in
    let later = published_from pass.id 0 (take p.count t.tracks) ++ Dropped pass.id ∷ [] in
    record {
      block = block;
      entries = dropped_entries pass.id t p.count;
      grows = Grows-trans old.alone old.seat mid.seat new.seat (pass.place ∷ []) p.block
          (Opened pass.id (info_of_text t) ∷ []) later opened
          (subst (λ (a : Bool). Grows a mid.seat new.seat p.block later) opens.alone p.grows);
      answered = given_up f (standing old.alone new.seat.seen (length old.seat.seen) block) text t pass.id
          p.count mid new form built;
      rest = p.rest;
      goes_on = serving_then old mid new [] (option_to_list (spent_number (refusal_of f))) opens
          (serving_refused mid new f built);
      of_store = given_numbers f new.rooms block spends;
    }

-- a line of the text is refused, or there was no memory to read it
refusal_read : (text : List ℕ) (fault : ReadFault) (refusal : ReadRefusal) → Reads text (Err fault)
    → fault ≡ Refused refusal → text_refusal text ≡ Some refusal
refusal_read text fault refusal (inl memory) is = absurd (cc)
refusal_read text fault refusal (inr told) is =
    let both : Refused told.0 ≡ Refused refusal = sym told.1 ∙ is in
    let same : told.0 ≡ refusal = cc in told.2 ∙ ap (λ (r : ReadRefusal). Some r) same

pub put_refused : {read : ReadRefusal} (s : HallView) (text : List ℕ) (word : Bor (List ℕ))
    (fault : ReadFault) (refusal : ReadRefusal) → IsAtRest s.seat → Reads text (Err fault)
    → fault ≡ Refused refusal → read ≡ refusal → word.now ≡ word_of read.why
    → Serves s s (Load text) (reply.No (no.Text read.line word))
put_refused {read} s text word fault refusal rest reads is same told =
    let refused : text_refusal text ≡ Some read =
    refusal_read text fault refusal reads is ∙ ap (λ (r : ReadRefusal). Some r) (sym same) in
    Serves-still s s (Load text) (reply.No (no.Text read.line word)) refl rest
    (read, refused, refl, told, refl) (serving_same s)

pub put_memory : (s : HallView) (text : List ℕ) → IsAtRest s.seat
    → Serves s s (Load text) (reply.No no.Memory)
put_memory s text rest =
    Serves-still s s (Load text) (reply.No no.Memory) refl rest (inl refl) (serving_same s)

-- the trace wasn't let in
refused_by : (old new : HallView) (text : List ℕ) (t : TraceText) (f : HallFault) → Says text t
    → IsAtRest old.seat → Admits old.alone old.seat new.seat (info_of_text t) (Err f)
    → GoesOn (with_account (after_admit (info_of_text t) (Err f)) old) new
    → Serves old new (Load text) (refusal_of f)
refused_by old new text t fault.Memory form rest m p =
    Serves-still old new (Load text) (reply.No no.Memory) m rest (inl refl) (serving_on old new p)
refused_by old new text t (fault.Spent n) form rest m p =
    Serves-still old new (Load text) (reply.No (no.Spent n)) m.same rest
    (t, form, inl (refl, used_up_still old.alone old.seat new.seat (places_of_load (info_of_text t)) n m))
    (serving_told old new n p)
refused_by old new text t (fault.Full place) form rest m p =
    Serves-full old new text t place form rest m (serving_worked old new 1 p)

-- what admit answers, and what the calls came to then
abbrev pub Admitted : HallView → HallView → TraceInfo → Result LoadPass HallFault → Type 0
Admitted old new info r = Admits old.alone old.seat new.seat info r
    × GoesOn (with_account (after_admit info r) old) new

-- it does so for the info of the text, with this result
pub admitted_as : (old new : HallView) (info of_text : TraceInfo) (r told : Result LoadPass HallFault)
    → info ≡ of_text → r ≡ told → Admitted old new info r → Admitted old new of_text told
admitted_as old new info of_text r told same is a =
    subst (λ (i : TraceInfo). Admitted old new i told) same
    (subst (λ (x : Result LoadPass HallFault). Admitted old new info x) is a)

pub Serves-refused : (old new : HallView) (text : List ℕ) (t : TraceText) (f : HallFault) → Says text t
    → IsAtRest old.seat → Admitted old new (info_of_text t) (Err f)
    → Serves old new (Load text) (refusal_of f)
Serves-refused old new text t f form rest a = refused_by old new text t f form rest a.0 a.1

-- the info that was made of a trace
abbrev pub with_messages : TraceText → MsgTable → TraceInfo
with_messages t messages = record { names = t.names; messages = messages }

pub table_made : (t : TraceText) (messages : MsgTable) (links : List LinkEvent) → messages ≡ table_of links
    → links ≡ t.links → messages ≡ table_of t.links
table_made t messages links made same = made ∙ ap table_of same

pub info_made : (t : TraceText) (info : TraceInfo) (messages : MsgTable) (links : List LinkEvent)
    → info ≡ with_messages t messages → messages ≡ table_of links → links ≡ t.links → info ≡ info_of_text t
info_made t info messages links is made same =
    is ∙ ap (with_messages t) (table_made t messages links made same)
