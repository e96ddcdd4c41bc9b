use Rattle.std.proofs.Common.{◌≡◌, List, [], ◌∷◌, ◌++◌, length, refl, ap, sym, ◌∙◌, subst, arith}
use Rattle.std.proofs.Common.{append-nil}
use Rattle.std.proofs.lemmas.Option.{same_Some}
use Rattle.hall_history.specs.History.{Asked, Entry, opened_ids}
use Rattle.hall_history.specs.declared.asks.AskIds.{AskIds}
use Rattle.hall_history.specs.declared.seat.PinView.{PinView}
use Rattle.hall_history.proofs.HistoryMore.{opened_more}
use Rattle.node_store.specs.Given.{ever}
use Rattle.registry_core.specs.Asking.{AsksIn}
use Rattle.registry_core.specs.Registry.{kept_trace}
use Rattle.registry_core.specs.declared.answers.RegAsk.{RegAsk}
use Rattle.registry_core.specs.declared.answers.RegAsk.TheVariants.{Pinned, Unknown}
use Rattle.hall_trait.proofs.Views.{later_same}
use Rattle.plain_hall.specs.KeptHistory.{entries_owed, history}
use Rattle.plain_hall.specs.PlainHall.{seen_by}
use Rattle.plain_hall.specs.PlainSeat.{IsHeld, queries_of}
use Rattle.plain_hall.specs.Whole.{IsSoundHall}
use Rattle.plain_hall.specs.declared.kept_pin.KeptPin.{KeptPin}
use Rattle.plain_hall.proofs.Calls.{asked_passes}
use Rattle.plain_hall.proofs.Found.{held_more}
use Rattle.plain_hall.proofs.LoadFacts.{last_place, told_length}
use Rattle.plain_hall.proofs.PinFacts.{held_by, known_are_open, no_query, query_tracks, unknown_told}
use Rattle.plain_hall.proofs.Steps.{makes}
use Rattle.plain_hall.proofs.WholeAfter.{seen_more}
use Rattle.plain_hall.proofs.WholeCalls.{whole_asked, whole_pinned}
use Rattle.plain_hall.proofs.Owed.{owed-asked, owed-pinned}
use Rattle.plain_hall.proofs.Views.{goes_on_alike}
use Rattle.plain_hall.proofs.hall.PlainHallHall.ask.Goals as goal

pub invariant_of-self : goal.invariant_of-self
invariant_of-self g c =
    let was = c.args.self.now in
    let ids = c.args.ids in
    let es = history c.push_asked.new.self in
    let asks : AsksIn was.registry ids (Pinned c.in-Pinned.place) c.ask.new.self =
    subst (λ (o : RegAsk). AsksIn was.registry ids o c.ask.new.self) c.in-Pinned.is c.ask.ensures in
    let before : IsSoundHall was.nodes was.registry (history was.past) [] =
    subst (λ (qs : List AskIds). IsSoundHall was.nodes was.registry (history was.past) qs)
    (no_query was.pin c.requires) was.whole in
    let whole = whole_pinned was.nodes was.registry c.ask.new.self (history was.past) es ids c.in-Pinned.place []
    c.push_asked.ensures.seen asks before in
    let pin : KeptPin = record { ids = ids; place = c.in-Pinned.place } in
    record {
      whole = whole;
      space = omega (
        arith,
        c.push_asked.ensures.space (entries_owed was.registry) was.space,
        owed-pinned was.registry c.ask.new.self ids c.in-Pinned.place asks,
      );
      held = λ p same.
          let P : KeptPin → Type 0 = λ q. IsHeld es q in
          subst P (same_Some pin p same) (held_by was.nodes c.ask.new.self es pin [] whole
          (told_length was.nodes was.registry _ (history was.past) es Asked c.in-Pinned.place was.whole c.push_asked.ensures.seen
          asks.2));
      profiles = was.profiles;
    }

pub invariant_of-self-in-Unknown : goal.invariant_of-self-in-Unknown
invariant_of-self-in-Unknown g c =
    let was = c.args.self.now in
    let ids = c.args.ids in
    let asks : AsksIn was.registry ids (Unknown c.in-Unknown.id c.in-Unknown.next c.in-Unknown.place)
    c.ask.new.self =
    subst (λ (o : RegAsk). AsksIn was.registry ids o c.ask.new.self) c.in-Unknown.is c.ask.ensures in
    record {
      whole = whole_asked was.nodes was.registry c.ask.new.self (history was.past) _ _
          c.push_asked-in-Unknown.ensures.seen asks.4 asks.0 was.whole;
      space = omega (
        arith,
        c.push_asked-in-Unknown.ensures.space (entries_owed was.registry) was.space,
        owed-asked was.registry c.ask.new.self asks.4,
      );
      held = held_more _ _ _ was.pin c.push_asked-in-Unknown.ensures.seen was.held;
      profiles = was.profiles;
    }

pub returns-in-Pinned-clause-answer : goal.returns-in-Pinned-clause-answer
returns-in-Pinned-clause-answer g c =
    let was = c.args.self.now in
    let ids = c.args.ids in
    let es = history c.push_asked.new.self in
    let asks : AsksIn was.registry ids (Pinned c.in-Pinned.place) c.ask.new.self =
    subst (λ (o : RegAsk). AsksIn was.registry ids o c.ask.new.self) c.in-Pinned.is c.ask.ensures in
    let whole = whole_pinned was.nodes was.registry c.ask.new.self (history was.past) es ids c.in-Pinned.place
    (queries_of was.pin) c.push_asked.ensures.seen asks was.whole in
    let seen = seen_more (ever was.nodes.given) _ _ Asked c.push_asked.ensures.seen in
    let last = last_place _ _ (seen_by was) _ _ c.in-Pinned.place was.whole.stands seen asks.2 in
    let view : PinView = record { ids = ids; place = c.in-Pinned.place } in
    record {
      entered = makes _ _ _ _ _ _ _ _ seen last;
      are_open = known_are_open _ was.registry _ _ ids was.whole.stands seen asks.1;
      same_ids = refl;
      first = query_tracks was.nodes c.ask.new.self es ids _ 0 c.brief.result.tracks whole (λ t kept.
          c.brief.ensures t (ap (kept_trace c.ask.new.self.traces) c.first_of.ensures ∙ kept));
      second = query_tracks was.nodes c.ask.new.self es ids _ 1 c.brief-in-Pinned.result.tracks whole (λ t kept.
          c.brief-in-Pinned.ensures t (ap (kept_trace c.ask.new.self.traces) c.second_of.ensures ∙ kept));
      pins = ap (λ (ps : List PinView). ps ++ view ∷ []) (sym c.requires);
      passes = asked_passes _ _ seen;
      stakes = refl;
      room = omega (arith, asks.0, was.whole.stands.place, was.whole.stands.promised);
    }

pub returns-in-Unknown-clause-answer : goal.returns-in-Unknown-clause-answer
returns-in-Unknown-clause-answer g c =
    let was = c.args.self.now in
    let ids = c.args.ids in
    let asks : AsksIn was.registry ids (Unknown c.in-Unknown.id c.in-Unknown.next c.in-Unknown.place)
    c.ask.new.self =
    subst (λ (o : RegAsk). AsksIn was.registry ids o c.ask.new.self) c.in-Unknown.is c.ask.ensures in
    let seen = seen_more (ever was.nodes.given) _ _ Asked c.push_asked-in-Unknown.ensures.seen in
    let last = last_place _ _ (seen_by was) _ _ c.in-Unknown.place was.whole.stands seen asks.3 in
    let same : opened_ids (seen_by was ++ Asked ∷ []) ≡ opened_ids (seen_by was) =
    opened_more (seen_by was) Asked ∙ append-nil _ in (
      record {
        entered = makes _ _ _ _ _ _ _ _ seen last;
        pins = refl;
        passes = asked_passes _ _ seen;
        stakes = refl;
        room = omega (arith, asks.0, was.whole.stands.place, was.whole.stands.promised);
      },
      unknown_told _ was.registry _ _ ids c.in-Unknown.id was.whole.stands seen asks.1,
      omega (
        arith,
        asks.2,
        was.whole.stands.next_id,
        ap (λ (es : List Entry). length (opened_ids es)) seen,
        ap length same,
      ),
    )

pub returns-in-Pinned-clause-rest : goal.returns-in-Pinned-clause-rest
returns-in-Pinned-clause-rest g c = goes_on_alike _ _ _ _ _ (later_same _)

pub returns-in-Unknown-clause-rest : goal.returns-in-Unknown-clause-rest
returns-in-Unknown-clause-rest g c = goes_on_alike _ _ _ _ _ (later_same _)

pub returns-in-Spent-clause-rest : goal.returns-in-Spent-clause-rest
returns-in-Spent-clause-rest g c = goes_on_alike _ _ _ _ _ (later_same _)
