use Rattle.std.proofs.Common.{◌≡◌, ◌+◌, List, [], ◌∷◌, ◌++◌, Err, Ok, Result, length, refl, ap, sym, ◌∙◌, subst}
use Rattle.std.proofs.Common.{arith}
use Rattle.std.specs.Arc.{arc_value}
use Rattle.std.specs.Option.{ForSome}
use Rattle.trace_base.specs.declared.names.TraceInfo.{TraceInfo}
use Rattle.hall_history.specs.History.{Asked, Entry, EntryOf, Opened, open_ids, opened_ids}
use Rattle.hall_trait.specs.Pass.{IsFresh}
use Rattle.hall_history.specs.Passes.{state_at}
use Rattle.hall_trait.specs.declared.pass.LoadPass.{LoadPass}
use Rattle.node_store.specs.Given.{ever}
use Rattle.registry_core.proofs.OpenRows.{open_count_told}
use Rattle.registry_core.specs.Loading.{AdmitsIn}
use Rattle.registry_core.specs.Registry.{RegistryValue}
use Rattle.registry_core.specs.Standing.{AreTrees}
use Rattle.registry_core.specs.declared.answers.Opened.{Opened as OpenedTrace}
use Rattle.registry_core.specs.declared.answers.RegFault.{RegFault}
use Rattle.registry_core.specs.declared.answers.RegFault.TheVariants.{Full, Memory, Spent}
use Rattle.registry_core.proofs.ToldCalls.{told-admitted}
use Rattle.plain_hall.specs.KeptHistory.{HasSpace, entries_owed, history}
use Rattle.plain_hall.specs.PlainHall.{pins_of, seen_by}
use Rattle.plain_hall.specs.PlainSeat.{IsHeld, queries_of}
use Rattle.plain_hall.specs.Whole.{IsSoundHall, at_first}
use Rattle.plain_hall.specs.declared.hall.PlainHall.{PlainHall}
use Rattle.plain_hall.specs.declared.kept_history.KeptHistory.{KeptHistory}
use Rattle.plain_hall.specs.declared.root.Root.{Root}
use Rattle.plain_hall.specs.Rooted.{with_trees}
use Rattle.plain_hall.proofs.Calls.{asked_passes, opened_answer}
use Rattle.plain_hall.proofs.Found.{held_more}
use Rattle.plain_hall.proofs.LoadFacts.{last_place}
use Rattle.plain_hall.proofs.Passes.{asked_keeps}
use Rattle.plain_hall.proofs.Steps.{makes}
use Rattle.plain_hall.proofs.WholeAfter.{seen_more}
use Rattle.plain_hall.proofs.WholeCalls.{whole_asked, whole_opened}
use Rattle.hall_trait.proofs.Views.{later_same}
use Rattle.plain_hall.proofs.Owed.{owed-asked, owed-opened}
use Rattle.plain_hall.proofs.Reached.{reach_still}
use Rattle.plain_hall.proofs.Views.{goes_on_alike}
use Rattle.plain_hall.proofs.hall.PlainHallHall.admit.Goals as goal

-- with more space nothing else changes
record Stays (was : PlainHall) (r : RegistryValue) (past : KeptHistory) : Type 0 where
  whole : IsSoundHall was.nodes r (history past) (queries_of was.pin)
  space : HasSpace past (entries_owed r)
  held : ForSome was.pin (IsHeld (history past))

stays : (was : PlainHall) (r : RegistryValue) (past : KeptHistory) → r ≡ was.registry
    → history past ≡ history was.past → HasSpace past (entries_owed was.registry) → Stays was r past
stays was r past is seen space = record {
  whole = subst (λ (r : RegistryValue). IsSoundHall was.nodes r (history past) (queries_of was.pin)) (sym is)
      (subst (λ (es : List (EntryOf Root)). IsSoundHall was.nodes was.registry es (queries_of was.pin)) (sym seen)
      was.whole);
  space = subst (λ (r : RegistryValue). HasSpace past (entries_owed r)) (sym is) space;
  held = subst (λ (es : List (EntryOf Root)). ForSome was.pin (IsHeld es)) (sym seen) was.held;
}

-- what the registry answered, for the info that the history has as well
admits_same : (old new : RegistryValue) (kept info : TraceInfo) (a b : Result OpenedTrace RegFault) → kept ≡ info
    → a ≡ b → AdmitsIn old kept a new → AdmitsIn old info b new
admits_same old new kept info a b same is admits = subst (λ (i : TraceInfo). AdmitsIn old i b new) same
    (subst (λ (o : Result OpenedTrace RegFault). AdmitsIn old kept o new) is admits)

pub invariant_of-self : goal.invariant_of-self
invariant_of-self g c =
    let was = c.args.self.now in
    let same = stays was was.registry c.reserve.new.self refl c.reserve.ensures.seen
    (c.reserve.ensures.same (entries_owed was.registry) was.space) in
    record { whole = same.whole; space = same.space; held = same.held; profiles = was.profiles }

pub invariant_of-self-in-Ok-admit : goal.invariant_of-self-in-Ok-admit
invariant_of-self-in-Ok-admit g c =
    let was = c.args.self.now in
    let info = arc_value c.args.info in
    let opened = c.in-Ok-admit.opened in
    let admits = admits_same was.registry c.admit.new.self _ info _ (Ok opened) c.in-Ok.ensures.cases
    c.in-Ok-admit.is c.admit.ensures in
    let seen : history c.push.new.self ≡ history was.past ++ Opened opened.id info ∷ [] =
    c.push.ensures.seen ∙ ap (λ (es : List (EntryOf Root)). es ++ Opened opened.id info ∷ []) c.reserve.ensures.seen in
    let tracks : c.from.result ≡ length info.names.tracks =
    c.from.ensures ∙ c.len-tracks.ensures ∙ ap (λ (i : TraceInfo). length i.names.tracks) c.deref.ensures in
    record {
      whole = whole_opened was.nodes was.registry c.admit.new.self (history was.past) _ info opened _ seen c.requires
          admits was.whole;
      space = c.push.ensures.space (entries_owed c.admit.new.self) (omega (
        arith,
        c.in-Ok-reserve.ensures.space,
        c.promised.ensures,
        c.open_traces.ensures,
        tracks,
        owed-opened was.registry c.admit.new.self info opened admits,
      ));
      held = held_more _ _ _ was.pin seen was.held;
      profiles = was.profiles;
    }

pub returns-in-Ok-admit-clause-answer : goal.returns-in-Ok-admit-clause-answer
returns-in-Ok-admit-clause-answer g c =
    let was = c.args.self.now in
    let info = arc_value c.args.info in
    let opened = c.in-Ok-admit.opened in
    let pass = c.new.result in
    let admits = admits_same was.registry c.admit.new.self _ info _ (Ok opened) c.in-Ok.ensures.cases
    c.in-Ok-admit.is c.admit.ensures in
    let tracks : c.len-tracks.result ≡ length info.names.tracks =
    c.len-tracks.ensures ∙ ap (λ (i : TraceInfo). length i.names.tracks) c.deref.ensures in
    let fresh : IsFresh pass (length info.names.tracks) =
    record {
      from = ap (λ (p : LoadPass). p.from) c.new.ensures;
      to = ap (λ (p : LoadPass). p.to) c.new.ensures ∙ tracks;
      state = ap (λ (p : LoadPass). p.state) c.new.ensures ∙ ap (state_at 0) tracks;
    } in
    let id : pass.id ≡ opened.id = ap (λ (p : LoadPass). p.id) c.new.ensures in
    let place : pass.place ≡ was.registry.place + 1 =
    ap (λ (p : LoadPass). p.place) c.new.ensures ∙ ap (λ (o : OpenedTrace). o.place) admits.2 in
    let next : pass.id ≡ length (opened_ids (seen_by was)) + 1 =
    omega (arith, id, ap (λ (o : OpenedTrace). o.id) admits.2, was.whole.stands.next_id) in
    let told : history c.push.new.self ≡ history was.past ++ Opened pass.id info ∷ [] =
    c.push.ensures.seen ∙ ap (λ (es : List (EntryOf Root)). es ++ Opened opened.id info ∷ []) c.reserve.ensures.seen
    ∙ ap (λ i. history was.past ++ Opened i info ∷ []) (sym id) in
    let seen = seen_more (ever was.nodes.given) _ _ (Opened pass.id info) told in
    opened_answer _ _ _ _ pass info seen next
    (last_place _ _ (seen_by was) _ _ pass.place was.whole.stands seen place) fresh
    (omega (arith, admits.0, was.whole.stands.place, was.whole.stands.promised)) was.whole.orderly

pub invariant_of-self-in-Err-Full : goal.invariant_of-self-in-Err-Full
invariant_of-self-in-Err-Full g c =
    let was = c.args.self.now in
    let admits = admits_same was.registry c.admit.new.self _ (arc_value c.args.info) _
    (Err (Full c.in-Err-Full.place)) c.in-Ok.ensures.cases (c.in-Err-Full.is ∙ ap Err c.in-Err-Full.field-0-is)
    c.admit.ensures in
    let seen : history c.push_asked.new.self ≡ history was.past ++ Asked ∷ [] =
    c.push_asked.ensures.seen ∙ ap (λ (es : List (EntryOf Root)). es ++ Asked ∷ []) c.reserve.ensures.seen in
    record {
      whole = whole_asked was.nodes was.registry c.admit.new.self (history was.past) _ _ seen admits.3
          (omega (arith, admits.0)) was.whole;
      space = omega (
        arith,
        c.push_asked.ensures.space (entries_owed was.registry)
            (c.reserve.ensures.same (entries_owed was.registry) was.space),
        owed-asked was.registry c.admit.new.self admits.3,
      );
      held = held_more _ _ _ was.pin seen was.held;
      profiles = was.profiles;
    }

pub returns-in-Err-Full-clause-answer : goal.returns-in-Err-Full-clause-answer
returns-in-Err-Full-clause-answer g c =
    let was = c.args.self.now in
    let admits = admits_same was.registry c.admit.new.self _ (arc_value c.args.info) _
    (Err (Full c.in-Err-Full.place)) c.in-Ok.ensures.cases (c.in-Err-Full.is ∙ ap Err c.in-Err-Full.field-0-is)
    c.admit.ensures in
    let told : history c.push_asked.new.self ≡ history was.past ++ Asked ∷ [] =
    c.push_asked.ensures.seen ∙ ap (λ (es : List (EntryOf Root)). es ++ Asked ∷ []) c.reserve.ensures.seen in
    let seen = seen_more (ever was.nodes.given) _ _ Asked told in
    record {
      entered = makes _ _ _ _ _ _ _ _ seen
          (last_place _ _ (seen_by was) _ _ c.in-Err-Full.place was.whole.stands seen admits.2);
      full = ap (λ (es : List Entry). length (open_ids es)) seen ∙ (asked_keeps (seen_by was)).opens
          ∙ sym (open_count_told (AreTrees (ever was.nodes.given)) at_first was.registry (seen_by was)
          was.whole.stands) ∙ admits.1;
      passes = asked_passes _ _ seen;
      pins = refl;
      stakes = refl;
      room = omega (arith, admits.0, was.whole.stands.place, was.whole.stands.promised);
    }

pub invariant_of-self-in-Spent-1 : goal.invariant_of-self-in-Spent-1
invariant_of-self-in-Spent-1 g c =
    let was = c.args.self.now in
    let admits = admits_same was.registry c.admit.new.self _ (arc_value c.args.info) _
    (Err (Spent c.in-Err-Spent.taken)) c.in-Ok.ensures.cases (c.in-Err-Spent.is ∙ ap Err c.in-Err-Spent.field-0-is)
    c.admit.ensures in
    let same = stays was c.admit.new.self c.reserve.new.self admits.1 c.reserve.ensures.seen
    (c.reserve.ensures.same (entries_owed was.registry) was.space) in
    record { whole = same.whole; space = same.space; held = same.held; profiles = was.profiles }

pub invariant_of-self-in-Err-Memory : goal.invariant_of-self-in-Err-Memory
invariant_of-self-in-Err-Memory g c =
    let was = c.args.self.now in
    let admits = admits_same was.registry c.admit.new.self _ (arc_value c.args.info) _ (Err Memory)
    c.in-Ok.ensures.cases (c.in-Err-Memory.is ∙ ap Err c.in-Err-Memory.field-0-is) c.admit.ensures in
    let same = stays was c.admit.new.self c.reserve.new.self admits.2 c.reserve.ensures.seen
    (c.reserve.ensures.same (entries_owed was.registry) was.space) in
    record { whole = same.whole; space = same.space; held = same.held; profiles = was.profiles }

pub returns-in_default-clause-rest : goal.returns-in_default-clause-rest
returns-in_default-clause-rest g c = goes_on_alike _ _ _ _ _ (later_same _)

pub returns-in_default-reserve-clause-rest : goal.returns-in_default-reserve-clause-rest
returns-in_default-reserve-clause-rest g c = goes_on_alike _ _ _ _ _ (later_same _)

pub returns-in-Ok-admit-clause-rest : goal.returns-in-Ok-admit-clause-rest
returns-in-Ok-admit-clause-rest g c = goes_on_alike _ _ _ _ _ (later_same _)

pub returns-in-Ok-admit-clause-reach : goal.returns-in-Ok-admit-clause-reach
returns-in-Ok-admit-clause-reach g c =
    let was = c.args.self.now in
    let info = arc_value c.args.info in
    let opened = c.in-Ok-admit.opened in
    let admits = admits_same was.registry c.admit.new.self _ info _ (Ok opened) c.in-Ok.ensures.cases
    c.in-Ok-admit.is c.admit.ensures in
    reach_still was.nodes was.nodes was.registry c.admit.new.self (pins_of was) (pins_of was)
    (with_trees (ever was.nodes.given) (history c.push.new.self))
    (λ n key at. at) (λ p has still. told-admitted was.registry c.admit.new.self info (Ok opened) p.ids p.place admits)

pub returns-in-Err-Full-clause-rest : goal.returns-in-Err-Full-clause-rest
returns-in-Err-Full-clause-rest g c = goes_on_alike _ _ _ _ _ (later_same _)

pub returns-in-Err-Spent-clause-rest : goal.returns-in-Err-Spent-clause-rest
returns-in-Err-Spent-clause-rest g c = goes_on_alike _ _ _ _ _ (later_same _)

pub returns-clause-rest : goal.returns-clause-rest
returns-clause-rest g c = goes_on_alike _ _ _ _ _ (later_same _)
