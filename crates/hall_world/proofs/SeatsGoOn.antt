-- What a seat has seen after its event, and which place it has got.
use Rattle.std.proofs.Common.{◌≡◌, ◌⊎◌, inl, inr, ℕ, List, [], ◌∷◌, ◌++◌, All, None, Some, ap, ◌∙◌, arith}
use Rattle.std.proofs.Common.{cond, eqb, eq-eqb, false}
use Rattle.std.proofs.Common.{refl, slice_get, slice_set, subst, sym}
use Rattle.std.proofs.lemmas.List.Elements.{All-push, All-set}
use Rattle.std.specs.Arc.{arc_value}
use Rattle.std.specs.Option.{option_or}
use Rattle.list_lemmas.proofs.All.{All-at}
use Rattle.hall_history.proofs.HistoryMore.{info_more}
use Rattle.hall_history.specs.History.{Asked, Entry, Opened, Published, PublishedTree, info_of}
use Rattle.hall_history.specs.declared.seat.PassView.{PassView}
use Rattle.hall_history.specs.declared.seat.PinView.{PinView}
use Rattle.hall_world.specs.Good.{IsGoodSeat, IsSeenPin, SeesHistory, SharePlaces}
use Rattle.hall_world.specs.Passes.{IsPassOf, fresh_pass, pass_after}
use Rattle.hall_world.specs.Past.{Past, next_place, with_entries}
use Rattle.hall_world.specs.Seats.{Changes, Publishes, entered, without_at}
use Rattle.hall_world.specs.declared.events.HallEvent.{HallEvent}
use Rattle.hall_world.specs.declared.events.HallEvent.TheVariants as event
use Rattle.hall_world.specs.declared.events.StepAnswer.{StepAnswer}
use Rattle.hall_world.specs.declared.events.StepAnswer.TheVariants as answer
use Rattle.hall_world.specs.declared.world.SeatView.{SeatView}
use Rattle.hall_world.proofs.Places.{places_entered, places_kept}
use Rattle.hall_world.proofs.SeatsSee.{All-without_at, entered_sees, seats_kept}
use Rattle.hall_world.proofs.SeatsSeePast.{no_entries, passes_next, pins_next, seats_later}
use Rattle.node_key.specs.declared.stake.Stake.{Stake}
use Rattle.registry_core.specs.declared.answers.RegAsk.TheVariants as ask
use Rattle.registry_core.specs.declared.answers.RegClose.TheVariants as close
use Rattle.registry_core.specs.declared.answers.RegEnd.TheVariants as end
use Rattle.trace_base.specs.declared.names.TraceInfo.{TraceInfo}

-- ---- how a seat goes on

-- The seat has seen the history with these entries, and has the place of the one that it made, if any.
pub record GoesOn (past : Past) (seat : SeatView) (entries : List Entry) (after : SeatView) : Type 0 where
  pub sees : SeesHistory (with_entries past entries) after
  pub active : after.ended ≡ false
  pub places : ((entries ≡ []) × (after.places ≡ seat.places))
      ⊎ ((e : Entry) × (entries ≡ e ∷ []) × (after.places ≡ seat.places ++ next_place past ∷ []))

-- a seat that makes no entry, with pins and passes that it has seen
stays : (past : Past) (seat after : SeatView) (entries : List Entry) (stakes : List Stake)
    (pins : List PinView) → SeesHistory past seat → seat.ended ≡ false
    → All (IsSeenPin past seat.seen) pins → entries ≡ []
    → after ≡ record seat { stakes = stakes; pins = pins } → GoesOn past seat entries after
stays past seat after entries stakes pins sees active are none is =
    subst (λ es. GoesOn past seat es after) (sym none) (subst (GoesOn past seat []) (sym is) (record {
      sees = subst (λ p. SeesHistory p (record seat { stakes = stakes; pins = pins })) (sym (no_entries past))
          (record {
            begun = sees.begun;
            seen = sees.seen;
            rising = sees.rising;
            own = sees.own;
            pins = are;
            passes = sees.passes;
          });
      active = active;
      places = inl (refl, refl);
    }))

-- a seat that makes an entry, with pins and passes that are seen after it
enters : (past : Past) (e : Entry) (seat after : SeatView) (entries : List Entry) (stakes : List Stake)
    (pins : List PinView) (passes : List PassView) → SeesHistory past seat → seat.ended ≡ false
    → All (IsSeenPin (with_entries past (e ∷ [])) (next_place past)) pins
    → All (IsPassOf (past.entries ++ e ∷ [])) passes → entries ≡ e ∷ []
    → after ≡ record (entered (next_place past) seat) { stakes = stakes; pins = pins; passes = passes }
    → GoesOn past seat entries after
enters past e seat after entries stakes pins passes sees active are-pins are-passes made is =
    subst (λ es. GoesOn past seat es after) (sym made) (subst (GoesOn past seat (e ∷ [])) (sym is) (record {
      sees = entered_sees past e seat pins passes stakes sees are-pins are-passes;
      active = active;
      places = inr (e, refl, refl);
    }))

-- a seat that makes an entry, and keeps its pins
enters_pinned : (past : Past) (e : Entry) (seat after : SeatView) (entries : List Entry) (stakes : List Stake)
    (passes : List PassView) → SeesHistory past seat → seat.ended ≡ false
    → All (IsPassOf (past.entries ++ e ∷ [])) passes → entries ≡ e ∷ []
    → after ≡ record (entered (next_place past) seat) { stakes = stakes; passes = passes }
    → GoesOn past seat entries after
enters_pinned past e seat after entries stakes passes sees active are made is =
    enters past e seat after entries stakes seat.pins passes sees active
    (pins_next past e seat.seen seat.pins sees.seen sees.pins) are made is

-- and keeps its passes as well
enters_alone : (past : Past) (e : Entry) (seat after : SeatView) (entries : List Entry) (stakes : List Stake)
    → SeesHistory past seat → seat.ended ≡ false → entries ≡ e ∷ []
    → after ≡ record (entered (next_place past) seat) { stakes = stakes } → GoesOn past seat entries after
enters_alone past e seat after entries stakes sees active made is =
    enters_pinned past e seat after entries stakes seat.passes sees active
    (passes_next past e seat.seen seat.passes sees.passes) made is

-- or all its passes but one
enters_without : (past : Past) (e : Entry) (seat after : SeatView) (entries : List Entry)
    (stakes : List Stake) (at : ℕ) → SeesHistory past seat → seat.ended ≡ false → entries ≡ e ∷ []
    → after
    ≡ record (entered (next_place past) seat) { stakes = stakes; passes = without_at at seat.passes }
    → GoesOn past seat entries after
enters_without past e seat after entries stakes at sees active made is =
    enters_pinned past e seat after entries stakes (without_at at seat.passes) sees active
    (All-without_at (IsPassOf (past.entries ++ e ∷ [])) at seat.passes
    (passes_next past e seat.seen seat.passes sees.passes)) made is

-- ---- passes that are opened, and that come further

-- a pass over the tracks of a trace that is opened
pub fresh_is_pass : (entries : List Entry) (id : ℕ) (info : TraceInfo) → info_of entries id ≡ None
    → IsPassOf (entries ++ Opened id info ∷ []) (fresh_pass id info)
fresh_is_pass entries id info none = record {
  info = info;
  opened = info_more entries (Opened id info) id
      ∙ ap (λ o. option_or o (cond (eqb id id) (Some info) None)) none
      ∙ ap (λ b. cond b (Some info) None) (eq-eqb id id refl);
  order = omega arith;
  within = omega arith;
}

-- a pass that comes further
pub next_is_pass : (entries : List Entry) (p : PassView) → IsPassOf entries p
    → IsPassOf entries (pass_after p)
next_is_pass entries p is = record {
  info = is.info;
  opened = is.opened;
  order = is.order;
  within = is.within;
}

-- a seat that publishes
published_goes : (past : Past) (seat after : SeatView) (at start root : ℕ) (entries : List Entry)
    → SeesHistory past seat → seat.ended ≡ false → Publishes past seat at start root entries after
    → GoesOn past seat entries after
published_goes past seat after at start root entries sees active made =
    let what : PublishedTree = record { start = start; tree = made.tree } in
    let e = Published made.pass.id made.track what in
    let were = passes_next past e seat.seen seat.passes sees.passes in
    enters_pinned past e seat after entries made.restaked.stakes
    (slice_set seat.passes at (pass_after made.pass)) sees active
    (All-set (IsPassOf (past.entries ++ e ∷ [])) seat.passes at (pass_after made.pass)
    (next_is_pass (past.entries ++ e ∷ []) made.pass
    (All-at (IsPassOf (past.entries ++ e ∷ [])) seat.passes at made.pass were made.there)) were)
    made.made made.restaked.now

-- ---- each event

-- What must be known of an answer: a trace that is opened has a new id, and the traces of a pin are open.
abbrev pub IsNews : Past → HallEvent → StepAnswer → Type 0
IsNews past (event.Admit info) (answer.Opened opened) = info_of past.entries opened.id ≡ None
IsNews past (event.Ask ids) (answer.Asked (ask.Pinned place)) =
    IsSeenPin (with_entries past (Asked ∷ [])) (next_place past) (record { ids = ids; place = place })
IsNews _ _ _ = Unit {0}

-- Whatever event a seat makes in a room, it goes on.
pub seat_goes_on : (past : Past) (seat : SeatView) (e : HallEvent) (a : StepAnswer) (entries : List Entry)
    (after : SeatView) → SeesHistory past seat → seat.ended ≡ false → IsNews past e a
    → Changes past seat e a entries after → GoesOn past seat entries after
seat_goes_on past seat (event.Intern key) (answer.Interned i) es after sees active new
    (none, t, kids, staked, restaked) =
    stays past seat after es restaked.stakes seat.pins sees active sees.pins none restaked.now
seat_goes_on past seat (event.Intern key) (answer.Spent v) es after sees active new (none, is) =
    stays past seat after es seat.stakes seat.pins sees active sees.pins none is
seat_goes_on past seat (event.Read of) a es after sees active new (none, is) =
    stays past seat after es seat.stakes seat.pins sees active sees.pins none is
seat_goes_on past seat (event.Drop n) (answer.Dropped d) es after sees active new
    (none, x, has, number, kids, freed, restaked) =
    stays past seat after es restaked.stakes seat.pins sees active sees.pins none restaked.now
seat_goes_on past seat (event.Admit info) (answer.Opened opened) es after sees active new (made, is) =
    let e = Opened opened.id (arc_value info) in
    enters_pinned past e seat after es seat.stakes (seat.passes ++ fresh_pass opened.id (arc_value info) ∷ [])
    sees active
    (All-push (IsPassOf (past.entries ++ e ∷ [])) seat.passes (fresh_pass opened.id (arc_value info))
    (passes_next past e seat.seen seat.passes sees.passes)
    (fresh_is_pass past.entries opened.id (arc_value info) new)) made is
seat_goes_on past seat (event.Admit info) (answer.Full place) es after sees active new (made, is) =
    enters_alone past Asked seat after es seat.stakes sees active made is
seat_goes_on past seat (event.Admit info) (answer.Spent p) es after sees active new (none, is) =
    stays past seat after es seat.stakes seat.pins sees active sees.pins none is
seat_goes_on past seat (event.Publish at start root) (answer.Placed place) es after sees active new is =
    published_goes past seat after at start root es sees active is
seat_goes_on past seat (event.Seal at) (answer.Placed place) es after sees active new
    (p, there, (made, is)) = enters_without past _ seat after es seat.stakes at sees active made is
seat_goes_on past seat (event.Abandon at) (answer.Ended (end.Ended place roots)) es after sees active new
    (p, there, (made, freed, are, restaked)) =
    enters_without past _ seat after es restaked.stakes at sees active made restaked.now
seat_goes_on past seat (event.Abandon at) (answer.Ended (end.Kept place)) es after sees active new
    (p, there, (made, is)) = enters_without past _ seat after es seat.stakes at sees active made is
seat_goes_on past seat (event.Ask ids) (answer.Asked (ask.Pinned place)) es after sees active new
    (made, is) =
    let pin : PinView = record { ids = ids; place = place } in
    enters past Asked seat after es seat.stakes (seat.pins ++ pin ∷ []) seat.passes sees active
    (All-push (IsSeenPin (with_entries past (Asked ∷ [])) (next_place past)) seat.pins pin
    (pins_next past Asked seat.seen seat.pins sees.seen sees.pins) new)
    (passes_next past Asked seat.seen seat.passes sees.passes) made is
seat_goes_on past seat (event.Ask ids) (answer.Asked (ask.Unknown id next place)) es after sees active new
    (made, is) = enters_alone past Asked seat after es seat.stakes sees active made is
seat_goes_on past seat (event.Ask ids) (answer.Asked (ask.Spent p)) es after sees active new (none, is) =
    stays past seat after es seat.stakes seat.pins sees active sees.pins none is
seat_goes_on past seat (event.Unpin at) (answer.Unpinned freed) es after sees active new
    (none, p, there, stakes, are, restaked) =
    stays past seat after es restaked.stakes (without_at at seat.pins) sees active
    (All-without_at (IsSeenPin past seat.seen) at seat.pins sees.pins) none restaked.now
seat_goes_on past seat (event.Close id) (answer.Closed (close.Ended place roots)) es after sees active new
    (made, freed, are, restaked) =
    enters_alone past _ seat after es restaked.stakes sees active made restaked.now
seat_goes_on past seat (event.Close id) (answer.Closed (close.Kept place)) es after sees active new
    (made, is) = enters_alone past _ seat after es seat.stakes sees active made is
seat_goes_on past seat (event.Close id) (answer.Closed (close.Loading place)) es after sees active new
    (made, is) = enters_alone past Asked seat after es seat.stakes sees active made is
seat_goes_on past seat (event.Close id) (answer.Closed (close.Unknown next place)) es after sees active new
    (made, is) = enters_alone past Asked seat after es seat.stakes sees active made is
seat_goes_on past seat (event.Close id) (answer.Closed (close.Spent p)) es after sees active new (none, is) =
    stays past seat after es seat.stakes seat.pins sees active sees.pins none is
seat_goes_on past seat event.List (answer.Listed listing) es after sees active new (made, is) =
    enters_alone past Asked seat after es seat.stakes sees active made is
seat_goes_on past seat event.List (answer.Spent p) es after sees active new (none, is) =
    stays past seat after es seat.stakes seat.pins sees active sees.pins none is
seat_goes_on past seat e a es after sees active new none = absurd none

-- ---- all seats

-- So all seats stay good.
pub seats_go_on : (past : Past) (seats : List SeatView) (actor : ℕ) (seat after : SeatView)
    (entries : List Entry) → All (IsGoodSeat past) seats → GoesOn past seat entries after
    → All (IsGoodSeat (with_entries past entries)) (slice_set seats actor after)
seats_go_on past seats actor seat after entries good goes =
    seats_kept (with_entries past entries) seats actor after (seats_later past entries seats good) goes.sees
    goes.active

-- And each place belongs to one of them.
pub places_go_on : (past : Past) (seats : List SeatView) (actor : ℕ) (seat after : SeatView)
    (entries : List Entry) → slice_get seats actor ≡ Some seat → SharePlaces past seats
    → GoesOn past seat entries after → SharePlaces (with_entries past entries) (slice_set seats actor after)
places_go_on past seats actor seat after entries at share goes = elim goes.places [
  | inl (none, same) ↦
      subst (λ es. SharePlaces (with_entries past es) (slice_set seats actor after)) (sym none)
      (subst (λ p. SharePlaces p (slice_set seats actor after)) (sym (no_entries past))
      (places_kept past seats actor seat after at same share))
  | inr (e, made, more) ↦
      subst (λ es. SharePlaces (with_entries past es) (slice_set seats actor after)) (sym made)
      (places_entered past e seats actor seat after at more share)
]
