-- The users of a registry's traces are the pins of all seats after each event, too.
use Rattle.std.proofs.Common.{◌&&◌, ◌≡◌, ℕ, Bool, false, true, List, None, Option, Some, ap, ◌∙◌, arith}
use Rattle.std.proofs.Common.{map, refl, slice_get, slice_set, subst, sym}
use Rattle.std.proofs.lemmas.Bool.{false≢true}
use Rattle.std.proofs.lemmas.Option.{none-some, same_Some}
use Rattle.std.specs.Arc.{arc_value}
use Rattle.std.specs.Option.{option_and_then, option_map}
use Rattle.list_lemmas.proofs.All.{All-found}
use Rattle.list_lemmas.proofs.Options.{option_map_found}
use Rattle.hall_history.specs.History.{Entry, info_of}
use Rattle.hall_history.specs.declared.asks.AskIds.{AskIds}
use Rattle.hall_history.specs.declared.seat.PassView.{PassView}
use Rattle.hall_history.specs.declared.seat.PinView.{PinView}
use Rattle.hall_world.specs.Calls.{Admitting, AnswersInRegistry, Asking, GivingBack, Publishing, RoomCall}
use Rattle.hall_world.specs.Calls.{Abandoning, Closing, ComparingNames, ListingTraces, Sealing, TellingInfo}
use Rattle.hall_world.specs.Calls.{TellingTrack, call_of, next_track, publication}
use Rattle.hall_world.specs.Good.{IsUsedByPins}
use Rattle.hall_world.specs.Past.{Past, start_of}
use Rattle.hall_world.specs.Seats.{Changes}
use Rattle.hall_world.specs.World.{all_pins}
use Rattle.hall_world.specs.declared.events.HallEvent.{HallEvent}
use Rattle.hall_world.specs.declared.events.HallEvent.TheVariants as event
use Rattle.hall_world.specs.declared.events.ReadOf.TheVariants as read
use Rattle.hall_world.specs.declared.events.StepAnswer.{StepAnswer}
use Rattle.hall_world.specs.declared.events.StepAnswer.TheVariants as answer
use Rattle.hall_world.specs.declared.world.SeatView.{SeatView}
use Rattle.hall_world.proofs.PinUsers.{users_asked, users_kept, users_unpinned}
use Rattle.hall_world.proofs.Pins.{pin_asked}
use Rattle.hall_world.proofs.SeatsGoOn.{IsNews}
use Rattle.node_key.specs.Stands.{KeyAt}
use Rattle.registry_core.proofs.LawTraces.{kept_above}
use Rattle.registry_core.proofs.UsedByQueries.{HasUsers, used-changed, used-opened, used-without}
use Rattle.registry_core.specs.Closing.{ClosesIn}
use Rattle.registry_core.specs.Loading.{EndsIn}
use Rattle.registry_core.specs.Registry.{IsSoundRegistry, RegistryValue, has_id, is_open_trace}
use Rattle.registry_core.specs.Standing.{AreTrees, StandsFor}
use Rattle.registry_core.specs.Trace.{just_opened, kept_for_users, loaded, with_root}
use Rattle.registry_core.specs.UsedBy.{AreUsedBy}
use Rattle.registry_core.specs.declared.answers.Opened.{Opened}
use Rattle.registry_core.specs.declared.answers.RegAsk.TheVariants as ask
use Rattle.registry_core.specs.declared.answers.RegClose.{RegClose}
use Rattle.registry_core.specs.declared.answers.RegClose.TheVariants as close
use Rattle.registry_core.specs.declared.answers.RegEnd.{RegEnd}
use Rattle.registry_core.specs.declared.answers.RegEnd.TheVariants as end

-- ---- calls that change no users

-- all calls but a question and the end of one
abbrev pub leaves_users : RoomCall → Bool
leaves_users (Asking ids) = false
leaves_users (GivingBack ids) = false
leaves_users _ = true

-- traces that stay have the same users
same_users : (old new : RegistryValue) (queries : List AskIds) → new.traces ≡ old.traces
    → AreUsedBy old.traces queries → AreUsedBy new.traces queries
same_users old new queries same was = subst (λ traces. AreUsedBy traces queries) (sym same) was

-- a load that is given up
users_of_end : (old new : RegistryValue) (id : ℕ) (ended : RegEnd) (queries : List AskIds)
    → EndsIn old id ended new → AreUsedBy old.traces queries → AreUsedBy new.traces queries
users_of_end old new id (end.Ended place roots) queries (t, kept, unused, is, are, becomes) was =
    subst (λ (r : RegistryValue). AreUsedBy r.traces queries) (sym becomes)
    (used-without old.traces t queries
    (All-found (HasUsers queries) (has_id id) old.traces t was.users kept) unused was)
users_of_end old new id (end.Kept place) queries (t, kept, used, is, becomes) was =
    subst (λ (r : RegistryValue). AreUsedBy r.traces queries) (sym becomes)
    (used-changed t.id kept_for_users old.traces queries (λ u. refl) (λ u. refl) was)

-- a trace that is to be closed
users_of_close : (old new : RegistryValue) (id : ℕ) (closed : RegClose) (queries : List AskIds)
    → ClosesIn old id closed new → AreUsedBy old.traces queries → AreUsedBy new.traces queries
users_of_close old new id (close.Ended place roots) queries (fits, t, sealed, unused, is, are, becomes) was =
    subst (λ (r : RegistryValue). AreUsedBy r.traces queries) (sym becomes)
    (used-without old.traces t queries (All-found (HasUsers queries) (λ u. has_id id u && is_open_trace u)
    old.traces t was.users sealed.is_open) unused was)
users_of_close old new id (close.Kept place) queries (fits, t, sealed, used, is, becomes) was =
    subst (λ (r : RegistryValue). AreUsedBy r.traces queries) (sym becomes)
    (used-changed t.id kept_for_users old.traces queries (λ u. refl) (λ u. refl) was)
users_of_close old new id (close.Loading place) queries (fits, t, kept, loading, is, becomes) was =
    same_users old new queries (ap (λ (r : RegistryValue). r.traces) becomes) was
users_of_close old new id (close.Unknown next place) queries (fits, none, given, is, becomes) was =
    same_users old new queries (ap (λ (r : RegistryValue). r.traces) becomes) was
users_of_close old new id (close.Spent p) queries (lacks, becomes) was =
    same_users old new queries (ap (λ (r : RegistryValue). r.traces) becomes) was

-- after each call that changes no users the queries are the users still
pub users_of_call : (old new : RegistryValue) (call : RoomCall) (a : StepAnswer) (queries : List AskIds)
    → IsSoundRegistry old → leaves_users call ≡ true → AnswersInRegistry call a old new
    → AreUsedBy old.traces queries → AreUsedBy new.traces queries
users_of_call old new (Admitting info) (answer.Opened opened) queries sound leaves
    (fits, few, is, becomes) was =
    subst (λ (r : RegistryValue). AreUsedBy r.traces queries) (sym becomes)
    (used-opened old.traces (just_opened old.next_id info) queries refl
    (kept_above old.traces old.next_id old.next_id sound.given (omega arith)) was)
users_of_call old new (Admitting info) (answer.Full place) queries sound leaves
    (fits, most, is, becomes) was =
    same_users old new queries (ap (λ (r : RegistryValue). r.traces) becomes) was
users_of_call old new (Admitting info) (answer.Spent p) queries sound leaves (lacks, becomes) was =
    same_users old new queries (ap (λ (r : RegistryValue). r.traces) becomes) was
users_of_call old new (Publishing id track start root) (answer.Placed place) queries sound leaves
    (is, becomes) was =
    subst (λ (r : RegistryValue). AreUsedBy r.traces queries) (sym becomes)
    (used-changed id (with_root track _) old.traces queries (λ t. refl) (λ t. refl) was)
users_of_call old new (Sealing id) (answer.Placed place) queries sound leaves (is, becomes) was =
    subst (λ (r : RegistryValue). AreUsedBy r.traces queries) (sym becomes)
    (used-changed id loaded old.traces queries (λ t. refl) (λ t. refl) was)
users_of_call old new (Abandoning id) (answer.Ended ended) queries sound leaves ends was =
    users_of_end old new id ended queries ends was
users_of_call old new (Closing id) (answer.Closed closed) queries sound leaves closes was =
    users_of_close old new id closed queries closes was
users_of_call old new ListingTraces (answer.Listed listing) queries sound leaves (fits, is, becomes) was =
    same_users old new queries (ap (λ (r : RegistryValue). r.traces) becomes) was
users_of_call old new ListingTraces (answer.Spent p) queries sound leaves (lacks, becomes) was =
    same_users old new queries (ap (λ (r : RegistryValue). r.traces) becomes) was
users_of_call old new (TellingTrack id place track) (answer.Root told) queries sound leaves
    (t, kept, is, becomes) was = same_users old new queries (ap (λ (r : RegistryValue). r.traces) becomes) was
users_of_call old new (TellingInfo id) (answer.Info info) queries sound leaves (t, kept, is, becomes) was =
    same_users old new queries (ap (λ (r : RegistryValue). r.traces) becomes) was
users_of_call old new (ComparingNames ids) (answer.Names same) queries sound leaves (is, becomes) was =
    same_users old new queries (ap (λ (r : RegistryValue). r.traces) becomes) was
users_of_call old new (Asking ids) a queries sound leaves answers was = absurd (false≢true leaves)
users_of_call old new (GivingBack ids) a queries sound leaves answers was = absurd (false≢true leaves)
users_of_call old new call a queries sound leaves none was = absurd none

-- ---- events that leave the pins

-- all events but a question and the end of one
abbrev pub leaves_pins : HallEvent → Bool
leaves_pins (event.Ask ids) = false
leaves_pins (event.Unpin at) = false
leaves_pins _ = true

publishing_leaves : (o : Option PassView) (start root : ℕ) (call : RoomCall)
    → option_and_then (publication start root) o ≡ Some call → leaves_users call ≡ true
publishing_leaves None start root call is = absurd (none-some call is)
publishing_leaves (Some p) start root call is =
    let (track, there, same) =
    option_map_found (λ track. Publishing p.id track start root) (next_track p.state)
    call is in
    ap leaves_users (sym same)

-- what they ask changes no users
pub call_leaves : (seat : SeatView) (e : HallEvent) (call : RoomCall) → call_of seat e ≡ Some call
    → leaves_pins e ≡ true → leaves_users call ≡ true
call_leaves seat (event.Intern key) call is leaves = ap leaves_users (sym (same_Some _ call is))
call_leaves seat (event.Read (read.Node n)) call is leaves = ap leaves_users (sym (same_Some _ call is))
call_leaves seat (event.Read (read.Root pin which track)) call is leaves =
    let (p, there, same) = option_map_found _ (slice_get seat.pins pin) call is in ap leaves_users (sym same)
call_leaves seat (event.Read (read.Info pin which)) call is leaves =
    let (p, there, same) = option_map_found _ (slice_get seat.pins pin) call is in ap leaves_users (sym same)
call_leaves seat (event.Read (read.Names pin)) call is leaves =
    let (p, there, same) = option_map_found _ (slice_get seat.pins pin) call is in ap leaves_users (sym same)
call_leaves seat (event.Drop n) call is leaves = ap leaves_users (sym (same_Some _ call is))
call_leaves seat (event.Split part) call is leaves = absurd (none-some call is)
call_leaves seat (event.Join other) call is leaves = absurd (none-some call is)
call_leaves seat (event.Admit info) call is leaves = ap leaves_users (sym (same_Some _ call is))
call_leaves seat (event.Publish pass start root) call is leaves =
    publishing_leaves (slice_get seat.passes pass) start root call is
call_leaves seat (event.Seal pass) call is leaves =
    let (p, there, same) = option_map_found _ (slice_get seat.passes pass) call is in
    ap leaves_users (sym same)
call_leaves seat (event.Abandon pass) call is leaves =
    let (p, there, same) = option_map_found _ (slice_get seat.passes pass) call is in
    ap leaves_users (sym same)
call_leaves seat (event.Ask ids) call is leaves = absurd (false≢true leaves)
call_leaves seat (event.Unpin pin) call is leaves = absurd (false≢true leaves)
call_leaves seat (event.Close id) call is leaves = ap leaves_users (sym (same_Some _ call is))
call_leaves seat event.List call is leaves = ap leaves_users (sym (same_Some _ call is))

-- the pins of a seat stay by them
pub pins_stay : (past : Past) (seat : SeatView) (e : HallEvent) (a : StepAnswer) (entries : List Entry)
    (after : SeatView) → leaves_pins e ≡ true → Changes past seat e a entries after → after.pins ≡ seat.pins
pins_stay past seat (event.Intern key) (answer.Interned i) es after leaves
    (none, t, kids, staked, restaked) = ap (λ (s : SeatView). s.pins) restaked.now
pins_stay past seat (event.Intern key) (answer.Spent v) es after leaves (none, is) =
    ap (λ (s : SeatView). s.pins) is
pins_stay past seat (event.Read of) a es after leaves (none, is) = ap (λ (s : SeatView). s.pins) is
pins_stay past seat (event.Drop n) (answer.Dropped d) es after leaves
    (none, x, has, number, kids, freed, restaked) = ap (λ (s : SeatView). s.pins) restaked.now
pins_stay past seat (event.Admit info) (answer.Opened opened) es after leaves (made, is) =
    ap (λ (s : SeatView). s.pins) is
pins_stay past seat (event.Admit info) (answer.Full place) es after leaves (made, is) =
    ap (λ (s : SeatView). s.pins) is
pins_stay past seat (event.Admit info) (answer.Spent p) es after leaves (none, is) =
    ap (λ (s : SeatView). s.pins) is
pins_stay past seat (event.Publish at start root) (answer.Placed place) es after leaves is =
    ap (λ (s : SeatView). s.pins) is.restaked.now
pins_stay past seat (event.Seal at) (answer.Placed place) es after leaves (p, there, (made, is)) =
    ap (λ (s : SeatView). s.pins) is
pins_stay past seat (event.Abandon at) (answer.Ended (end.Ended place roots)) es after leaves
    (p, there, (made, freed, are, restaked)) = ap (λ (s : SeatView). s.pins) restaked.now
pins_stay past seat (event.Abandon at) (answer.Ended (end.Kept place)) es after leaves
    (p, there, (made, is)) = ap (λ (s : SeatView). s.pins) is
pins_stay past seat (event.Close id) (answer.Closed (close.Ended place roots)) es after leaves
    (made, freed, are, restaked) = ap (λ (s : SeatView). s.pins) restaked.now
pins_stay past seat (event.Close id) (answer.Closed (close.Kept place)) es after leaves (made, is) =
    ap (λ (s : SeatView). s.pins) is
pins_stay past seat (event.Close id) (answer.Closed (close.Loading place)) es after leaves (made, is) =
    ap (λ (s : SeatView). s.pins) is
pins_stay past seat (event.Close id) (answer.Closed (close.Unknown next place)) es after leaves (made, is) =
    ap (λ (s : SeatView). s.pins) is
pins_stay past seat (event.Close id) (answer.Closed (close.Spent p)) es after leaves (none, is) =
    ap (λ (s : SeatView). s.pins) is
pins_stay past seat event.List (answer.Listed listing) es after leaves (made, is) =
    ap (λ (s : SeatView). s.pins) is
pins_stay past seat event.List (answer.Spent p) es after leaves (none, is) = ap (λ (s : SeatView). s.pins) is
pins_stay past seat (event.Ask ids) a es after leaves is = absurd (false≢true leaves)
pins_stay past seat (event.Unpin at) a es after leaves is = absurd (false≢true leaves)
pins_stay past seat e a es after leaves none = absurd none

-- ---- each event on the registry

-- by an event that leaves the pins
users_stay : (past : Past) (old new : RegistryValue) (seats : List SeatView) (actor : ℕ)
    (seat after : SeatView) (e : HallEvent) (a : StepAnswer) (call : RoomCall) (entries : List Entry)
    → leaves_pins e ≡ true → IsSoundRegistry old → slice_get seats actor ≡ Some seat
    → call_of seat e ≡ Some call → AnswersInRegistry call a old new → Changes past seat e a entries after
    → IsUsedByPins old seats → IsUsedByPins new (slice_set seats actor after)
users_stay past old new seats actor seat after e a call entries leaves sound at asks answers changed was =
    users_kept new seats actor seat after at (pins_stay past seat e a entries after leaves changed)
    (users_of_call old new call a (map (λ (p : PinView). p.ids) (all_pins seats)) sound
    (call_leaves seat e call asks leaves) answers was)

-- by a question
users_ask : (past : Past) (old new : RegistryValue) (seats : List SeatView) (actor : ℕ)
    (seat after : SeatView) (ids : AskIds) (a : StepAnswer) (entries : List Entry)
    → slice_get seats actor ≡ Some seat → AnswersInRegistry (Asking ids) a old new
    → Changes past seat (event.Ask ids) a entries after → IsUsedByPins old seats
    → IsUsedByPins new (slice_set seats actor after)
users_ask past old new seats actor seat after ids (answer.Asked (ask.Pinned place)) es at asks
    (made, is) was =
    users_asked old new ids place seats actor seat after asks at (ap (λ (s : SeatView). s.pins) is) was
users_ask past old new seats actor seat after ids (answer.Asked (ask.Unknown id next place)) es at
    (fits, unknown, given, at_place, becomes) (made, is) was =
    users_kept new seats actor seat after at (ap (λ (s : SeatView). s.pins) is)
    (same_users old new _ (ap (λ (r : RegistryValue). r.traces) becomes) was)
users_ask past old new seats actor seat after ids (answer.Asked (ask.Spent p)) es at (lacks, becomes)
    (none, is) was =
    users_kept new seats actor seat after at (ap (λ (s : SeatView). s.pins) is)
    (same_users old new _ (ap (λ (r : RegistryValue). r.traces) becomes) was)
users_ask past old new seats actor seat after ids a es at answers none was = absurd none

-- by the end of one
users_unpin : (past : Past) (old new : RegistryValue) (seats : List SeatView) (actor : ℕ)
    (seat after : SeatView) (at : ℕ) (a : StepAnswer) (call : RoomCall) (entries : List Entry)
    → IsSoundRegistry old → slice_get seats actor ≡ Some seat → call_of seat (event.Unpin at) ≡ Some call
    → AnswersInRegistry call a old new → Changes past seat (event.Unpin at) a entries after
    → IsUsedByPins old seats → IsUsedByPins new (slice_set seats actor after)
users_unpin past old new seats actor seat after at (answer.Unpinned freed) call es sound there asks answers
    (none, p, pinned, stakes, are, restaked) was =
    let same : GivingBack p.ids ≡ call =
    same_Some (GivingBack p.ids) call
    (sym (ap (option_map (λ (p : PinView). GivingBack p.ids)) pinned) ∙ asks) in
    let (is, becomes) = subst (λ call. AnswersInRegistry call (answer.Unpinned freed) old new) (sym same)
    answers in
    subst (λ (r : RegistryValue). IsUsedByPins r (slice_set seats actor after)) (sym becomes)
    (users_unpinned old seats actor at seat after p sound there pinned
    (ap (λ (s : SeatView). s.pins) restaked.now) was).1
users_unpin past old new seats actor seat after at a call es sound there asks answers none was = absurd none

-- Whatever event a seat makes in the room of the registry, the users of the traces are the pins.
pub users_go_on : (past : Past) (old new : RegistryValue) (seats : List SeatView) (actor : ℕ)
    (seat after : SeatView) (e : HallEvent) (a : StepAnswer) (call : RoomCall) (entries : List Entry)
    → IsSoundRegistry old → slice_get seats actor ≡ Some seat → call_of seat e ≡ Some call
    → AnswersInRegistry call a old new → Changes past seat e a entries after → IsUsedByPins old seats
    → IsUsedByPins new (slice_set seats actor after)
users_go_on past old new seats actor seat after (event.Ask ids) a call es sound at asks answers changed was =
    users_ask past old new seats actor seat after ids a es at
    (subst (λ call. AnswersInRegistry call a old new) (sym (same_Some (Asking ids) call asks)) answers)
    changed
    was
users_go_on past old new seats actor seat after (event.Unpin pin) a call es sound at asks answers changed
    was =
    users_unpin past old new seats actor seat after pin a call es sound at asks answers changed was
users_go_on past old new seats actor seat after e a call es sound at asks answers changed was =
    users_stay past old new seats actor seat after e a call es refl sound at asks answers changed was

-- What the registry answers is news: it opens traces that weren't, and pins those that are open.
pub answers_are_news : (key_at : KeyAt) (past : Past) (old new : RegistryValue) (seat : SeatView)
    (e : HallEvent) (a : StepAnswer) (call : RoomCall)
    → StandsFor (AreTrees key_at) (start_of past) old past.entries → call_of seat e ≡ Some call
    → AnswersInRegistry call a old new → IsNews past e a
answers_are_news key_at past old new seat (event.Admit info) (answer.Opened opened) call stands asks answers =
    let (fits, few, is, becomes) = subst (λ call. AnswersInRegistry call (answer.Opened opened) old new)
    (sym (same_Some (Admitting (arc_value info)) call asks)) answers in
    ap (λ (o : Opened). info_of past.entries o.id) is ∙ (stands.untold old.next_id (omega arith)).info
answers_are_news key_at past old new seat (event.Ask ids) (answer.Asked (ask.Pinned place)) call stands asks
    answers =
    (pin_asked key_at past old new ids place stands
    (subst (λ call. AnswersInRegistry call (answer.Asked (ask.Pinned place)) old new)
    (sym (same_Some (Asking ids) call asks)) answers)).1
answers_are_news key_at past old new seat e a call stands asks answers = tt
