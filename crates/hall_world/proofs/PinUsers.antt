-- The users of a registry's traces are the pins of all seats, where one seat or another changes.
use Rattle.std.proofs.Common.{◌≡◌, ◌≢◌, ℕ, ◌+◌, List, [], ◌∷◌, ◌++◌, Some, ap, ◌∙◌, arith, drop, map}
use Rattle.std.proofs.Common.{slice_get, slice_set, sum_by, sym, subst, take, zero, suc}
use Rattle.std.proofs.lemmas.List.Elements.{All-weaker}
use Rattle.std.proofs.lemmas.List.Sums.{sum_by-append, sum_by-cons}
use Rattle.std.proofs.lemmas.Option.{none-some, same_Some}
use Rattle.list_lemmas.proofs.Positions.{slice_get-set_else}
use Rattle.list_lemmas.proofs.Sums.{sum_by-map}
use Rattle.hall_history.specs.declared.asks.AskIds.{AskIds}
use Rattle.hall_history.specs.declared.seat.PinView.{PinView}
use Rattle.hall_world.specs.Good.{IsUsedByPins}
use Rattle.hall_world.specs.Seats.{without_at}
use Rattle.hall_world.specs.World.{all_pins, ended_seat}
use Rattle.hall_world.specs.declared.world.SeatView.{SeatView}
use Rattle.hall_world.proofs.SeatsReplaced.{pushed_sum, replaced_sum}
use Rattle.registry_core.proofs.UsedByQueries.{HasUsers, known-kept, named-first, used-asked}
use Rattle.registry_core.proofs.UsedByQueries.{used-given_back, used-in_use}
use Rattle.registry_core.specs.Asking.{AreUsed, AsksIn, after_unpin, times_asked}
use Rattle.registry_core.specs.Registry.{IsSoundRegistry, RegistryValue}
use Rattle.registry_core.specs.Trace.{Trace}
use Rattle.registry_core.specs.UsedBy.{AreUsedBy, times_named}
use Rattle.registry_core.specs.declared.answers.RegAsk.TheVariants as ask

-- ---- queries that name the same

-- queries that name each id as often are users alike
pub used_alike : (traces : List Trace) (queries others : List AskIds)
    → ((id : ℕ) → times_named queries id ≡ times_named others id) → AreUsedBy traces queries
    → AreUsedBy traces others
used_alike traces queries others same was = record {
  users = All-weaker (HasUsers queries) (HasUsers others) (λ t has. has ∙ same t.id) traces was.users;
  kept = λ id named. was.kept id (omega (arith, named, same id));
}

-- how often pins name an id
abbrev pub times_pinned : ℕ → List PinView → ℕ
times_pinned id pins = sum_by (λ (p : PinView). times_asked p.ids id) pins

-- the queries of pins name an id as often as the pins do
pub named-pins : (id : ℕ) (pins : List PinView)
    → times_named (map (λ (p : PinView). p.ids) pins) id ≡ times_pinned id pins
named-pins id pins = sum_by-map (λ (ids : AskIds). times_asked ids id) (λ (p : PinView). p.ids) pins

-- another seat in the place of one
pub pinned-set : (id : ℕ) (seats : List SeatView) (i : ℕ) (seat other : SeatView)
    → slice_get seats i ≡ Some seat
    → times_pinned id (all_pins (slice_set seats i other)) + times_pinned id seat.pins
    ≡ times_pinned id (all_pins seats) + times_pinned id other.pins
pinned-set id seats i seat other at =
    replaced_sum (λ (s : SeatView). s.pins) (λ (p : PinView). times_asked p.ids id) seats i seat other at

-- one seat more
pub pinned-push : (id : ℕ) (seats : List SeatView) (seat : SeatView)
    → times_pinned id (all_pins (seats ++ seat ∷ [])) ≡ times_pinned id (all_pins seats)
    + times_pinned id seat.pins
pinned-push id seats seat =
    pushed_sum (λ (s : SeatView). s.pins) (λ (p : PinView). times_asked p.ids id) seats seat

-- one pin more
pub pinned-more : (id : ℕ) (pins : List PinView) (p : PinView)
    → times_pinned id (pins ++ p ∷ []) ≡ times_pinned id pins + times_asked p.ids id
pinned-more id pins p =
    omega (
      arith,
      sum_by-append (λ (q : PinView). times_asked q.ids id) pins (p ∷ []),
      sum_by-cons (λ (q : PinView). times_asked q.ids id) p [],
    )

-- one pin gone
pub pinned-without : (id : ℕ) (pins : List PinView) (at : ℕ) (p : PinView) → slice_get pins at ≡ Some p
    → times_pinned id (without_at at pins) + times_asked p.ids id ≡ times_pinned id pins
pinned-without id [] at p there = absurd (none-some p there)
pinned-without id (q ∷ qs) zero p there =
    omega (
      arith,
      sum_by-cons (λ (q : PinView). times_asked q.ids id) q qs,
      ap (λ (r : PinView). times_asked r.ids id) (same_Some q p there),
    )
pinned-without id (q ∷ qs) (suc at) p there =
    let behind : suc at + 1 ≡ suc (at + 1) = omega arith in
    omega (
      arith,
      pinned-without id qs at p there,
      ap (λ n. times_pinned id (q ∷ take at qs ++ drop n (q ∷ qs))) behind,
      sum_by-cons (λ (q : PinView). times_asked q.ids id) q qs,
      sum_by-cons (λ (q : PinView). times_asked q.ids id) q (without_at at qs),
    )

-- so seats whose pins name each id as often are users alike
pub pins_alike : (r : RegistryValue) (seats others : List SeatView)
    → ((id : ℕ) → times_pinned id (all_pins seats) ≡ times_pinned id (all_pins others)) → IsUsedByPins r seats
    → IsUsedByPins r others
pins_alike r seats others same was =
    used_alike r.traces (map (λ (p : PinView). p.ids) (all_pins seats))
    (map (λ (p : PinView). p.ids) (all_pins others))
    (λ id. named-pins id (all_pins seats) ∙ same id ∙ sym (named-pins id (all_pins others))) was

-- ---- the seats of a registry that stays

-- a seat that changes keeps its pins
pub users_kept : (r : RegistryValue) (seats : List SeatView) (actor : ℕ) (seat after : SeatView)
    → slice_get seats actor ≡ Some seat → after.pins ≡ seat.pins → IsUsedByPins r seats
    → IsUsedByPins r (slice_set seats actor after)
users_kept r seats actor seat after at same was =
    pins_alike r seats (slice_set seats actor after)
    (λ id. omega (arith, pinned-set id seats actor seat after at, ap (times_pinned id) same)) was

-- one seat more has no pins
pub users_pushed : (r : RegistryValue) (seats : List SeatView) (s : SeatView) → s.pins ≡ []
    → IsUsedByPins r seats → IsUsedByPins r (seats ++ s ∷ [])
users_pushed r seats s none was =
    pins_alike r seats (seats ++ s ∷ [])
    (λ id. omega (arith, pinned-push id seats s, ap (times_pinned id) none)) was

-- a seat that has ended had no pins
pub users_joined : (r : RegistryValue) (seats : List SeatView) (actor other : ℕ)
    (seat joined after : SeatView) → slice_get seats actor ≡ Some seat → slice_get seats other ≡ Some joined
    → other ≢ actor → joined.pins ≡ [] → after.pins ≡ seat.pins → IsUsedByPins r seats
    → IsUsedByPins r (slice_set (slice_set seats other ended_seat) actor after)
users_joined r seats actor other seat joined after at at_other apart none same was =
    let there : slice_get (slice_set seats other ended_seat) actor ≡ Some seat =
    slice_get-set_else seats other actor ended_seat (λ same. apart (sym same)) ∙ at in
    users_kept r (slice_set seats other ended_seat) actor seat after there same
    (users_kept r seats other joined ended_seat at_other (sym none) was)

-- ---- a pin more, or given back

-- the queries of the pins, one query put first
first_named : (ids : AskIds) (pins : List PinView) (id : ℕ)
    → times_named (ids ∷ map (λ (p : PinView). p.ids) pins) id ≡ times_asked ids id + times_pinned id pins
first_named ids pins id =
    omega (arith, named-first ids (map (λ (p : PinView). p.ids) pins) id, named-pins id pins)

-- a seat that asked has one pin more
pub users_asked : (old new : RegistryValue) (ids : AskIds) (place : ℕ) (seats : List SeatView) (actor : ℕ)
    (seat after : SeatView) → AsksIn old ids (ask.Pinned place) new → slice_get seats actor ≡ Some seat
    → after.pins ≡ seat.pins ++ record { ids = ids; place = place } ∷ [] → IsUsedByPins old seats
    → IsUsedByPins new (slice_set seats actor after)
users_asked old new ids place seats actor seat after (fits, known, is, becomes) at more was =
    let queries = λ (seats : List SeatView). map (λ (p : PinView). p.ids) (all_pins seats) in
    let pin : PinView = record { ids = ids; place = place } in
    subst (λ (r : RegistryValue). IsUsedByPins r (slice_set seats actor after)) (sym becomes)
    (used_alike _ (ids ∷ queries seats) (queries (slice_set seats actor after)) (λ id. omega (
      arith,
      first_named ids (all_pins seats) id,
      named-pins id (all_pins (slice_set seats actor after)),
      pinned-set id seats actor seat after at,
      ap (times_pinned id) more,
      pinned-more id seat.pins pin,
    )) (used-asked ids old.traces (queries seats) (known-kept old ids known) was))

-- The traces of a pin are in use. A seat that gives it back has it no more, and its traces have a user fewer.
pub users_unpinned : (old : RegistryValue) (seats : List SeatView) (actor at : ℕ) (seat after : SeatView)
    (p : PinView) → IsSoundRegistry old → slice_get seats actor ≡ Some seat
    → slice_get seat.pins at ≡ Some p → after.pins ≡ without_at at seat.pins → IsUsedByPins old seats
    → AreUsed old p.ids × IsUsedByPins (after_unpin old p.ids) (slice_set seats actor after)
users_unpinned old seats actor at seat after p sound there pinned less was =
    let queries = λ (seats : List SeatView). map (λ (p : PinView). p.ids) (all_pins seats) in
    let left = queries (slice_set seats actor after) in
    let apart : AreUsedBy old.traces (p.ids ∷ left) =
    used_alike old.traces (queries seats) (p.ids ∷ left) (λ id. omega (
      arith,
      first_named p.ids (all_pins (slice_set seats actor after)) id,
      named-pins id (all_pins seats),
      pinned-set id seats actor seat after there,
      ap (times_pinned id) less,
      pinned-without id seat.pins at p pinned,
    )) was in
    (used-in_use old p.ids left apart, used-given_back p.ids old.traces left sound.rising apart)
