-- Pins: what a seat that asks for open traces has seen, and that the traces of pins are kept.
use Rattle.std.proofs.Common.{◌≡◌, ◌<◌, ℕ, true, false, List, [], ◌∷◌, ◌++◌, Contains, None, ap, ◌∙◌, arith}
use Rattle.std.proofs.Common.{eq-eqb, refl, sym, subst, cond, eqb}
use Rattle.std.specs.Prelude.{IsSome}
use Rattle.list_lemmas.proofs.Booleans.{one_if}
use Rattle.list_lemmas.proofs.Members.{flat_map-keeps, has_here, has_there}
use Rattle.list_lemmas.proofs.Sums.{sum_by-has}
use Rattle.hall_history.proofs.HistoryMore.{data_asked, fate_asked, open_same}
use Rattle.hall_history.specs.Asks.{AreOpen, first_id, id_at, second_id}
use Rattle.hall_history.specs.History.{Asked, Entry, is_open}
use Rattle.hall_history.specs.declared.asks.AskIds.{AskIds}
use Rattle.hall_history.specs.declared.asks.AskIds.TheVariants.{One, Two}
use Rattle.hall_history.specs.declared.seat.PinView.{PinView}
use Rattle.hall_world.specs.Good.{IsSeenPin, IsUsedByPins}
use Rattle.hall_world.specs.Past.{Past, next_place, start_of, up_to, with_entries}
use Rattle.hall_world.specs.World.{all_pins}
use Rattle.hall_world.specs.declared.world.SeatView.{SeatView}
use Rattle.hall_world.proofs.PinUsers.{named-pins}
use Rattle.hall_world.proofs.SeatsSeePast.{up_to-next}
use Rattle.node_key.specs.Stands.{KeyAt}
use Rattle.registry_core.proofs.UsedByQueries.{known-open}
use Rattle.registry_core.specs.Asking.{AsksIn, asked_ids, first_unknown, times_asked}
use Rattle.registry_core.specs.Registry.{RegistryValue, kept_trace}
use Rattle.registry_core.specs.Standing.{AreTrees, StandsFor}
use Rattle.registry_core.specs.declared.answers.RegAsk.TheVariants as ask

-- ---- the traces that are asked for

-- an id that is among those asked for is asked for
pub asked_among : (ids : AskIds) (id : ℕ) → Contains (asked_ids ids) id → 0 < times_asked ids id
asked_among ids id among =
    sum_by-has (λ x. one_if (eqb x id)) (asked_ids ids) id among (omega (
      arith,
      ap one_if (eq-eqb id id refl),
    ))

-- the first and the second one are
pub first_among : (ids : AskIds) → Contains (asked_ids ids) (first_id ids)
first_among (One a) = has_here a []
first_among (Two a b) = has_here a (b ∷ [])

pub second_among : (ids : AskIds) → Contains (asked_ids ids) (second_id ids)
second_among (One a) = has_here a []
second_among (Two a b) = has_there a b (b ∷ []) (has_here b [])

-- so is the one that a read names
pub named_among : (ids : AskIds) (which : ℕ) → Contains (asked_ids ids) (id_at ids which)
named_among ids which = elim (eqb which 0) as
    (λ b. Contains (asked_ids ids) (cond b (first_id ids) (second_id ids))) [
      | true ↦ first_among ids
      | false ↦ second_among ids
    ]

-- ---- a pin that is asked for

both_open : (entries : List Entry) (ids : AskIds) → is_open entries (first_id ids) ≡ true
    → is_open entries (second_id ids) ≡ true → AreOpen entries ids
both_open entries (One a) first second = first
both_open entries (Two a b) first second = (first, second)

-- a trace that the registry knows is open after the question
known_on : (key_at : KeyAt) (past : Past) (r : RegistryValue) (ids : AskIds) (id : ℕ)
    → StandsFor (AreTrees key_at) (start_of past) r past.entries → first_unknown r ids ≡ None
    → Contains (asked_ids ids) id → is_open (past.entries ++ Asked ∷ []) id ≡ true
known_on key_at past r ids id stands known among =
    open_same past.entries (past.entries ++ Asked ∷ []) id (data_asked past.entries id)
    (fate_asked past.entries id)
    ∙ stands.opens id ∙ known-open r ids known id (asked_among ids id among)

-- A pin gets the place of its question, at which its traces were open.
pub pin_asked : (key_at : KeyAt) (past : Past) (r new : RegistryValue) (ids : AskIds) (place : ℕ)
    → StandsFor (AreTrees key_at) (start_of past) r past.entries → AsksIn r ids (ask.Pinned place) new
    → (place ≡ next_place past)
    × IsSeenPin (with_entries past (Asked ∷ [])) (next_place past) (record { ids = ids; place = place })
pin_asked key_at past r new ids place stands (fits, known, is, becomes) =
    let at_next : place ≡ next_place past = omega (arith, is, stands.place) in (
      at_next,
      record {
        made = omega (arith, at_next);
        seen = omega (arith, at_next);
        open_there = subst (λ (n : ℕ). AreOpen (up_to (with_entries past (Asked ∷ [])) n) ids) (sym at_next)
            (subst (λ (es : List Entry). AreOpen es ids) (sym (up_to-next past Asked))
            (both_open (past.entries ++ Asked ∷ []) ids
            (known_on key_at past r ids (first_id ids) stands known (first_among ids))
            (known_on key_at past r ids (second_id ids) stands known (second_among ids))));
      },
    )

-- ---- the traces of pins

-- each trace of a pin of a seat is kept
pub pin_is_kept : (r : RegistryValue) (seats : List SeatView) (seat : SeatView) (p : PinView) (id : ℕ)
    → IsUsedByPins r seats → Contains seats seat → Contains seat.pins p → Contains (asked_ids p.ids) id
    → IsSome (kept_trace r.traces id)
pin_is_kept r seats seat p id used has pinned among =
    let there : Contains (all_pins seats) p =
    flat_map-keeps (λ (s : SeatView). s.pins) seats seat p has pinned in
    let some = sum_by-has (λ (q : PinView). times_asked q.ids id) (all_pins seats) p there
    (asked_among p.ids id among) in
    used.kept id (omega (arith, some, named-pins id (all_pins seats)))
