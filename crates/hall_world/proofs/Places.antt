-- Whose places the places of a history are, where one seat or another is replaced.
use Rattle.std.proofs.Common.{◌≡◌, ◌≢◌, ℕ, ◌+◌, ◌==◌, List, [], ◌∷◌, ◌++◌, Some, ap, ◌∙◌, arith}
use Rattle.std.proofs.Common.{count_by, length, length-append, slice_get, slice_set, sym}
use Rattle.std.specs.List.{range_with_len}
use Rattle.std.proofs.lemmas.List.Sums.{sum_by-append}
use Rattle.list_lemmas.proofs.Booleans.{one_if}
use Rattle.list_lemmas.proofs.Positions.{slice_get-set_else}
use Rattle.list_lemmas.proofs.Ranges.{range_with_len-more}
use Rattle.hall_history.specs.History.{Entry}
use Rattle.hall_world.specs.Good.{SharePlaces}
use Rattle.hall_world.specs.Past.{Past, next_place, with_entries}
use Rattle.hall_world.specs.World.{all_places, ended_seat}
use Rattle.hall_world.specs.declared.world.SeatView.{SeatView}
use Rattle.hall_world.proofs.SeatsReplaced.{pushed_sum, replaced_sum}

-- how often a place is among some
abbrev pub times_placed : ℕ → List ℕ → ℕ
times_placed k places = count_by (λ place. place == k) places

-- two lists of places, one after the other
pub times_placed-append : (k : ℕ) (xs ys : List ℕ)
    → times_placed k (xs ++ ys) ≡ times_placed k xs + times_placed k ys
times_placed-append k xs ys = sum_by-append (λ place. one_if (place == k)) xs ys

-- how often a place is one of a seat's, where another seat is in the place of one
pub placed-set : (k : ℕ) (seats : List SeatView) (i : ℕ) (seat other : SeatView)
    → slice_get seats i ≡ Some seat
    → times_placed k (all_places (slice_set seats i other)) + times_placed k seat.places
    ≡ times_placed k (all_places seats) + times_placed k other.places
placed-set k seats i seat other at =
    replaced_sum (λ (s : SeatView). s.places) (λ place. one_if (place == k)) seats i seat other at

-- and where one seat more is
pub placed-push : (k : ℕ) (seats : List SeatView) (seat : SeatView)
    → times_placed k (all_places (seats ++ seat ∷ [])) ≡ times_placed k (all_places seats)
    + times_placed k seat.places
placed-push k seats seat = pushed_sum (λ (s : SeatView). s.places) (λ place. one_if (place == k)) seats seat

-- a history has one place more with one entry more
pub placed-next : (past : Past) (e : Entry) (k : ℕ)
    → times_placed k (range_with_len (past.first + 1) (length (past.entries ++ e ∷ [])))
    ≡ times_placed k (range_with_len (past.first + 1) (length past.entries))
    + times_placed k (next_place past ∷ [])
placed-next past e k =
    ap (λ n. times_placed k (range_with_len (past.first + 1) n)) (length-append past.entries (e ∷ []))
    ∙ ap (times_placed k) (range_with_len-more (past.first + 1) (length past.entries) (next_place past)
    (omega arith))
    ∙ times_placed-append k (range_with_len (past.first + 1) (length past.entries)) (next_place past ∷ [])

-- ---- each place belongs to one seat

-- the places stay shared, where a seat that changes keeps its own
pub places_kept : (past : Past) (seats : List SeatView) (actor : ℕ) (seat after : SeatView)
    → slice_get seats actor ≡ Some seat → after.places ≡ seat.places → SharePlaces past seats
    → SharePlaces past (slice_set seats actor after)
places_kept past seats actor seat after at same share k =
    omega (arith, share k, placed-set k seats actor seat after at, ap (times_placed k) same)

-- they are shared after an entry, whose place a seat has got
pub places_entered : (past : Past) (e : Entry) (seats : List SeatView) (actor : ℕ) (seat after : SeatView)
    → slice_get seats actor ≡ Some seat → after.places ≡ seat.places ++ next_place past ∷ []
    → SharePlaces past seats → SharePlaces (with_entries past (e ∷ [])) (slice_set seats actor after)
places_entered past e seats actor seat after at more share k =
    omega (
      arith,
      share k,
      placed-set k seats actor seat after at,
      ap (times_placed k) more,
      times_placed-append k seat.places (next_place past ∷ []),
      placed-next past e k,
    )

-- with one seat more, which has no places
pub places_pushed : (past : Past) (seats : List SeatView) (s : SeatView) → s.places ≡ []
    → SharePlaces past seats → SharePlaces past (seats ++ s ∷ [])
places_pushed past seats s none share k =
    omega (arith, share k, placed-push k seats s, ap (times_placed k) none)

-- and where a seat takes over the places of another one, which has ended
pub places_joined : (past : Past) (seats : List SeatView) (actor other : ℕ) (seat joined after : SeatView)
    → slice_get seats actor ≡ Some seat → slice_get seats other ≡ Some joined → other ≢ actor
    → ((k : ℕ) → times_placed k after.places ≡ times_placed k seat.places + times_placed k joined.places)
    → SharePlaces past seats → SharePlaces past (slice_set (slice_set seats other ended_seat) actor after)
places_joined past seats actor other seat joined after at at_other apart both share k =
    let there : slice_get (slice_set seats other ended_seat) actor ≡ Some seat =
    slice_get-set_else seats other actor ended_seat (λ same. apart (sym same)) ∙ at in
    omega (
      arith,
      share k,
      both k,
      placed-set k seats other joined ended_seat at_other,
      placed-set k (slice_set seats other ended_seat) actor seat after there,
    )
