-- All seats of a good world where one makes another one, or takes over what another one has.
use Rattle.std.proofs.Common.{◌≡◌, ◌≢◌, ℕ, List, [], ◌∷◌, ◌++◌, All, Contains, Option, None, Some, ap, ◌∙◌}
use Rattle.std.proofs.Common.{false, slice_get, slice_set}
use Rattle.std.specs.List.{flat_map}
use Rattle.std.proofs.lemmas.List.Elements.{All-contains, All-contains_itself, All-weaker}
use Rattle.std.proofs.lemmas.Option.{get_or_from_slice_get, slice_get_within}
use Rattle.list_lemmas.proofs.All.{All-at}
use Rattle.list_lemmas.proofs.Members.{flat_map-keeps}
use Rattle.hall_world.specs.Good.{IsGoodSeat, IsUsedByPins, SeesHistory, SharePlaces}
use Rattle.hall_world.specs.Passes.{IsGoodPass}
use Rattle.hall_world.specs.Past.{Past, up_to}
use Rattle.hall_world.specs.Seats.{Joins, MayJoin, MayMake, Splits, anything}
use Rattle.hall_world.specs.World.{all_passes, ended_seat}
use Rattle.hall_world.specs.declared.events.HallEvent.TheVariants as event
use Rattle.hall_world.specs.declared.world.SeatView.{SeatView}
use Rattle.hall_world.proofs.PinUsers.{users_joined, users_kept, users_pushed}
use Rattle.hall_world.proofs.Places.{places_joined, places_kept, places_pushed}
use Rattle.hall_world.proofs.SeatsSee.{seats_ended, seats_kept, seats_pushed}
use Rattle.hall_world.proofs.SeatsSeeParts.{joined_sees, split_sees}
use Rattle.registry_core.specs.Registry.{RegistryValue}

-- ---- one of all seats

-- what stands at an index is in the list
pub has_at : {X : Type 0} (xs : List X) (i : ℕ) (x : X) → slice_get xs i ≡ Some x → Contains xs x
has_at xs i x at = (i, slice_get_within xs i x at, get_or_from_slice_get xs i x x at)

-- what holds of all that all seats have holds of what one has
pub All-of_seat : {X : Type 0} (P : X → Type 0) (f : SeatView → List X) (seats : List SeatView) (i : ℕ)
    (seat : SeatView) → slice_get seats i ≡ Some seat → All P (flat_map f seats) → All P (f seat)
All-of_seat P f seats i seat at all =
    All-weaker (Contains (f seat)) P (λ x there. All-contains P (flat_map f seats) x all
    (flat_map-keeps f seats seat x (has_at seats i seat at) there)) (f seat) (All-contains_itself (f seat))

-- a seat that acts has seen the history
pub sees_at : (past : Past) (seats : List SeatView) (i : ℕ) (seat : SeatView) → All (IsGoodSeat past) seats
    → slice_get seats i ≡ Some seat → seat.ended ≡ false → SeesHistory past seat
sees_at past seats i seat good at active = (All-at (IsGoodSeat past) seats i seat good at).0 active

-- ---- a seat makes another one

-- what is left of it is as it was, but for its passes
split_keeps : (seat left right : SeatView) (part : Option (ℕ × ℕ)) → Splits seat part left right
    → (left.ended ≡ seat.ended) × (left.places ≡ seat.places) × (left.pins ≡ seat.pins)
split_keeps seat left right None (is-left, is-right) = (
  ap (λ (s : SeatView). s.ended) is-left,
  ap (λ (s : SeatView). s.places) is-left,
  ap (λ (s : SeatView). s.pins) is-left,
)
split_keeps seat left right (Some (at, cut)) (p, there, is-left, is-right) = (
  ap (λ (s : SeatView). s.ended) is-left,
  ap (λ (s : SeatView). s.places) is-left,
  ap (λ (s : SeatView). s.pins) is-left,
)

-- the other one acts, and has no places and no pins
split_gives : (seat left right : SeatView) (part : Option (ℕ × ℕ)) → Splits seat part left right
    → (right.ended ≡ false) × (right.places ≡ []) × (right.pins ≡ [])
split_gives seat left right None (is-left, is-right) = (
  ap (λ (s : SeatView). s.ended) is-right,
  ap (λ (s : SeatView). s.places) is-right,
  ap (λ (s : SeatView). s.pins) is-right,
)
split_gives seat left right (Some (at, cut)) (p, there, is-left, is-right) = (
  ap (λ (s : SeatView). s.ended) is-right,
  ap (λ (s : SeatView). s.places) is-right,
  ap (λ (s : SeatView). s.pins) is-right,
)

module _ (past : Past) (seats : List SeatView) (actor : ℕ) (seat left right : SeatView)
    (part : Option (ℕ × ℕ)) (at : slice_get seats actor ≡ Some seat)
    (split : Splits seat part left right) where
  -- all seats stay good
  pub seats_split : All (IsGoodSeat past) seats → seat.ended ≡ false
      → All (IsGoodPass past.entries) (all_passes seats)
      → MayMake anything (up_to past seat.seen) seat (event.Split part)
      → All (IsGoodSeat past) (slice_set seats actor left ++ right ∷ [])
  seats_split good active passes may =
      let (sees-left, sees-right) = split_sees past seat left right part
      (sees_at past seats actor seat good at active)
      (All-of_seat (IsGoodPass past.entries) (λ (s : SeatView). s.passes) seats actor seat at passes) may
      split
      in
      seats_pushed past (slice_set seats actor left) right
      (seats_kept past seats actor left good sees-left ((split_keeps seat left right part split).0 ∙ active))
      sees-right (split_gives seat left right part split).0

  -- each place belongs to one of them
  pub places_split : SharePlaces past seats → SharePlaces past (slice_set seats actor left ++ right ∷ [])
  places_split share =
      places_pushed past (slice_set seats actor left) right (split_gives seat left right part split).1
      (places_kept past seats actor seat left at (split_keeps seat left right part split).1 share)

  -- and their pins are the users
  pub users_split : (r : RegistryValue) → IsUsedByPins r seats
      → IsUsedByPins r (slice_set seats actor left ++ right ∷ [])
  users_split r was =
      users_pushed r (slice_set seats actor left) right (split_gives seat left right part split).2
      (users_kept r seats actor seat left at (split_keeps seat left right part split).2 was)

-- ---- a seat takes over what another one has

module _ (past : Past) (seats : List SeatView) (actor other : ℕ) (seat joined after : SeatView)
    (at : slice_get seats actor ≡ Some seat) (at_other : slice_get seats other ≡ Some joined)
    (joins : Joins seat joined after) where
  -- all seats stay good
  pub seats_joined : All (IsGoodSeat past) seats → seat.ended ≡ false → joined.ended ≡ false
      → All (IsGoodSeat past) (slice_set (slice_set seats other ended_seat) actor after)
  seats_joined good active was_active =
      seats_kept past (slice_set seats other ended_seat) actor after (seats_ended past seats other good)
      (joined_sees past seat joined after (sees_at past seats actor seat good at active)
      (sees_at past seats other joined good at_other was_active) joins) joins.active

  -- each place belongs to one of them
  pub places_of_joined : other ≢ actor → SharePlaces past seats
      → SharePlaces past (slice_set (slice_set seats other ended_seat) actor after)
  places_of_joined apart share =
      places_joined past seats actor other seat joined after at at_other apart joins.places share

  -- and their pins are the users
  pub users_of_joined : (r : RegistryValue) → other ≢ actor → MayJoin seat joined → IsUsedByPins r seats
      → IsUsedByPins r (slice_set (slice_set seats other ended_seat) actor after)
  users_of_joined r apart may was =
      users_joined r seats actor other seat joined after at at_other apart may.pins joins.pins was
