-- What seats have seen of which one takes over what another one has, or gives a part of a pass to it.
use Rattle.std.proofs.Common.{◌≡◌, ◌≤◌, ◌⊎◌, inl, inr, ℕ, ◌+◌, List, [], ◌∷◌, All, Contains, None, Some}
use Rattle.std.proofs.Common.{ap, ◌∙◌, arith, eqb, eq-eqb, length, refl}
use Rattle.std.proofs.Common.{slice_set, subst, sym}
use Rattle.std.specs.Prelude.{Option}
use Rattle.std.proofs.lemmas.List.Elements.{All-contains, All-head, All-set, All-weaker}
use Rattle.std.proofs.lemmas.List.Elements.{All-contains_itself}
use Rattle.std.proofs.lemmas.Option.{same_Some}
use Rattle.list_lemmas.proofs.All.{All-at, All-one}
use Rattle.list_lemmas.proofs.Booleans.{one_if}
use Rattle.list_lemmas.proofs.Members.{has_or_not}
use Rattle.list_lemmas.proofs.Sums.{sum_by-has}
use Rattle.hall_history.specs.History.{Entry, info_of}
use Rattle.hall_history.specs.declared.asks.PassState.TheVariants.{Straight}
use Rattle.hall_history.specs.declared.seat.PassView.{PassView}
use Rattle.hall_world.specs.Good.{IsSeenPin, SeesHistory}
use Rattle.hall_world.specs.Passes.{AreAdjacent, IsGoodPass, IsPassOf, back_part, front_part, joined_pass}
use Rattle.hall_world.specs.Past.{Past, up_to}
use Rattle.hall_world.specs.Seats.{Joins, JoinsPasses, MayCut, MayMake, Splits}
use Rattle.hall_world.specs.Seats.{anything}
use Rattle.hall_world.specs.World.{empty_seat}
use Rattle.hall_world.specs.declared.events.HallEvent.TheVariants as event
use Rattle.hall_world.specs.declared.world.SeatView.{SeatView}
use Rattle.hall_world.proofs.Places.{times_placed}
use Rattle.hall_world.proofs.SeatsSee.{empty_sees, sees_passes}
use Rattle.hall_world.proofs.SeatsSeePast.{pass_seen, pin_later}
use Rattle.trace_base.specs.declared.names.TraceInfo.{TraceInfo}

-- ---- parts of passes

-- the parts of a pass that is cut between its ends are passes
pub front_is_pass : (entries : List Entry) (p : PassView) (cut : ℕ) → p.from ≤ cut → cut ≤ p.to
    → IsPassOf entries p → IsPassOf entries (front_part p cut)
front_is_pass entries p cut low high is = record {
  info = is.info;
  opened = is.opened;
  order = low;
  within = omega (arith, high, is.within);
}

pub back_is_pass : (entries : List Entry) (p : PassView) (cut : ℕ) → p.from ≤ cut → cut ≤ p.to
    → IsPassOf entries p → IsPassOf entries (back_part p cut)
back_is_pass entries p cut low high is = record {
  info = is.info;
  opened = is.opened;
  order = high;
  within = is.within;
}

-- two adjacent passes are one, put together
pub joined_is_pass : (entries : List Entry) (p q : PassView) → AreAdjacent p q → IsPassOf entries p
    → IsPassOf entries q → IsPassOf entries (joined_pass p q)
joined_is_pass entries p q (same, ends) is other =
    let infos : is.info ≡ other.info =
    same_Some is.info other.info (sym is.opened ∙ ap (info_of entries) same ∙ other.opened) in
    let tracks = ap (λ (info : TraceInfo). length info.names.tracks) infos in
    record {
      info = is.info;
      opened = is.opened;
      order = omega (arith, is.order, other.order);
      within = omega (arith, is.within, other.within, tracks);
    }

-- so passes to which another seat's are put are
pub joined_are_passes : (entries : List Entry) (passes others after : List PassView)
    → JoinsPasses passes others after → All (IsPassOf entries) passes → All (IsPassOf entries) others
    → All (IsPassOf entries) after
joined_are_passes entries passes [] after same all others = subst (All (IsPassOf entries)) (sym same) all
joined_are_passes entries passes (part ∷ []) after (at, p, first, becomes) all others =
    subst (All (IsPassOf entries)) (sym becomes)
    (All-set (IsPassOf entries) passes at (joined_pass p part)
    (joined_is_pass entries p part first.adjacent (All-at (IsPassOf entries) passes at p all first.there)
    (All-head (IsPassOf entries) part [] others)) all)
joined_are_passes entries passes (part ∷ more ∷ rest) after none all others = absurd none

-- ---- a seat takes over what another one has

-- a place that is counted among some is one of them
counted-has : (k : ℕ) (xs ys zs : List ℕ) → times_placed k xs ≡ times_placed k ys + times_placed k zs
    → Contains xs k → Contains ys k ⊎ Contains zs k
counted-has k xs ys zs both there = elim (has_or_not k ys) [
  | inr mine ↦ inl mine
  | inl none ↦ elim (has_or_not k zs) [
    | inr theirs ↦ inr theirs
    | inl none' ↦ absurd (omega (
      arith,
      both,
      none,
      none',
      sum_by-has (λ x. one_if (eqb x k)) xs k there (omega (arith, ap one_if (eq-eqb k k refl))),
    ))
  ]
]

-- places that were seen by one of two seats are seen by both together
both_own : (seen other later : ℕ) (xs ys zs : List ℕ) → seen ≤ later → other ≤ later
    → ((k : ℕ) → times_placed k zs ≡ times_placed k xs + times_placed k ys)
    → All (λ place. place ≤ seen) xs → All (λ place. place ≤ other) ys → All (λ place. place ≤ later) zs
both_own seen other later xs ys zs low low' both mine theirs =
    All-weaker (Contains zs) (λ place. place ≤ later)
    (λ k there. elim (counted-has k zs xs ys (both k) there) [
      | inl one ↦ omega (arith, low, All-contains (λ place. place ≤ seen) xs k mine one)
      | inr one ↦ omega (arith, low', All-contains (λ place. place ≤ other) ys k theirs one)
    ]) zs (All-contains_itself zs)

-- A seat that takes over what another one has, has seen what both had.
pub joined_sees : (past : Past) (seat other after : SeatView) → SeesHistory past seat
    → SeesHistory past other → Joins seat other after → SeesHistory past after
joined_sees past seat other after sees sees' joins =
    let low : seat.seen ≤ after.seen = omega (arith, joins.seen) in
    let low' : other.seen ≤ after.seen = omega (arith, joins.seen) in
    record {
      begun = omega (arith, low, sees.begun);
      seen = omega (arith, joins.seen, sees.seen, sees'.seen);
      rising = joins.rising;
      own = both_own seat.seen other.seen after.seen seat.places other.places after.places low low'
          joins.places
          sees.own sees'.own;
      pins = subst (All (IsSeenPin past after.seen)) (sym joins.pins)
          (All-weaker (IsSeenPin past seat.seen) (IsSeenPin past after.seen)
          (λ p is. pin_later past seat.seen after.seen p low is) seat.pins sees.pins);
      passes = joined_are_passes (up_to past after.seen) seat.passes other.passes after.passes joins.passes
          (All-weaker (IsPassOf (up_to past seat.seen)) (IsPassOf (up_to past after.seen))
          (λ p is. pass_seen past seat.seen after.seen p low is) seat.passes sees.passes)
          (All-weaker (IsPassOf (up_to past other.seen)) (IsPassOf (up_to past after.seen))
          (λ p is. pass_seen past other.seen after.seen p low' is) other.passes sees'.passes);
    }

-- ---- a seat makes another one

-- a straight pass has come to a track behind its first one
pub straight_from : (entries : List Entry) (p : PassView) (next : ℕ) → IsGoodPass entries p
    → p.state ≡ Straight next → p.from ≤ next
straight_from entries p next good straight = (rw straight at good.come).0

-- a straight pass that may be cut is cut between its ends
cut_within : (entries : List Entry) (seat : SeatView) (at cut : ℕ) (p : PassView)
    → All (IsGoodPass entries) seat.passes → MayCut seat at cut p → (p.from ≤ cut) × (cut ≤ p.to)
cut_within entries seat at cut p good may =
    let from = straight_from entries p may.next (All-at (IsGoodPass entries) seat.passes at p good may.there)
    may.straight in
    (omega (arith, from, may.behind), omega (arith, may.before))

-- Both seats have seen what the one had.
pub split_sees : (past : Past) (seat left right : SeatView) (part : Option (ℕ × ℕ)) → SeesHistory past seat
    → All (IsGoodPass past.entries) seat.passes
    → MayMake anything (up_to past seat.seen) seat (event.Split part) → Splits seat part left right
    → SeesHistory past left × SeesHistory past right
split_sees past seat left right None sees good may (is-left, is-right) = (
  subst (SeesHistory past) (sym is-left) sees,
  subst (SeesHistory past) (sym is-right) (empty_sees past seat sees),
)
split_sees past seat left right (Some (at, cut)) sees good (q, may) (p, there, is-left, is-right) =
    let same : q ≡ p = same_Some q p (sym may.there ∙ there) in
    let (low, high) = cut_within past.entries seat at cut p good (subst (MayCut seat at cut) same may) in
    let seen = up_to past seat.seen in
    let is : IsPassOf seen p = All-at (IsPassOf seen) seat.passes at p sees.passes there in (
      subst (SeesHistory past) (sym is-left)
          (sees_passes past seat (slice_set seat.passes at (front_part p cut)) sees
          (All-set (IsPassOf seen) seat.passes at (front_part p cut) (front_is_pass seen p cut low high is)
          sees.passes)),
      subst (SeesHistory past) (sym is-right)
          (sees_passes past (empty_seat seat.seen) (back_part p cut ∷ []) (empty_sees past seat sees)
          (All-one (IsPassOf seen) (back_part p cut) (back_is_pass seen p cut low high is))),
    )
