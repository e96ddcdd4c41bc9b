-- A good world stays good when a seat makes another one, or takes over what another one has.
use Rattle.std.proofs.Common.{◌≡◌, ◌≢◌, ◌<◌, ◌∙◌, ℕ, List, [], ◌∷◌, ◌++◌, Option, None, Some, ap, append-nil, arith, refl}
use Rattle.std.proofs.Common.{slice_get, slice_set, subst, sym}
use Rattle.std.proofs.lemmas.Grind.{flat_map-append}
use Rattle.std.proofs.lemmas.List.Sorted.{IsPermutation-append_left, IsPermutation-append_right, IsPermutation-cons}
use Rattle.std.proofs.lemmas.List.Sorted.{IsPermutation-middle, IsPermutation-sym, IsPermutation-to_front}
use Rattle.std.proofs.lemmas.List.Sorted.{IsPermutation-trans}
use Rattle.std.proofs.lemmas.Option.{same_Some}
use Rattle.std.specs.List.Sorted.{IsPermutation}
use Rattle.list_lemmas.proofs.Positions.{slice_get-set_other}
use Rattle.hall_history.specs.History.{Entry}
use Rattle.hall_history.specs.declared.seat.PassView.{PassView}
use Rattle.hall_world.specs.Good.{IsGood}
use Rattle.hall_world.specs.Passes.{SharePasses, back_part, front_part, joined_pass}
use Rattle.hall_world.specs.Past.{Past, up_to}
use Rattle.hall_world.specs.Seats.{Joins, JoinsPasses, MayJoin, MayMake, Splits, anything, without_at}
use Rattle.hall_world.specs.World.{IsActive, all_passes, all_stakes, ended_seat}
use Rattle.hall_world.specs.declared.events.HallEvent.TheVariants as event
use Rattle.hall_world.specs.declared.world.SeatView.{SeatView}
use Rattle.hall_world.specs.declared.world.World.{World}
use Rattle.hall_world.proofs.EventsOnRegistry.{back_again, one_first, shared_same}
use Rattle.hall_world.proofs.ListsApart.{item_first, of_the_others, other_first, seat_first, set_first}
use Rattle.hall_world.proofs.PassesParted.{passes_joined, passes_split}
use Rattle.hall_world.proofs.PassesShared.{shares_permuted}
use Rattle.hall_world.proofs.SeatStakes.{exchanges-push, exchanges-set}
use Rattle.hall_world.proofs.SeatsParted.{places_of_joined, places_split, seats_joined, seats_split, users_of_joined}
use Rattle.hall_world.proofs.SeatsParted.{users_split}
use Rattle.node_key.proofs.StakeLaws.{times-append}
use Rattle.node_key.specs.Stakes.{times}
use Rattle.store_laws.proofs.StoreExchanged.{store_exchanged}

-- ---- a seat makes another one

-- the passes of all seats and of one more
one_more : (seats : List SeatView) (s : SeatView) → all_passes (seats ++ s ∷ []) ≡ all_passes seats ++ s.passes
one_more seats s =
    flat_map-append (λ (s : SeatView). s.passes) seats (s ∷ [])
    ∙ ap (λ ps. all_passes seats ++ ps) (append-nil s.passes)

split_passes : (h : List Entry) (seats : List SeatView) (actor : ℕ) (seat left right : SeatView) (part : Option (ℕ × ℕ))
    (seen : List Entry) → slice_get seats actor ≡ Some seat → SharePasses h (all_passes seats)
    → MayMake anything seen seat (event.Split part) → Splits seat part left right
    → SharePasses h (all_passes (slice_set seats actor left ++ right ∷ []))
split_passes h seats actor seat left right None seen there share may (is-left, is-right) =
    subst (SharePasses h) (sym (one_more (slice_set seats actor left) right
    ∙ ap (λ (s : SeatView). all_passes (slice_set seats actor left) ++ s.passes) is-right
    ∙ append-nil (all_passes (slice_set seats actor left))))
    (shared_same h seats actor seat left there share (ap (λ (s : SeatView). s.passes) is-left))
split_passes h seats actor seat left right (Some (at, cut)) seen there share (q, may) (p, is, is-left, is-right) =
    let rest = without_at at seat.passes ++ of_the_others (λ (s : SeatView). s.passes) seats actor in
    let front = front_part p cut in
    let back = back_part p cut in
    let all = all_passes (slice_set seats actor left) in
    let same : q ≡ p = same_Some q p (sym may.there ∙ is) in
    let cut_in_two = passes_split h p may.next cut rest (one_first h seats actor seat left there share at p is)
    (ap (λ (x : PassView). x.state) (sym same) ∙ may.straight) may.behind
    (subst (λ (x : PassView). cut < x.to) same may.before) in
    let set = slice_set seat.passes at front in
    let first : IsPermutation all (front ∷ rest) =
    IsPermutation-trans all (set ++ of_the_others (λ (s : SeatView). s.passes) seats actor) (front ∷ rest)
    (subst (λ ps. IsPermutation all (ps ++ of_the_others (λ (s : SeatView). s.passes) seats actor))
    (ap (λ (s : SeatView). s.passes) is-left) (other_first (λ (s : SeatView). s.passes) seats actor seat left there))
    (IsPermutation-append_left (of_the_others (λ (s : SeatView). s.passes) seats actor) set
    (front ∷ without_at at seat.passes) (set_first seat.passes at p front is)) in
    subst (SharePasses h) (sym (one_more (slice_set seats actor left) right
    ∙ ap (λ (s : SeatView). all ++ s.passes) is-right))
    (shares_permuted h (front ∷ back ∷ rest) (all ++ back ∷ [])
    (IsPermutation-sym (all ++ back ∷ []) (front ∷ back ∷ rest)
    (IsPermutation-trans (all ++ back ∷ []) (back ∷ all) (front ∷ back ∷ rest) (IsPermutation-to_front all back)
    (IsPermutation-trans (back ∷ all) (back ∷ front ∷ rest) (front ∷ back ∷ rest)
    (IsPermutation-cons back all (front ∷ rest) first) (IsPermutation-middle (back ∷ []) front rest))))
    cut_in_two)

-- the stakes stay
split_stakes : (seat left right : SeatView) (part : Option (ℕ × ℕ)) → Splits seat part left right
    → (left.stakes ≡ seat.stakes) × (right.stakes ≡ [])
split_stakes seat left right None (is-left, is-right) =
    (ap (λ (s : SeatView). s.stakes) is-left, ap (λ (s : SeatView). s.stakes) is-right)
split_stakes seat left right (Some part) (p, there, is-left, is-right) =
    (ap (λ (s : SeatView). s.stakes) is-left, ap (λ (s : SeatView). s.stakes) is-right)

pub split_kept : (past : Past) (w : World) (actor : ℕ) (seat left right : SeatView) (part : Option (ℕ × ℕ))
    → IsGood past w → IsActive w actor seat → MayMake anything (up_to past seat.seen) seat (event.Split part)
    → Splits seat part left right
    → IsGood past (record w { seats = slice_set w.seats actor left ++ right ∷ [] })
split_kept past w actor seat left right part good acts may split =
    let (same, none) = split_stakes seat left right part split in
    record {
      nodes = record {
        roots = good.nodes.roots;
        of_registry = good.nodes.of_registry;
        store = store_exchanged w.state.shards (all_stakes w.seats ++ good.nodes.roots) _ good.nodes.store (λ x. omega (
          arith,
          times-append x (all_stakes w.seats) good.nodes.roots,
          times-append x (all_stakes (slice_set w.seats actor left ++ right ∷ [])) good.nodes.roots,
          exchanges-push (slice_set w.seats actor left) right x,
          exchanges-set w.seats actor seat left acts.there x,
          ap (times x) same,
          ap (times x) none,
        ));
      };
      memos = good.memos;
      history = good.history;
      users = users_split past w.seats actor seat left right part acts.there split w.state.registry good.users;
      seats = seats_split past w.seats actor seat left right part acts.there split good.seats acts.active
          good.passes.each may;
      places = places_split past w.seats actor seat left right part acts.there split good.places;
      passes = split_passes past.entries w.seats actor seat left right part (up_to past seat.seen) acts.there good.passes
          may split;
    }

-- ---- a seat takes over what another one has

module _ (h : List Entry) (seats : List SeatView) (actor other : ℕ) (seat joined after : SeatView)
    (there : slice_get seats actor ≡ Some seat) (there' : slice_get seats other ≡ Some joined) (apart : other ≢ actor)
    (share : SharePasses h (all_passes seats))
  where
    -- the seats once the other one has ended
    abbrev ended : List SeatView
    ended = slice_set seats other ended_seat

    still : slice_get ended actor ≡ Some seat
    still = slice_get-set_other seats other actor ended_seat apart ∙ there

    -- the passes of the other one first
    other_is_first : SharePasses h (joined.passes ++ all_passes ended)
    other_is_first =
        let rest = of_the_others (λ (s : SeatView). s.passes) seats other in
        shares_permuted h (all_passes seats) (joined.passes ++ all_passes ended)
        (IsPermutation-trans (all_passes seats) (joined.passes ++ rest) (joined.passes ++ all_passes ended)
        (seat_first (λ (s : SeatView). s.passes) seats other joined there')
        (IsPermutation-append_right joined.passes rest (all_passes ended)
        (IsPermutation-sym (all_passes ended) rest
        (other_first (λ (s : SeatView). s.passes) seats other joined ended_seat there'))))
        share

    joined_shared : (theirs : List PassView) → joined.passes ≡ theirs → JoinsPasses seat.passes theirs after.passes
        → SharePasses h (all_passes (slice_set ended actor after))
    joined_shared [] none same =
        shared_same h ended actor seat after still (subst (λ ps. SharePasses h (ps ++ all_passes ended)) none other_is_first)
        same
    joined_shared (part ∷ []) one (at, p, first, is) =
        let rest = without_at at seat.passes ++ of_the_others (λ (s : SeatView). s.passes) ended actor in
        let mine : IsPermutation (all_passes ended) (p ∷ rest) =
        IsPermutation-trans (all_passes ended)
        (seat.passes ++ of_the_others (λ (s : SeatView). s.passes) ended actor) (p ∷ rest)
        (seat_first (λ (s : SeatView). s.passes) ended actor seat still)
        (IsPermutation-append_left (of_the_others (λ (s : SeatView). s.passes) ended actor) seat.passes
        (p ∷ without_at at seat.passes)
        (item_first seat.passes at p first.there)) in
        let both : SharePasses h (p ∷ part ∷ rest) =
        shares_permuted h (part ∷ all_passes ended) (p ∷ part ∷ rest)
        (IsPermutation-trans (part ∷ all_passes ended) (part ∷ p ∷ rest) (p ∷ part ∷ rest)
        (IsPermutation-cons part (all_passes ended) (p ∷ rest) mine) (IsPermutation-middle (part ∷ []) p rest))
        (subst (λ ps. SharePasses h (ps ++ all_passes ended)) one other_is_first) in
        let set = slice_set seat.passes at (joined_pass p part) in
        back_again ended actor seat after still h set is
        (shares_permuted h (joined_pass p part ∷ rest)
        (set ++ of_the_others (λ (s : SeatView). s.passes) ended actor)
        (IsPermutation-sym (set ++ of_the_others (λ (s : SeatView). s.passes) ended actor) (joined_pass p part ∷ rest)
        (IsPermutation-append_left (of_the_others (λ (s : SeatView). s.passes) ended actor) set
        (joined_pass p part ∷ without_at at seat.passes)
        (set_first seat.passes at p (joined_pass p part) first.there)))
        (passes_joined h p part rest both first.adjacent.0 first.adjacent.1))
    joined_shared (part ∷ more ∷ rest) is none = absurd none

pub join_kept : (past : Past) (w : World) (actor other : ℕ) (seat joined after : SeatView) → IsGood past w
    → IsActive w actor seat → IsActive w other joined → other ≢ actor → MayJoin seat joined
    → Joins seat joined after
    → IsGood past (record w { seats = slice_set (slice_set w.seats other ended_seat) actor after })
join_kept past w actor other seat joined after good acts was_active apart may joins =
    let there = slice_get-set_other w.seats other actor ended_seat apart ∙ acts.there in
    record {
      nodes = record {
        roots = good.nodes.roots;
        of_registry = good.nodes.of_registry;
        store = store_exchanged w.state.shards (all_stakes w.seats ++ good.nodes.roots) _ good.nodes.store (λ x. omega (
          arith,
          times-append x (all_stakes w.seats) good.nodes.roots,
          times-append x (all_stakes (slice_set (slice_set w.seats other ended_seat) actor after)) good.nodes.roots,
          exchanges-set w.seats other joined ended_seat was_active.there x,
          exchanges-set (slice_set w.seats other ended_seat) actor seat after there x,
          joins.stakes x,
        ));
      };
      memos = good.memos;
      history = good.history;
      users = users_of_joined past w.seats actor other seat joined after acts.there was_active.there joins
          w.state.registry apart may good.users;
      seats = seats_joined past w.seats actor other seat joined after acts.there was_active.there joins good.seats
          acts.active was_active.active;
      places = places_of_joined past w.seats actor other seat joined after acts.there was_active.there joins apart
          good.places;
      passes = joined_shared past.entries w.seats actor other seat joined after acts.there was_active.there apart
          good.passes joined.passes refl joins.passes;
    }
