-- What the seats of a hall have together, where one seat or another is replaced, or one more comes.
use Rattle.std.proofs.Common.{◌≡◌, ◌+◌, ℕ, zero, suc, List, [], ◌∷◌, ◌++◌, Some, ap, arith}
use Rattle.std.proofs.Common.{slice_get, slice_set, sum_by}
use Rattle.std.proofs.lemmas.List.Sums.{sum_by-append}
use Rattle.std.proofs.lemmas.Option.{none-some, same_Some}
use Rattle.std.specs.List.{flat_map}
use Rattle.hall_world.specs.declared.world.SeatView.{SeatView}

-- another seat in the place of one: what it has is added, and what the one had goes
pub replaced_sum : {X : Type 0} (f : SeatView → List X) (w : X → ℕ) (seats : List SeatView) (i : ℕ)
    (seat other : SeatView) → slice_get seats i ≡ Some seat
    → sum_by w (flat_map f (slice_set seats i other)) + sum_by w (f seat)
    ≡ sum_by w (flat_map f seats) + sum_by w (f other)
replaced_sum f w [] i seat other at = absurd (none-some seat at)
replaced_sum f w (s ∷ seats) zero seat other at =
    let same = ap (λ (y : SeatView). sum_by w (f y)) (same_Some s seat at) in
    omega (arith, same, sum_by-append w (f s) (flat_map f seats), sum_by-append w (f other) (flat_map f seats))
replaced_sum f w (s ∷ seats) (suc i) seat other at =
    omega (
      arith,
      replaced_sum f w seats i seat other at,
      sum_by-append w (f s) (flat_map f seats),
      sum_by-append w (f s) (flat_map f (slice_set seats i other)),
    )

-- one seat more: what it has is added
pub pushed_sum : {X : Type 0} (f : SeatView → List X) (w : X → ℕ) (seats : List SeatView) (seat : SeatView)
    → sum_by w (flat_map f (seats ++ seat ∷ [])) ≡ sum_by w (flat_map f seats) + sum_by w (f seat)
pushed_sum f w [] seat = omega (arith, sum_by-append w (f seat) [])
pushed_sum f w (s ∷ seats) seat =
    omega (
      arith,
      pushed_sum f w seats seat,
      sum_by-append w (f s) (flat_map f seats),
      sum_by-append w (f s) (flat_map f (seats ++ seat ∷ [])),
    )
