-- The stakes of all seats as a bag, where one seat or another has others.
use Rattle.std.proofs.Common.{◌≡◌, ℕ, zero, suc, List, [], ◌∷◌, ◌++◌, Some, slice_get, slice_set}
use Rattle.std.proofs.Common.{ap, arith}
use Rattle.std.proofs.lemmas.Option.{none-some, same_Some}
use Rattle.node_key.specs.Stakes.{Exchanges, times}
use Rattle.node_key.specs.declared.stake.Stake.{Stake}
use Rattle.node_key.proofs.StakeLaws.{times-append}
use Rattle.hall_world.specs.World.{all_stakes}
use Rattle.hall_world.specs.declared.world.SeatView.{SeatView}

-- an exchange leaves other stakes as they are
pub exchanges-among : (old new taken given others : List Stake) → Exchanges old new taken given
    → Exchanges (old ++ others) (new ++ others) taken given
exchanges-among old new taken given others swap x =
    omega (arith, swap x, times-append x old others, times-append x new others)

-- another seat in the place of one: its stakes are exchanged
pub exchanges-set : (seats : List SeatView) (i : ℕ) (seat other : SeatView) → slice_get seats i ≡ Some seat
    → Exchanges (all_stakes seats) (all_stakes (slice_set seats i other)) seat.stakes other.stakes
exchanges-set [] i seat other at x = absurd (none-some seat at)
exchanges-set (s ∷ seats) zero seat other at x =
    let same = ap (λ (y : SeatView). times x y.stakes) (same_Some s seat at) in
    omega (
      arith,
      same,
      times-append x s.stakes (all_stakes seats),
      times-append x other.stakes (all_stakes seats),
    )
exchanges-set (s ∷ seats) (suc i) seat other at x =
    omega (
      arith,
      exchanges-set seats i seat other at x,
      times-append x s.stakes (all_stakes seats),
      times-append x s.stakes (all_stakes (slice_set seats i other)),
    )

-- one seat more: its stakes are given
pub exchanges-push : (seats : List SeatView) (seat : SeatView)
    → Exchanges (all_stakes seats) (all_stakes (seats ++ seat ∷ [])) [] seat.stakes
exchanges-push [] seat x = omega (arith, times-append x seat.stakes [])
exchanges-push (s ∷ seats) seat x =
    omega (
      arith,
      exchanges-push seats seat x,
      times-append x s.stakes (all_stakes seats),
      times-append x s.stakes (all_stakes (seats ++ seat ∷ [])),
    )

-- the stakes of all other seats
pub of_others : List SeatView → ℕ → SeatView → List Stake
of_others seats i seat = all_stakes (slice_set seats i (record seat { stakes = [] }))

-- the stakes of all seats are those of one and those of all others
pub exchanges-apart : (seats : List SeatView) (i : ℕ) (seat : SeatView) → slice_get seats i ≡ Some seat
    → Exchanges (all_stakes seats) (seat.stakes ++ of_others seats i seat) [] []
unfolding of_others
exchanges-apart seats i seat at x =
    omega (
      arith,
      exchanges-set seats i seat (record seat { stakes = [] }) at x,
      times-append x seat.stakes (of_others seats i seat),
    )

-- and so they are where the one has other stakes
pub exchanges-together : (seats : List SeatView) (i : ℕ) (seat : SeatView) (mine : List Stake)
    → slice_get seats i ≡ Some seat
    → Exchanges (mine ++ of_others seats i seat)
    (all_stakes (slice_set seats i (record seat { stakes = mine }))) [] []
unfolding of_others
exchanges-together seats i seat mine at x =
    omega (
      arith,
      exchanges-set seats i seat (record seat { stakes = [] }) at x,
      exchanges-set seats i seat (record seat { stakes = mine }) at x,
      times-append x mine (of_others seats i seat),
    )
