-- What a seat reaches, and for how long.
use Rattle.std.specs.Prelude.{ℕ, Contains}
use Rattle.hall_history.specs.Seat.{Seat}
use Rattle.hall_history.specs.declared.seat.PinView.{PinView}
use Rattle.node_key.specs.Tree.{Tree}
use Rattle.node_key.specs.declared.stake.Stake.{Stake}

-- What a seat reaches a number by: a stake, or a pin, which told the roots of published tracks. What is read
-- of a number is reached by the same.
pub data Source : Type 0 where
  FromStake : (stake : Stake) → Source
  FromPin : (pin : PinView) → Source

-- the seat has this stake, or this pin
abbrev pub HasSource : Seat → Source → Type 0
HasSource seat (FromStake x) = Contains seat.stakes x
HasSource seat (FromPin p) = Contains seat.pins p

-- by which source which number is reached, which leads to which tree
abbrev pub Reaching : Type 1
Reaching = Source → ℕ → Tree → Type 0

-- What was reached by a stake or a pin that the seat has is reached by it still, with the same tree.
abbrev pub KeepsReach : Seat → Reaching → Reaching → Type 0
KeepsReach seat was now =
    (by_what : Source) (n : ℕ) (t : Tree) → HasSource seat by_what → was by_what n t → now by_what n t
