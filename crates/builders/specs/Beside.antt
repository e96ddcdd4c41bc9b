-- What stays reached while a builder exchanges some of the stakes.
use Rattle.std.specs.Prelude.{ℕ, ◌<◌, Contains, List}
use Rattle.node_key.specs.Stakes.{times}
use Rattle.node_key.specs.Tree.{Tree}
use Rattle.node_key.specs.declared.stake.Stake.{Stake}
use Rattle.hall_history.specs.Seat.{Seat}
use Rattle.hall_trait.specs.Reach.{FromPin, FromStake, Reaching, Source}

-- the seat has this stake beside those that are taken, or it has this pin
abbrev pub HasBeside : Seat → List Stake → Source → Type 0
HasBeside seat taken (FromStake x) = times x taken < times x seat.stakes
HasBeside seat taken (FromPin p) = Contains seat.pins p

-- What was reached by another stake than those that are taken, or by a pin, is reached by it still, with the
-- same tree.
abbrev pub KeepsOthers : Seat → List Stake → Reaching → Reaching → Type 0
KeepsOthers seat taken was now = (by_what : Source) (n : ℕ) (t : Tree) → HasBeside seat taken by_what
    → was by_what n t → now by_what n t
