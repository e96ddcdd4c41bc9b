-- What a pin sees.
use Rattle.std.specs.Prelude.{ℕ}
use Rattle.hall_history.specs.declared.seat.PinView.{PinView}
use Rattle.hall_trait.specs.Reach.{FromPin, Reaching}
use Rattle.node_key.specs.Tree.{Tree}

-- the number is reached by the pin
abbrev pub Sees : Reaching → PinView → ℕ → Type 0
Sees reaches pin n = (t : Tree) × reaches (FromPin pin) n t
