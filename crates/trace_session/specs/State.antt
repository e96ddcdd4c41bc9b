-- What a session works on. Each part is an object that another crate describes.
use Rattle.std.specs.Prelude.{ℕ, List, Option}
use Rattle.hall_trait.specs.View.{HallView}

-- What a session works on: the hall that requests are served from, as it tells it to the session's seat, the
-- bytes that are left to read, and those that the sink holds, where the objects tell them.
pub record SessionState : Type 0 where
  pub hall : HallView
  pub left : Option (List ℕ)
  pub held : Option (List ℕ)
