-- How a node lies beside the half-open interval [a, b).
use Rattle.std.specs.Prelude.{ℕ, ◌<◌, ◌≤◌, ◌⊎◌, IsTrue}
use Rattle.profile_walk.specs.Crossing.{is_across}
use Rattle.profile_walk.specs.declared.lies.Lies.{Lies}
use Rattle.profile_walk.specs.declared.lies.Lies.TheVariants.{Inside, Outside, Across}

-- this is how a node lies that begins at `start` and ends at `end`
abbrev pub LiesAs : Lies → (start end a b : ℕ) → Type 0
LiesAs Inside start end a b = (a ≤ start) × (end < b)
LiesAs Outside start end a b = (end < a) ⊎ (b ≤ start)
LiesAs Across start end a b = IsTrue (is_across a b start end)
