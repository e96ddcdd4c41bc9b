-- How far a load pass has come.
use Rattle.std.specs.Prelude.{ℕ, ◌+◌, ◌-◌, ◌==◌, if◌then◌else◌}
use Rattle.hall_history.specs.declared.asks.PassState.{PassState}
use Rattle.hall_history.specs.declared.asks.PassState.TheVariants.{Straight, Whole, Broken}

-- a pass up to track `to` whose next track is this one; it is whole where there is none
abbrev pub state_at : ℕ → ℕ → PassState
state_at next to = if next == to then Whole else Straight next

-- how far a pass up to track `to` has come after its next track was published
abbrev pub state_after : PassState → ℕ → PassState
state_after (Straight track) to = state_at (track + 1) to
state_after Whole to = Whole
state_after Broken to = Broken

-- how many tracks a pass up to track `to` has left to publish
abbrev pub left_in : PassState → ℕ → ℕ
left_in (Straight next) to = to - next
left_in Whole to = 0
left_in Broken to = 0
