-- A load pass, and how far it has come.
use Rattle.std.specs.Prelude.{◌≡◌, ℕ}
use Rattle.hall_history.specs.Passes.{state_after, state_at}
use Rattle.hall_history.specs.declared.asks.PassState.TheVariants.{Straight}
use Rattle.hall_history.specs.declared.seat.PassView.{PassView}
use Rattle.hall_trait.specs.declared.pass.LoadPass.{LoadPass}

-- the pass as its seat has it
abbrev pub pass_view : LoadPass → PassView
pass_view pass = record { id = pass.id; from = pass.from; to = pass.to; state = pass.state }

-- a pass over all of so many tracks, of which none is published
pub record IsFresh (pass : LoadPass) (tracks : ℕ) : Type 0 where
  pub from : pass.from ≡ 0
  pub to : pass.to ≡ tracks
  pub state : pass.state ≡ state_at 0 tracks

-- this track is the next to publish
abbrev pub IsNext : LoadPass → ℕ → Type 0
IsNext pass track = pass.state ≡ Straight track

-- the pass after its next track was published
abbrev pub advanced : LoadPass → LoadPass
advanced pass = record pass { state = state_after pass.state pass.to }
