-- What is read of the track that a state event names.
use Rattle.std.specs.Prelude.{◌≡◌}
use Rattle.std.specs.Option.{option_map}
use Rattle.paje_lines.specs.Reasons.{Met}
use Rattle.paje_model.specs.declared.state_met.StateMet.{StateMet}

-- it is what the event meets there
pub record Reads (read : StateMet) (m : Met) : Type 0 where
  pub destroyed : read.destroyed ≡ option_map (λ line. line.number) m.destruction
  pub last_time : read.last_time ≡ m.last_time
  pub open_calls : read.open_calls ≡ m.open_calls
  pub states : read.states ≡ m.states
  pub tracks : read.tracks ≡ m.tracks
  pub is_new_track : read.is_new_track ≡ m.is_new_track
  pub functions : read.functions ≡ m.functions
  pub is_new_function : read.is_new_function ≡ m.is_new_function
