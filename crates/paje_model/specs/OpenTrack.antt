-- What a state event does to its track.
use Rattle.std.specs.Prelude.{ℕ, ◌+◌, ◌-◌, [], ◌∷◌, ◌++◌, replicate}
use Rattle.trace_base.specs.declared.stream.Event.TheVariants.{Enter, Leave}
use Rattle.paje_defs.specs.declared.event_name.EventName.{EventName}
use Rattle.paje_defs.specs.declared.event_name.EventName.TheVariants as events
use Rattle.paje_lines.specs.declared.effect.Effect.{Effect}
use Rattle.paje_lines.specs.declared.effect.Effect.TheVariants.{Dropped, Entered, Left}
use Rattle.paje_model.specs.declared.open_track.OpenTrack.{OpenTrack}

-- a call of this function is entered
abbrev pub with_call : ℕ → ℕ → OpenTrack → OpenTrack
with_call function time t = record {
  events = t.events ++ Enter function time ∷ [];
  open_calls = t.open_calls + 1;
  last = time;
}

-- so many of the last calls are left
abbrev pub without_calls : ℕ → ℕ → OpenTrack → OpenTrack
without_calls calls time t = record {
  events = t.events ++ replicate calls (Leave time);
  open_calls = t.open_calls - calls;
  last = time;
}

-- behind a state event, which may enter this function
abbrev pub behind_event : EventName → ℕ → ℕ → OpenTrack → OpenTrack
behind_event events.PushState function time t = with_call function time t
behind_event events.SetState function time t = with_call function time (without_calls t.open_calls time t)
behind_event events.PopState function time t = without_calls 1 time t
behind_event events.ResetState function time t = without_calls t.open_calls time t
behind_event _ function time t = t

-- what a state event does there
abbrev pub effect_on : EventName → OpenTrack → Effect
effect_on events.PushState t = Entered
effect_on events.SetState t = Entered
effect_on events.PopState t = Left 1
effect_on events.ResetState t = Left t.open_calls
effect_on _ t = Dropped
