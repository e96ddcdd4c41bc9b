-- What an event line that isn't refused does.
use Rattle.std.specs.Prelude.{List, is_some, if◌then◌else◌}
use Rattle.std.specs.Option.{option_map_or}
use Rattle.paje_defs.specs.declared.event_name.EventName.{EventName}
use Rattle.paje_defs.specs.declared.event_name.EventName.TheVariants as events
use Rattle.paje_defs.specs.declared.role.Role.TheVariants as roles
use Rattle.paje_lines.specs.declared.effect.Effect.{Effect}
use Rattle.paje_lines.specs.declared.effect.Effect.TheVariants.{Declared, Entered, Left, Linked, Dropped}
use Rattle.paje_lines.specs.EventLine.{EventLine, text_of}
use Rattle.paje_lines.specs.Types.{kind_named}
use Rattle.paje_lines.specs.Containers.{container_named}
use Rattle.paje_lines.specs.States.{track_named, open_calls, open_in}

abbrev pub effect_of : EventName → List EventLine → EventLine → Effect
effect_of events.DefineContainerType before line = Declared
effect_of events.DefineStateType before line = Declared
effect_of events.DefineEventType before line = Declared
effect_of events.DefineVariableType before line = Declared
effect_of events.DefineLinkType before line = Declared
effect_of events.DefineEntityValue before line = if is_some (kind_named before (text_of line roles.Kind))
    then Declared else Dropped
effect_of events.CreateContainer before line = Declared
effect_of events.DestroyContainer before line = Left (option_map_or (open_in before)
    (container_named before (text_of line roles.Name)) 0)
effect_of events.PushState before line = Entered
effect_of events.SetState before line = Entered
effect_of events.PopState before line = Left 1
effect_of events.ResetState before line = Left (option_map_or (open_calls before) (track_named before line) 0)
effect_of events.StartLink before line = Linked
effect_of events.EndLink before line = Linked
effect_of events.NewEvent before line = Dropped
effect_of events.SetVariable before line = Dropped
effect_of events.AddVariable before line = Dropped
effect_of events.SubVariable before line = Dropped

-- what a line does, behind the lines before it
abbrev pub effect : List EventLine → EventLine → Effect
effect before line = effect_of line.event before line
