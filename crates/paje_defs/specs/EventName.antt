-- The names of events, as they are written.
use Rattle.std.specs.Prelude.{ℕ, List, [], ◌∷◌, codes, Option}
use Rattle.std.specs.List.{find}
use Rattle.std.specs.Str.{bytes_eq}
use Rattle.paje_defs.specs.declared.event_name.EventName.{EventName}
use Rattle.paje_defs.specs.declared.event_name.EventName.TheVariants as events

-- the names of the Pajé format
abbrev pub event_text : EventName → List ℕ
event_text events.DefineContainerType = codes "PajeDefineContainerType"
event_text events.DefineStateType = codes "PajeDefineStateType"
event_text events.DefineEventType = codes "PajeDefineEventType"
event_text events.DefineVariableType = codes "PajeDefineVariableType"
event_text events.DefineLinkType = codes "PajeDefineLinkType"
event_text events.DefineEntityValue = codes "PajeDefineEntityValue"
event_text events.CreateContainer = codes "PajeCreateContainer"
event_text events.DestroyContainer = codes "PajeDestroyContainer"
event_text events.PushState = codes "PajePushState"
event_text events.SetState = codes "PajeSetState"
event_text events.PopState = codes "PajePopState"
event_text events.ResetState = codes "PajeResetState"
event_text events.StartLink = codes "PajeStartLink"
event_text events.EndLink = codes "PajeEndLink"
event_text events.NewEvent = codes "PajeNewEvent"
event_text events.SetVariable = codes "PajeSetVariable"
event_text events.AddVariable = codes "PajeAddVariable"
event_text events.SubVariable = codes "PajeSubVariable"

abbrev pub all_events : List EventName
all_events = events.DefineContainerType ∷ events.DefineStateType ∷ events.DefineEventType
    ∷ events.DefineVariableType ∷ events.DefineLinkType ∷ events.DefineEntityValue ∷ events.CreateContainer
    ∷ events.DestroyContainer ∷ events.PushState ∷ events.SetState ∷ events.PopState ∷ events.ResetState
    ∷ events.StartLink ∷ events.EndLink ∷ events.NewEvent ∷ events.SetVariable ∷ events.AddVariable
    ∷ events.SubVariable ∷ []

-- the event of a name
abbrev pub event_name_of : List ℕ → Option EventName
event_name_of text = find (λ e. bytes_eq (event_text e) text) all_events
