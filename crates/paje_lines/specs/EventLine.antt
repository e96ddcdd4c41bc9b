-- The event lines of a trace, and what each tells.
use Rattle.std.specs.Prelude.{ℕ, ◌≤◌, All, Bool, true, false, ◌||◌, List, [], Option, unwrap_or}
use Rattle.trace_base.specs.declared.limits.TheConstants.{MAX_TIME}
use Rattle.paje_defs.specs.declared.event_name.EventName.{EventName}
use Rattle.paje_defs.specs.declared.event_name.EventName.TheVariants as events
use Rattle.paje_defs.specs.declared.fields.Fields.{Fields}
use Rattle.paje_defs.specs.declared.role.Role.{Role}
use Rattle.paje_defs.specs.declared.role.Role.TheVariants as roles
use Rattle.paje_defs.specs.Texts.{text_by_role}

-- an event line: its number in the text, its event, its time in nanoseconds, the size of a message, and the
-- text of each role that its definition has
pub record EventLine : Type 0 where
  pub number : ℕ
  pub event : EventName
  pub time : ℕ
  pub size : ℕ
  pub text : Role → Option (List ℕ)

-- the line of these fields
abbrev pub line_of : ℕ → Fields → EventLine
line_of n fields = record {
  number = n;
  event = fields.kind;
  time = fields.time;
  size = fields.size;
  text = text_by_role fields.texts;
}

-- no time is past the greatest that a trace may have
abbrev pub AreInTime : List EventLine → Type 0
AreInTime lines = All (λ line. line.time ≤ MAX_TIME) lines

-- the text of a role that the event needs
abbrev pub text_of : EventLine → Role → List ℕ
text_of line role = unwrap_or (line.text role) []

-- the alias that the line gives: the name, where it tells none
abbrev pub alias_of : EventLine → List ℕ
alias_of line = unwrap_or (line.text roles.Alias) (text_of line roles.Name)

-- ---- what an event declares or does

abbrev pub is_state_type : EventName → Bool
is_state_type events.DefineStateType = true
is_state_type _ = false

-- a type of another sort than of links
abbrev pub is_plain_type : EventName → Bool
is_plain_type events.DefineContainerType = true
is_plain_type events.DefineStateType = true
is_plain_type events.DefineEventType = true
is_plain_type events.DefineVariableType = true
is_plain_type _ = false

abbrev pub is_link_type : EventName → Bool
is_link_type events.DefineLinkType = true
is_link_type _ = false

-- of a state
abbrev pub is_state_event : EventName → Bool
is_state_event events.PushState = true
is_state_event events.SetState = true
is_state_event events.PopState = true
is_state_event events.ResetState = true
is_state_event _ = false

-- it enters a call, behind those that are open
abbrev pub pushes : EventName → Bool
pushes events.PushState = true
pushes _ = false

-- it leaves the innermost call
abbrev pub pops : EventName → Bool
pops events.PopState = true
pops _ = false

-- it leaves all calls, and enters one
abbrev pub sets : EventName → Bool
sets events.SetState = true
sets _ = false

-- it leaves all calls
abbrev pub clears : EventName → Bool
clears events.SetState = true
clears events.ResetState = true
clears _ = false

-- it enters a call
abbrev pub enters : EventName → Bool
enters event = pushes event || sets event

-- the role of the container of a link's end
abbrev pub end_role : EventName → Role
end_role events.StartLink = roles.From
end_role _ = roles.To

abbrev pub starts_link : EventName → Bool
starts_link events.StartLink = true
starts_link _ = false

abbrev pub is_link_event : EventName → Bool
is_link_event events.StartLink = true
is_link_event events.EndLink = true
is_link_event _ = false

abbrev pub defines_value : EventName → Bool
defines_value events.DefineEntityValue = true
defines_value _ = false

abbrev pub creates : EventName → Bool
creates events.CreateContainer = true
creates _ = false

abbrev pub destroys : EventName → Bool
destroys events.DestroyContainer = true
destroys _ = false

-- it is dropped
abbrev pub is_dropped : EventName → Bool
is_dropped events.NewEvent = true
is_dropped events.SetVariable = true
is_dropped events.AddVariable = true
is_dropped events.SubVariable = true
is_dropped _ = false
