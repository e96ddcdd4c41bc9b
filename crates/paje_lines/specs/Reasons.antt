-- Why an event line is refused by the lines before it.
use Rattle.std.specs.Prelude.{ℕ, Bool, not, ◌&&◌, ◌==◌, nat_lt, nat_le, List, [], ◌∷◌, length, filter, find}
use Rattle.std.specs.Prelude.{filter_map, false}
use Rattle.std.specs.Prelude.{Option, Some, None, is_some, is_none, if◌then◌else◌}
use Rattle.std.specs.List.{list_any}
use Rattle.std.specs.Option.{option_map, option_and_then, option_map_or}
use Rattle.std.specs.Str.{bytes_eq}
use Rattle.trace_base.specs.declared.limits.TheConstants.{MAX_TYPES, MAX_VALUES, MAX_CONTAINERS, MAX_TRACKS}
use Rattle.trace_base.specs.declared.limits.TheConstants.{MAX_STATE_EVENTS, MAX_FUNCTIONS, MAX_LINK_EVENTS}
use Rattle.trace_base.specs.declared.limits.TheConstants.{MAX_OPEN_CALLS}
use Rattle.trace_base.specs.declared.names.Track.{Track}
use Rattle.paje_defs.specs.declared.event_name.EventName.{EventName}
use Rattle.paje_defs.specs.declared.event_name.EventName.TheVariants as events
use Rattle.paje_defs.specs.declared.role.Role.{Role}
use Rattle.paje_defs.specs.declared.role.Role.TheVariants as roles
use Rattle.paje_lines.specs.declared.type_sort.TypeSort.{TypeSort}
use Rattle.paje_lines.specs.declared.what.What.{What}
use Rattle.paje_lines.specs.declared.what.What.TheVariants as what
use Rattle.paje_lines.specs.declared.model_fault.ModelFault.{ModelFault}
use Rattle.paje_lines.specs.declared.model_fault.ModelFault.TheVariants.{UnknownEntity, WrongKind}
use Rattle.paje_lines.specs.declared.model_fault.ModelFault.TheVariants.{DoubleAlias}
use Rattle.paje_lines.specs.declared.model_fault.ModelFault.TheVariants.{AfterDestroy, TimeBack, EmptyPop}
use Rattle.paje_lines.specs.declared.model_fault.ModelFault.TheVariants.{Deep}
use Rattle.paje_lines.specs.declared.model_fault.ModelFault.TheVariants.{TooMany}
use Rattle.paje_defs.specs.Refusals.{Placed, first_of, placed, refusal, when}
use Rattle.paje_lines.specs.EventLine.{EventLine, text_of, alias_of, pushes, pops}
use Rattle.paje_lines.specs.EventLine.{is_link_event, end_role}
use Rattle.paje_lines.specs.Found.{Entity, has_alias, rooted}
use Rattle.paje_lines.specs.Types.{type_at, type_named, type_entities, is_container_type, state_number}
use Rattle.paje_lines.specs.Types.{kind_named, link_number}
use Rattle.paje_lines.specs.Containers.{container_named, container_entities, containers_in, destruction}
use Rattle.paje_lines.specs.Values.{values_in, values_of}
use Rattle.paje_lines.specs.States.{track_named, is_same, tracks_in, states_in, last_time, latest, open_calls}
use Rattle.paje_lines.specs.States.{functions_entered, entered_text}

-- ---- limits

-- there are as many as may be
abbrev pub limit_of : What → ℕ
limit_of what.Types = MAX_TYPES
limit_of what.Values = MAX_VALUES
limit_of what.Containers = MAX_CONTAINERS
limit_of what.StateEvents = MAX_STATE_EVENTS
limit_of what.Tracks = MAX_TRACKS
limit_of what.Functions = MAX_FUNCTIONS
limit_of what.LinkEvents = MAX_LINK_EVENTS

abbrev pub full : What → ℕ → Option ModelFault
full what count = when (nat_le (limit_of what) count) (TooMany what)

-- ---- what the texts of a line find

-- a type of this sort
abbrev pub sort_reason : (TypeSort → Bool) → Role → Option TypeSort → Option ModelFault
sort_reason wanted role None = Some (UnknownEntity role)
sort_reason wanted role (Some sort) = when (not (wanted sort)) (WrongKind role)

abbrev pub type_reason : (TypeSort → Bool) → List EventLine → EventLine → Role → Option ModelFault
type_reason wanted before line role = sort_reason wanted role
    (option_map (λ t. t.sort) (type_named before (text_of line role)))

abbrev pub container_reason : List EventLine → EventLine → Role → Option ModelFault
container_reason before line role = when (is_none (container_named before (text_of line role)))
    (UnknownEntity role)

-- the line of the entity that has the alias
abbrev pub alias_reason : List Entity → List ℕ → Option ModelFault
alias_reason entities alias = option_map (λ e. DoubleAlias e.line) (find (has_alias alias) entities)

-- ---- declarations

-- One more may be declared: the alias is new, and there are fewer than may be.
abbrev pub new_reason : What → List Entity → List ℕ → ℕ → Option ModelFault
new_reason what entities alias count = first_of (alias_reason entities alias ∷ full what count ∷ [])

-- how many types were declared, the root type not among them
abbrev pub declared_types : List EventLine → ℕ
declared_types before = length (filter_map type_at (placed before))

abbrev pub new_type_reason : List EventLine → EventLine → Option ModelFault
new_type_reason before line = new_reason what.Types (type_entities before) (rooted (alias_of line))
    (declared_types before)

abbrev pub define_reason : List EventLine → EventLine → Option ModelFault
define_reason before line = first_of (
    type_reason is_container_type before line roles.Kind
    ∷ new_type_reason before line ∷ [])

abbrev pub define_link_reason : List EventLine → EventLine → Option ModelFault
define_link_reason before line = first_of (
    type_reason is_container_type before line roles.Kind
    ∷ type_reason is_container_type before line roles.FromKind
    ∷ type_reason is_container_type before line roles.ToKind
    ∷ new_type_reason before line ∷ [])

abbrev pub new_value_reason : List EventLine → EventLine → ℕ → Option ModelFault
new_value_reason before line kind = new_reason what.Values (values_of before kind) (alias_of line)
    (length (values_in before))

-- A value of another type than a state type is dropped.
abbrev pub value_reason : List EventLine → EventLine → Option ModelFault
value_reason before line = first_of (
    type_reason (λ sort. not (is_container_type sort)) before line roles.Kind
    ∷ option_and_then (new_value_reason before line) (kind_named before (text_of line roles.Kind)) ∷ [])

-- ---- containers

abbrev pub create_reason : List EventLine → EventLine → Option ModelFault
create_reason before line = first_of (
    type_reason is_container_type before line roles.Kind
    ∷ container_reason before line roles.Holder
    ∷ new_reason what.Containers (container_entities before) (rooted (alias_of line))
    (length (containers_in before)) ∷ [])

-- the line that destroyed it
abbrev pub destroyed_reason : Option EventLine → Option ModelFault
destroyed_reason line = option_map (λ line. AfterDestroy line.number) line

-- the time is below the one before
abbrev pub back_reason : ℕ → ℕ → Option ModelFault
back_reason time before = when (nat_lt time before) (TimeBack before)

-- container 0 is the root
abbrev pub destruction_reason : List EventLine → EventLine → ℕ → Option ModelFault
destruction_reason before line container = first_of (
    when (container == 0) (WrongKind roles.Name)
    ∷ destroyed_reason (destruction before container)
    ∷ back_reason line.time (latest before container) ∷ [])

abbrev pub destroy_reason : List EventLine → EventLine → Option ModelFault
destroy_reason before line = first_of (
    container_reason before line roles.Name
    ∷ option_and_then (destruction_reason before line) (container_named before (text_of line roles.Name)) ∷
    [])

-- ---- state events

-- what a state event meets on its track
pub record Met : Type 0 where
  -- the line that destroyed the container
  pub destruction : Option EventLine
  pub last_time : ℕ
  pub open_calls : ℕ
  pub states : ℕ
  pub tracks : ℕ
  pub is_new_track : Bool
  pub functions : ℕ
  pub is_new_function : Bool

-- whether the line enters a function that none before it does
abbrev pub is_new_function : List EventLine → EventLine → Bool
is_new_function before line = option_map_or (λ text. not (list_any (bytes_eq text) (functions_entered
    before)))
    (entered_text (record { before = before; line = line })) false

abbrev pub met : List EventLine → EventLine → Track → Met
met before line track = record {
  destruction = destruction before track.container;
  last_time = last_time before track;
  open_calls = open_calls before track;
  states = states_in before;
  tracks = length (tracks_in before);
  is_new_track = not (list_any (is_same track) (tracks_in before));
  functions = length (functions_entered before);
  is_new_function = is_new_function before line;
}

abbrev pub met_reason : EventLine → Met → Option ModelFault
met_reason line m = first_of (
    destroyed_reason m.destruction
    ∷ back_reason line.time m.last_time
    ∷ when (pops line.event && (m.open_calls == 0)) EmptyPop
    ∷ when (pushes line.event && nat_le MAX_OPEN_CALLS m.open_calls) Deep
    ∷ full what.StateEvents m.states
    ∷ (if m.is_new_track then full what.Tracks m.tracks else None)
    ∷ (if m.is_new_function then full what.Functions m.functions else None) ∷ [])

abbrev pub state_reason : List EventLine → EventLine → Option ModelFault
state_reason before line = first_of (
    type_reason (λ sort. is_some (state_number sort)) before line roles.Kind
    ∷ container_reason before line roles.Holder
    ∷ option_and_then (λ track. met_reason line (met before line track)) (track_named before line) ∷ [])

-- ---- link events

abbrev pub links_in : List EventLine → ℕ
links_in lines = length (filter (λ line. is_link_event line.event) lines)

-- behind this many
abbrev pub link_reason : ℕ → List EventLine → EventLine → Option ModelFault
link_reason count before line = first_of (
    type_reason (λ sort. is_some (link_number sort)) before line roles.Kind
    ∷ container_reason before line (end_role line.event)
    ∷ full what.LinkEvents count ∷ [])

-- ---- each line

abbrev pub reason_of : EventName → List EventLine → EventLine → Option ModelFault
reason_of events.DefineContainerType before line = define_reason before line
reason_of events.DefineStateType before line = define_reason before line
reason_of events.DefineEventType before line = define_reason before line
reason_of events.DefineVariableType before line = define_reason before line
reason_of events.DefineLinkType before line = define_link_reason before line
reason_of events.DefineEntityValue before line = value_reason before line
reason_of events.CreateContainer before line = create_reason before line
reason_of events.DestroyContainer before line = destroy_reason before line
reason_of events.PushState before line = state_reason before line
reason_of events.SetState before line = state_reason before line
reason_of events.PopState before line = state_reason before line
reason_of events.ResetState before line = state_reason before line
reason_of events.StartLink before line = link_reason (links_in before) before line
reason_of events.EndLink before line = link_reason (links_in before) before line
reason_of events.NewEvent before line = None
reason_of events.SetVariable before line = None
reason_of events.AddVariable before line = None
reason_of events.SubVariable before line = None

-- why a line is refused, by the lines before it
abbrev pub event_reason : List EventLine → EventLine → Option ModelFault
event_reason before line = reason_of line.event before line

abbrev pub event_reason_at : Placed EventLine → Option ModelFault
event_reason_at p = event_reason p.before p.line

-- why the first refused line is refused
abbrev pub event_refusal : List EventLine → Option ModelFault
event_refusal lines = refusal event_reason_at lines
