-- Event lines of small traces, for the examples. Times are nanoseconds.
use Rattle.std.specs.Prelude.{ℕ, ◌+◌, List, [], ◌∷◌, ◌++◌, Option, Some, None, map, codes, option_map, true}
use Rattle.paje_defs.specs.declared.event_name.EventName.{EventName}
use Rattle.paje_defs.specs.declared.event_name.EventName.TheVariants as events
use Rattle.paje_defs.specs.declared.role.Role.{Role}
use Rattle.paje_defs.specs.declared.role.Role.TheVariants as roles
use Rattle.paje_lines.specs.declared.effect.Effect.{Effect}
use Rattle.paje_lines.specs.declared.model_fault.ModelFault.{ModelFault}
use Rattle.paje_lines.specs.EventLine.{EventLine}
use Rattle.paje_defs.specs.Refusals.{first_refused, placed}
use Rattle.paje_lines.specs.Effects.{effect}
use Rattle.paje_lines.specs.Reasons.{event_reason, event_reason_at, Met}

-- ---- lines of each kind, by their numbers

abbrev pub Unnumbered : Type 0
Unnumbered = ℕ → EventLine

abbrev pub line_with : EventName → ℕ → (Role → Option (List ℕ)) → Unnumbered
line_with event time text number = record {
  number = number;
  event = event;
  time = time;
  size = 0;
  text = text;
}

abbrev pub declared_texts : Option (List ℕ) → List ℕ → List ℕ → Role → Option (List ℕ)
declared_texts alias kind name roles.Alias = alias
declared_texts alias kind name roles.Kind = Some kind
declared_texts alias kind name roles.Name = Some name
declared_texts alias kind name _ = None

-- a type or a value, by its alias, its type and its name
abbrev pub declares : EventName → Option (List ℕ) → List ℕ → List ℕ → Unnumbered
declares event alias kind name = line_with event 0 (declared_texts alias kind name)

abbrev pub link_type_texts : List ℕ → List ℕ → List ℕ → List ℕ → List ℕ → Role → Option (List ℕ)
link_type_texts alias kind from to name roles.Alias = Some alias
link_type_texts alias kind from to name roles.Kind = Some kind
link_type_texts alias kind from to name roles.FromKind = Some from
link_type_texts alias kind from to name roles.ToKind = Some to
link_type_texts alias kind from to name roles.Name = Some name
link_type_texts alias kind from to name _ = None

abbrev pub declares_link : List ℕ → List ℕ → List ℕ → List ℕ → List ℕ → Unnumbered
declares_link alias kind from to name = line_with events.DefineLinkType 0
    (link_type_texts alias kind from to name)

abbrev pub container_texts : Option (List ℕ) → List ℕ → List ℕ → List ℕ → Role → Option (List ℕ)
container_texts alias kind holder name roles.Alias = alias
container_texts alias kind holder name roles.Kind = Some kind
container_texts alias kind holder name roles.Holder = Some holder
container_texts alias kind holder name roles.Name = Some name
container_texts alias kind holder name _ = None

-- a container, by its time, its alias, its type, its holder and its name
abbrev pub creates_at : ℕ → Option (List ℕ) → List ℕ → List ℕ → List ℕ → Unnumbered
creates_at time alias kind holder name = line_with events.CreateContainer time
    (container_texts alias kind holder name)

abbrev pub name_texts : List ℕ → Role → Option (List ℕ)
name_texts name roles.Name = Some name
name_texts name _ = None

abbrev pub destroys_at : ℕ → List ℕ → Unnumbered
destroys_at time name = line_with events.DestroyContainer time (name_texts name)

abbrev pub state_texts : List ℕ → List ℕ → List ℕ → Role → Option (List ℕ)
state_texts kind holder value roles.Kind = Some kind
state_texts kind holder value roles.Holder = Some holder
state_texts kind holder value roles.Value = Some value
state_texts kind holder value _ = None

-- it enters the value
abbrev pub entering_at : EventName → ℕ → List ℕ → List ℕ → List ℕ → Unnumbered
entering_at event time kind holder value = line_with event time (state_texts kind holder value)

abbrev pub leave_texts : List ℕ → List ℕ → Role → Option (List ℕ)
leave_texts kind holder roles.Kind = Some kind
leave_texts kind holder roles.Holder = Some holder
leave_texts kind holder _ = None

abbrev pub leaves_at : EventName → ℕ → List ℕ → List ℕ → Unnumbered
leaves_at event time kind holder = line_with event time (leave_texts kind holder)

abbrev pub link_texts : List ℕ → List ℕ → List ℕ → Role → Option (List ℕ)
link_texts kind container key roles.Kind = Some kind
link_texts kind container key roles.From = Some container
link_texts kind container key roles.To = Some container
link_texts kind container key roles.Key = Some key
link_texts kind container key _ = None

abbrev pub sends_at : ℕ → List ℕ → List ℕ → List ℕ → ℕ → Unnumbered
sends_at time kind container key size number = record {
  number = number;
  event = events.StartLink;
  time = time;
  size = size;
  text = link_texts kind container key;
}

abbrev pub receives_at : ℕ → List ℕ → List ℕ → List ℕ → Unnumbered
receives_at time kind container key = line_with events.EndLink time (link_texts kind container key)

abbrev pub happens_at : ℕ → Unnumbered
happens_at time = line_with events.NewEvent time (λ role. None)

-- ---- whole traces

-- lines numbered from a number on
abbrev pub from : ℕ → List Unnumbered → List EventLine
from n [] = []
from n (line ∷ lines) = line n ∷ from (n + 1) lines

-- what each line does
abbrev pub effects : List EventLine → List Effect
effects lines = map (λ p. effect p.before p.line) (placed lines)

-- why each line is refused
abbrev pub reasons : List EventLine → List (Option ModelFault)
reasons lines = map event_reason_at (placed lines)

-- the number of the first refused line
abbrev pub refused_number : List EventLine → Option ℕ
refused_number lines = option_map (λ p. p.line.number) (first_refused event_reason_at lines)

-- a type of containers and one of states
abbrev pub process_and_state : List Unnumbered
process_and_state = declares events.DefineContainerType (Some (codes "P")) (codes "0") (codes "Process")
    ∷ declares events.DefineStateType (Some (codes "S")) (codes "P") (codes "State") ∷ []

abbrev pub rank_0 : Unnumbered
rank_0 = creates_at 0 (Some (codes "p0")) (codes "P") (codes "0") (codes "rank 0")

abbrev pub push_at : ℕ → List ℕ → Unnumbered
push_at time value = entering_at events.PushState time (codes "S") (codes "p0") value

abbrev pub set_at : ℕ → List ℕ → Unnumbered
set_at time value = entering_at events.SetState time (codes "S") (codes "p0") value

abbrev pub pop_at : ℕ → Unnumbered
pop_at time = leaves_at events.PopState time (codes "S") (codes "p0")

abbrev pub reset_at : ℕ → Unnumbered
reset_at time = leaves_at events.ResetState time (codes "S") (codes "p0")

-- main calls f twice; the lines of the definitions come before
abbrev pub two_calls_lines : List EventLine
two_calls_lines = from 34 (process_and_state ++ rank_0
    ∷ push_at 0 (codes "main") ∷ push_at 100000000 (codes "f") ∷ pop_at 200000000
    ∷ push_at 300000000 (codes "f") ∷ pop_at 400000000 ∷ pop_at 500000000
    ∷ destroys_at 500000000 (codes "p0") ∷ [])

-- a call that no line leaves, a container without a track, and one created behind them
abbrev pub open_call_lines : List EventLine
open_call_lines = from 34 (process_and_state
    ++ creates_at 0 (Some (codes "p0")) (codes "P") (codes "0") (codes "a")
    ∷ creates_at 0 (Some (codes "p1")) (codes "P") (codes "0") (codes "b")
    ∷ push_at 0 (codes "main")
    ∷ creates_at 2000000000 (Some (codes "p2")) (codes "P") (codes "0") (codes "c") ∷ [])

-- a call is left where none is open
abbrev pub empty_pop_lines : List EventLine
empty_pop_lines = from 34 (process_and_state ++ rank_0 ∷ pop_at 0 ∷ [])

-- a call of a function whose name has a blank
abbrev pub blank_name_lines : List EventLine
blank_name_lines = from 34 (process_and_state ++ rank_0 ∷ push_at 0 (codes "my func") ∷ [])

-- and a second container of one alias
abbrev pub double_alias_lines : List EventLine
double_alias_lines = blank_name_lines
    ++ creates_at 0 (Some (codes "p0")) (codes "P") (codes "0") (codes "x") 38 ∷ []

-- two messages of one sender, the second without an end, and one that has its end before its start
abbrev pub message_lines : List EventLine
message_lines = from 58 (declares events.DefineContainerType (Some (codes "P")) (codes "0") (codes "Process")
    ∷ declares_link (codes "K") (codes "P") (codes "P") (codes "P") (codes "Msg")
    ∷ creates_at 0 (Some (codes "p0")) (codes "P") (codes "0") (codes "a")
    ∷ creates_at 0 (Some (codes "p1")) (codes "P") (codes "0") (codes "b")
    ∷ sends_at 1000000000 (codes "K") (codes "p0") (codes "k1") 100
    ∷ sends_at 2000000000 (codes "K") (codes "p0") (codes "k1") 50
    ∷ receives_at 1500000000 (codes "K") (codes "p1") (codes "k1")
    ∷ sends_at 3000000000 (codes "K") (codes "p1") (codes "k2") 7
    ∷ receives_at 2500000000 (codes "K") (codes "p0") (codes "k2") ∷ [])

-- ---- what is found

abbrev pub state_type : Option (List ℕ) → List ℕ → Unnumbered
state_type alias name = declares events.DefineStateType alias (codes "P") name

abbrev pub value_of : List ℕ → Option (List ℕ) → List ℕ → Unnumbered
value_of kind alias name = declares events.DefineEntityValue alias kind name

abbrev pub process_type : Unnumbered
process_type = declares events.DefineContainerType (Some (codes "P")) (codes "0") (codes "Process")

-- two state types of one name
abbrev pub twin_types : List EventLine
twin_types = from 1 (process_type ∷ state_type (Some (codes "S1")) (codes "State")
    ∷ state_type (Some (codes "S2")) (codes "State") ∷ [])

-- and a third whose alias is that name
abbrev pub twin_and_alias : List EventLine
twin_and_alias = twin_types ++ state_type (Some (codes "State")) (codes "Other") 4 ∷ []

-- two containers of one name, and a third whose alias is that name
abbrev pub twin_containers : List EventLine
twin_containers = from 1 (process_type ∷ rank_0
    ∷ creates_at 0 (Some (codes "p1")) (codes "P") (codes "0") (codes "rank 0") ∷ [])

abbrev pub twins_and_alias : List EventLine
twins_and_alias = twin_containers
    ++ creates_at 0 (Some (codes "rank 0")) (codes "P") (codes "0") (codes "x") 4 ∷ []

-- a text that is the alias of a value in two state types, a value without an alias, and two values of one
-- name
abbrev pub valued : List EventLine
valued = from 1 (process_type ∷ state_type (Some (codes "S1")) (codes "State")
    ∷ state_type (Some (codes "S2")) (codes "Phase")
    ∷ value_of (codes "S1") (Some (codes "v")) (codes "one") ∷ value_of (codes "S2") (Some (codes "v"))
    (codes "two")
    ∷ value_of (codes "Phase") None (codes "three") ∷ value_of (codes "S1") (Some (codes "w")) (codes "one")
    ∷ value_of (codes "S1") (Some (codes "one")) (codes "four") ∷ [])

-- a value of a type of events, and one of a type that isn't declared until later
abbrev pub event_values : List EventLine
event_values = from 1 (process_type ∷ declares events.DefineEventType (Some (codes "V")) (codes "P")
    (codes "Point") ∷ value_of (codes "V") (Some (codes "v")) (codes "one")
    ∷ value_of (codes "V") (Some (codes "v")) (codes "one") ∷ [])

-- a value is declared by an alias, and entered by that alias, by its name, and by another text
abbrev pub entered_values : List EventLine
entered_values = from 1 (process_and_state ++ rank_0 ∷ push_at 1 (codes "v")
    ∷ value_of (codes "S") (Some (codes "v")) (codes "one") ∷ push_at 2 (codes "v") ∷ push_at 3 (codes "one")
    ∷ push_at 4 (codes "two") ∷ push_at 5 (codes "v") ∷ [])

-- ---- one line behind others

-- a type of each sort, and three containers: the first has two tracks, and the third is destroyed
abbrev pub stage : List EventLine
stage = from 1 (process_and_state
    ++ declares events.DefineEventType (Some (codes "V")) (codes "P") (codes "Point")
    ∷ declares_link (codes "K") (codes "P") (codes "P") (codes "P") (codes "Msg")
    ∷ state_type (Some (codes "S2")) (codes "Phase")
    ∷ creates_at 5 (Some (codes "p0")) (codes "P") (codes "0") (codes "rank 0")
    ∷ creates_at 5 (Some (codes "p1")) (codes "P") (codes "0") (codes "rank 1")
    ∷ creates_at 5 (Some (codes "p2")) (codes "P") (codes "p0") (codes "rank 2")
    ∷ push_at 10 (codes "main")
    ∷ entering_at events.SetState 30 (codes "S2") (codes "p0") (codes "begin")
    ∷ value_of (codes "S") (Some (codes "v")) (codes "one")
    ∷ destroys_at 20 (codes "p2") ∷ [])

-- why these lines are refused behind that
abbrev pub refused_next : List Unnumbered → List (Option ModelFault)
refused_next lines = map (λ line. event_reason stage (line 13)) lines

-- ---- stacks

-- calls are left by each kind of line; two are open at the end, which comes with a dropped line
abbrev pub stack_lines : List EventLine
stack_lines = from 1 (process_and_state ++ rank_0
    ∷ set_at 1 (codes "a") ∷ push_at 2 (codes "b") ∷ push_at 3 (codes "a") ∷ set_at 4 (codes "c")
    ∷ reset_at 5 ∷ reset_at 5 ∷ push_at 6 (codes "d") ∷ set_at 7 (codes "a") ∷ push_at 8 (codes "b")
    ∷ happens_at 20 ∷ pop_at 9 ∷ push_at 9 (codes "c") ∷ [])

-- two tracks of one container, the one of the second state type first, and one of another container
abbrev pub track_lines : List EventLine
track_lines = from 1 (process_and_state ++ state_type (Some (codes "S2")) (codes "Phase") ∷ rank_0
    ∷ creates_at 1 (Some (codes "p1")) (codes "P") (codes "p0") (codes "rank 1")
    ∷ entering_at events.PushState 2 (codes "S") (codes "p1") (codes "f")
    ∷ entering_at events.PushState 3 (codes "S2") (codes "p0") (codes "g")
    ∷ entering_at events.PushState 4 (codes "S") (codes "p0") (codes "f")
    ∷ entering_at events.PushState 5 (codes "S2") (codes "p0") (codes "f")
    ∷ leaves_at events.ResetState 6 (codes "S") (codes "rank 1")
    ∷ destroys_at 8 (codes "rank 0") ∷ happens_at 9 ∷ [])

-- two link types, with link events of one key
abbrev pub two_link_types : List EventLine
two_link_types = from 1 (process_type
    ∷ declares_link (codes "K") (codes "P") (codes "P") (codes "P") (codes "Msg")
    ∷ declares_link (codes "L") (codes "0") (codes "P") (codes "/") (codes "Put") ∷ rank_0
    ∷ sends_at 1 (codes "L") (codes "p0") (codes "k") 5 ∷ sends_at 2 (codes "K") (codes "/") (codes "k") 6
    ∷ receives_at 3 (codes "Put") (codes "0") (codes "k") ∷ [])

-- what a state event meets on a track that allows it
abbrev pub open_track : Met
open_track = record {
  destruction = None;
  last_time = 10;
  open_calls = 1;
  states = 5;
  tracks = 3;
  is_new_track = true;
  functions = 2;
  is_new_function = true;
}
