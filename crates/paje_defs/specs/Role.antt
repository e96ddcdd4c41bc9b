-- The names that a role has, and the roles that an event needs.
use Rattle.std.specs.Prelude.{List, [], ◌∷◌, Option, Some, None}
use Rattle.paje_defs.specs.declared.event_name.EventName.{EventName}
use Rattle.paje_defs.specs.declared.event_name.EventName.TheVariants as events
use Rattle.paje_defs.specs.declared.field_name.FieldName.{FieldName}
use Rattle.paje_defs.specs.declared.field_name.FieldName.TheVariants as names
use Rattle.paje_defs.specs.declared.role.Role.{Role}
use Rattle.paje_defs.specs.declared.role.Role.TheVariants as roles

-- ---- the names that a role has, the one that is preferred first

abbrev pub first_name : Role → FieldName
first_name roles.Time = names.Time
first_name roles.Alias = names.Alias
first_name roles.Kind = names.«Type»
first_name roles.Name = names.Name
first_name roles.Holder = names.Container
first_name roles.Value = names.Value
first_name roles.Key = names.Key
first_name roles.FromKind = names.StartContainerType
first_name roles.ToKind = names.EndContainerType
first_name roles.From = names.StartContainer
first_name roles.To = names.EndContainer
first_name roles.Size = names.Size

-- definitions of types may name the type by its container's
abbrev pub other_kind : EventName → Option FieldName
other_kind events.DefineContainerType = Some names.ContainerType
other_kind events.DefineStateType = Some names.ContainerType
other_kind events.DefineEventType = Some names.ContainerType
other_kind events.DefineVariableType = Some names.ContainerType
other_kind events.DefineLinkType = Some names.ContainerType
other_kind _ = None

-- the destroyed container may be named as a container
abbrev pub other_name : EventName → Option FieldName
other_name events.DestroyContainer = Some names.Container
other_name _ = None

abbrev pub second_name : EventName → Role → Option FieldName
second_name event roles.Kind = other_kind event
second_name event roles.Name = other_name event
second_name event roles.FromKind = Some names.SourceContainerType
second_name event roles.ToKind = Some names.DestContainerType
second_name event roles.From = Some names.SourceContainer
second_name event roles.To = Some names.DestContainer
second_name event roles.Time = None
second_name event roles.Alias = None
second_name event roles.Holder = None
second_name event roles.Value = None
second_name event roles.Key = None
second_name event roles.Size = None

-- ---- the roles that an event needs, in order

abbrev pub needed : EventName → List Role
needed events.DefineContainerType = roles.Kind ∷ roles.Name ∷ []
needed events.DefineStateType = roles.Kind ∷ roles.Name ∷ []
needed events.DefineEventType = roles.Kind ∷ roles.Name ∷ []
needed events.DefineVariableType = roles.Kind ∷ roles.Name ∷ []
needed events.DefineLinkType = roles.Kind ∷ roles.FromKind ∷ roles.ToKind ∷ roles.Name ∷ []
needed events.DefineEntityValue = roles.Kind ∷ roles.Name ∷ []
needed events.CreateContainer = roles.Time ∷ roles.Kind ∷ roles.Holder ∷ roles.Name ∷ []
needed events.DestroyContainer = roles.Time ∷ roles.Name ∷ []
needed events.PushState = roles.Time ∷ roles.Kind ∷ roles.Holder ∷ roles.Value ∷ []
needed events.SetState = roles.Time ∷ roles.Kind ∷ roles.Holder ∷ roles.Value ∷ []
needed events.PopState = roles.Time ∷ roles.Kind ∷ roles.Holder ∷ []
needed events.ResetState = roles.Time ∷ roles.Kind ∷ roles.Holder ∷ []
needed events.StartLink = roles.Time ∷ roles.Kind ∷ roles.From ∷ roles.Key ∷ []
needed events.EndLink = roles.Time ∷ roles.Kind ∷ roles.To ∷ roles.Key ∷ []
needed events.NewEvent = roles.Time ∷ []
needed events.SetVariable = roles.Time ∷ []
needed events.AddVariable = roles.Time ∷ []
needed events.SubVariable = roles.Time ∷ []
