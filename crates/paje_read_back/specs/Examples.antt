-- Event lines with their texts written out, for the examples.
use Rattle.std.specs.Prelude.{ℕ, List, [], ◌∷◌, filter_map, option_map}
use Rattle.paje_defs.specs.declared.event_name.EventName.{EventName}
use Rattle.paje_defs.specs.declared.role.Role.{Role}
use Rattle.paje_defs.specs.declared.role.Role.TheVariants as roles
use Rattle.paje_lines.specs.EventLine.{EventLine}
use Rattle.paje_read_back.specs.ToldLines.{Texts}

abbrev pub RoleText : Type 0
RoleText = Role × List ℕ

abbrev pub all_roles : List Role
all_roles = roles.Time ∷ roles.Alias ∷ roles.Kind ∷ roles.Name ∷ roles.Holder ∷ roles.Value ∷ roles.Key
    ∷ roles.FromKind ∷ roles.ToKind ∷ roles.From ∷ roles.To ∷ roles.Size ∷ []

-- the roles that have a text, with it
abbrev pub texts_in_order : Texts → List RoleText
texts_in_order texts = filter_map (λ role. option_map (λ text. (role, text)) (texts role)) all_roles

-- an event line whose texts are a list
pub record Outline : Type 0 where
  pub number : ℕ
  pub event : EventName
  pub time : ℕ
  pub size : ℕ
  pub texts : List RoleText

abbrev pub outline : EventLine → Outline
outline line = record {
  number = line.number;
  event = line.event;
  time = line.time;
  size = line.size;
  texts = texts_in_order line.text;
}

-- one of no size
abbrev pub outlined : ℕ → EventName → ℕ → List RoleText → Outline
outlined number event time texts = record {
  number = number;
  event = event;
  time = time;
  size = 0;
  texts = texts;
}
