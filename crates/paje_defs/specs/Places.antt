-- Where the fields of a definition stand, by their roles.
use Rattle.std.specs.Prelude.{◌≡◌, ℕ, Option}
use Rattle.paje_defs.specs.declared.role.Role.{Role}
use Rattle.paje_defs.specs.declared.role.Role.TheVariants as roles
use Rattle.paje_defs.specs.declared.definition.Definition.{Definition}
use Rattle.paje_defs.specs.declared.places.Places.{Places}
use Rattle.paje_defs.specs.Definition.{place_of}

abbrev pub place_by_role : Places → Role → Option ℕ
place_by_role p roles.Time = p.time
place_by_role p roles.Alias = p.alias
place_by_role p roles.Kind = p.kind
place_by_role p roles.Name = p.name
place_by_role p roles.Holder = p.holder
place_by_role p roles.Value = p.value
place_by_role p roles.Key = p.key
place_by_role p roles.FromKind = p.from_kind
place_by_role p roles.ToKind = p.to_kind
place_by_role p roles.From = p.from
place_by_role p roles.To = p.to
place_by_role p roles.Size = p.size

-- they are those of a definition
abbrev pub ArePlacesOf : Definition → Places → Type 0
ArePlacesOf d p = (role : Role) → place_by_role p role ≡ place_of d.event d.fields role
