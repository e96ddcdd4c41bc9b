-- What a table of containers stands for, and what one more does to it.
use Rattle.std.specs.Prelude.{◌≡◌, ℕ, List, [], ◌∷◌, ◌++◌, None, Some, codes, slice_get, slice_set}
use Rattle.std.specs.Prelude.{max, ◌==◌, Option}
use Rattle.std.specs.Option.{option_map}
use Rattle.paje_model.specs.declared.container_table.ContainerTable.{ContainerTable}
use Rattle.paje_model.specs.declared.container_table.Existing.{Existing}
use Rattle.paje_model.specs.EntityTable.{IsNamed, entities_in}
use Rattle.paje_defs.specs.declared.role.Role.TheVariants as roles
use Rattle.paje_defs.specs.Refusals.{first_of, when}
use Rattle.paje_lines.specs.declared.model_fault.ModelFault.{ModelFault}
use Rattle.paje_lines.specs.declared.model_fault.ModelFault.TheVariants.{AfterDestroy, WrongKind}
use Rattle.paje_lines.specs.Found.{Entity, root}
use Rattle.paje_lines.specs.Reasons.{back_reason}

-- a container that was just created
abbrev pub created : List ℕ → ℕ → Existing
created name start = record { name = name; start = start; latest = start; destruction = None; tracks = [] }

-- it has the root alone
pub record IsRootContainer (t : ContainerTable) : Type 0 where
  pub entities : entities_in t.entities ≡ root ∷ []
  pub named : IsNamed t.entities
  pub list : t.list.items ≡ created (codes "0") 0 ∷ []

-- a container goes last
pub record TakesContainer (old new : ContainerTable) (e : Entity) (start : ℕ) : Type 0 where
  pub entities : entities_in new.entities ≡ entities_in old.entities ++ e ∷ []
  pub named : IsNamed new.entities
  pub list : new.list.items ≡ old.list.items ++ created e.name start ∷ []

-- why the container at a place stays: it is the root, it was destroyed, or the time is below its last
abbrev pub stay_reason : ℕ → Existing → ℕ → Option ModelFault
stay_reason place e time = first_of (
    when (place == 0) (WrongKind roles.Name)
    ∷ option_map (λ destruction. AfterDestroy destruction.line) e.destruction
    ∷ back_reason time e.latest ∷ [])

-- the container at a place becomes this one, and the others stay
pub record ChangesContainer (old new : ContainerTable) (place : ℕ) (to : Existing → Existing) : Type 0 where
  pub entities : new.entities ≡ old.entities
  pub list : (e : Existing) → slice_get old.list.items place ≡ Some e
      → new.list.items ≡ slice_set old.list.items place (to e)

-- it was destroyed, on this line and at this time
abbrev pub destroyed_by : ℕ → ℕ → Existing → Existing
destroyed_by line time e = record e { destruction = Some (record { line = line; time = time }) }

-- a track of it has an event at this time
abbrev pub touched_at : ℕ → Existing → Existing
touched_at time e = record e { latest = max e.latest time }

-- one more track
abbrev pub with_track : ℕ → Existing → Existing
with_track track e = record e { tracks = e.tracks ++ track ∷ [] }
