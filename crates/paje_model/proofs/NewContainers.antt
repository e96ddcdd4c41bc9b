-- Whether there may be one more container, by its alias and by how many there are.
use Rattle.std.proofs.Common.{◌≡◌, ℕ, List, [], ◌∷◌, find, length, Option, Some, None, refl, sym, ◌∙◌, ap}
use Rattle.std.proofs.Common.{subst, Result}
use Rattle.std.specs.Option.{option_map}
use Rattle.std.proofs.lemmas.Option.{none-some}
use Rattle.paje_defs.specs.Refusals.{first_of}
use Rattle.paje_lines.specs.declared.model_fault.ModelFault.{ModelFault}
use Rattle.paje_lines.specs.declared.model_fault.ModelFault.TheVariants.{DoubleAlias}
use Rattle.paje_lines.specs.declared.what.What.TheVariants.{Containers}
use Rattle.paje_lines.specs.Containers.{container_entities, containers_in}
use Rattle.paje_lines.specs.EventLine.{EventLine}
use Rattle.paje_lines.specs.Found.{Entity, has_alias}
use Rattle.paje_lines.specs.Reasons.{full, new_reason}
use Rattle.paje_model.specs.declared.container_table.ContainerTable.{ContainerTable}
use Rattle.paje_model.specs.EntityTable.{entities_in}
use Rattle.paje_model.specs.Existing.{AreContainers}
use Rattle.paje_model.specs.Finds.{Finds}
use Rattle.paje_model.proofs.ContainersSoFar.{existing-length}

abbrev pub reason_for : List EventLine → List ℕ → Option ModelFault
reason_for lines alias = new_reason Containers (container_entities lines) alias (length (containers_in lines))

-- the line of the container that has the alias
abbrev pub line_in : ContainerTable → List ℕ → Option ℕ
line_in t alias = option_map (λ e. e.line) (find (has_alias alias) (entities_in t.entities))

alias_free : (lines : List EventLine) (t : ContainerTable) (alias : List ℕ) → AreContainers lines t
    → line_in t alias ≡ None → reason_for lines alias ≡ full Containers (length (containers_in lines))
alias_free lines t alias are free = by (find (has_alias alias) (container_entities lines))
    (ap (λ es. option_map (λ e. e.line) (find (has_alias alias) es)) (sym are.entities) ∙ free)
  where
    full_or : (o : Option ModelFault) → first_of (o ∷ []) ≡ o
    full_or None = refl
    full_or (Some f) = refl

    by : (o : Option Entity) → option_map (λ e. e.line) o ≡ None
        → first_of (option_map (λ e. DoubleAlias e.line) o ∷ full Containers
        (length (containers_in lines)) ∷ [])
        ≡ full Containers (length (containers_in lines))
    by None e = full_or (full Containers (length (containers_in lines)))
    by (Some e) is = absurd (none-some e.line (sym is))

as_many : (lines : List EventLine) (t : ContainerTable) (n : ℕ) → AreContainers lines t
    → n ≡ length t.list.items
    → n ≡ length (containers_in lines)
as_many lines t n are count = count ∙ (ap length are.existing ∙ existing-length lines)

-- then there must be room for it
pub by_room : (lines : List EventLine) (t : ContainerTable) (alias : List ℕ) (n : ℕ) → AreContainers lines t
    → line_in t alias ≡ None → n ≡ length t.list.items → (r : Result (Unit {0}) ModelFault)
    → Finds (full Containers n) (λ _. Unit {0}) r → Finds (reason_for lines alias) (λ _. Unit {0}) r
by_room lines t alias n are free count r finds = subst (λ reason. Finds reason (λ _. Unit {0}) r)
    (ap (full Containers) (as_many lines t n are count) ∙ sym (alias_free lines t alias are free)) finds
