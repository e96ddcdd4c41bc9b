-- The containers of a trace: when each was created, and when and where it was destroyed.
use Rattle.std.specs.Prelude.{ℕ, Bool, ◌&&◌, ◌==◌, List, ◌∷◌, filter, find, fold, map, max, slice_get}
use Rattle.std.specs.Prelude.{false, Option}
use Rattle.std.specs.Option.{option_map, option_map_or}
use Rattle.paje_defs.specs.declared.role.Role.TheVariants as roles
use Rattle.paje_lines.specs.EventLine.{EventLine, text_of, creates, destroys}
use Rattle.paje_defs.specs.Refusals.{Placed, placed}
use Rattle.paje_lines.specs.Found.{Entity, entity_place, root, rooted}
use Rattle.paje_lines.specs.Types.{rooted_entity}

-- a container, and when it begins to exist
pub record DeclaredContainer : Type 0 where
  pub entity : Entity
  pub start : ℕ

abbrev pub created_by : EventLine → DeclaredContainer
created_by line = record { entity = rooted_entity line; start = line.time }

-- the containers, in order; the root comes first
abbrev pub containers_in : List EventLine → List DeclaredContainer
containers_in lines = record { entity = root; start = 0 }
    ∷ map created_by (filter (λ line. creates line.event) lines)

abbrev pub container_entities : List EventLine → List Entity
container_entities lines = map (λ c. c.entity) (containers_in lines)

-- the place of the container that a text finds, counted from 0, which is the root
abbrev pub container_named : List EventLine → List ℕ → Option ℕ
container_named lines text = entity_place (container_entities lines) (rooted text)

-- when it was created
abbrev pub container_start : List EventLine → ℕ → ℕ
container_start lines container = option_map_or (λ c. c.start) (slice_get (containers_in lines) container) 0

-- ---- its end

abbrev pub ends_container : ℕ → Placed EventLine → Bool
ends_container container p = destroys p.line.event && option_map_or (λ c. c == container)
    (container_named p.before (text_of p.line roles.Name)) false

-- the line that destroyed it
abbrev pub destruction : List EventLine → ℕ → Option EventLine
destruction lines container = option_map (λ p. p.line) (find (ends_container container) (placed lines))

-- the greatest time of all lines, 0 where there is none
abbrev pub greatest : List EventLine → ℕ
greatest lines = fold max 0 (map (λ line. line.time) lines)

-- when it was destroyed, else the greatest time
abbrev pub container_end : List EventLine → ℕ → ℕ
container_end lines container = option_map_or (λ line. line.time) (destruction lines container)
    (greatest lines)
