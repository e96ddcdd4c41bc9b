-- The containers that a list of lines leaves, with what is asked of them at each line.
use Rattle.std.specs.Prelude.{◌≡◌, ℕ, ◌==◌, false, List, map, filter, length, slice_get}
use Rattle.std.specs.List.{enumerate_from, range_with_len}
use Rattle.std.specs.Option.{option_map, option_map_or}
use Rattle.paje_lines.specs.EventLine.{EventLine}
use Rattle.paje_lines.specs.Containers.{DeclaredContainer, container_entities, containers_in, destruction}
use Rattle.paje_lines.specs.States.{latest, tracks_in}
use Rattle.paje_model.specs.declared.container_table.ContainerTable.{ContainerTable}
use Rattle.paje_model.specs.declared.container_table.Existing.{Existing}
use Rattle.paje_model.specs.EntityTable.{IsNamed, entities_in}

-- the places of a container's tracks
abbrev pub track_places : List EventLine → ℕ → List ℕ
track_places lines container = filter (λ place. option_map_or (λ track. track.container == container)
    (slice_get (tracks_in lines) place) false) (range_with_len 0 (length (tracks_in lines)))

-- the container at a place
abbrev pub existing_at : List EventLine → ℕ × DeclaredContainer → Existing
existing_at lines p = record {
  name = p.1.entity.name;
  start = p.1.start;
  latest = latest lines p.0;
  destruction = option_map (λ line. record { line = line.number; time = line.time }) (destruction lines p.0);
  tracks = track_places lines p.0;
}

abbrev pub existing_in : List EventLine → List Existing
existing_in lines = map (existing_at lines) (enumerate_from 0 (containers_in lines))

-- the table has the containers of the lines
pub record AreContainers (lines : List EventLine) (t : ContainerTable) : Type 0 where
  pub entities : entities_in t.entities ≡ container_entities lines
  pub named : IsNamed t.entities
  pub existing : t.list.items ≡ existing_in lines
