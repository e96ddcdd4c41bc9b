-- The place of the container that a text finds, by a table of containers.
use Rattle.std.proofs.Common.{◌≡◌, ℕ, ◌<◌, ◌^◌, ◌+◌, List, Some, IfSome, subst, ap, arith}
use Rattle.std.proofs.Common.{length}
use Rattle.paje_lines.specs.EventLine.{EventLine}
use Rattle.paje_lines.specs.Found.{entity_place, rooted}
use Rattle.paje_lines.specs.Containers.{container_named, containers_in}
use Rattle.paje_model.specs.declared.container_table.ContainerTable.{ContainerTable}
use Rattle.paje_model.specs.EntityTable.{entities_in}
use Rattle.paje_model.specs.Existing.{AreContainers}
use Rattle.paje_model.specs.Known.{IsKnown, IsOfLines}
use Rattle.paje_model.specs.declared.known.Known.{Known}
use Rattle.paje_model.proofs.FoundPlaces.{container-within}
use Rattle.paje_lines.proofs.Containers.{containers_within}

pub container-found : (lines : List EventLine) (t : ContainerTable) (text : List ℕ) → AreContainers lines t
    → entity_place (entities_in t.entities) (rooted text) ≡ container_named lines text
container-found lines t text are = ap (λ es. entity_place es (rooted text)) are.entities

pub container-fits : (k : Known) (text : List ℕ) (place : ℕ) → IsOfLines k
    → entity_place (entities_in k.containers.entities) (rooted text) ≡ Some place → place + 1 < 2 ^ 32
container-fits k text place (lines, known) is =
    let within : place < length (containers_in lines)
    = subst (λ o. IfSome o (λ c. c < length (containers_in lines))) (ap (λ o. o)
    (container-of lines k text known place is)) (container-within lines text) in
    let limit = containers_within lines known.unrefused in
    omega (arith, within, limit)
  where
    container-of : (lines : List EventLine) (k : Known) (text : List ℕ) → IsKnown lines k → (place : ℕ)
        → entity_place (entities_in k.containers.entities) (rooted text) ≡ Some place
        → container_named lines text ≡ Some place
    container-of lines k text known place is = subst (λ o. o ≡ Some place)
        (container-found lines k.containers text known.containers) is
