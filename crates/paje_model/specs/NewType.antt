-- What a new type adds to what is known.
use Rattle.std.specs.Prelude.{◌≡◌, [], ◌∷◌, ◌++◌, is_some, if◌then◌else◌}
use Rattle.paje_lines.specs.declared.type_sort.TypeSort.{TypeSort}
use Rattle.paje_lines.specs.EventLine.{EventLine}
use Rattle.paje_lines.specs.Types.{rooted_entity, state_number}
use Rattle.paje_model.specs.declared.known.Known.{Known}
use Rattle.paje_model.specs.TypeTable.{TakesType}
use Rattle.paje_model.specs.ValueTable.{AreNamed, values_kept}

-- the type of a line; a state type has no values yet
pub record AddsType (line : EventLine) (sort : TypeSort) (old new : Known) : Type 0 where
  pub types : TakesType old.types new.types (rooted_entity line) sort
  pub values : values_kept new.values ≡ values_kept old.values
      ++ (if is_some (state_number sort) then [] ∷ [] else [])
  pub named : AreNamed new.values
  pub count : new.values.count ≡ old.values.count
  pub containers : new.containers ≡ old.containers
  pub functions : new.functions ≡ old.functions
  pub tracks : new.tracks ≡ old.tracks
  pub links : new.links ≡ old.links
  pub states : new.states ≡ old.states
