-- What is known of the lines of a trace.
use Rattle.std.specs.Prelude.{◌≡◌, List, length, map, None}
use Rattle.std.specs.List.{range_with_len}
use Rattle.paje_lines.specs.EventLine.{EventLine}
use Rattle.paje_lines.specs.Reasons.{event_refusal}
use Rattle.paje_lines.specs.States.{functions_entered, states_in}
use Rattle.paje_lines.specs.Text.{links_of}
use Rattle.paje_lines.specs.Types.{state_types}
use Rattle.paje_lines.specs.Values.{values_in, values_of}
use Rattle.paje_model.specs.declared.known.Known.{Known}
use Rattle.paje_model.specs.declared.value_table.ValueTable.{ValueTable}
use Rattle.paje_model.specs.Existing.{AreContainers}
use Rattle.paje_model.specs.FunctionTable.{functions_kept}
use Rattle.paje_model.specs.MadeTracks.{AreTracks}
use Rattle.paje_model.specs.TypeTable.{AreTypes}
use Rattle.paje_model.specs.ValueTable.{AreNamed, values_kept}

-- the table has the values of the lines
pub record AreValues (lines : List EventLine) (t : ValueTable) : Type 0 where
  pub values : values_kept t ≡ map (values_of lines) (range_with_len 0 (state_types lines))
  pub named : AreNamed t
  pub count : t.count ≡ length (values_in lines)

-- all that the facts of the lines need, of which none is refused
pub record IsKnown (lines : List EventLine) (k : Known) : Type 0 where
  pub types : AreTypes lines k.types
  pub containers : AreContainers lines k.containers
  pub values : AreValues lines k.values
  pub functions : functions_kept k.functions ≡ functions_entered lines
  pub tracks : AreTracks lines k.tracks
  pub links : k.links ≡ links_of lines
  pub states : k.states ≡ states_in lines
  pub unrefused : event_refusal lines ≡ None

-- there are lines of which it is known
abbrev pub IsOfLines : Known → Type 0
IsOfLines k = (lines : List EventLine) × IsKnown lines k
