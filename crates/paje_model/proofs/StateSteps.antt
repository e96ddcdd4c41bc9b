-- Why a state event is refused, and where it stands if it isn't.
use Rattle.std.proofs.Common.{◌≡◌, ℕ, is_some, arith, Bool, cond, List, [], ◌∷◌}
use Rattle.std.proofs.Common.{slice_get, Option, Some}
use Rattle.std.proofs.Common.{None, sym, ap, ◌∙◌}
use Rattle.std.specs.List.{range_with_len}
use Rattle.std.specs.Option.{option_and_then, option_map, option_map_or, option_zip}
use Rattle.std.proofs.lemmas.Option.{none-some, same_Some, slice_get-map}
use Rattle.list_lemmas.proofs.Ranges.{range_get}
use Rattle.trace_base.specs.declared.names.Track.{Track}
use Rattle.paje_defs.specs.Refusals.{first_of}
use Rattle.paje_defs.specs.declared.role.Role.TheVariants as roles
use Rattle.paje_lines.specs.declared.model_fault.ModelFault.{ModelFault}
use Rattle.paje_lines.specs.Containers.{container_named}
use Rattle.paje_lines.specs.EventLine.{EventLine, enters, text_of}
use Rattle.paje_lines.specs.Reasons.{container_reason, met, met_reason, state_reason, type_reason}
use Rattle.paje_lines.specs.States.{entered_text, functions_entered, track_named}
use Rattle.paje_model.specs.declared.function_place.FunctionPlace.{FunctionPlace}
use Rattle.paje_model.specs.FunctionPlace.{function_place}
use Rattle.paje_lines.specs.Types.{kind_named, state_number, state_types}
use Rattle.paje_lines.specs.Values.{text_among, value_text, values_of}
use Rattle.paje_lines.proofs.StateTypes.{kind_exists}
use Rattle.paje_model.specs.declared.value_table.ValueTable.{ValueTable}
use Rattle.paje_model.specs.declared.entity_table.EntityTable.{EntityTable}
use Rattle.paje_model.specs.EntityTable.{entities_in}
use Rattle.paje_model.specs.Known.{AreValues}
use Rattle.paje_model.specs.ValueTable.{values_at}

-- ---- the row of reasons

abbrev on_track : List EventLine → EventLine → Track → Option ModelFault
on_track before line track = met_reason line (met before line track)

pub state_row : (before : List EventLine) (line : EventLine) (kind container last : Option ModelFault)
    → type_reason (λ sort. is_some (state_number sort)) before line roles.Kind ≡ kind
    → container_reason before line roles.Holder ≡ container
    → option_and_then (on_track before line) (track_named before line) ≡ last
    → state_reason before line ≡ first_of (kind ∷ container ∷ last ∷ [])
state_row before line kind container last is_kind is_container is_last =
    let rest = option_and_then (on_track before line) (track_named before line) in
    ap (λ o. first_of (o ∷ container_reason before line roles.Holder ∷ rest ∷ [])) is_kind
    ∙ (ap (λ o. first_of (kind ∷ o ∷ rest ∷ [])) is_container
    ∙ ap (λ o. first_of (kind ∷ container ∷ o ∷ [])) is_last)

-- the track that its texts find
pub names_track : (before : List EventLine) (line : EventLine) (kind container : ℕ)
    → kind_named before (text_of line roles.Kind) ≡ Some kind
    → container_named before (text_of line roles.Holder) ≡ Some container
    → track_named before line ≡ Some (record { container = container; kind = kind })
names_track before line kind container is_kind is_container =
    ap (λ o. option_map (λ both. record { container = both.1; kind = both.0 }) (option_zip o
    (container_named before (text_of line roles.Holder)))) is_kind
    ∙ ap (λ o. option_map (λ both. record { container = both.1; kind = both.0 }) (option_zip (Some kind) o))
    is_container

pub on_named : (before : List EventLine) (line : EventLine) (track : Track) (last : Option ModelFault)
    → track_named before line ≡ Some track → met_reason line (met before line track) ≡ last
    → option_and_then (on_track before line) (track_named before line) ≡ last
on_named before line track last named is = ap (option_and_then (on_track before line)) named ∙ is

-- ---- the text that it enters

-- the values of a state type are those that the lines declare
pub values_found : (before : List EventLine) (t : ValueTable) (text : List ℕ) (kind : ℕ) → AreValues before t
    → kind_named before text ≡ Some kind → values_at t kind ≡ values_of before kind
values_found before t text kind are named =
    by (slice_get t.of_kinds.items kind) (sym (slice_get-map entities_in t.of_kinds.items kind)
    ∙ (ap (λ es. slice_get es kind) are.values
    ∙ (slice_get-map (values_of before) (range_with_len 0 (state_types before)) kind
    ∙ ap (option_map (values_of before)) (range_get 0 (state_types before) kind kind (omega arith)
    (kind_exists before text kind named)))))
  where
    by : (o : Option EntityTable) → option_map entities_in o ≡ Some (values_of before kind)
        → option_map_or entities_in o [] ≡ values_of before kind
    by None is = absurd (none-some _ is)
    by (Some t) is = same_Some _ _ is

-- what the code found for it
pub text_found : (before : List EventLine) (line : EventLine) (t : ValueTable) (kind : ℕ) (value : List ℕ)
    → AreValues before t → kind_named before (text_of line roles.Kind) ≡ Some kind
    → value ≡ text_of line roles.Value
    → cond (enters line.event) (Some (text_among (values_at t kind) value)) None
    ≡ entered_text (record { before = before; line = line })
text_found before line t kind value are named is =
    ap (λ es. cond (enters line.event) (Some (text_among es value)) None)
    (values_found before t (text_of line roles.Kind) kind are named)
    ∙ (ap (λ text. cond (enters line.event) (Some (value_text before kind text)) None) is
    ∙ ap (λ o. cond (enters line.event) (option_map (λ kind. value_text before kind
    (text_of line roles.Value)) o)
    None) (sym named))

-- the place of its function
pub function_found : (before : List EventLine) (line : EventLine) (t : ValueTable) (kind : ℕ)
    (value text : List ℕ) (functions : List (List ℕ)) (found : FunctionPlace) (e : Bool)
    → AreValues before t → kind_named before (text_of line roles.Kind) ≡ Some kind
    → value ≡ text_of line roles.Value → functions ≡ functions_entered before → e ≡ enters line.event
    → text ≡ text_among (values_at t kind) value → found ≡ function_place functions (cond e (Some text) None)
    → found ≡ function_place (functions_entered before) (entered_text (record {
      before = before;
      line = line;
    }))
function_found before line t kind value text functions found e are named is same enters_it text_is at =
    at ∙ (ap (λ fs. function_place fs (cond e (Some text) None)) same
    ∙ ap (function_place (functions_entered before)) (ap (λ b. cond b (Some text) None) enters_it
    ∙ (ap (λ text. cond (enters line.event) (Some text) None) text_is
    ∙ text_found before line t kind value are named is)))
