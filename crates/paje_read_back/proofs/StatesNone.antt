-- Lines that aren't of states, as the declarations of a canonical text.
use Rattle.std.proofs.Common.{◌≡◌, ℕ, List, [], false, cond, None}
use Rattle.std.proofs.Common.{filter_map, length, refl, sym, ap, ◌∙◌}
use Rattle.std.specs.List.{AllByRecursion}
use Rattle.std.specs.Option.{option_map, option_map_or}
use Rattle.std.specs.Str.{bytes_eq}
use Rattle.std.proofs.lemmas.Bool.{and_left, false_from_ne_true, true≢false}
use Rattle.std.proofs.lemmas.List.Sums.{length-filter}
use Rattle.list_lemmas.proofs.Each.{all_mapped}
use Rattle.list_lemmas.proofs.Filters.{filter_none}
use Rattle.trace_base.specs.declared.names.Track.{Track}
use Rattle.trace_base.specs.declared.text.TraceText.{TraceText}
use Rattle.paje_defs.specs.Refusals.{placed, placed_behind}
use Rattle.paje_lines.specs.Containers.{destruction, ends_container}
use Rattle.paje_defs.specs.declared.role.Role.TheVariants as roles
use Rattle.paje_lines.specs.EventLine.{EventLine, destroys, enters, is_state_event, text_of}
use Rattle.paje_lines.specs.Found.{distinct_by}
use Rattle.paje_lines.specs.States.{entered_text, functions_entered, is_on, is_same, states_in, states_of}
use Rattle.paje_lines.specs.States.{track_at, track_named, tracks_in}
use Rattle.paje_lines.specs.Types.{kind_named}
use Rattle.paje_lines.specs.Values.{value_text}
use Rattle.paje_lines.proofs.Functions.{entering}
use Rattle.paje_read_back.specs.ToldLines.{declarations_told}
use Rattle.paje_read_back.proofs.DeclaredLines.{NoneIs, none-found, none-picked, none-told}
use Rattle.paje_read_back.proofs.DeclaredUnrefused.{declarations-each}
use Rattle.paje_read_back.proofs.LineKinds.{IsNoState}
use Rattle.paje_read_back.proofs.NumberedLines.{all_placed}

-- ---- the declarations

pub no-states_declared : (t : TraceText) → AllByRecursion IsNoState (declarations_told t)
no-states_declared t = declarations-each t IsNoState (λ n. refl) (λ p n. refl) (λ p n. refl) (λ p n. refl)

pub nothing-destroyed : (t : TraceText) → NoneIs (λ l. destroys l.event) (declarations_told t)
nothing-destroyed t = declarations-each t (λ l. destroys l.event ≡ false) (λ n. refl) (λ p n. refl)
    (λ p n. refl) (λ p n. refl)

-- ---- no line destroys

pub never-destroyed : (lines : List EventLine) → NoneIs (λ l. destroys l.event) lines → (container : ℕ)
    → destruction lines container ≡ None
never-destroyed lines none container = ap (option_map (λ p. p.line))
    (none-found (ends_container container) (λ l. destroys l.event)
    (λ before line e. and_left (destroys line.event) _ e) [] lines none)

-- ---- no line is of states

no_track : (before : List EventLine) (line : EventLine) → IsNoState line
    → track_at (record { before = before; line = line }) ≡ None
no_track before line e = ap (λ b. cond b (track_named before line) None) e

not_on : (track : Track) (before : List EventLine) (line : EventLine) → IsNoState line
    → is_on track (record { before = before; line = line }) ≡ false
not_on track before line e = ap (λ o. option_map_or (is_same track) o false) (no_track before line e)

no_text : (before : List EventLine) (line : EventLine) → IsNoState line
    → entered_text (record { before = before; line = line }) ≡ None
no_text before line e =
    ap (λ b. cond b (option_map (λ kind. value_text before kind (text_of line roles.Value))
    (kind_named before (text_of line roles.Kind))) None)
    (false_from_ne_true (enters line.event) (λ is. true≢false (sym (entering line.event is) ∙ e)))

-- such lines tell no track
pub none-on_track : (before lines : List EventLine) → AllByRecursion IsNoState lines
    → filter_map track_at (placed_behind before lines) ≡ []
none-on_track before lines none = none-told track_at (λ l. is_state_event l.event) no_track before lines none

-- and no function
pub none-entered : (before lines : List EventLine) → AllByRecursion IsNoState lines
    → filter_map entered_text (placed_behind before lines) ≡ []
none-entered before lines none =
    none-told entered_text (λ l. is_state_event l.event) no_text before lines none

-- and are on no track
pub off_track : (track : Track) (before lines : List EventLine) → AllByRecursion IsNoState lines
    → AllByRecursion (λ p. is_on track p ≡ false) (placed_behind before lines)
off_track track before lines none = all_placed (λ p. is_on track p ≡ false) before lines
    (all_mapped IsNoState (λ line. (before : List EventLine)
    → is_on track (record { before = before; line = line }) ≡ false)
    (λ line is before. not_on track before line is) lines none)

pub no-tracks : (lines : List EventLine) → AllByRecursion IsNoState lines → tracks_in lines ≡ []
no-tracks lines none = ap (distinct_by is_same) (none-on_track [] lines none)

pub no-functions : (lines : List EventLine) → AllByRecursion IsNoState lines → functions_entered lines ≡ []
no-functions lines none = ap (distinct_by bytes_eq) (none-entered [] lines none)

pub no-states : (lines : List EventLine) → AllByRecursion IsNoState lines → (track : Track)
    → states_of lines track ≡ []
no-states lines none track = filter_none (is_on track) (placed lines) (off_track track [] lines none)

pub none-counted : (lines : List EventLine) → AllByRecursion IsNoState lines → states_in lines ≡ 0
none-counted lines none = sym (length-filter (λ l. is_state_event l.event) lines)
    ∙ ap length (none-picked (λ l. is_state_event l.event) lines none)
