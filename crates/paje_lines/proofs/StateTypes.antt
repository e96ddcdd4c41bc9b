-- The types that the lines of a trace declare: how many there are, and that what a text finds is one.
use Rattle.std.proofs.Common.{◌≡◌, ℕ, ◌+◌, ◌<◌, ◌≤◌, List, [], ◌∷◌, ◌++◌, filter, filter_map, length, cond}
use Rattle.std.proofs.Common.{slice_get, Some, None, IfSome, Bool, true, false, is_some, refl, sym}
use Rattle.std.proofs.Common.{◌∙◌, ap, subst, arith}
use Rattle.std.specs.List.{AllByRecursion}
use Rattle.std.specs.Option.{option_map, option_to_list}
use Rattle.std.proofs.lemmas.List.{length-map, length-append}
use Rattle.std.proofs.lemmas.List.Sums.{length-filter, sum_by_push}
use Rattle.std.proofs.lemmas.Option.{option_and_then_some}
use Rattle.list_lemmas.proofs.Each.{all_append, all_at, all_mapped}
use Rattle.list_lemmas.proofs.Fronts.{each_front}
use Rattle.list_lemmas.proofs.Options.{IfSome-below, length-list_of_map}
use Rattle.trace_base.specs.declared.limits.TheConstants.{MAX_TYPES}
use Rattle.paje_defs.specs.declared.event_name.EventName.{EventName}
use Rattle.paje_defs.specs.declared.event_name.EventName.TheVariants as events
use Rattle.paje_defs.specs.declared.role.Role.TheVariants as roles
use Rattle.paje_defs.specs.Refusals.{placed}
use Rattle.paje_defs.proofs.PlacedMore.{told-more}
use Rattle.paje_defs.proofs.RefusedMore.{Keeps, unrefused}
use Rattle.paje_lines.specs.declared.type_sort.TypeSort.{TypeSort}
use Rattle.paje_lines.specs.declared.what.What.TheVariants as what
use Rattle.paje_lines.specs.EventLine.{EventLine, text_of, alias_of, is_state_type, is_link_type}
use Rattle.paje_lines.specs.Found.{Entity, entity_place, rooted}
use Rattle.paje_lines.specs.Types.{DeclaredType, rooted_entity, type_at, types_in, type_entities}
use Rattle.paje_lines.specs.Types.{type_named, sort_of, state_types, link_types, state_number, kind_named}
use Rattle.paje_lines.specs.Types.{kinds_in, link_kinds_in}
use Rattle.paje_lines.specs.Reasons.{event_reason_at, event_refusal, declared_types, alias_reason, full}
use Rattle.paje_lines.proofs.NoReason.{each_none, room, typed}

-- ---- how many there are

pub state_types-more : (lines : List EventLine) (line : EventLine)
    → state_types (lines ++ line ∷ []) ≡ state_types lines + cond (is_state_type line.event) 1 0
state_types-more lines line = sum_by_push (λ l. cond (is_state_type l.event) 1 0) lines line

link_types-more : (lines : List EventLine) (line : EventLine)
    → link_types (lines ++ line ∷ []) ≡ link_types lines + cond (is_link_type line.event) 1 0
link_types-more lines line = sum_by_push (λ l. cond (is_link_type l.event) 1 0) lines line

-- each state type has a name
pub kinds-length : (lines : List EventLine) → length (kinds_in lines) ≡ state_types lines
kinds-length lines =
    length-map (filter (λ line. is_state_type line.event) lines) (λ line. text_of line roles.Name)
    ∙ length-filter (λ line. is_state_type line.event) lines

link_kinds-length : (lines : List EventLine) → length (link_kinds_in lines) ≡ link_types lines
link_kinds-length lines =
    length-map (filter (λ line. is_link_type line.event) lines) (λ line. text_of line roles.Name)
    ∙ length-filter (λ line. is_link_type line.event) lines

abbrev as_type : EventLine → TypeSort → DeclaredType
as_type line sort = record { entity = rooted_entity line; sort = sort }

declared_types-more : (lines : List EventLine) (line : EventLine) → declared_types (lines ++ line ∷ [])
    ≡ declared_types lines + cond (is_some (sort_of lines line.event)) 1 0
declared_types-more lines line =
    ap length (told-more type_at lines line)
    ∙ (length-append (filter_map type_at (placed lines))
    (option_to_list (type_at (record { before = lines; line = line })))
    ∙ ap (λ n. declared_types lines + n) (length-list_of_map (as_type line) (sort_of lines line.event)))

-- a line declares at most one type
one_sort : (before : List EventLine) (event : EventName)
    → cond (is_state_type event) 1 0 + cond (is_link_type event) 1 0
    ≤ cond (is_some (sort_of before event)) 1 0
one_sort before events.DefineContainerType = omega arith
one_sort before events.DefineStateType = omega arith
one_sort before events.DefineEventType = omega arith
one_sort before events.DefineVariableType = omega arith
one_sort before events.DefineLinkType = omega arith
one_sort before _ = omega arith

some_types : (lines : List EventLine) → state_types lines + link_types lines ≤ declared_types lines
some_types lines = each_front (λ lines. state_types lines + link_types lines ≤ declared_types lines)
    (λ before line holds. let one = one_sort before line.event in
    let states = state_types-more before line in
    let links = link_types-more before line in
    let all = declared_types-more before line in
    omega (arith, one, states, links, all, holds)) (omega arith) lines

abbrev AreWithin : List EventLine → Type 0
AreWithin lines = declared_types lines ≤ MAX_TYPES

types_more : Keeps event_reason_at AreWithin
types_more before line none is holds =
    subst (λ n. n ≤ MAX_TYPES) (sym (declared_types-more before line))
    (by (is_some (sort_of before line.event)) refl)
  where
    by : (b : Bool) → is_some (sort_of before line.event) ≡ b → declared_types before + cond b 1 0 ≤ MAX_TYPES
    by false e = omega (arith, holds)
    by true e =
        let below = room what.Types (declared_types before)
        (each_none (alias_reason (type_entities before) (rooted (alias_of line))
        ∷ full what.Types (declared_types before) ∷ []) (typed line.event before line is e)).1.0 in
        omega (arith, below)

-- state types and link types together are at most as many as types may be
pub kinds_within : (lines : List EventLine) → event_refusal lines ≡ None
    → length (kinds_in lines) + length (link_kinds_in lines) ≤ MAX_TYPES
kinds_within lines none =
    let states = kinds-length lines in
    let links = link_kinds-length lines in
    let some = some_types lines in
    let all = unrefused event_reason_at AreWithin types_more (omega arith) lines none in
    omega (arith, states, links, some, all)

-- ---- what a text finds

-- the number of a state type is below this one
abbrev IsNumbered : ℕ → DeclaredType → Type 0
IsNumbered states t = IfSome (state_number t.sort) (λ n. n < states)

new_numbered : (event : EventName) (before : List EventLine) (entity : Entity) (states : ℕ)
    → states ≡ state_types before + cond (is_state_type event) 1 0
    → AllByRecursion (IsNumbered states) (option_to_list (option_map (λ sort. record {
      entity = entity;
      sort = sort;
    }) (sort_of before event)))
new_numbered events.DefineContainerType before entity states is = (tt, tt)
new_numbered events.DefineStateType before entity states is = (omega (arith, is), tt)
new_numbered events.DefineEventType before entity states is = (tt, tt)
new_numbered events.DefineVariableType before entity states is = (tt, tt)
new_numbered events.DefineLinkType before entity states is = (tt, tt)
new_numbered _ before entity states is = tt

numbered : (lines : List EventLine) → AllByRecursion (IsNumbered (state_types lines))
    (filter_map type_at (placed lines))
numbered lines = each_front (λ lines. AllByRecursion (IsNumbered (state_types lines)) (filter_map type_at
    (placed lines))) more tt lines
  where
    more : (before : List EventLine) (line : EventLine)
        → AllByRecursion (IsNumbered (state_types before)) (filter_map type_at (placed before))
        → AllByRecursion (IsNumbered (state_types (before ++ line ∷ [])))
        (filter_map type_at (placed (before ++ line ∷ [])))
    more before line holds =
        let states = state_types-more before line in
        let above : state_types before ≤ state_types (before ++ line ∷ []) = omega (arith, states) in
        subst (AllByRecursion (IsNumbered (state_types (before ++ line ∷ []))))
        (sym (told-more type_at before line))
        (all_append (IsNumbered (state_types (before ++ line ∷ []))) (filter_map type_at (placed before))
        (option_to_list (type_at (record { before = before; line = line })))
        (all_mapped (IsNumbered (state_types before)) (IsNumbered (state_types (before ++ line ∷ [])))
        (λ t. IfSome-below (state_types before) (state_types (before ++ line ∷ [])) above
        (state_number t.sort)) (filter_map type_at (placed before)) holds)
        (new_numbered line.event before (rooted_entity line) (state_types (before ++ line ∷ [])) states))

-- the state type that a text finds exists
pub kind_exists : (lines : List EventLine) (text : List ℕ) (kind : ℕ) → kind_named lines text ≡ Some kind
    → kind < state_types lines
kind_exists lines text kind is =
    option_and_then_some {P = kind < state_types lines} (λ t. state_number t.sort)
    (type_named lines text) kind is
    (λ t found number. option_and_then_some {P = kind < state_types lines} (slice_get (types_in lines))
    (entity_place (type_entities lines) (rooted text)) t found
    (λ at place got. subst (λ o. IfSome o (λ n. n < state_types lines)) number
    (all_at (IsNumbered (state_types lines)) (types_in lines) at t (tt, numbered lines) got)))
