-- A table of types stands for one line more.
use Rattle.std.proofs.Common.{◌≡◌, List, [], ◌∷◌, ◌++◌, map, Bool, false, cond, Option, Some, None}
use Rattle.std.proofs.Common.{refl, sym, ◌∙◌, ap, is_some}
use Rattle.std.specs.Option.{option_map, option_map_or, option_to_list}
use Rattle.std.proofs.lemmas.List.{append-nil, map-append}
use Rattle.list_lemmas.proofs.Filters.{map-filter_push}
use Rattle.paje_defs.specs.declared.event_name.EventName.{EventName}
use Rattle.paje_defs.specs.declared.event_name.EventName.TheVariants as events
use Rattle.paje_defs.specs.declared.role.Role.TheVariants as roles
use Rattle.paje_lines.specs.declared.type_sort.TypeSort.{TypeSort}
use Rattle.paje_model.specs.declared.type_table.TypeTable.{TypeTable}
use Rattle.paje_lines.specs.EventLine.{EventLine, text_of, is_state_type, is_link_type}
use Rattle.paje_lines.specs.Types.{DeclaredType, root_type, type_at, types_in, sort_of, rooted_entity}
use Rattle.paje_lines.specs.Types.{state_number, link_number, kinds_in, link_kinds_in}
use Rattle.paje_model.specs.TypeTable.{AreTypes, TakesType}
use Rattle.paje_defs.proofs.PlacedMore.{told-more}

-- ---- the types, after one more line

abbrev declared_as : EventLine → Option TypeSort → List DeclaredType
declared_as line sort = option_to_list (option_map
    (λ sort. record { entity = rooted_entity line; sort = sort })
    sort)

types-more : (lines : List EventLine) (line : EventLine) → types_in (lines ++ line ∷ [])
    ≡ types_in lines ++ declared_as line (sort_of lines line.event)
types-more lines line = ap (λ ts. root_type ∷ ts) (told-more type_at lines line)

-- an event declares a state type, or a link type, where its sort is one
abbrev is_state : TypeSort → Bool
is_state sort = is_some (state_number sort)

abbrev is_link : TypeSort → Bool
is_link sort = is_some (link_number sort)

pub state-told : (lines : List EventLine) (event : EventName)
    → option_map_or is_state (sort_of lines event) false ≡ is_state_type event
state-told lines events.DefineContainerType = refl
state-told lines events.DefineStateType = refl
state-told lines events.DefineEventType = refl
state-told lines events.DefineVariableType = refl
state-told lines events.DefineLinkType = refl
state-told lines _ = refl

link-told : (lines : List EventLine) (event : EventName)
    → option_map_or is_link (sort_of lines event) false ≡ is_link_type event
link-told lines events.DefineContainerType = refl
link-told lines events.DefineStateType = refl
link-told lines events.DefineEventType = refl
link-told lines events.DefineVariableType = refl
link-told lines events.DefineLinkType = refl
link-told lines _ = refl

kinds-more : (lines : List EventLine) (line : EventLine) (sort : Option TypeSort)
    → sort_of lines line.event ≡ sort → kinds_in (lines ++ line ∷ [])
    ≡ kinds_in lines ++ cond (option_map_or is_state sort false) (text_of line roles.Name ∷ []) []
kinds-more lines line sort is =
    map-filter_push (λ l. is_state_type l.event) (λ l. text_of l roles.Name) lines line
    ∙ ap (λ b. kinds_in lines ++ cond b (text_of line roles.Name ∷ []) [])
    (sym (state-told lines line.event) ∙ ap (λ o. option_map_or is_state o false) is)

link_kinds-more : (lines : List EventLine) (line : EventLine) (sort : Option TypeSort)
    → sort_of lines line.event ≡ sort → link_kinds_in (lines ++ line ∷ [])
    ≡ link_kinds_in lines ++ cond (option_map_or is_link sort false) (text_of line roles.Name ∷ []) []
link_kinds-more lines line sort is =
    map-filter_push (λ l. is_link_type l.event) (λ l. text_of l roles.Name) lines line
    ∙ ap (λ b. link_kinds_in lines ++ cond b (text_of line roles.Name ∷ []) [])
    (sym (link-told lines line.event) ∙ ap (λ o. option_map_or is_link o false) is)

-- ---- what a table stands for

-- a line that declares a type
pub types_taken : (lines : List EventLine) (line : EventLine) (sort : TypeSort) (old new : TypeTable)
    → AreTypes lines old → sort_of lines line.event ≡ Some sort
    → TakesType old new (rooted_entity line) sort → AreTypes (lines ++ line ∷ []) new
types_taken lines line sort old new are is takes =
    let types : types_in (lines ++ line ∷ []) ≡ types_in lines ++ record {
      entity = rooted_entity line;
      sort = sort;
    } ∷ [] = types-more lines line ∙ ap (λ o. types_in lines ++ declared_as line o) is in
    record {
      entities = takes.entities ∙ (ap (λ es. es ++ rooted_entity line ∷ []) are.entities
          ∙ (sym (map-append (λ t. t.entity) (types_in lines)
          (record { entity = rooted_entity line; sort = sort }
          ∷ [])) ∙ ap (map (λ t. t.entity)) (sym types)));
      named = takes.named;
      sorts = takes.sorts ∙ (ap (λ ss. ss ++ sort ∷ []) are.sorts
          ∙ (sym (map-append (λ t. t.sort) (types_in lines)
          (record { entity = rooted_entity line; sort = sort }
          ∷ [])) ∙ ap (map (λ t. t.sort)) (sym types)));
      kinds = takes.kinds ∙ (ap (λ ks. ks ++ cond (is_state sort) (text_of line roles.Name ∷ []) []) are.kinds
          ∙ sym (kinds-more lines line (Some sort) is));
      link_kinds = takes.link_kinds ∙ (ap (λ ks. ks ++ cond (is_link sort) (text_of line roles.Name ∷ []) [])
          are.link_kinds ∙ sym (link_kinds-more lines line (Some sort) is));
    }

-- a line that declares none
pub types_kept : (lines : List EventLine) (line : EventLine) (t : TypeTable) → AreTypes lines t
    → sort_of lines line.event ≡ None → AreTypes (lines ++ line ∷ []) t
types_kept lines line t are is =
    let types : types_in (lines ++ line ∷ []) ≡ types_in lines = types-more lines line
    ∙ (ap (λ o. types_in lines ++ declared_as line o) is ∙ append-nil (types_in lines)) in
    record {
      entities = are.entities ∙ ap (map (λ t. t.entity)) (sym types);
      named = are.named;
      sorts = are.sorts ∙ ap (map (λ t. t.sort)) (sym types);
      kinds = are.kinds ∙ (sym (append-nil (kinds_in lines)) ∙ sym (kinds-more lines line None is));
      link_kinds = are.link_kinds ∙ (sym (append-nil (link_kinds_in lines))
          ∙ sym (link_kinds-more lines line None is));
    }
