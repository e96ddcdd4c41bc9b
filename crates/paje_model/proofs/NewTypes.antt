-- What is known after a line that declares a type.
use Rattle.std.proofs.Common.{◌≡◌, ℕ, ◌+◌, ◌-◌, ◌<◌, ◌≤◌, ◌^◌, ◌==◌, Bool, true, false, cond, List, [], ◌∷◌}
use Rattle.std.proofs.Common.{◌++◌, length, map}
use Rattle.std.proofs.Common.{filter, find, All, Option, Some, None, is_some, refl, sym, ap, ap₂, ◌∙◌}
use Rattle.std.proofs.Common.{true≢false}
use Rattle.std.proofs.Common.{arith}
use Rattle.std.specs.List.{range_with_len}
use Rattle.std.specs.Option.{option_map, option_map_or}
use Rattle.std.proofs.lemmas.Bool.{eqb-true}
use Rattle.std.proofs.lemmas.List.{append-nil, length-map}
use Rattle.std.proofs.lemmas.List.Elements.{All-head, All-tail}
use Rattle.std.proofs.lemmas.List.Sums.{length-filter}
use Rattle.std.proofs.lemmas.List.FromFn.{map-range_with_len_more}
use Rattle.paje_defs.specs.declared.event_name.EventName.{EventName}
use Rattle.paje_defs.specs.declared.event_name.EventName.TheVariants as events
use Rattle.paje_defs.specs.Refusals.{first_of}
use Rattle.paje_lines.specs.declared.model_fault.ModelFault.TheVariants.{DoubleAlias}
use Rattle.paje_lines.specs.declared.type_sort.TypeSort.{TypeSort}
use Rattle.paje_lines.specs.declared.what.What.TheVariants as what
use Rattle.paje_lines.specs.EventLine.{EventLine, alias_of, defines_value, is_link_event, is_state_type}
use Rattle.paje_lines.specs.EventLine.{is_link_type, is_plain_type, text_of}
use Rattle.paje_defs.specs.declared.role.Role.TheVariants as roles
use Rattle.paje_lines.specs.Found.{Entity, has_alias, rooted}
use Rattle.paje_lines.specs.Reasons.{alias_reason, declared_types, event_reason, full}
use Rattle.paje_lines.specs.Reasons.{define_reason, new_type_reason, reason_of}
use Rattle.paje_lines.specs.Types.{link_types, sort_of, state_number, state_types, type_entities, types_in}
use Rattle.paje_lines.specs.Values.{DeclaredValue, values_in, values_of}
use Rattle.paje_model.specs.declared.known.Known.{Known}
use Rattle.paje_model.specs.declared.value_table.ValueTable.{ValueTable}
use Rattle.paje_model.specs.EntityTable.{entities_in}
use Rattle.paje_model.specs.Known.{AreValues, IsKnown}
use Rattle.paje_model.specs.NewType.{AddsType}
use Rattle.paje_model.specs.ValueTable.{values_kept}
use Rattle.paje_lines.proofs.NoReason.{each_none, room}
use Rattle.paje_lines.proofs.StateTypes.{kinds_within, kinds-length, state_types-more}
use Rattle.paje_model.proofs.FoundPlaces.{values-within}
use Rattle.paje_model.proofs.KeptFacts.{links-kept, values-kept}
use Rattle.paje_model.proofs.KeptKnown.{IsApart, known-next}
use Rattle.paje_model.proofs.TypesSoFar.{state-told, types_taken}

-- ---- the reasons against it

pub taken_line : (o : Option Entity) → option_map DoubleAlias (option_map (λ e. e.line) o)
    ≡ option_map (λ e. DoubleAlias e.line) o
taken_line None = refl
taken_line (Some e) = refl

pub type-reason : (lines : List EventLine) (line : EventLine) (k : Known) (taken : Option ℕ) (count : ℕ)
    → IsKnown lines k → taken ≡ option_map (λ e. e.line) (find (has_alias (rooted (alias_of line)))
    (entities_in k.types.entities)) → count ≡ length k.types.sorts.items - 1
    → first_of (option_map DoubleAlias taken ∷ full what.Types count ∷ []) ≡ new_type_reason lines line
type-reason lines line k taken count known by_alias is =
    ap₂ (λ o n. first_of (o ∷ full what.Types n ∷ []))
    (ap (option_map DoubleAlias) (by_alias ∙ ap (λ es. option_map (λ e. e.line)
    (find (has_alias (rooted (alias_of line))) es)) known.types.entities)
    ∙ taken_line (find (has_alias (rooted (alias_of line))) (type_entities lines)))
    (is ∙ (ap (λ n. n - 1) (ap length known.types.sorts ∙ length-map (types_in lines) (λ t. t.sort))
    ∙ omega arith))

pub some_type : (lines : List EventLine) (k : Known) → IsKnown lines k → 1 ≤ length k.types.sorts.items
some_type lines k known =
    let is = ap length known.types.sorts ∙ length-map (types_in lines) (λ t. t.sort) in
    omega (arith, is)

pub nothing_taken : (o : Option Entity) → option_map (λ e. DoubleAlias e.line) o ≡ None → o ≡ None
nothing_taken None e = refl
nothing_taken (Some t) e = absurd (true≢false (ap is_some e))

-- where there is none, its alias is new
pub new-alias : (lines : List EventLine) (line : EventLine) (k : Known) → IsKnown lines k
    → new_type_reason lines line ≡ None
    → find (has_alias (rooted (alias_of line))) (entities_in k.types.entities) ≡ None
new-alias lines line k known none = ap (find (has_alias (rooted (alias_of line)))) known.types.entities
    ∙ nothing_taken (find (has_alias (rooted (alias_of line))) (type_entities lines))
    (each_none (alias_reason (type_entities lines) (rooted (alias_of line))
    ∷ full what.Types (declared_types lines) ∷ []) none).0

-- and there is room
pub new-room : (lines : List EventLine) (line : EventLine) (k : Known) → IsKnown lines k
    → new_type_reason lines line ≡ None → length (entities_in k.types.entities) < 2 ^ 32
new-room lines line k known none =
    let below = room what.Types (declared_types lines)
    (each_none (alias_reason (type_entities lines) (rooted (alias_of line))
    ∷ full what.Types (declared_types lines) ∷ []) none).1.0 in
    let is = ap length known.types.entities ∙ length-map (types_in lines) (λ t. t.entity) in
    omega (arith, below, is)

-- ---- its sort

pub kinds-fit : (lines : List EventLine) (k : Known) → IsKnown lines k
    → length k.types.kinds.items + length k.types.link_kinds.items < 2 ^ 32
kinds-fit lines k known =
    let within = kinds_within lines known.unrefused in
    let kinds = ap length known.types.kinds in
    let link_kinds = ap length known.types.link_kinds in
    omega (arith, within, kinds, link_kinds)

pub kinds-counted : (lines : List EventLine) (k : Known) → IsKnown lines k
    → length k.types.kinds.items ≡ state_types lines
kinds-counted lines k known = ap length known.types.kinds ∙ kinds-length lines

pub link_kinds-counted : (lines : List EventLine) (k : Known) → IsKnown lines k
    → length k.types.link_kinds.items ≡ link_types lines
link_kinds-counted lines k known = ap length known.types.link_kinds
    ∙ (length-map (filter (λ line. is_link_type line.event) lines) (λ line. text_of line roles.Name)
    ∙ length-filter (λ line. is_link_type line.event) lines)

-- ---- the values

none_at : (n : ℕ) (vs : List DeclaredValue) → All (λ v. v.kind < n) vs → filter (λ v. v.kind == n) vs ≡ []
none_at n [] all = refl
none_at n (v ∷ vs) all = by (v.kind == n) refl (none_at n vs (All-tail (λ v. v.kind < n) v vs all))
  where
    below : v.kind < n
    below = All-head (λ v. v.kind < n) v vs all

    by : (b : Bool) → (v.kind == n) ≡ b → filter (λ v. v.kind == n) vs ≡ []
        → cond b (v ∷ filter (λ v. v.kind == n) vs) (filter (λ v. v.kind == n) vs) ≡ []
    by true e none = absurd (omega (arith, below, eqb-true v.kind n e))
    by false e none = none

none-yet : (lines : List EventLine) → values_of lines (state_types lines) ≡ []
none-yet lines = ap (map (λ v. v.entity)) (none_at (state_types lines) (values_in lines)
    (values-within lines))

more-kinds : (f : ℕ → List Entity) (n : ℕ) (b : Bool) → f n ≡ []
    → map f (range_with_len 0 (n + cond b 1 0)) ≡ map f (range_with_len 0 n) ++ cond b ([] ∷ []) []
more-kinds f n true none = map-range_with_len_more f 0 n n (omega arith)
    ∙ ap (λ es. map f (range_with_len 0 n) ++ es ∷ []) none
more-kinds f n false none = ap (λ m. map f (range_with_len 0 m)) (no_more n)
    ∙ sym (append-nil (map f (range_with_len 0 n)))
  where
    no_more : (n : ℕ) → n + 0 ≡ n
    no_more n = omega arith

values-taken : (lines : List EventLine) (line : EventLine) (old new : ValueTable) (b : Bool)
    → AreValues lines old → defines_value line.event ≡ false → is_state_type line.event ≡ b
    → values_kept new ≡ values_kept old ++ cond b ([] ∷ []) []
    → values_kept new ≡ map (values_of (lines ++ line ∷ [])) (range_with_len 0 (state_types (lines ++ line ∷
    [])))
values-taken lines line old new b are never is takes =
    takes ∙ (ap (λ vs. vs ++ cond b ([] ∷ []) []) are.values
    ∙ (sym (more-kinds (values_of lines) (state_types lines) b (none-yet lines))
    ∙ (ap (λ n. map (values_of lines) (range_with_len 0 n)) (sym (state_types-more lines line
    ∙ ap (λ b. state_types lines + cond b 1 0) is))
    ∙ ap (λ vs. map (λ kind. map (λ v. v.entity) (filter (λ v. v.kind == kind) vs))
    (range_with_len 0 (state_types (lines ++ line ∷ [])))) (sym (values-kept lines line never)))))

-- ---- what is known after it

record IsTyped (event : EventName) : Type 0 where
  pub apart : IsApart event
  pub values : defines_value event ≡ false
  pub links : is_link_event event ≡ false

is_typed : (lines : List EventLine) (event : EventName) → is_some (sort_of lines event) ≡ true → IsTyped event
is_typed lines events.DefineContainerType is = record {
  apart = record {
    states = refl;
    creates_none = refl;
    destroys_none = refl;
  };
  values = refl;
  links = refl;
}
is_typed lines events.DefineStateType is = record {
  apart = record {
    states = refl;
    creates_none = refl;
    destroys_none = refl;
  };
  values = refl;
  links = refl;
}
is_typed lines events.DefineEventType is = record {
  apart = record {
    states = refl;
    creates_none = refl;
    destroys_none = refl;
  };
  values = refl;
  links = refl;
}
is_typed lines events.DefineVariableType is = record {
  apart = record {
    states = refl;
    creates_none = refl;
    destroys_none = refl;
  };
  values = refl;
  links = refl;
}
is_typed lines events.DefineLinkType is = record {
  apart = record {
    states = refl;
    creates_none = refl;
    destroys_none = refl;
  };
  values = refl;
  links = refl;
}
is_typed lines _ is = absurd (true≢false (sym is))

pub known-typed : (lines : List EventLine) (line : EventLine) (sort : TypeSort) (old new : Known)
    → IsKnown lines old → sort_of lines line.event ≡ Some sort → event_reason lines line ≡ None
    → AddsType line sort old new → IsKnown (lines ++ line ∷ []) new
known-typed lines line sort old new known is none adds =
    let facts : IsTyped line.event = is_typed lines line.event (ap is_some is) in
    known-next lines line old new known none facts.apart (record {
      types = types_taken lines line sort old.types new.types known.types is adds.types;
      values = record {
        values = values-taken lines line old.values new.values (is_some (state_number sort)) known.values
            facts.values (sym (state-told lines line.event)
            ∙ ap (λ o. option_map_or (λ sort. is_some (state_number sort)) o false) is) adds.values;
        named = adds.named;
        count = adds.count ∙ (known.values.count ∙ sym (ap length (values-kept lines line facts.values)));
      };
      links = adds.links ∙ (known.links ∙ sym (links-kept lines line facts.links));
    }) (record {
      containers = adds.containers;
      functions = adds.functions;
      tracks = adds.tracks;
      states = adds.states;
    })

-- ---- the reasons of its events

pub plain-reason : (lines : List EventLine) (line : EventLine) (event : EventName)
    → is_plain_type event ≡ true → reason_of event lines line ≡ define_reason lines line
plain-reason lines line events.DefineContainerType is = refl
plain-reason lines line events.DefineStateType is = refl
plain-reason lines line events.DefineEventType is = refl
plain-reason lines line events.DefineVariableType is = refl
plain-reason lines line _ is = absurd (true≢false (sym is))
