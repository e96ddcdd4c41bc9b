-- What a text finds is one of those that are there.
use Rattle.std.proofs.Common.{◌≡◌, ℕ, ◌+◌, ◌<◌, ◌≤◌, Bool, true, false, cond, List, [], ◌∷◌, ◌++◌}
use Rattle.std.proofs.Common.{length}
use Rattle.std.proofs.Common.{filter, filter_map, position, All, arith, option_to_list, option_and_then}
use Rattle.std.proofs.Common.{Option, Some, None, IfSome, sym, ap, subst, not, slice_get}
use Rattle.std.specs.Option.{option_map, option_zip}
use Rattle.std.proofs.lemmas.List.{length-map}
use Rattle.std.proofs.lemmas.List.Elements.{All-append, All-cons, All-filter, All-head, All-nil, All-tail}
use Rattle.std.proofs.lemmas.List.Elements.{All-weaker}
use Rattle.std.proofs.lemmas.List.Sums.{sum_by-append}
use Rattle.list_lemmas.proofs.All.{All-gets, All-option_to_list}
use Rattle.list_lemmas.proofs.Fronts.{each_front}
use Rattle.list_lemmas.proofs.Options.{or_both}
use Rattle.list_lemmas.proofs.Places.{position-within}
use Rattle.trace_base.specs.declared.names.Track.{Track}
use Rattle.paje_defs.specs.declared.event_name.EventName.{EventName}
use Rattle.paje_defs.specs.declared.event_name.EventName.TheVariants as events
use Rattle.paje_defs.specs.declared.role.Role.TheVariants as roles
use Rattle.paje_defs.specs.Refusals.{placed}
use Rattle.paje_lines.specs.EventLine.{EventLine, text_of, is_state_type, is_state_event}
use Rattle.paje_lines.specs.EventLine.{defines_value}
use Rattle.paje_lines.specs.Found.{Entity, distinct_by, entity_place, has_alias, has_name, rooted}
use Rattle.paje_lines.specs.Types.{DeclaredType, kind_named, root_type, sort_of, state_number, state_types}
use Rattle.paje_lines.specs.Types.{type_at, type_entities, types_in, rooted_entity}
use Rattle.paje_lines.specs.Containers.{containers_in, container_entities, container_named}
use Rattle.paje_lines.specs.States.{is_same, track_at, tracks_in}
use Rattle.paje_lines.specs.Values.{DeclaredValue, entity_of, value_at, values_in}
use Rattle.paje_lines.proofs.Containers.{containers_kept}
use Rattle.paje_defs.proofs.PlacedMore.{told-more}

-- ---- places in lists

pub entity-within : (es : List Entity) (text : List ℕ) → IfSome (entity_place es text) (λ j. j < length es)
entity-within es text = or_both (λ j. j < length es) (position (has_alias text) es)
    (position (has_name text) es)
    (position-within (has_alias text) es) (position-within (has_name text) es)

pub container-within : (lines : List EventLine) (text : List ℕ)
    → IfSome (container_named lines text) (λ c. c < length (containers_in lines))
container-within lines text = subst (λ n. IfSome (container_named lines text) (λ c. c < n))
    (length-map (containers_in lines) (λ c. c.entity))
    (entity-within (container_entities lines) (rooted text))

-- ---- tracks

distinct-all : {X : Type 0} (P : X → Type 0) (same : X → X → Bool) (xs : List X) → All P xs
    → All P (distinct_by same xs)
distinct-all P same [] all = all
distinct-all P same (x ∷ xs) all = All-cons P x (filter (λ y. not (same x y)) (distinct_by same xs))
    (All-head P x xs all) (All-filter (λ y. not (same x y)) P (distinct_by same xs)
    (distinct-all P same xs (All-tail P x xs all)))

track-within : (n : ℕ) (b : Bool) (kind container : Option ℕ) → IfSome container (λ c. c < n)
    → IfSome (cond b (option_map (λ both. record { container = both.1; kind = both.0 })
    (option_zip kind container)) None) (λ (t : Track). t.container < n)
track-within n false kind container is = tt
track-within n true None container is = tt
track-within n true (Some k) None is = tt
track-within n true (Some k) (Some c) is = is

abbrev Within : ℕ → Track → Type 0
Within n t = t.container < n

abbrev TracksWithin : List EventLine → Type 0
TracksWithin lines = All (Within (length (containers_in lines))) (filter_map track_at (placed lines))

within-more : (lines : List EventLine) (line : EventLine) → TracksWithin lines
    → TracksWithin (lines ++ line ∷ [])
within-more lines line all =
    let n = length (containers_in lines) in
    let m = length (containers_in (lines ++ line ∷ [])) in
    let grows : n ≤ m = containers_kept lines line in
    let told = track_at (record { before = lines; line = line }) in
    subst (All (Within m)) (sym (told-more track_at lines line))
    (All-weaker (Within n) (Within m) (λ t is. omega arith)
    (filter_map track_at (placed lines) ++ option_to_list told)
    (All-append (Within n) (filter_map track_at (placed lines)) (option_to_list told) all
    (All-option_to_list (Within n) told (track-within n (is_state_event line.event)
    (kind_named lines (text_of line roles.Kind)) (container_named lines (text_of line roles.Holder))
    (container-within lines (text_of line roles.Holder))))))

-- the container of each track is there
pub tracks-within : (lines : List EventLine)
    → All (λ t. t.container < length (containers_in lines)) (tracks_in lines)
tracks-within lines = distinct-all (Within (length (containers_in lines))) is_same
    (filter_map track_at (placed lines)) (each_front TracksWithin within-more (All-nil (Within 1)) lines)

-- ---- state types

abbrev KindWithin : ℕ → DeclaredType → Type 0
KindWithin n t = IfSome (state_number t.sort) (λ k. k < n)

abbrev KindsWithin : List EventLine → Type 0
KindsWithin lines = All (KindWithin (state_types lines)) (types_in lines)

state_types-more : (lines : List EventLine) (line : EventLine) → state_types (lines ++ line ∷ [])
    ≡ state_types lines + (0 + cond (is_state_type line.event) 1 0)
state_types-more lines line = sum_by-append (λ l. cond (is_state_type l.event) 1 0) lines (line ∷ [])

kind-grows : (n m : ℕ) → n ≤ m → (t : DeclaredType) → KindWithin n t → KindWithin m t
kind-grows n m grows t is = by (state_number t.sort) is
  where
    by : (o : Option ℕ) → IfSome o (λ k. k < n) → IfSome o (λ k. k < m)
    by None is = tt
    by (Some k) is = omega arith

new_kind : (lines : List EventLine) (line : EventLine) (event : EventName)
    → IfSome (option_map (λ sort. record { entity = rooted_entity line; sort = sort })
    (sort_of lines event)) (KindWithin (state_types lines + (0 + cond (is_state_type event) 1 0)))
new_kind lines line events.DefineContainerType = tt
new_kind lines line events.DefineStateType = omega arith
new_kind lines line events.DefineEventType = tt
new_kind lines line events.DefineVariableType = tt
new_kind lines line events.DefineLinkType = tt
new_kind lines line _ = tt

kinds-more : (lines : List EventLine) (line : EventLine) → KindsWithin lines
    → KindsWithin (lines ++ line ∷ [])
kinds-more lines line all =
    let n = state_types lines in
    let m = state_types lines + (0 + cond (is_state_type line.event) 1 0) in
    let told = type_at (record { before = lines; line = line }) in
    let types : types_in (lines ++ line ∷ []) ≡ types_in lines ++ option_to_list told
    = ap (λ ts. root_type ∷ ts) (told-more type_at lines line) in
    subst (λ n. All (KindWithin n) (types_in (lines ++ line ∷ []))) (sym (state_types-more lines line))
    (subst (All (KindWithin m)) (sym types)
    (All-append (KindWithin m) (types_in lines) (option_to_list told)
    (All-weaker (KindWithin n) (KindWithin m) (kind-grows n m (omega arith)) (types_in lines) all)
    (All-option_to_list (KindWithin m) told (new_kind lines line line.event))))

pub kinds-within : (lines : List EventLine) → KindsWithin lines
kinds-within lines = each_front KindsWithin kinds-more (All-cons (KindWithin 0) root_type [] tt
    (All-nil (KindWithin 0))) lines

-- the number of the state type that a text finds
pub kind-within : (lines : List EventLine) (text : List ℕ)
    → IfSome (kind_named lines text) (λ k. k < state_types lines)
kind-within lines text = by (entity_place (type_entities lines) (rooted text))
  where
    number : (o : Option DeclaredType) → IfSome o (KindWithin (state_types lines))
        → IfSome (option_and_then (λ t. state_number t.sort) o) (λ k. k < state_types lines)
    number None is = tt
    number (Some t) is = is

    by : (place : Option ℕ) → IfSome (option_and_then (λ t. state_number t.sort)
        (option_and_then (slice_get (types_in lines)) place)) (λ k. k < state_types lines)
    by None = tt
    by (Some i) = number (slice_get (types_in lines) i) (All-gets (KindWithin (state_types lines))
        (types_in lines) i (kinds-within lines))

-- ---- values

abbrev ValueWithin : ℕ → DeclaredValue → Type 0
ValueWithin n v = v.kind < n

abbrev ValuesWithin : List EventLine → Type 0
ValuesWithin lines = All (ValueWithin (state_types lines)) (values_in lines)

value-within : (n : ℕ) (b : Bool) (kind : Option ℕ) (e : Entity) → IfSome kind (λ k. k < n)
    → IfSome (cond b (option_map (λ kind. record { kind = kind; entity = e }) kind) None) (ValueWithin n)
value-within n false kind e is = tt
value-within n true None e is = tt
value-within n true (Some k) e is = is

values-more : (lines : List EventLine) (line : EventLine) → ValuesWithin lines
    → ValuesWithin (lines ++ line ∷ [])
values-more lines line all =
    let n = state_types lines in
    let m = state_types lines + (0 + cond (is_state_type line.event) 1 0) in
    let told = value_at (record { before = lines; line = line }) in
    subst (λ n. All (ValueWithin n) (values_in (lines ++ line ∷ []))) (sym (state_types-more lines line))
    (subst (All (ValueWithin m)) (sym (told-more value_at lines line))
    (All-weaker (ValueWithin n) (ValueWithin m) (λ v is. omega arith)
    (values_in lines ++ option_to_list told) (All-append (ValueWithin n) (values_in lines)
    (option_to_list told) all (All-option_to_list (ValueWithin n) told (value-within n (defines_value
    line.event)
    (kind_named lines (text_of line roles.Kind)) (entity_of line)
    (kind-within lines (text_of line roles.Kind)))))))

-- the state type of each value is there
pub values-within : (lines : List EventLine) → All (λ v. v.kind < state_types lines) (values_in lines)
values-within lines = each_front ValuesWithin values-more (All-nil (ValueWithin 0)) lines
