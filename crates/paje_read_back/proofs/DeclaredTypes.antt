-- The types that the lines of a canonical text declare, by the lines so far.
use Rattle.std.proofs.Common.{◌≡◌, ℕ, suc, ◌+◌, ◌<◌, ◌≤◌, ◌^◌, ◌||◌, List, [], ◌∷◌, ◌++◌, map, length}
use Rattle.std.proofs.Common.{filter_map, slice_get, count_by, Bool, true, false, cond, not}
use Rattle.std.proofs.Common.{Option, Some, None, refl, sym, ◌∙◌, ap, arith, codes}
use Rattle.std.specs.List.{position_from, range_with_len}
use Rattle.std.specs.Option.{option_map, option_and_then, option_or, option_to_list}
use Rattle.std.specs.Str.{bytes_eq}
use Rattle.std.proofs.lemmas.Bool.{true≢false, or_parts}
use Rattle.std.proofs.lemmas.List.{append-nil, length-map, map-append}
use Rattle.std.proofs.lemmas.List.FromFn.{length-map-range_with_len}
use Rattle.std.proofs.lemmas.List.Sums.{length-filter, sum_by_push, sum_by-append}
use Rattle.std.proofs.lemmas.Option.{slice_get-map}
use Rattle.list_lemmas.proofs.Places.{from-joined, from_range-none}
use Rattle.list_lemmas.proofs.Ranges.{two_ranges, two_ranges-first_get, two_ranges-first_more}
use Rattle.list_lemmas.proofs.Ranges.{two_ranges-length, two_ranges-second_get, two_ranges-second_more}
use Rattle.trace_base.specs.declared.limits.TheConstants.{MAX_TYPES}
use Rattle.paje_defs.specs.declared.event_name.EventName.{EventName}
use Rattle.paje_defs.specs.declared.event_name.EventName.TheVariants as events
use Rattle.paje_defs.specs.declared.role.Role.{Role}
use Rattle.paje_defs.specs.declared.role.Role.TheVariants as roles
use Rattle.paje_defs.specs.Refusals.{placed, when}
use Rattle.paje_defs.proofs.PlacedMore.{told-more}
use Rattle.paje_lines.specs.declared.type_sort.TypeSort.{TypeSort}
use Rattle.paje_lines.specs.declared.type_sort.TypeSort.TheVariants as sorts
use Rattle.paje_lines.specs.declared.what.What.TheVariants as what
use Rattle.paje_lines.specs.declared.model_fault.ModelFault.TheVariants.{WrongKind}
use Rattle.paje_lines.specs.EventLine.{EventLine, alias_of, text_of, is_link_type, is_plain_type}
use Rattle.paje_lines.specs.EventLine.{is_state_type}
use Rattle.paje_lines.specs.Found.{rooted}
use Rattle.paje_lines.specs.Types.{DeclaredType, is_container_type, kind_named, link_kind_named, link_number}
use Rattle.paje_lines.specs.Types.{link_types, root_type, rooted_entity, sort_of, state_number, state_types}
use Rattle.paje_lines.specs.Types.{type_at, type_entities, type_named, types_in}
use Rattle.paje_lines.specs.Reasons.{declared_types}
use Rattle.paje_lines.specs.Reasons.{event_reason, new_type_reason, sort_reason}
use Rattle.paje_lines.specs.Reasons.{type_reason}
use Rattle.paje_print.specs.WrittenNumbers.{link_type_alias, state_type_alias}
use Rattle.paje_read_back.specs.ToldLines.{link_type_told, process_type_told, state_type_told}
use Rattle.paje_read_back.proofs.DeclaredLines.{NoneIs, none-picked, none-weaker, told-same}
use Rattle.paje_read_back.proofs.NamesPlaces.{alias-new, found-by_alias, link_types-apart}
use Rattle.paje_read_back.proofs.NamesPlaces.{range-finds, range-new}
use Rattle.paje_read_back.proofs.NamesPlaces.{state_types-apart}
use Rattle.paje_read_back.proofs.NoReasons.{all_none, none-new}

-- ---- the types so far

abbrev type_aliases : ℕ → ℕ → List (List ℕ)
type_aliases i j = codes "0" ∷ codes "P" ∷ two_ranges state_type_alias link_type_alias i j

abbrev type_sorts : ℕ → ℕ → List TypeSort
type_sorts i j = sorts.Container ∷ sorts.Container ∷ two_ranges sorts.State sorts.Link i j

-- these lines declare the type of containers, and so many state types and link types
pub record TypesAre (before : List EventLine) (i j : ℕ) : Type 0 where
  pub aliases : map (λ e. e.alias) (type_entities before) ≡ type_aliases i j
  pub sorts : map (λ t. t.sort) (types_in before) ≡ type_sorts i j
  pub states : state_types before ≡ i
  pub links : link_types before ≡ j

-- ---- one more

types-more : (before : List EventLine) (line : EventLine) (d : DeclaredType)
    → type_at (record { before = before; line = line }) ≡ Some d
    → types_in (before ++ line ∷ []) ≡ types_in before ++ d ∷ []
types-more before line d is = ap (λ ts. root_type ∷ ts) (told-more type_at before line
    ∙ ap (λ o. filter_map type_at (placed before) ++ option_to_list o) is)

aliases-more : (before : List EventLine) (line : EventLine) (d : DeclaredType)
    → type_at (record { before = before; line = line }) ≡ Some d
    → map (λ e. e.alias) (type_entities (before ++ line ∷ []))
    ≡ map (λ e. e.alias) (type_entities before) ++ d.entity.alias ∷ []
aliases-more before line d is =
    ap (λ ts. map (λ e. e.alias) (map (λ t. t.entity) ts)) (types-more before line d is)
    ∙ (ap (map (λ e. e.alias)) (map-append (λ t. t.entity) (types_in before) (d ∷ []))
    ∙ map-append (λ e. e.alias) (type_entities before) (d.entity ∷ []))

sorts-more : (before : List EventLine) (line : EventLine) (d : DeclaredType)
    → type_at (record { before = before; line = line }) ≡ Some d
    → map (λ t. t.sort) (types_in (before ++ line ∷ [])) ≡ map (λ t. t.sort) (types_in before) ++ d.sort ∷ []
sorts-more before line d is = ap (map (λ t. t.sort)) (types-more before line d is)
    ∙ map-append (λ t. t.sort) (types_in before) (d ∷ [])

states-more : (before : List EventLine) (line : EventLine) (b : Bool) → is_state_type line.event ≡ b
    → state_types (before ++ line ∷ []) ≡ state_types before + cond b 1 0
states-more before line b is = sum_by_push (λ l. cond (is_state_type l.event) 1 0) before line
    ∙ ap (λ b. state_types before + cond b 1 0) is

links-more : (before : List EventLine) (line : EventLine) (b : Bool) → is_link_type line.event ≡ b
    → link_types (before ++ line ∷ []) ≡ link_types before + cond b 1 0
links-more before line b is = sum_by_push (λ l. cond (is_link_type l.event) 1 0) before line
    ∙ ap (λ b. link_types before + cond b 1 0) is

pub process-typed : (n : ℕ) → TypesAre (process_type_told n ∷ []) 0 0
process-typed n = record { aliases = refl; sorts = refl; states = refl; links = refl }

pub state-typed : (before : List EventLine) (i n : ℕ) (name : List ℕ) → TypesAre before i 0
    → TypesAre (before ++ state_type_told (i, name) n ∷ []) (i + 1) 0
state-typed before i n name are = record {
  aliases = aliases-more before line d refl ∙ (ap (λ xs. xs ++ state_type_alias i ∷ []) are.aliases
      ∙ ap (λ xs. codes "0" ∷ codes "P" ∷ xs) (two_ranges-first_more state_type_alias link_type_alias i));
  sorts = sorts-more before line d refl ∙ (ap (λ xs. xs ++ sorts.State (state_types before) ∷ []) are.sorts
      ∙ (ap (λ k. type_sorts i 0 ++ sorts.State k ∷ []) are.states
      ∙ ap (λ xs. sorts.Container ∷ sorts.Container ∷ xs) (two_ranges-first_more sorts.State sorts.Link i)));
  states = states-more before line true refl ∙ ap (λ n. n + 1) are.states;
  links = links-more before line false refl ∙ ap (λ n. n + 0) are.links;
}
  where
    line : EventLine
    line = state_type_told (i, name) n

    d : DeclaredType
    d = record { entity = rooted_entity line; sort = sorts.State (state_types before) }

pub link-typed : (before : List EventLine) (i j n : ℕ) (name : List ℕ) → TypesAre before i j
    → TypesAre (before ++ link_type_told (j, name) n ∷ []) i (j + 1)
link-typed before i j n name are = record {
  aliases = aliases-more before line d refl ∙ (ap (λ xs. xs ++ link_type_alias j ∷ []) are.aliases
      ∙ ap (λ xs. codes "0" ∷ codes "P" ∷ xs) (two_ranges-second_more state_type_alias link_type_alias i j));
  sorts = sorts-more before line d refl ∙ (ap (λ xs. xs ++ sorts.Link (link_types before) ∷ []) are.sorts
      ∙ (ap (λ k. type_sorts i j ++ sorts.Link k ∷ []) are.links
      ∙ ap (λ xs. sorts.Container ∷ sorts.Container ∷ xs) (two_ranges-second_more sorts.State sorts.Link i
      j)));
  states = states-more before line false refl ∙ (ap (λ n. n + 0) are.states ∙ omega arith);
  links = links-more before line true refl ∙ ap (λ n. n + 1) are.links;
}
  where
    line : EventLine
    line = link_type_told (j, name) n

    d : DeclaredType
    d = record { entity = rooted_entity line; sort = sorts.Link (link_types before) }

-- ---- lines that declare no type

abbrev pub declares_type : EventLine → Bool
declares_type line = is_plain_type line.event || is_link_type line.event

no_sort : (event : EventName) (before : List EventLine) → (is_plain_type event || is_link_type event) ≡ false
    → sort_of before event ≡ None
no_sort events.DefineContainerType before never = absurd (true≢false never)
no_sort events.DefineStateType before never = absurd (true≢false never)
no_sort events.DefineEventType before never = absurd (true≢false never)
no_sort events.DefineVariableType before never = absurd (true≢false never)
no_sort events.DefineLinkType before never = absurd (true≢false never)
no_sort _ before never = refl

no_state_type : (event : EventName) → (is_plain_type event || is_link_type event) ≡ false
    → is_state_type event ≡ false
no_state_type events.DefineStateType never = absurd (true≢false never)
no_state_type _ never = refl

types-same : (before more : List EventLine) → NoneIs declares_type more
    → types_in (before ++ more) ≡ types_in before
types-same before more none = ap (λ ts. root_type ∷ ts) (told-same type_at declares_type
    (λ before line never. ap (option_map (λ sort. record { entity = rooted_entity line; sort = sort }))
    (no_sort line.event before never)) before more none)

counts-same : (p : EventLine → Bool) (before more : List EventLine) → NoneIs p more
    → count_by p (before ++ more) ≡ count_by p before
counts-same p before more none =
    let joined = sum_by-append (λ l. cond (p l) 1 0) before more in
    let nothing = sym (length-filter p more) ∙ ap length (none-picked p more none) in
    omega (arith, joined, nothing)

pub types-kept : (before more : List EventLine) (i j : ℕ) → NoneIs declares_type more → TypesAre before i j
    → TypesAre (before ++ more) i j
types-kept before more i j none are = record {
  aliases = ap (λ ts. map (λ e. e.alias) (map (λ t. t.entity) ts)) (types-same before more none)
      ∙ are.aliases;
  sorts = ap (map (λ t. t.sort)) (types-same before more none) ∙ are.sorts;
  states = counts-same (λ l. is_state_type l.event) before more (none-weaker declares_type
      (λ l. is_state_type l.event) (λ l. no_state_type l.event) more none) ∙ are.states;
  links = counts-same (λ l. is_link_type l.event) before more (none-weaker declares_type
      (λ l. is_link_type l.event) (λ l never. (or_parts (is_plain_type l.event) (is_link_type l.event)
      never).1) more none) ∙ are.links;
}

-- ---- what a text finds

sort-at : (before : List EventLine) (text : List ℕ) (i j place : ℕ) (sort : TypeSort) → TypesAre before i j
    → position_from (bytes_eq (rooted text)) 0 (type_aliases i j) ≡ Some place
    → slice_get (type_sorts i j) place ≡ Some sort
    → option_map (λ t. t.sort) (type_named before text) ≡ Some sort
sort-at before text i j place sort are at got =
    ap (λ o. option_map (λ t. t.sort) (option_and_then (slice_get (types_in before)) o))
    (found-by_alias (type_entities before) (type_aliases i j) (rooted text) place are.aliases at)
    ∙ (sym (slice_get-map (λ t. t.sort) (types_in before) place)
    ∙ (ap (λ ss. slice_get ss place) are.sorts ∙ got))

number-of : (f : TypeSort → Option ℕ) (o : Option DeclaredType)
    → option_and_then (λ t. f t.sort) o ≡ option_and_then f (option_map (λ t. t.sort) o)
number-of f None = refl
number-of f (Some t) = refl

-- the type of containers
pub process-sort : (before : List EventLine) (i j : ℕ) → TypesAre before i j
    → option_map (λ t. t.sort) (type_named before (codes "P")) ≡ Some sorts.Container
process-sort before i j are = sort-at before (codes "P") i j 1 sorts.Container are refl refl

state-sort : (before : List EventLine) (i j k : ℕ) → TypesAre before i j → k < i → i ≤ 2 ^ 64
    → option_map (λ t. t.sort) (type_named before (state_type_alias k)) ≡ Some (sorts.State k)
state-sort before i j k are within below = sort-at before (state_type_alias k) i j (suc (suc k))
    (sorts.State k) are
    (from-joined (bytes_eq (state_type_alias k)) 2 (2 + length (map state_type_alias (range_with_len 0 i)))
    (map state_type_alias (range_with_len 0 i)) (map link_type_alias (range_with_len 0 j)) refl
    ∙ ap (λ o. option_or o (position_from (bytes_eq (state_type_alias k))
    (2 + length (map state_type_alias (range_with_len 0 i))) (map link_type_alias (range_with_len 0 j))))
    (range-finds (2 ^ 64) state_type_alias state_types-apart 0 i k 2 (suc (suc k)) (omega arith)
    (omega (arith, within)) (omega (arith, below)) (omega arith)))
    (two_ranges-first_get sorts.State sorts.Link i j k within)

pub link-sort : (before : List EventLine) (i j k : ℕ) → TypesAre before i j → k < j → j ≤ 2 ^ 64
    → option_map (λ t. t.sort) (type_named before (link_type_alias k)) ≡ Some (sorts.Link k)
link-sort before i j k are within below = sort-at before (link_type_alias k) i j (suc (suc (i + k)))
    (sorts.Link k) are
    (from-joined (bytes_eq (link_type_alias k)) 2 (2 + i)
    (map state_type_alias (range_with_len 0 i)) (map link_type_alias (range_with_len 0 j))
    (ap (λ n. 2 + n) (length-map-range_with_len state_type_alias 0 i))
    ∙ (ap (λ o. option_or o (position_from (bytes_eq (link_type_alias k)) (2 + i)
    (map link_type_alias (range_with_len 0 j))))
    (from_range-none (bytes_eq (link_type_alias k)) state_type_alias 0 i 2 (λ m from below. refl))
    ∙ range-finds (2 ^ 64) link_type_alias link_types-apart 0 j k (2 + i) (suc (suc (i + k))) (omega arith)
    (omega (arith, within)) (omega (arith, below)) (omega arith)))
    (two_ranges-second_get sorts.State sorts.Link i j k within)

pub kind-found : (before : List EventLine) (i j k : ℕ) → TypesAre before i j → k < i → i ≤ 2 ^ 64
    → kind_named before (state_type_alias k) ≡ Some k
kind-found before i j k are within below =
    number-of state_number (type_named before (state_type_alias k))
    ∙ ap (option_and_then state_number) (state-sort before i j k are within below)

pub link_kind-found : (before : List EventLine) (i j k : ℕ) → TypesAre before i j → k < j → j ≤ 2 ^ 64
    → link_kind_named before (link_type_alias k) ≡ Some k
link_kind-found before i j k are within below =
    number-of link_number (type_named before (link_type_alias k))
    ∙ ap (option_and_then link_number) (link-sort before i j k are within below)

-- ---- no line that declares a type is refused

-- the role names a type of the wanted sort
pub of-sort : (wanted : TypeSort → Bool) (before : List EventLine) (line : EventLine) (role : Role)
    (sort : TypeSort)
    → option_map (λ t. t.sort) (type_named before (text_of line role)) ≡ Some sort → wanted sort ≡ true
    → type_reason wanted before line role ≡ None
of-sort wanted before line role sort is right = ap (sort_reason wanted role) is
    ∙ ap (λ b. when (not b) (WrongKind role)) right

new-type : (before : List EventLine) (line : EventLine) (i j : ℕ) → TypesAre before i j
    → position_from (bytes_eq (rooted (alias_of line))) 0 (type_aliases i j) ≡ None → 1 + i + j < MAX_TYPES
    → new_type_reason before line ≡ None
new-type before line i j are new below =
    let listed : length (map (λ t. t.sort) (types_in before)) ≡ length (type_sorts i j)
    = ap length are.sorts in
    let mapped = length-map (types_in before) (λ t. t.sort) in
    let ranges = two_ranges-length sorts.State sorts.Link i j in
    none-new what.Types (type_entities before) (rooted (alias_of line)) (declared_types before)
    (alias-new (type_entities before) (type_aliases i j) (rooted (alias_of line)) are.aliases new)
    (omega (arith, listed, mapped, ranges, below))

pub state_type-unrefused : (before : List EventLine) (i n : ℕ) (name : List ℕ) → TypesAre before i 0
    → 1 + i < MAX_TYPES → event_reason before (state_type_told (i, name) n) ≡ None
state_type-unrefused before i n name are below =
    all_none (type_reason is_container_type before line roles.Kind ∷ new_type_reason before line ∷ []) (
      of-sort is_container_type before line roles.Kind sorts.Container (process-sort before i 0 are) refl,
      (new-type before line i 0 are new (omega (arith, below)), tt),
    )
  where
    line : EventLine
    line = state_type_told (i, name) n

    new : position_from (bytes_eq (state_type_alias i)) 0 (type_aliases i 0) ≡ None
    new = ap (position_from (bytes_eq (state_type_alias i)) 2)
        (append-nil (map state_type_alias (range_with_len 0 i)))
        ∙ range-new (2 ^ 64) state_type_alias state_types-apart 0 i i 2 (omega arith) (omega (arith, below))

pub link_type-unrefused : (before : List EventLine) (i j n : ℕ) (name : List ℕ) → TypesAre before i j
    → 1 + i + j < MAX_TYPES → event_reason before (link_type_told (j, name) n) ≡ None
link_type-unrefused before i j n name are below =
    all_none (type_reason is_container_type before line roles.Kind
    ∷ type_reason is_container_type before line roles.FromKind
    ∷ type_reason is_container_type before line roles.ToKind ∷ new_type_reason before line ∷ []) (
      of_process roles.Kind refl,
      (
        of_process roles.FromKind refl,
        (
          of_process roles.ToKind refl,
          (new-type before line i j are new below, tt),
        ),
      ),
    )
  where
    line : EventLine
    line = link_type_told (j, name) n

    of_process : (role : Role) → text_of line role ≡ codes "P"
        → type_reason is_container_type before line role ≡ None
    of_process role is = of-sort is_container_type before line role sorts.Container
        (ap (λ text. option_map (λ t. t.sort) (type_named before text)) is ∙ process-sort before i j are) refl

    new : position_from (bytes_eq (link_type_alias j)) 0 (type_aliases i j) ≡ None
    new = from-joined (bytes_eq (link_type_alias j)) 2 (2 + i)
        (map state_type_alias (range_with_len 0 i)) (map link_type_alias (range_with_len 0 j))
        (ap (λ n. 2 + n) (length-map-range_with_len state_type_alias 0 i))
        ∙ (ap (λ o. option_or o (position_from (bytes_eq (link_type_alias j)) (2 + i)
        (map link_type_alias (range_with_len 0 j))))
        (from_range-none (bytes_eq (link_type_alias j)) state_type_alias 0 i 2 (λ m from below. refl))
        ∙ range-new (2 ^ 64) link_type_alias link_types-apart 0 j j (2 + i) (omega arith)
        (omega (arith, below)))
