-- What is known after a line that defines a value.
use Rattle.std.proofs.Common.{◌≡◌, ℕ, ◌+◌, ◌<◌, ◌^◌, ◌==◌, Bool, true, false, cond, List, [], ◌∷◌, ◌++◌}
use Rattle.std.proofs.Common.{length}
use Rattle.std.proofs.Common.{map, filter, find, set, get_or, slice_get, Option, Some, None}
use Rattle.std.proofs.Common.{refl, sym}
use Rattle.std.proofs.Common.{ap, ap₂, subst, ◌∙◌, arith, option_to_list, length-append}
use Rattle.std.specs.List.{range_with_len}
use Rattle.std.specs.Option.{option_map, option_map_or}
use Rattle.std.proofs.lemmas.Bool.{eqb-false, eqb-true}
use Rattle.std.proofs.lemmas.List.{append-nil, ext_get_or, get_or-set_other, get_or-set_same, length-map}
use Rattle.std.proofs.lemmas.List.{map-append}
use Rattle.std.proofs.lemmas.List.{length-set}
use Rattle.std.proofs.lemmas.List.Elements.{filter-append}
use Rattle.std.proofs.lemmas.List.FromFn.{get_or-map-range_with_len, length-map-range_with_len}
use Rattle.std.proofs.lemmas.List.Sums.{count_by-le-length, length-filter}
use Rattle.std.proofs.lemmas.Option.{slice_get-get_or, slice_get-map}
use Rattle.list_lemmas.proofs.Filters.{count-kept}
use Rattle.paje_defs.specs.declared.event_name.EventName.TheVariants as events
use Rattle.paje_defs.specs.declared.role.Role.TheVariants as roles
use Rattle.paje_defs.specs.Refusals.{first_of}
use Rattle.paje_lines.specs.declared.model_fault.ModelFault.TheVariants.{DoubleAlias}
use Rattle.paje_lines.specs.declared.what.What.TheVariants as what
use Rattle.paje_lines.specs.EventLine.{EventLine, alias_of, defines_value, is_link_event, is_state_type}
use Rattle.paje_lines.specs.EventLine.{text_of}
use Rattle.paje_lines.specs.Found.{Entity, has_alias}
use Rattle.paje_lines.specs.Reasons.{alias_reason, full, new_value_reason, reason_of, value_reason}
use Rattle.paje_lines.specs.Types.{kind_named, sort_of, state_types}
use Rattle.paje_lines.specs.Values.{DeclaredValue, entity_of, value_at, values_in, values_of}
use Rattle.paje_model.specs.declared.known.Known.{Known}
use Rattle.paje_model.specs.declared.value_table.ValueTable.{ValueTable}
use Rattle.paje_model.specs.EntityTable.{entities_in}
use Rattle.paje_model.specs.Known.{AreValues, IsKnown}
use Rattle.paje_model.specs.ValueTable.{AreNamed, values_at, values_kept}
use Rattle.paje_defs.proofs.PlacedMore.{told-more}
use Rattle.paje_lines.proofs.NoReason.{each_none, room}
use Rattle.paje_lines.proofs.StateTypes.{kind_exists}
use Rattle.paje_model.proofs.KeptFacts.{AreValues-untold, links-kept}
use Rattle.paje_model.proofs.KeptKnown.{IsApart, known-next}
use Rattle.paje_model.proofs.TypesSoFar.{types_kept}
use Rattle.paje_model.proofs.NewTypes.{nothing_taken, taken_line}

-- ---- the values of one state type

some_at : (o : Option (List Entity)) (es : List Entity) → o ≡ Some es → option_map_or (λ x. x) o [] ≡ es
some_at o es is = ap (λ o. option_map_or (λ x. x) o []) is

split-map : {X : Type 0} (f : X → List Entity) (o : Option X) → option_map_or f o []
    ≡ option_map_or (λ x. x) (option_map f o) []
split-map f None = refl
split-map f (Some x) = refl

pub values-at : (lines : List EventLine) (t : ValueTable) (kind : ℕ) → AreValues lines t
    → kind < state_types lines → values_at t kind ≡ values_of lines kind
values-at lines t kind are within =
    let all = map (values_of lines) (range_with_len 0 (state_types lines)) in
    let fits : kind < length all = subst (λ n. kind < n)
    (sym (length-map-range_with_len (values_of lines) 0 (state_types lines))) within in
    split-map entities_in (slice_get t.of_kinds.items kind)
    ∙ some_at (option_map entities_in (slice_get t.of_kinds.items kind)) (values_of lines kind)
    (sym (slice_get-map entities_in t.of_kinds.items kind) ∙ (ap (λ es. slice_get es kind) are.values
    ∙ (slice_get-get_or all kind [] fits
    ∙ ap Some (get_or-map-range_with_len (values_of lines) 0 (state_types lines) kind kind [] within
    (omega arith)))))

pub kinds-there : (lines : List EventLine) (t : ValueTable) (text : List ℕ) (kind : ℕ) → AreValues lines t
    → kind_named lines text ≡ Some kind → kind < length (values_kept t)
kinds-there lines t text kind are is = subst (λ es. kind < length es) (sym are.values)
    (subst (λ n. kind < n) (sym (length-map-range_with_len (values_of lines) 0 (state_types lines)))
    (kind_exists lines text kind is))

-- ---- the reasons against it

pub value-reason : (lines : List EventLine) (line : EventLine) (k : Known) (kind : ℕ) (taken : Option ℕ)
    (count : ℕ) → IsKnown lines k → kind_named lines (text_of line roles.Kind) ≡ Some kind
    → taken ≡ option_map (λ e. e.line) (find (has_alias (alias_of line)) (values_at k.values kind))
    → count ≡ k.values.count
    → first_of (option_map DoubleAlias taken ∷ full what.Values count ∷ []) ≡ new_value_reason lines line kind
value-reason lines line k kind taken count known named by_alias is =
    ap₂ (λ o n. first_of (o ∷ full what.Values n ∷ []))
    (ap (option_map DoubleAlias) (by_alias ∙ ap (λ es. option_map (λ e. e.line)
    (find (has_alias (alias_of line)) es))
    (values-at lines k.values kind known.values (kind_exists lines (text_of line roles.Kind) kind named)))
    ∙ taken_line (find (has_alias (alias_of line)) (values_of lines kind)))
    (is ∙ known.values.count)

pub value-alias : (lines : List EventLine) (line : EventLine) (k : Known) (kind : ℕ) → IsKnown lines k
    → kind_named lines (text_of line roles.Kind) ≡ Some kind → new_value_reason lines line kind ≡ None
    → find (has_alias (alias_of line)) (values_at k.values kind) ≡ None
value-alias lines line k kind known named none = ap (find (has_alias (alias_of line)))
    (values-at lines k.values kind known.values (kind_exists lines (text_of line roles.Kind) kind named))
    ∙ nothing_taken (find (has_alias (alias_of line)) (values_of lines kind))
    (each_none (alias_reason (values_of lines kind) (alias_of line)
    ∷ full what.Values (length (values_in lines)) ∷ []) none).0

pub value-room : (lines : List EventLine) (line : EventLine) (k : Known) (kind : ℕ) → IsKnown lines k
    → kind_named lines (text_of line roles.Kind) ≡ Some kind → new_value_reason lines line kind ≡ None
    → (length (values_at k.values kind) < 2 ^ 32) × (k.values.count + 1 < 2 ^ 32)
value-room lines line k kind known named none =
    let below = room what.Values (length (values_in lines))
    (each_none (alias_reason (values_of lines kind) (alias_of line)
    ∷ full what.Values (length (values_in lines)) ∷ []) none).1.0 in
    let at = ap length (values-at lines k.values kind known.values
    (kind_exists lines (text_of line roles.Kind) kind named)) in
    let some = length-map (filter (λ v. v.kind == kind) (values_in lines)) (λ v. v.entity) in
    let counted = length-filter (λ v. v.kind == kind) (values_in lines) in
    let fewer = count_by-le-length (λ v. v.kind == kind) (values_in lines) in
    let is = known.values.count in
    (omega (arith, below, at, some, counted, fewer), omega (arith, below, is))

-- ---- the values after it

one_added : (f g : ℕ → List Entity) (n kind : ℕ) (e : Entity) → kind < n
    → ((k : ℕ) → g k ≡ f k ++ cond (kind == k) (e ∷ []) [])
    → set (map f (range_with_len 0 n)) kind (f kind ++ e ∷ []) ≡ map g (range_with_len 0 n)
one_added f g n kind e within more = ext_get_or [] (set all kind (f kind ++ e ∷ []))
    (map g (range_with_len 0 n)) lengths (λ i fits. by (kind == i) i refl fits)
  where
    all : List (List Entity)
    all = map f (range_with_len 0 n)

    lengths : length (set all kind (f kind ++ e ∷ [])) ≡ length (map g (range_with_len 0 n))
    lengths = length-set all kind (f kind ++ e ∷ []) ∙ (length-map-range_with_len f 0 n
        ∙ sym (length-map-range_with_len g 0 n))

    below : (i : ℕ) → i < length (set all kind (f kind ++ e ∷ [])) → i < n
    below i fits = subst (λ m. i < m) (length-set all kind (f kind ++ e ∷ [])
        ∙ length-map-range_with_len f 0 n) fits

    is_at : (i : ℕ) → i < n → (b : Bool) → (kind == i) ≡ b
        → get_or (map g (range_with_len 0 n)) i [] ≡ f i ++ cond b (e ∷ []) []
    is_at i fits b is = get_or-map-range_with_len g 0 n i i [] fits (omega arith)
        ∙ (more i ∙ ap (λ b. f i ++ cond b (e ∷ []) []) is)

    by : (b : Bool) (i : ℕ) → (kind == i) ≡ b → i < length (set all kind (f kind ++ e ∷ []))
        → get_or (set all kind (f kind ++ e ∷ [])) i [] ≡ get_or (map g (range_with_len 0 n)) i []
    by true i is fits =
        let same : kind ≡ i = eqb-true kind i is in
        ap (λ i. get_or (set all kind (f kind ++ e ∷ [])) i []) (sym same)
        ∙ (get_or-set_same all kind (f kind ++ e ∷ []) [] (subst (λ m. kind < m)
        (sym (length-map-range_with_len f 0 n)) within)
        ∙ (ap (λ k. f k ++ e ∷ []) same ∙ sym (is_at i (below i fits) true is)))
    by false i is fits =
        get_or-set_other all kind i (f kind ++ e ∷ []) [] (λ same. eqb-false kind i is (sym same))
        ∙ (get_or-map-range_with_len f 0 n i i [] (below i fits) (omega arith)
        ∙ (sym (append-nil (f i)) ∙ sym (is_at i (below i fits) false is)))

picked : (vs : List DeclaredValue) (kind k : ℕ) (e : Entity)
    → map (λ v. v.entity) (filter (λ v. v.kind == k) (vs ++ record { kind = kind; entity = e } ∷ []))
    ≡ map (λ v. v.entity) (filter (λ v. v.kind == k) vs) ++ cond (kind == k) (e ∷ []) []
picked vs kind k e =
    ap (map (λ v. v.entity)) (filter-append (λ v. v.kind == k) vs (record { kind = kind; entity = e } ∷ []))
    ∙ (map-append (λ v. v.entity) (filter (λ v. v.kind == k) vs)
    (cond (kind == k) (record { kind = kind; entity = e } ∷ []) [])
    ∙ ap (λ es. map (λ v. v.entity) (filter (λ v. v.kind == k) vs) ++ es) (by (kind == k)))
  where
    by : (b : Bool) → map (λ (v : DeclaredValue). v.entity)
        (cond b (record { kind = kind; entity = e } ∷ []) []) ≡ cond b (e ∷ []) []
    by true = refl
    by false = refl

-- what such a line adds
pub record AddsValue (line : EventLine) (kind : ℕ) (old new : ValueTable) : Type 0 where
  pub values : values_kept new ≡ set (values_kept old) kind (values_at old kind ++ entity_of line ∷ [])
  pub named : AreNamed new
  pub count : new.count ≡ old.count + 1

pub values-added : (lines : List EventLine) (line : EventLine) (kind : ℕ) (old new : ValueTable)
    → AreValues lines old → line.event ≡ events.DefineEntityValue
    → kind_named lines (text_of line roles.Kind) ≡ Some kind
    → AddsValue line kind old new → AreValues (lines ++ line ∷ []) new
values-added lines line kind old new are event named adds =
    let e = entity_of line in
    let within : kind < state_types lines = kind_exists lines (text_of line roles.Kind) kind named in
    let told : value_at (record { before = lines; line = line }) ≡ Some (record { kind = kind; entity = e })
    = ap₂ (λ b k. cond b (option_map (λ kind. record { kind = kind; entity = e }) k) None)
    (ap defines_value event) named in
    let all : values_in (lines ++ line ∷ []) ≡ values_in lines ++ record { kind = kind; entity = e } ∷ []
    = told-more value_at lines line ∙ ap (λ o. values_in lines ++ option_to_list o) told in
    let types : state_types (lines ++ line ∷ []) ≡ state_types lines
    = count-kept (λ l. is_state_type l.event) lines line (ap is_state_type event) in
    record {
      values = adds.values ∙ (ap₂ (λ vs es. set vs kind (es ++ e ∷ [])) are.values
          (values-at lines old kind are within)
          ∙ (one_added (values_of lines) (values_of (lines ++ line ∷ [])) (state_types lines) kind e within
          (λ k. ap (λ vs. map (λ v. v.entity) (filter (λ v. v.kind == k) vs)) all
          ∙ picked (values_in lines) kind k e)
          ∙ ap (λ n. map (values_of (lines ++ line ∷ [])) (range_with_len 0 n)) (sym types)));
      named = adds.named;
      count = adds.count ∙ (ap (λ n. n + 1) are.count ∙ sym (ap length all
          ∙ length-append (values_in lines) (record { kind = kind; entity = e } ∷ [])));
    }

-- ---- what is known after it

apart : (line : EventLine) → line.event ≡ events.DefineEntityValue → IsApart line.event
apart line event = subst IsApart (sym event) (record {
  states = refl;
  creates_none = refl;
  destroys_none = refl;
})

pub known-valued : (lines : List EventLine) (line : EventLine) (kind : ℕ) (k : Known) (values : ValueTable)
    → IsKnown lines k → line.event ≡ events.DefineEntityValue → value_reason lines line ≡ None
    → kind_named lines (text_of line roles.Kind) ≡ Some kind → AddsValue line kind k.values values
    → IsKnown (lines ++ line ∷ []) (record k { values = values })
known-valued lines line kind k values known event none named adds =
    known-next lines line k (record k { values = values }) known
    (ap (λ e. reason_of e lines line) event ∙ none) (apart line event) (record {
      types = types_kept lines line k.types known.types (ap (sort_of lines) event);
      values = values-added lines line kind k.values values known.values event named adds;
      links = known.links ∙ sym (links-kept lines line (ap is_link_event event));
    }) (record { containers = refl; functions = refl; tracks = refl; states = refl })

pub known-unvalued : (lines : List EventLine) (line : EventLine) (k : Known) → IsKnown lines k
    → line.event ≡ events.DefineEntityValue → value_reason lines line ≡ None
    → kind_named lines (text_of line roles.Kind) ≡ None → IsKnown (lines ++ line ∷ []) k
known-unvalued lines line k known event none named =
    known-next lines line k k known (ap (λ e. reason_of e lines line) event ∙ none) (apart line event)
    (record {
      types = types_kept lines line k.types known.types (ap (sort_of lines) event);
      values = AreValues-untold lines line k.values known.values
          (ap₂ (λ b o. cond b (option_map (λ kind. record { kind = kind; entity = entity_of line }) o) None)
          (ap defines_value event) named) (ap is_state_type event);
      links = known.links ∙ sym (links-kept lines line (ap is_link_event event));
    }) (record { containers = refl; functions = refl; tracks = refl; states = refl })
