-- What holds of the lines before the first refused one.
use Rattle.std.proofs.Common.{◌≡◌, ℕ, List, [], ◌∷◌, ◌++◌, Bool, true, false, Option, Some, None, IfSome}
use Rattle.std.proofs.Common.{codes, slice_get, cond, is_none, is_some, refl, sym, ◌∙◌, ap, subst}
use Rattle.std.specs.List.{find}
use Rattle.std.specs.Option.{option_and_then, option_map, option_map_or, option_to_list, option_zip}
use Rattle.std.specs.Str.{bytes_eq}
use Rattle.std.proofs.lemmas.Bool.{true≢false}
use Rattle.std.proofs.lemmas.List.{append-nil, append_assoc}
use Rattle.std.proofs.lemmas.Slice.Eq.{bytes_eq-Decides}
use Rattle.list_lemmas.proofs.Options.{is_None}
use Rattle.paje_defs.specs.declared.event_name.EventName.{EventName}
use Rattle.paje_defs.specs.declared.definition.Definition.{Definition}
use Rattle.paje_defs.specs.declared.begun.Begun.{Begun}
use Rattle.paje_defs.specs.declared.def_fault.DefFault.{DefFault}
use Rattle.paje_defs.specs.declared.def_fault.DefFault.TheVariants.{DoubleNumber, Nested, Shape, UnknownName}
use Rattle.paje_defs.specs.Lines.{Line, begin_reason, begins_definition, begun_in, complete_in}
use Rattle.paje_defs.specs.Refusals.{Placed}
use Rattle.paje_defs.specs.Lines.{defined_by}
use Rattle.paje_defs.specs.Lines.{defined_event, defined_number, definition_of, end_reason, ends_definition}
use Rattle.paje_defs.specs.Lines.{definition_entry}
use Rattle.paje_defs.specs.Lines.{field_of, field_reason, first_line, definition_reason}
use Rattle.paje_defs.specs.Refusals.{first_of, placed_behind}
use Rattle.paje_defs.specs.Lines.{definition_reason_at}
use Rattle.paje_defs.specs.Refusals.{taken, when}
use Rattle.paje_defs.specs.Table.{grown}
use Rattle.paje_defs.proofs.OneMoreLine.{begun-more, begun_after, complete-more}

-- ---- what each line that is taken keeps

abbrev pub is_refused : Placed Line → Bool
is_refused p = is_some (definition_reason_at p)

abbrev pub Keeps : (List Line → Type 0) → Type 0
Keeps P = (before : List Line) (line : Line) → definition_reason_at (record { before = before; line = line })
    ≡ None
    → P before → P (before ++ line ∷ [])

abbrev pub taken_behind : List Line → List Line → List Line
taken_behind before lines = option_map_or (λ p. p.before) (find is_refused (placed_behind before lines))
    (before ++ lines)

taken_keeps_behind : (P : List Line → Type 0) → Keeps P → (before lines : List Line) → P before
    → P (taken_behind before lines)
taken_keeps_behind P keeps before [] holds = subst P (sym (append-nil before)) holds
taken_keeps_behind P keeps before (line ∷ lines) holds =
    by (is_refused (record { before = before; line = line })) refl
    (taken_keeps_behind P keeps (before ++ line ∷ []) lines)
  where
    by : (b : Bool) → is_refused (record { before = before; line = line }) ≡ b
        → (P (before ++ line ∷ []) → P (taken_behind (before ++ line ∷ []) lines))
        → P (option_map_or (λ p. p.before) (cond b (Some (record { before = before; line = line }))
        (find is_refused (placed_behind (before ++ line ∷ []) lines))) (before ++ line ∷ lines))
    by true is later = holds
    by false is later =
        subst
        (λ all. P (option_map_or (λ p. p.before)
        (find is_refused (placed_behind (before ++ line ∷ []) lines)) all))
        (append_assoc before (line ∷ []) lines)
        (later (keeps before line (is_None (definition_reason_at (record { before = before; line = line }))
        is) holds))

pub taken_keeps : (P : List Line → Type 0) → Keeps P → P [] → (lines : List Line)
    → P (taken definition_reason_at lines)
taken_keeps P keeps holds lines = taken_keeps_behind P keeps [] lines holds

-- ---- the number that is begun has no definition

abbrev pub Lacks : List (ℕ × Definition) → Option Begun → Type 0
Lacks entries begun = IfSome begun (λ b. definition_of entries b.number ≡ None)

abbrev pub IsFresh : List Line → Type 0
IsFresh lines = Lacks (complete_in lines) (begun_in lines)

first_line_none : (o : Option Definition) → option_map (λ first. DoubleNumber first)
    (option_map (λ d. d.line) o) ≡ None → o ≡ None
first_line_none None e = refl
first_line_none (Some d) e = absurd (true≢false (ap is_some e))

-- the rest of the reasons, where the first is none
rest_of : (o : Option DefFault) (reasons : List (Option DefFault)) → first_of (o ∷ reasons) ≡ None
    → first_of reasons ≡ None
rest_of None reasons e = e
rest_of (Some f) reasons e = absurd (true≢false (ap is_some e))

head_of : (o : Option DefFault) (reasons : List (Option DefFault)) → first_of (o ∷ reasons) ≡ None → o ≡ None
head_of None reasons e = refl
head_of (Some f) reasons e = absurd (true≢false (ap is_some e))

begun_lacks : (entries : List (ℕ × Definition)) (begun : Option Begun) (line : Line)
    → begin_reason entries begun line.words ≡ None → Lacks entries (defined_by [] line)
begun_lacks entries begun line e = by (defined_number line.words) (defined_event line.words) e
  where
    by : (number : Option ℕ) (event : Option EventName)
        → first_of (when (is_none number) Shape ∷ when (is_some begun) Nested
        ∷ when (is_none event) UnknownName ∷ option_map (λ first. DoubleNumber first)
        (option_and_then (first_line entries) number) ∷ []) ≡ None
        → Lacks entries
        (option_map (λ both. record {
          number = both.0;
          definition =
              record { line = line.number; event = both.1; fields = [] };
        }) (option_zip number event))
    by None event e = tt
    by (Some number) None e = tt
    by (Some number) (Some event) e =
        first_line_none (definition_of entries number)
        (head_of (option_map (λ first. DoubleNumber first) (first_line entries number)) []
        (rest_of (when (is_some begun) Nested)
        (None ∷ option_map (λ first. DoubleNumber first) (first_line entries number) ∷ []) e))

grown_lacks : (entries : List (ℕ × Definition)) (begun : Option Begun) (line : Line) → Lacks entries begun
    → Lacks entries (option_map (grown (option_to_list (field_of line.words))) begun)
grown_lacks entries None line lacks = tt
grown_lacks entries (Some b) line lacks = lacks

after_lacks : (entries : List (ℕ × Definition)) (begun : Option Begun) (line : Line)
    → definition_reason entries begun line.words ≡ None → Lacks entries begun → Lacks entries (begun_after
    begun line)
after_lacks entries begun line e lacks = by (begins_definition line.words) (ends_definition line.words) e
  where
    by : (b f : Bool) → cond b (begin_reason entries begun line.words)
        (cond f (end_reason begun) (field_reason begun line.words)) ≡ None
        → Lacks entries (cond b (defined_by [] line)
        (cond f None (option_map (grown (option_to_list (field_of line.words))) begun)))
    by true f e = begun_lacks entries begun line e
    by false true e = tt
    by false false e = grown_lacks entries begun line lacks

pub not_both : (words : List (List ℕ)) → begins_definition words ≡ true → ends_definition words ≡ true → ⊥
not_both words is other = by (slice_get words 0) is other
  where
    by : (word : Option (List ℕ)) → option_map_or (λ w. bytes_eq w (codes "EventDef")) word false ≡ true
        → option_map_or (λ w. bytes_eq w (codes "EndEventDef")) word false ≡ true → ⊥
    by None is other = true≢false (sym is)
    by (Some word) is other = true≢false (sym other ∙ ap (λ w. bytes_eq w (codes "EndEventDef"))
        ((bytes_eq-Decides word (codes "EventDef")).0 is))

-- A line that ends a definition leaves none begun; any other leaves the complete ones as they were.
still_lacks : (entries : List (ℕ × Definition)) (line : Line) (old begun : Option Begun) (b e : Bool)
    → (b ≡ true → e ≡ true → ⊥)
    → Lacks entries (cond b (defined_by [] line) (cond e None begun))
    → Lacks (entries ++ option_to_list (cond e (option_map definition_entry old) None))
    (cond b (defined_by [] line) (cond e None begun))
still_lacks entries line old begun b false apart lacks =
    subst (λ all. Lacks all (cond b (defined_by [] line) begun)) (sym (append-nil entries)) lacks
still_lacks entries line old begun false true apart lacks = tt
still_lacks entries line old begun true true apart lacks = absurd (apart refl refl)

keeps_fresh : Keeps IsFresh
keeps_fresh before line none fresh =
    subst (λ begun. Lacks (complete_in (before ++ line ∷ [])) begun) (sym (begun-more before line))
    (subst (λ entries. Lacks entries (begun_after (begun_in before) line)) (sym (complete-more before line))
    (still_lacks (complete_in before) line (begun_in before)
    (option_map (grown (option_to_list (field_of line.words))) (begun_in before))
    (begins_definition line.words)
    (ends_definition line.words)
    (not_both line.words) (after_lacks (complete_in before) (begun_in before) line none fresh)))

pub taken_fresh : (lines : List Line) → IsFresh (taken definition_reason_at lines)
taken_fresh lines = taken_keeps IsFresh keeps_fresh tt lines
