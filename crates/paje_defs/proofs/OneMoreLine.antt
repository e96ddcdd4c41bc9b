-- What is begun and what is complete, after one more line.
use Rattle.std.proofs.Common.{◌≡◌, ℕ, List, [], ◌∷◌, ◌++◌, ◌||◌, filter, filter_map}
use Rattle.std.proofs.Common.{Bool, true, false, Option, Some, None, cond, refl, ◌∙◌, ap}
use Rattle.std.specs.List.{after_last, last_or}
use Rattle.std.specs.Option.{option_and_then, option_map, option_to_list, option_zip}
use Rattle.std.proofs.lemmas.List.Elements.{filter_map-append}
use Rattle.list_lemmas.proofs.Last.{after_last-kept, after_last-more, last-kept, last-more}
use Rattle.list_lemmas.proofs.Options.{cons_option-list}
use Rattle.paje_defs.specs.declared.event_name.EventName.{EventName}
use Rattle.paje_defs.specs.declared.field.Field.{Field}
use Rattle.paje_defs.specs.declared.begun.Begun.{Begun}
use Rattle.paje_defs.specs.Lines.{Line, begins_definition, begun_by, begun_in, borders, complete_in}
use Rattle.paje_defs.specs.Lines.{defined_by}
use Rattle.paje_defs.specs.Lines.{defined_event, defined_number, ended_at, ends_definition, field_of}
use Rattle.paje_defs.specs.Table.{grown}
use Rattle.paje_defs.proofs.PlacedMore.{told-more}

-- ---- what is begun

abbrev pub begun_after : Option Begun → Line → Option Begun
begun_after begun line = cond (begins_definition line.words) (defined_by [] line)
    (cond (ends_definition line.words) None (option_map (grown (option_to_list (field_of line.words))) begun))

more_fields : (fields more : List Field) (line : Line) → begun_by (fields ++ more) line ≡ option_map
    (grown more) (begun_by fields line)
more_fields fields more line = by (begins_definition line.words) (defined_number line.words)
    (defined_event line.words)
  where
    by : (b : Bool) (number : Option ℕ) (event : Option EventName)
        → cond b
        (option_map (λ both. record {
          number = both.0;
          definition =
              record { line = line.number; event = both.1; fields = fields ++ more };
        })
        (option_zip number event)) None
        ≡ option_map (grown more) (cond b
        (option_map (λ both. record {
          number = both.0;
          definition =
              record { line = line.number; event = both.1; fields = fields };
        }) (option_zip number event)) None)
    by false number event = refl
    by true None event = refl
    by true (Some number) None = refl
    by true (Some number) (Some event) = refl

more_fields_of : (fields more : List Field) (last : Option Line) → option_and_then (begun_by (fields ++ more))
    last ≡ option_map (grown more) (option_and_then (begun_by fields) last)
more_fields_of fields more None = refl
more_fields_of fields more (Some line) = more_fields fields more line

abbrev pub fields_in : List Line → List Field
fields_in lines = filter_map (λ line. field_of line.words) lines

begun-border : (lines : List Line) (line : Line) → borders line ≡ true
    → begun_in (lines ++ line ∷ []) ≡ begun_by [] line
begun-border lines line border =
    ap (λ last. option_and_then (begun_by (fields_in (after_last borders (lines ++ line ∷ [])))) last)
    (last-kept borders lines line border)
    ∙ ap (λ behind. begun_by (fields_in behind) line) (after_last-kept borders lines line border)

begun-field : (lines : List Line) (line : Line) → borders line ≡ false
    → begun_in (lines ++ line ∷ []) ≡ option_map (grown (option_to_list (field_of line.words)))
    (begun_in lines)
begun-field lines line inner =
    let behind = after_last borders lines in
    let fields : fields_in (after_last borders (lines ++ line ∷ [])) ≡ fields_in behind
    ++ option_to_list (field_of line.words) =
    ap fields_in (after_last-more borders lines line inner)
    ∙ (filter_map-append (λ line. field_of line.words) behind (line ∷ []) ∙ ap (λ more. fields_in behind
    ++ more) (cons_option-list (field_of line.words))) in
    ap (λ last. option_and_then (begun_by (fields_in (after_last borders (lines ++ line ∷ [])))) last)
    (last-more borders lines line inner)
    ∙ (ap (λ fields. option_and_then (begun_by fields) (last_or None (filter borders lines))) fields
    ∙ more_fields_of (fields_in behind) (option_to_list (field_of line.words))
    (last_or None (filter borders lines)))

pub begun-more : (lines : List Line) (line : Line) → begun_in (lines ++ line ∷ []) ≡ begun_after
    (begun_in lines) line
begun-more lines line = by (begins_definition line.words) (ends_definition line.words) refl refl
    (begun-border lines line)
    (begun-field lines line)
  where
    by : (b e : Bool) → begins_definition line.words ≡ b → ends_definition line.words ≡ e
        → (borders line ≡ true → begun_in (lines ++ line ∷ []) ≡ begun_by [] line)
        → (borders line ≡ false → begun_in (lines ++ line ∷ []) ≡ option_map
        (grown (option_to_list (field_of line.words))) (begun_in lines))
        → begun_in (lines ++ line ∷ []) ≡ cond b (defined_by [] line)
        (cond e None (option_map (grown (option_to_list (field_of line.words))) (begun_in lines)))
    by true e is other border inner = border (ap (λ b. b || ends_definition line.words) is) ∙ ap
        (λ b. cond b (defined_by [] line) None) is
    by false true is other border inner = border (ap (λ b. b || ends_definition line.words) is ∙ other) ∙ ap
        (λ b. cond b (defined_by [] line) None) is
    by false false is other border inner = inner (ap (λ b. b || ends_definition line.words) is ∙ other)

-- ---- what is complete

pub complete-more : (lines : List Line) (line : Line) → complete_in (lines ++ line ∷ []) ≡ complete_in lines
    ++ option_to_list (ended_at (record { before = lines; line = line }))
complete-more lines line = told-more ended_at lines line
