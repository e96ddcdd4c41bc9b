-- A table that tells what its lines so far make known has taken one more.
use Rattle.std.proofs.Common.{◌≡◌, ℕ, List, [], ◌∷◌, ◌++◌, Bool, true, false, Option, Some, None}
use Rattle.std.proofs.Common.{Result, Ok, Err, cond, is_some, nat_eq, refl, sym}
use Rattle.std.proofs.Common.{◌∙◌, ap, subst}
use Rattle.std.specs.List.{find}
use Rattle.std.specs.Option.{option_and_then, option_map, option_map_or, option_or, option_to_list}
use Rattle.std.proofs.lemmas.Bool.{true≢false}
use Rattle.std.proofs.lemmas.List.{append-nil}
use Rattle.indexmap.proofs.MapLemmas.{absent_from_lookup, insert_entry-absent}
use Rattle.paje_defs.specs.declared.definition.Definition.{Definition}
use Rattle.paje_defs.specs.declared.begun.Begun.{Begun}
use Rattle.paje_defs.specs.declared.def_fault.DefFault.{DefFault}
use Rattle.paje_lex.specs.declared.unread.Unread.{Unread}
use Rattle.paje_lex.specs.declared.unread.Unread.TheVariants.{Memory, Refused}
use Rattle.paje_lex.specs.Unread.{reason_told}
use Rattle.paje_defs.specs.Lines.{Definitions, Line, begins_definition, begun_in}
use Rattle.paje_defs.specs.Refusals.{Placed}
use Rattle.paje_defs.specs.Lines.{complete_in}
use Rattle.paje_defs.specs.Lines.{defined_by, definitions_of_lines}
use Rattle.paje_defs.specs.Lines.{ends_definition, definition_entry, field_of}
use Rattle.paje_defs.specs.Lines.{definition_reason, definition_reason_at}
use Rattle.paje_defs.specs.Refusals.{first_refused, taken}
use Rattle.paje_defs.specs.Table.{StopsAt, TakesUnless, after, grown, with_ended}
use Rattle.paje_defs.proofs.OneMoreLine.{begun-more, begun_after, complete-more}
use Rattle.paje_defs.proofs.PlacedMore.{refused-more}
use Rattle.paje_defs.proofs.RefusedMore.{first-next, none_refused, refusal-next}
use Rattle.paje_defs.proofs.TakenLines.{IsFresh, Lacks, is_refused, not_both, taken_fresh}

abbrev pub all_of : List (ℕ × Definition) → Option Begun → Option DefFault → Definitions
all_of entries begun fault = record { complete = entries; begun = begun; fault = fault }

-- what is known, by the first refused line
abbrev pub known : List Line → Option (Placed Line) → Definitions
known lines first = all_of (complete_in (option_map_or (λ p. p.before) first lines))
    (begun_in (option_map_or (λ p. p.before) first lines)) (option_and_then definition_reason_at first)

-- Nothing changes behind a refused line.
refused_stays : (lines : List Line) (line : Line) (first : Option (Placed Line)) (fault : DefFault)
    → first_refused definition_reason_at lines ≡ first → option_and_then definition_reason_at first
    ≡ Some fault
    → definitions_of_lines (lines ++ line ∷ []) ≡ definitions_of_lines lines
refused_stays lines line None fault is e = absurd (true≢false (sym (ap is_some e)))
refused_stays lines line (Some p) fault is e =
    ap (known (lines ++ line ∷ [])) (refused-more definition_reason_at lines line ∙ ap
    (λ first. option_or first (find is_refused (record { before = lines; line = line } ∷ []))) is)
    ∙ ap (known lines) (sym is)

-- ---- one more line, where none before it is refused

-- it is the first refused line
refused_next : (lines : List Line) (line : Line) (fault : DefFault) → first_refused definition_reason_at lines
    ≡ None
    → definition_reason_at (record { before = lines; line = line }) ≡ Some fault
    → all_of (complete_in lines) (begun_in lines) (Some fault) ≡ definitions_of_lines (lines ++ line ∷ [])
refused_next lines line fault none is =
    sym (ap (known (lines ++ line ∷ [])) (first-next definition_reason_at lines line (Some fault) none is)
    ∙ ap (all_of (complete_in lines) (begun_in lines)) is)

ended_goes_last : (entries : List (ℕ × Definition)) (begun : Option Begun) → Lacks entries begun
    → with_ended entries begun ≡ entries ++ option_to_list (option_map definition_entry begun)
ended_goes_last entries None lacks = sym (append-nil entries)
ended_goes_last entries (Some b) lacks = insert_entry-absent nat_eq b.number b.definition entries
    (absent_from_lookup (nat_eq b.number) entries lacks)

after_is : (entries : List (ℕ × Definition)) (begun grown : Option Begun) (line : Line)
    (fault : Option DefFault) (b e : Bool) → (b ≡ true → e ≡ true → ⊥) → Lacks entries begun
    → cond b (all_of entries (defined_by [] line) fault)
    (cond e (all_of (with_ended entries begun) None fault) (all_of entries grown fault))
    ≡ all_of (entries ++ option_to_list (cond e (option_map definition_entry begun) None))
    (cond b (defined_by [] line) (cond e None grown)) fault
after_is entries begun grown line fault true true apart lacks = absurd (apart refl refl)
after_is entries begun grown line fault true false apart lacks =
    ap (λ entries. all_of entries (defined_by [] line) fault) (sym (append-nil entries))
after_is entries begun grown line fault false true apart lacks = ap (λ entries. all_of entries None fault)
    (ended_goes_last entries begun lacks)
after_is entries begun grown line fault false false apart lacks = ap (λ entries. all_of entries grown fault)
    (sym (append-nil entries))

taken_all : (lines : List Line) → first_refused definition_reason_at lines ≡ None → taken definition_reason_at
    lines ≡ lines
taken_all lines none = ap (λ first. option_map_or (λ p. p.before) first lines) none

-- it is taken
taken_next : (lines : List Line) (line : Line) → first_refused definition_reason_at lines ≡ None
    → definition_reason_at (record { before = lines; line = line }) ≡ None
    → after (all_of (complete_in lines) (begun_in lines) None) line ≡ definitions_of_lines
    (lines ++ line ∷ [])
taken_next lines line none is =
    after_is (complete_in lines) (begun_in lines) (option_map (grown (option_to_list (field_of line.words)))
    (begun_in lines)) line None
    (begins_definition line.words) (ends_definition line.words) (not_both line.words)
    (subst IsFresh (taken_all lines none) (taken_fresh lines))
    ∙ (ap (λ entries. all_of entries (begun_after (begun_in lines) line) None)
    (sym (complete-more lines line))
    ∙ (ap (λ begun. all_of (complete_in (lines ++ line ∷ [])) begun None) (sym (begun-more lines line))
    ∙ sym (ap (known (lines ++ line ∷ [])) (first-next definition_reason_at lines line None none is))))

-- ---- a table

-- the lines before are all taken
none_before : (before : List Line) (old : Definitions) → old ≡ definitions_of_lines before → old.fault ≡ None
    → first_refused definition_reason_at before ≡ None
none_before before old is e = none_refused definition_reason_at before (sym (ap (λ d. d.fault) is) ∙ e)

all_before : (before : List Line) (old : Definitions) → old ≡ definitions_of_lines before → old.fault ≡ None
    → old ≡ all_of (complete_in before) (begun_in before) None
all_before before old is e = is ∙ ap (known before) (none_before before old is e)

abbrev pub TakesBy : Definitions → Line → Definitions → Result (Unit {0}) (Unread DefFault) → Type 0
TakesBy old line new r = TakesUnless old new r (definition_reason old.complete old.begun line.words)
    (after old line)

-- It was refused before.
pub refused_before : (before : List Line) (line : Line) (old : Definitions) (fault : DefFault)
    → old ≡ definitions_of_lines before → old.fault ≡ Some fault
    → old ≡ definitions_of_lines (before ++ line ∷ [])
refused_before before line old fault is e =
    is ∙ sym (refused_stays before line (first_refused definition_reason_at before) fault refl
    (sym (ap (λ d. d.fault) is) ∙ e))

-- The line is taken.
pub takes_line : (before : List Line) (line : Line) (old new : Definitions) (r : Unit {0})
    → old ≡ definitions_of_lines before → old.fault ≡ None → TakesBy old line new (Ok r)
    → (new ≡ definitions_of_lines (before ++ line ∷ [])) × (new.fault ≡ None)
takes_line before line old new r is e steps =
    let none = none_before before old is e in
    let by_facts : TakesBy (all_of (complete_in before) (begun_in before) None) line new (Ok r) =
    subst (λ d. TakesBy d line new (Ok r)) (all_before before old is e) steps in
    let next : new ≡ definitions_of_lines (before ++ line ∷ []) = by_facts.1 ∙ taken_next before line none
    by_facts.0 in (
      next,
      ap (λ d. d.fault) next ∙ refusal-next definition_reason_at before line None
          (sym (ap (λ d. d.fault) is) ∙ e) by_facts.0,
    )

-- The line is refused, or memory ran out.
pub stops_at : (before : List Line) (line : Line) (old new : Definitions) (unread : Unread DefFault)
    → old ≡ definitions_of_lines before → old.fault ≡ None → TakesBy old line new (Err unread)
    → StopsAt before line (all_of new.complete new.begun (reason_told unread)) unread
stops_at before line old new (Refused fault) is e (same, why) =
    let facts = all_before before old is e in (
      ap (λ d. all_of d.complete d.begun (Some fault)) (same ∙ facts)
          ∙ refused_next before line fault (none_before before old is e)
          (subst (λ d. definition_reason d.complete d.begun line.words ≡ Some fault) facts why),
      refl,
    )
stops_at before line old new Memory is e (same, why) = (
  refusal-next definition_reason_at before line None (sym (ap (λ d. d.fault) is) ∙ e)
      (subst (λ d. definition_reason d.complete d.begun line.words ≡ None) (all_before before old is e) why),
  ap (λ d. all_of d.complete d.begun None) same
      ∙ (ap (all_of old.complete old.begun) (sym e) ∙ is),
)
