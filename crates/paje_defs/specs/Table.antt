-- What a table of definitions tells, and what a line does to it.
use Rattle.std.specs.Prelude.{◌≡◌, ℕ, List, [], ◌∷◌, ◌++◌, map, nat_eq, Option, Some, None, Result}
use Rattle.std.specs.Prelude.{MatchResult, if◌then◌else◌}
use Rattle.std.specs.Option.{option_map, option_to_list}
use Rattle.indexmap.specs.IndexMap.{insert_entry}
use Rattle.paje_defs.specs.declared.field.Field.{Field}
use Rattle.paje_defs.specs.declared.definition.Definition.{Definition}
use Rattle.paje_defs.specs.declared.begun.Begun.{Begun}
use Rattle.paje_defs.specs.declared.complete.Complete.{Complete}
use Rattle.paje_defs.specs.declared.table.DefTable.{DefTable}
use Rattle.paje_defs.specs.declared.def_fault.DefFault.{DefFault}
use Rattle.paje_lex.specs.declared.unread.Unread.{Unread}
use Rattle.paje_lex.specs.declared.unread.Unread.TheVariants.{Memory, Refused}
use Rattle.paje_lex.specs.Unread.{reason_told}
use Rattle.paje_defs.specs.Lines.{Definitions, Line, begins_definition, defined_by, definitions_of_lines}
use Rattle.paje_defs.specs.Lines.{ends_definition, field_of}
use Rattle.paje_defs.specs.Lines.{definition_reason_at}
use Rattle.paje_defs.specs.Refusals.{refusal}

abbrev pub numbered_line : ℕ → List (List ℕ) → Line
numbered_line n words = record { number = n; words = words }

-- the definitions, without their places
abbrev pub without_places : List (ℕ × Complete) → List (ℕ × Definition)
without_places entries = map (λ entry. (entry.0, entry.1.definition)) entries

abbrev pub definitions_of : DefTable → Definitions
definitions_of t = record { complete = without_places t.complete.entries; begun = t.begun; fault = t.fault }

-- A table of the lines before has not taken one more. It tells the first refusal among them; or memory ran
-- out, then it is as before, and no line is refused.
abbrev pub StopsAt : List Line → Line → Definitions → Unread DefFault → Type 0
StopsAt before line new (Refused fault) =
    (new ≡ definitions_of_lines (before ++ line ∷ [])) × (new.fault ≡ Some fault)
StopsAt before line new Memory =
    (refusal definition_reason_at (before ++ line ∷ []) ≡ None) × (new ≡ definitions_of_lines before)

-- A table of the lines before has taken one more, or stops at it.
abbrev pub TakesNext : {U : Type 0} → List Line → Line → Definitions → Result U (Unread DefFault) → Type 0
TakesNext before line new r = MatchResult r
    (λ _. (new ≡ definitions_of_lines (before ++ line ∷ [])) × (new.fault ≡ None))
    (StopsAt before line new)

-- ---- what its private calls do

-- Where there is no reason against it, a step gives what is wanted, or memory ran out. A call that gives
-- nothing changes nothing.
abbrev pub TakesUnless : {U S : Type 0} → S → S → Result U (Unread DefFault) → Option DefFault → S → Type 0
TakesUnless old new r why wanted = MatchResult r
    (λ _. (why ≡ None) × (new ≡ wanted))
    (λ unread. (new ≡ old) × (why ≡ reason_told unread))

abbrev pub grown : List Field → Begun → Begun
grown more b = record {
  number = b.number;
  definition = record {
    line = b.definition.line;
    event = b.definition.event;
    fields = b.definition.fields
        ++ more;
  };
}

abbrev pub after_begin : Definitions → Line → Definitions
after_begin d line = record { complete = d.complete; begun = defined_by [] line; fault = d.fault }

abbrev pub after_field : Definitions → List (List ℕ) → Definitions
after_field d words = record {
  complete = d.complete;
  begun = option_map (grown (option_to_list (field_of words))) d.begun;
  fault = d.fault;
}

abbrev pub with_ended : List (ℕ × Definition) → Option Begun → List (ℕ × Definition)
with_ended entries None = entries
with_ended entries (Some b) = insert_entry nat_eq entries b.number b.definition

abbrev pub after_end : Definitions → Definitions
after_end d = record { complete = with_ended d.complete d.begun; begun = None; fault = d.fault }

-- what a line that isn't refused makes of them
abbrev pub after : Definitions → Line → Definitions
after d line = if begins_definition line.words then after_begin d line
    else (if ends_definition line.words then after_end d else after_field d line.words)
