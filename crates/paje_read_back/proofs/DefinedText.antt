-- The definition lines of a canonical text tell no event, and aren't refused.
use Rattle.std.proofs.Common.{◌≡◌, ℕ, List, [], ◌∷◌, ◌++◌, true, cond, filter_map, Some, None, is_some}
use Rattle.std.proofs.Common.{refl, sym, ◌∙◌, ap}
use Rattle.std.specs.List.{cons_option, find, list_all}
use Rattle.std.specs.Option.{option_map}
use Rattle.std.proofs.lemmas.Bool.{and_parts, true≢false}
use Rattle.std.proofs.lemmas.List.Elements.{filter_map-append}
use Rattle.list_lemmas.proofs.Options.{none_first}
use Rattle.paje_defs.specs.Lines.{Line, begun_in, complete_in, definition_reason, definition_reason_at}
use Rattle.paje_defs.specs.Refusals.{Placed, first_refused, placed_behind}
use Rattle.paje_reader.specs.LineReasons.{definition_line, definition_lines, event_line_at}
use Rattle.paje_reader.specs.LineReasons.{event_line_behind, event_lines, line_why, why_behind}
use Rattle.paje_reader.specs.Why.{why_of_definition}
use Rattle.paje_reader.specs.TextLines.{Reading, TextLine, defines, reading, refused, skipped, tells}
use Rattle.paje_read_back.proofs.DefinedLines.{all-defining, definitions_text, is_defining, lines-defined}
use Rattle.paje_read_back.proofs.DefinedLines.{unrefused-defined}

abbrev AreDefining : List TextLine → Type 0
AreDefining lines = list_all (λ line. is_defining (reading line)) lines ≡ true

abbrev HasDefinition : Reading → Type 0
HasDefinition r = (words : List (List ℕ)) × (r ≡ defines words)

words_defined : (r : Reading) → is_defining r ≡ true → HasDefinition r
words_defined (defines words) is = (words, refl)
words_defined (tells words) is = absurd (true≢false (sym is))
words_defined (refused why) is = absurd (true≢false (sym is))
words_defined skipped is = absurd (true≢false (sym is))

tells-nothing : (before lines : List TextLine) → AreDefining lines
    → filter_map event_line_at (placed_behind before lines) ≡ []
tells-nothing before [] all = refl
tells-nothing before (line ∷ lines) all =
    let both = and_parts (is_defining (reading line)) _ all in
    ap (λ o. cons_option o (filter_map event_line_at (placed_behind (before ++ line ∷ []) lines)))
    (ap (event_line_behind before line.number) (words_defined (reading line) both.0).1)
    ∙ tells-nothing (before ++ line ∷ []) lines both.1

defining-unrefused : (before : List TextLine) (known : List Line) (lines : List TextLine)
    → definition_lines before ≡ known → AreDefining lines
    → find (λ p. is_some (definition_reason_at p)) (placed_behind known (definition_lines lines)) ≡ None
    → find (λ p. is_some (line_why p)) (placed_behind before lines) ≡ None
defining-unrefused before known [] are all none = refl
defining-unrefused before known (line ∷ lines) are all none =
    let both = and_parts (is_defining (reading line)) _ all in
    let words = (words_defined (reading line) both.0).0 in
    let is = (words_defined (reading line) both.0).1 in
    let first : Line = record { number = line.number; words = words } in
    let at : Placed TextLine = record { before = before; line = line } in
    let later = find (λ p. is_some (line_why p)) (placed_behind (before ++ line ∷ []) lines) in
    let parts = none_first (definition_reason (complete_in known) (begun_in known) words)
    (record { before = known; line = first })
    (find (λ p. is_some (definition_reason_at p)) (placed_behind (known ++ first ∷ [])
    (definition_lines lines)))
    (sym (ap (λ o. find (λ p. is_some (definition_reason_at p)) (placed_behind known
    (cons_option (definition_line line.number o) (definition_lines lines)))) is) ∙ none) in
    ap (λ o. cond (is_some o) (Some at) later)
    (ap (why_behind before line.number) is
    ∙ (ap (λ lines. option_map why_of_definition
    (definition_reason (complete_in lines) (begun_in lines) words)) are
    ∙ ap (option_map why_of_definition) parts.0))
    ∙ defining-unrefused (before ++ line ∷ []) (known ++ first ∷ []) lines
    (filter_map-append (λ line. definition_line line.number (reading line)) before (line ∷ [])
    ∙ (ap (λ o. definition_lines before ++ cons_option (definition_line line.number o) []) is
    ∙ ap (λ lines. lines ++ first ∷ []) are)) both.1 parts.1

-- ---- those of a canonical text

pub defined-tell_nothing : event_lines definitions_text ≡ []
defined-tell_nothing = tells-nothing [] definitions_text all-defining

pub defined-unrefused : first_refused line_why definitions_text ≡ None
defined-unrefused = defining-unrefused [] [] definitions_text refl all-defining
    (ap (λ lines. first_refused definition_reason_at lines) lines-defined ∙ unrefused-defined)
