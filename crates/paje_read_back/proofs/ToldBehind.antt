-- What event lines tell behind the definitions of a canonical text, and that they aren't refused.
use Rattle.std.proofs.Common.{◌≡◌, ℕ, ◌+◌, List, [], ◌∷◌, ◌++◌, cond, filter_map, Option, Some}
use Rattle.std.proofs.Common.{None, Result, Ok, Err, is_some, refl, sym, ◌∙◌, ap, subst}
use Rattle.std.specs.List.{AllByRecursion, AllZip, cons_option, find}
use Rattle.std.specs.Option.{option_map, option_to_list}
use Rattle.std.proofs.lemmas.List.{append-nil, append_assoc}
use Rattle.std.proofs.lemmas.List.Elements.{filter_map-append}
use Rattle.std.proofs.lemmas.Option.{none-some, same_Some}
use Rattle.list_lemmas.proofs.Options.{none_first}
use Rattle.paje_defs.specs.declared.begun.Begun.{Begun}
use Rattle.paje_defs.specs.declared.event_fault.EventFault.{EventFault}
use Rattle.paje_defs.specs.Events.{Event, told_event}
use Rattle.paje_defs.specs.Lines.{begun_in, complete_in}
use Rattle.paje_defs.specs.Refusals.{Placed, first_of, placed_behind, when}
use Rattle.paje_defs.proofs.PlacedMore.{told-more}
use Rattle.paje_lines.specs.EventLine.{EventLine}
use Rattle.paje_lines.specs.Examples.{Unnumbered, from}
use Rattle.paje_lines.specs.Reasons.{event_reason, event_reason_at}
use Rattle.paje_reader.specs.declared.why.Why.{Why}
use Rattle.paje_reader.specs.declared.why.Why.TheVariants as why
use Rattle.paje_reader.specs.LineReasons.{definition_line, definition_lines, event_line, event_line_at}
use Rattle.paje_reader.specs.LineReasons.{event_line_behind, told_behind, event_line_of, event_lines}
use Rattle.paje_reader.specs.LineReasons.{line_why, told_why, why_behind}
use Rattle.paje_reader.specs.Why.{why_of_entity}
use Rattle.paje_reader.specs.TextLines.{TextLine, reading, tells, text_line}
use Rattle.paje_print.specs.WrittenWords.{WrittenLine, line_text}
use Rattle.paje_read_back.proofs.DefinedLines.{begun-defined, complete-defined, entries, lines_defined}
use Rattle.paje_read_back.proofs.DefinedLines.{written_from}
use Rattle.paje_read_back.proofs.ToldKinds.{Tells}
use Rattle.paje_read_back.proofs.WordBytes.{words_of}

-- ---- a line behind the definitions

-- its words are those that it was written with
abbrev pub ReadsWords : WrittenLine → Type 0
ReadsWords line = (n : ℕ) → reading (text_line (n, line_text line)) ≡ tells (words_of line)

-- the definitions are known behind these lines, and no other
abbrev StandsBehind : List TextLine → Type 0
StandsBehind before = definition_lines before ≡ lines_defined

stands-more : (before : List TextLine) (line : TextLine) (words : List (List ℕ)) → reading line ≡ tells words
    → StandsBehind before → StandsBehind (before ++ line ∷ [])
stands-more before line words is stands =
    filter_map-append (λ line. definition_line line.number (reading line)) before (line ∷ [])
    ∙ (ap (λ o. definition_lines before ++ cons_option o []) (ap (definition_line line.number) is)
    ∙ (append-nil (definition_lines before) ∙ stands))

entries-behind : (before : List TextLine) → StandsBehind before
    → complete_in (definition_lines before) ≡ entries
entries-behind before stands = ap complete_in stands ∙ complete-defined

pub begun-behind : (before : List TextLine) → StandsBehind before → begun_in (definition_lines before) ≡ None
begun-behind before stands = ap begun_in stands ∙ begun-defined

tells-behind : (before : List TextLine) (n : ℕ) (line : WrittenLine) (told : Unnumbered)
    → StandsBehind before → Tells line told
    → event_line_of n (words_of line) (told_behind before (words_of line)) ≡ Some (told n)
tells-behind before n line told stands tell =
    ap (λ known. event_line_of n (words_of line) (told_event known (words_of line)))
    (entries-behind before stands) ∙ tell n

line-tells : (before : List TextLine) (n : ℕ) (line : WrittenLine) (told : Unnumbered) → StandsBehind before
    → ReadsWords line → Tells line told
    → event_line_behind before n (reading (text_line (n, line_text line))) ≡ Some (told n)
line-tells before n line told stands reads tell =
    ap (event_line_behind before n) (reads n) ∙ tells-behind before n line told stands tell

-- ---- the lines

pub stands-behind : (before : List TextLine) (n : ℕ) (lines : List WrittenLine) → StandsBehind before
    → AllByRecursion ReadsWords lines → StandsBehind (before ++ written_from n lines)
stands-behind before n [] stands reads = subst StandsBehind (sym (append-nil before)) stands
stands-behind before n (line ∷ lines) stands reads =
    let first = text_line (n, line_text line) in
    subst StandsBehind (append_assoc before (first ∷ []) (written_from (n + 1) lines))
    (stands-behind (before ++ first ∷ []) (n + 1) lines
    (stands-more before first (words_of line) (reads.0 n) stands) reads.1)

pub told-behind : (before : List TextLine) (n : ℕ) (lines : List WrittenLine) (told : List Unnumbered)
    → StandsBehind before → AllByRecursion ReadsWords lines → AllZip Tells lines told
    → filter_map event_line_at (placed_behind before (written_from n lines)) ≡ from n told
told-behind before n [] [] stands reads are = refl
told-behind before n [] (t ∷ told) stands reads are = absurd are
told-behind before n (line ∷ lines) [] stands reads are = absurd are
told-behind before n (line ∷ lines) (t ∷ told) stands reads are =
    let first = text_line (n, line_text line) in
    let more = filter_map event_line_at (placed_behind (before ++ first ∷ []) (written_from (n + 1) lines)) in
    ap (λ o. cons_option o more) (line-tells before n line t stands reads.0 are.0)
    ∙ ap (λ rest. t n ∷ rest) (told-behind (before ++ first ∷ []) (n + 1) lines told
    (stands-more before first (words_of line) (reads.0 n) stands) reads.1 are.1)

-- ---- no refusal

told_why-none : (before : List TextLine) (so_far : List EventLine) (n : ℕ) (words : List (List ℕ))
    (r : Result Event EventFault) (told : EventLine) → event_lines before ≡ so_far
    → event_line_of n words r ≡ Some told → event_reason so_far told ≡ None → told_why before n words r ≡ None
told_why-none before so_far n words (Err fault) told so e none = absurd (none-some told e)
told_why-none before so_far n words (Ok event) told so e none = ap (option_map why_of_entity)
    (ap (λ lines. event_reason lines (event_line n words event)) so
    ∙ (ap (event_reason so_far) (same_Some (event_line n words event) told e) ∙ none))

no_reason : (begun : Option Begun) (told : Option Why) → begun ≡ None → told ≡ None
    → first_of (when (is_some begun) why.Unended ∷ told ∷ []) ≡ None
no_reason begun told ended none =
    ap (λ b. first_of (when (is_some b) why.Unended ∷ told ∷ [])) ended ∙ ap (λ o. first_of (o ∷ [])) none

line-unrefused : (before : List TextLine) (so_far : List EventLine) (n : ℕ) (line : WrittenLine)
    (told : Unnumbered) → StandsBehind before → event_lines before ≡ so_far → ReadsWords line
    → Tells line told → event_reason so_far (told n) ≡ None
    → why_behind before n (reading (text_line (n, line_text line))) ≡ None
line-unrefused before so_far n line told stands so reads tell none =
    ap (why_behind before n) (reads n)
    ∙ no_reason (begun_in (definition_lines before)) _ (begun-behind before stands)
    (told_why-none before so_far n (words_of line) (told_behind before (words_of line)) (told n) so
    (tells-behind before n line told stands tell) none)

pub unrefused-behind : (before : List TextLine) (so_far : List EventLine) (n : ℕ) (lines : List WrittenLine)
    (told : List Unnumbered) → StandsBehind before → event_lines before ≡ so_far
    → AllByRecursion ReadsWords lines → AllZip Tells lines told
    → find (λ p. is_some (event_reason_at p)) (placed_behind so_far (from n told)) ≡ None
    → find (λ p. is_some (line_why p)) (placed_behind before (written_from n lines)) ≡ None
unrefused-behind before so_far n [] [] stands so reads are none = refl
unrefused-behind before so_far n [] (t ∷ told) stands so reads are none = absurd are
unrefused-behind before so_far n (line ∷ lines) [] stands so reads are none = absurd are
unrefused-behind before so_far n (line ∷ lines) (t ∷ told) stands so reads are none =
    let first = text_line (n, line_text line) in
    let at : Placed TextLine = record { before = before; line = first } in
    let later = find (λ p. is_some (line_why p))
    (placed_behind (before ++ first ∷ []) (written_from (n + 1) lines)) in
    let both = none_first (event_reason so_far (t n)) (record { before = so_far; line = t n })
    (find (λ p. is_some (event_reason_at p)) (placed_behind (so_far ++ t n ∷ []) (from (n + 1) told))) none in
    ap (λ o. cond (is_some o) (Some at) later)
    (line-unrefused before so_far n line t stands so reads.0 are.0 both.0)
    ∙ unrefused-behind (before ++ first ∷ []) (so_far ++ t n ∷ []) (n + 1) lines told
    (stands-more before first (words_of line) (reads.0 n) stands)
    (told-more event_line_at before first
    ∙ (ap (λ o. event_lines before ++ option_to_list o) (line-tells before n line t stands reads.0 are.0)
    ∙ ap (λ lines. lines ++ t n ∷ []) so)) reads.1 are.1 both.1
