-- A text of lines is cut into those lines.
use Rattle.std.proofs.Common.{◌≡◌, ◌∙◌, ℕ, List, [], ◌∷◌, ◌++◌, map, ap, append_assoc, refl, sym}
use Rattle.std.specs.Char.{is_newline}
use Rattle.std.specs.List.{AllByRecursion, flat_map, slice_split}
use Rattle.std.proofs.lemmas.List.Elements.{All-from_recursion}
use Rattle.std.proofs.lemmas.List.Folds.{flat_map-map}
use Rattle.std.proofs.lemmas.List.Splits.{slice_split_at}
use Rattle.paje_print.specs.Canonical.{Lacks}
use Rattle.paje_print.specs.WrittenWords.{WrittenLine, line_text, lines_text}
use Rattle.paje_reader.specs.TextLines.{bytes_of_lines, parts_as_lines}
use Rattle.paje_read_back.proofs.WordsWellWritten.{AreWellWritten, line-lacks_newline}

-- the bytes of a line with its newline
abbrev ended : List ℕ → List ℕ
ended bytes = bytes ++ 10 ∷ []

parts_of_lines : (lines : List (List ℕ)) → AllByRecursion (Lacks 10) lines
    → slice_split is_newline (flat_map ended lines) ≡ lines ++ [] ∷ []
parts_of_lines [] lack = refl
parts_of_lines (line ∷ lines) (lacks, lack) =
    ap (slice_split is_newline) (append_assoc line (10 ∷ []) (flat_map ended lines))
    ∙ (slice_split_at is_newline line 10 (flat_map ended lines) (All-from_recursion _ line lacks) refl
    ∙ ap (λ parts. line ∷ parts) (parts_of_lines lines lack))

parts_kept : (lines : List (List ℕ)) → parts_as_lines (lines ++ [] ∷ []) ≡ lines
parts_kept [] = refl
parts_kept ([] ∷ []) = refl
parts_kept ((b ∷ line) ∷ []) = refl
parts_kept ([] ∷ (next ∷ lines)) = ap (λ more. [] ∷ more) (parts_kept (next ∷ lines))
parts_kept ((b ∷ line) ∷ (next ∷ lines)) = ap (λ more. (b ∷ line) ∷ more) (parts_kept (next ∷ lines))

ended_lines-cut : (lines : List (List ℕ)) → AllByRecursion (Lacks 10) lines
    → bytes_of_lines (flat_map ended lines) ≡ lines
ended_lines-cut lines lack = ap parts_as_lines (parts_of_lines lines lack) ∙ parts_kept lines

lines-lack : (lines : List WrittenLine) → AllByRecursion AreWellWritten lines
    → AllByRecursion (Lacks 10) (map line_text lines)
lines-lack [] are = tt
lines-lack (line ∷ lines) (is, are) = (line-lacks_newline line is, lines-lack lines are)

pub written_lines-cut : (lines : List WrittenLine) → AllByRecursion AreWellWritten lines
    → bytes_of_lines (lines_text lines) ≡ map line_text lines
written_lines-cut lines are =
    ap bytes_of_lines (sym (flat_map-map ended line_text lines))
    ∙ ended_lines-cut (map line_text lines) (lines-lack lines are)
