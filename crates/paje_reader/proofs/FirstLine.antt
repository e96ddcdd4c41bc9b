-- The first line of a text.
use Rattle.std.proofs.Common.{◌≡◌, ℕ, ◌+◌, ◌-◌, ◌<◌, ◌≤◌, Bool, true, false, cond, List, [], ◌∷◌}
use Rattle.std.proofs.Common.{length, drop}
use Rattle.std.proofs.Common.{not, take, refl, sym, ◌∙◌, ap, arith, get_or}
use Rattle.std.specs.Char.{is_newline}
use Rattle.std.specs.List.{onto_first, position_or_len, slice_split}
use Rattle.std.proofs.lemmas.List.{drop_all}
use Rattle.std.proofs.lemmas.List.Splits.{slice_split_first}
use Rattle.std.proofs.lemmas.List.Sums.{position_or_len_is}
use Rattle.memchr.specs.Find.{NoneBefore, Nowhere, Passes, is_byte}
use Rattle.std.proofs.lemmas.Bool.{false_from_ne_true}
use Rattle.std.proofs.lemmas.List.{take_rest}
use Rattle.paje_reader.specs.TextLines.{bytes_of_lines, parts_as_lines}

behind_first : (x : ℕ) (line : List ℕ) (parts : List (List ℕ))
    → parts_as_lines (line ∷ onto_first x parts) ≡ line ∷ parts_as_lines (onto_first x parts)
behind_first x line [] = refl
behind_first x line (part ∷ parts) = refl

-- a line with parts behind it
with_parts : (line text : List ℕ) → parts_as_lines (line ∷ slice_split is_newline text)
    ≡ line ∷ bytes_of_lines text
with_parts line [] = refl
with_parts line (x ∷ text) = by (is_newline x)
  where
    by : (b : Bool)
        → parts_as_lines (line ∷ cond b ([] ∷ slice_split is_newline text)
        (onto_first x (slice_split is_newline text)))
        ≡ line ∷ parts_as_lines (cond b ([] ∷ slice_split is_newline text)
        (onto_first x (slice_split is_newline text)))
    by true = refl
    by false = behind_first x line (slice_split is_newline text)

first_at : (text : List ℕ) (at : ℕ) → at ≤ length text → Nowhere (Passes (is_byte 10) text) 0 at
    → (at < length text → is_newline (get_or text at 0) ≡ true) → position_or_len is_newline text ≡ at
first_at text at within none passes = position_or_len_is is_newline text at 0 within
    (λ k below. false_from_ne_true (is_newline (get_or text k 0)) (none k (omega arith) below)) passes

-- where there is a newline
pub cut_at : (text : List ℕ) (at : ℕ) → NoneBefore (Passes (is_byte 10) text) 0 (length text) at
    → Passes (is_byte 10) text at
    → bytes_of_lines text ≡ take at text
    ∷ bytes_of_lines (take (length text - (at + 1)) (drop (at + 1) text))
cut_at text at none passes =
    let place : position_or_len is_newline text ≡ at =
    first_at text at (omega (arith, none.high)) none.before (λ _. passes) in
    ap parts_as_lines (slice_split_first is_newline text 0 (omega (arith, place, none.high)))
    ∙ (ap (λ n. parts_as_lines (take n text ∷ slice_split is_newline (drop (n + 1) text))) place
    ∙ (with_parts (take at text) (drop (at + 1) text)
    ∙ ap (λ rest. take at text ∷ bytes_of_lines rest) (sym (take_rest text (at + 1)))))

-- where there is none
one_part : (text : List ℕ) → position_or_len is_newline text ≡ length text
    → slice_split is_newline text ≡ text ∷ []
one_part [] is = refl
one_part (x ∷ text) is = by (is_newline x) is (one_part text)
  where
    by : (b : Bool) → cond (not b) (1 + position_or_len is_newline text) 0 ≡ length (x ∷ text)
        → (position_or_len is_newline text ≡ length text → slice_split is_newline text ≡ text ∷ [])
        → cond b ([] ∷ slice_split is_newline text) (onto_first x (slice_split is_newline text))
        ≡ (x ∷ text) ∷ []
    by true e later = absurd (omega (arith, e))
    by false e later = ap (onto_first x) (later (omega (arith, e)))

one_line : (text : List ℕ) → 0 < length text → parts_as_lines (text ∷ []) ≡ text ∷ []
one_line [] some = absurd (omega (arith, some))
one_line (x ∷ text) some = refl

pub cut_none : (text : List ℕ) → 0 < length text → Nowhere (Passes (is_byte 10) text) 0 (length text)
    → bytes_of_lines text ≡ text
    ∷ bytes_of_lines (take (length text - length text) (drop (length text) text))
cut_none text some none =
    ap parts_as_lines (one_part text (first_at text (length text) (omega arith) none (λ below. absurd
    (omega (arith, below)))))
    ∙ (one_line text some
    ∙ ap (λ rest. text ∷ bytes_of_lines rest) (sym (take_rest text (length text)
    ∙ drop_all (length text) text (omega arith))))
