-- How long the lines of a canonical text are.
use Rattle.std.proofs.Common.{◌≡◌, ℕ, ◌+◌, ◌-◌, ◌*◌, ◌/◌, ◌%◌, ◌^◌, ◌<◌, ◌≤◌, zero, suc, true, List, []}
use Rattle.std.proofs.Common.{◌∷◌, ◌++◌, length, map}
use Rattle.std.proofs.Common.{replicate, eqb, nat_le, slice_get, refl, ap, arith, codes, length-append}
use Rattle.std.specs.Prelude.{decimal, unwrap_or}
use Rattle.std.specs.Fmt.{digits}
use Rattle.std.specs.List.{AllByRecursion, flat_map, list_all}
use Rattle.std.proofs.lemmas.Bool.{and_parts, cond_both, leb-true}
use Rattle.std.proofs.lemmas.Fmt.{length-decimal-le}
use Rattle.std.proofs.lemmas.List.{length-replicate}
use Rattle.std.proofs.lemmas.List.Concat.{flat_map-append}
use Rattle.std.proofs.lemmas.Nat.{div_below, mod_below}
use Rattle.list_lemmas.proofs.Each.{all_append}
use Rattle.trace_base.specs.declared.limits.TheConstants.{MAX_TRACE_LINE}
use Rattle.paje_print.specs.Canonical.{FitsOnLine}
use Rattle.paje_print.specs.WrittenEvents.{definitions_written}
use Rattle.paje_print.specs.WrittenNumbers.{container_alias, seconds_text, zero_padded}
use Rattle.paje_print.specs.WrittenWords.{WrittenWord, quoted, WrittenLine, word_text, spaced_word, line_text}
use Rattle.paje_print.specs.WrittenWords.{ended_line, lines_text}

-- ---- lines

-- each word with one byte behind it
abbrev pub words_size : WrittenLine → ℕ
words_size [] = 0
words_size (word ∷ words) = length (word_text word) + 1 + words_size words

length-spaced : (words : WrittenLine) → length (flat_map spaced_word words) ≡ words_size words
length-spaced [] = refl
length-spaced (word ∷ words) = omega (
  arith,
  length-append (spaced_word word) (flat_map spaced_word words),
  length-spaced words,
)

-- of a line with a word
pub length-line : (word : WrittenWord) (words : WrittenLine)
    → length (line_text (word ∷ words)) + 1 ≡ words_size (word ∷ words)
length-line word words =
    omega (arith, length-append (word_text word) (flat_map spaced_word words), length-spaced words)

pub length-quoted : (text : List ℕ) → length (word_text (quoted text)) ≡ length text + 2
length-quoted text = omega (arith, length-append text (34 ∷ []))

-- ---- lists of lines

-- each fits on a line, and together they have at most so many bytes
pub record AreWithin (size : ℕ) (lines : List WrittenLine) : Type 0 where
  pub fit : AllByRecursion FitsOnLine lines
  pub together : length (lines_text lines) ≤ size

-- the line and its newline
abbrev pub IsWithin : ℕ → WrittenLine → Type 0
IsWithin size line = length (line_text line) + 1 ≤ size

pub within-none : AreWithin 0 []
within-none = record { fit = tt; together = omega arith }

pub within-later : (m n : ℕ) (lines : List WrittenLine) → m ≤ n → AreWithin m lines → AreWithin n lines
within-later m n lines more within = record {
  fit = within.fit;
  together = omega
      (arith, more, within.together);
}

pub within-append : (m n : ℕ) (xs ys : List WrittenLine) → AreWithin m xs → AreWithin n ys
    → AreWithin (m + n) (xs ++ ys)
within-append m n xs ys first later = record {
  fit = all_append FitsOnLine xs ys first.fit later.fit;
  together = omega (
    arith,
    ap length (flat_map-append ended_line xs ys),
    length-append (lines_text xs) (lines_text ys),
    first.together,
    later.together,
  );
}

pub within-cons : (m n : ℕ) (line : WrittenLine) (lines : List WrittenLine) → m ≤ MAX_TRACE_LINE
    → IsWithin m line → AreWithin n lines → AreWithin (m + n) (line ∷ lines)
within-cons m n line lines short within later = record {
  fit = (omega (arith, within, short), later.fit);
  together = omega (
    arith,
    length-append (line_text line) (10 ∷ []),
    within,
    length-append (ended_line line) (lines_text lines),
    later.together,
  );
}

pub within-map : {X : Type 0} (n : ℕ) (f : X → WrittenLine) (xs : List X) → n ≤ MAX_TRACE_LINE
    → AllByRecursion (λ x. IsWithin n (f x)) xs → AreWithin (length xs * n) (map f xs)
within-map n f [] short all = within-later 0 (0 * n) [] (omega arith) within-none
within-map n f (x ∷ xs) short all = within-later (n + length xs * n) (suc (length xs) * n) (map f (x ∷ xs))
    (omega arith) (within-cons n (length xs * n) (f x) (map f xs) short all.0 (within-map n f xs short all.1))

pub within-flat_map : {X : Type 0} (n : ℕ) (f : X → List WrittenLine) (xs : List X)
    → AllByRecursion (λ x. AreWithin n (f x)) xs → AreWithin (length xs * n) (flat_map f xs)
within-flat_map n f [] all = within-later 0 (0 * n) [] (omega arith) within-none
within-flat_map n f (x ∷ xs) all = within-later (n + length xs * n) (suc (length xs) * n)
    (flat_map f (x ∷ xs))
    (omega arith) (within-append n (length xs * n) (f x) (flat_map f xs) all.0 (within-flat_map n f xs all.1))

-- ---- the definitions, by computing

fit-by_test : (lines : List WrittenLine) → list_all (λ line. nat_le (length (line_text line)) 100) lines
    ≡ true
    → AllByRecursion FitsOnLine lines
fit-by_test [] test = tt
fit-by_test (line ∷ lines) test =
    let both = and_parts (nat_le (length (line_text line)) 100)
    (list_all (λ line. nat_le (length (line_text line)) 100) lines) test in
    let short : length (line_text line) ≤ 100 = leb-true _ _ both.0 in
    (omega (arith, short), fit-by_test lines both.1)

definitions-short : list_all (λ line. nat_le (length (line_text line)) 100) definitions_written ≡ true
unfolding definitions_written digits
definitions-short = refl

definitions-together : nat_le (length (lines_text definitions_written)) 4096 ≡ true
unfolding definitions_written digits
definitions-together = refl

pub definitions-within : AreWithin 4096 definitions_written
definitions-within = record {
  fit = fit-by_test definitions_written definitions-short;
  together = leb-true _ _ definitions-together;
}

-- ---- words

pub length-seconds : (time : ℕ) → time < 10 ^ 9 → length (seconds_text time) ≤ 11
length-seconds time early =
    let whole : ℕ = time / 10 ^ 9 in
    let rest : ℕ = time % 10 ^ 9 in
    let whole_low : whole < 10 = div_below time (10 ^ 9) 10 (omega arith) (omega (arith, early)) in
    let rest_low : rest < 10 ^ 9 = mod_below time (10 ^ 9) (omega arith) in
    omega (
      arith,
      length-append (decimal whole) (46 ∷ zero_padded 9 rest),
      length-append (replicate (9 - length (decimal rest)) 48) (decimal rest),
      length-replicate {A = ℕ} (9 - length (decimal rest)) 48,
      length-decimal-le 1 whole (omega arith) (omega (arith, whole_low)) (omega (arith, whole_low)),
      length-decimal-le 9 rest (omega arith) rest_low (omega (arith, rest_low)),
    )

pub length-decimal_short : (n : ℕ) → n < 10 → length (decimal n) ≤ 1
length-decimal_short n low = length-decimal-le 1 n (omega arith) (omega (arith, low)) (omega (arith, low))

pub length-decimal_two : (n : ℕ) → n < 100 → length (decimal n) ≤ 2
length-decimal_two n low = length-decimal-le 2 n (omega arith) (omega (arith, low)) (omega (arith, low))

pub length-decimal_six : (n : ℕ) → n < 1000000 → length (decimal n) ≤ 6
length-decimal_six n low = length-decimal-le 6 n (omega arith) (omega (arith, low)) (omega (arith, low))

pub length-container_alias : (i : ℕ) → i < 100 → length (container_alias i) ≤ 3
length-container_alias i low = cond_both (eqb i 0) (codes "0") (99 ∷ decimal i) (λ text. length text ≤ 3)
    (λ e. omega arith) (λ e. omega (arith, length-decimal_two i low))

-- an item that is looked up
pub looked_up : (n i : ℕ) (texts : List (List ℕ)) → AllByRecursion (λ text. length text ≤ n) texts
    → length (unwrap_or (slice_get texts i) []) ≤ n
looked_up n i [] all = omega arith
looked_up n zero (text ∷ texts) all = all.0
looked_up n (suc i) (text ∷ texts) all = looked_up n i texts all.1
