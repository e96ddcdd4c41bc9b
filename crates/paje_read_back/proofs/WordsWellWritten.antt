-- Words that can be read again, and what their bytes are.
use Rattle.std.proofs.Common.{ℕ, ◌<◌, ◌≤◌, List, [], ◌∷◌, ◌++◌, IsUtf8, IsAscii, arith, zero, suc, ne_eqb}
use Rattle.std.specs.List.{AllByRecursion, flat_map}
use Rattle.std.proofs.lemmas.Str.{IsUtf8-append, IsUtf8-from_ascii, IsUtf8-nil}
use Rattle.list_lemmas.proofs.Each.{all_append}
use Rattle.paje_print.specs.Canonical.{IsQuotable, Lacks}
use Rattle.paje_print.specs.WrittenWords.{WrittenWord, bare, line_text, quoted, spaced_word, word_text}

-- ---- words

-- ASCII, and no blank, quote or end of a line
abbrev pub IsWordByte : ℕ → Type 0
IsWordByte b = (35 ≤ b) × (b < 128)

abbrev pub IsBareWord : List ℕ → Type 0
IsBareWord [] = ⊥
IsBareWord (b ∷ bytes) = AllByRecursion IsWordByte (b ∷ bytes)

abbrev pub IsWellWritten : WrittenWord → Type 0
IsWellWritten (bare bytes) = IsBareWord bytes
IsWellWritten (quoted bytes) = IsQuotable bytes

abbrev pub AreWellWritten : List WrittenWord → Type 0
AreWellWritten words = AllByRecursion IsWellWritten words

-- ---- no byte of a word ends a line

pub bare-bytes : (bytes : List ℕ) → IsBareWord bytes → AllByRecursion IsWordByte bytes
bare-bytes [] is = absurd is
bare-bytes (b ∷ bytes) is = is

word_bytes-lack : (byte : ℕ) (bytes : List ℕ) → byte < 35 → AllByRecursion IsWordByte bytes
    → Lacks byte bytes
word_bytes-lack byte [] small are = tt
word_bytes-lack byte (b ∷ bytes) small (is, are) = (
  ne_eqb b byte (λ e. omega arith),
  word_bytes-lack byte bytes small are,
)

word-lacks_newline : (word : WrittenWord) → IsWellWritten word → Lacks 10 (word_text word)
word-lacks_newline (bare bytes) is = word_bytes-lack 10 bytes (omega arith) (bare-bytes bytes is)
word-lacks_newline (quoted bytes) is = (
  ne_eqb 34 10 (λ e. omega arith),
  all_append _ bytes (34 ∷ []) is.no_newline (ne_eqb 34 10 (λ e. omega arith), tt),
)

spaced-lack_newline : (words : List WrittenWord) → AreWellWritten words
    → Lacks 10 (flat_map spaced_word words)
spaced-lack_newline [] are = tt
spaced-lack_newline (word ∷ words) (is, are) = (
  ne_eqb 32 10 (λ e. omega arith),
  all_append _ (word_text word) (flat_map spaced_word words) (word-lacks_newline word is)
      (spaced-lack_newline words are),
)

pub line-lacks_newline : (line : List WrittenWord) → AreWellWritten line → Lacks 10 (line_text line)
line-lacks_newline [] are = tt
line-lacks_newline (word ∷ words) (is, are) =
    all_append _ (word_text word) (flat_map spaced_word words) (word-lacks_newline word is)
    (spaced-lack_newline words are)

-- ---- a line is UTF-8

pub word_bytes-ascii : (bytes : List ℕ) → AllByRecursion IsWordByte bytes → IsAscii bytes
word_bytes-ascii [] are i = omega arith
word_bytes-ascii (b ∷ bytes) (is, are) zero = omega arith
word_bytes-ascii (b ∷ bytes) (is, are) (suc i) = word_bytes-ascii bytes are i

one-utf8 : (b : ℕ) → b < 128 → IsUtf8 (b ∷ [])
one-utf8 b small = IsUtf8-from_ascii (b ∷ []) (is b small)
  where
    is : (b : ℕ) → b < 128 → IsAscii (b ∷ [])
    is b small zero = omega arith
    is b small (suc i) = omega arith

word-utf8 : (word : WrittenWord) → IsWellWritten word → IsUtf8 (word_text word)
word-utf8 (bare bytes) is = IsUtf8-from_ascii bytes (word_bytes-ascii bytes (bare-bytes bytes is))
word-utf8 (quoted bytes) is =
    IsUtf8-append (34 ∷ []) (bytes ++ 34 ∷ []) (one-utf8 34 (omega arith))
    (IsUtf8-append bytes (34 ∷ []) is.utf8 (one-utf8 34 (omega arith)))

spaced-utf8 : (words : List WrittenWord) → AreWellWritten words → IsUtf8 (flat_map spaced_word words)
spaced-utf8 [] are = IsUtf8-nil
spaced-utf8 (word ∷ words) (is, are) =
    IsUtf8-append (32 ∷ []) (word_text word ++ flat_map spaced_word words) (one-utf8 32 (omega arith))
    (IsUtf8-append (word_text word) (flat_map spaced_word words) (word-utf8 word is) (spaced-utf8 words are))

pub line-utf8 : (line : List WrittenWord) → AreWellWritten line → IsUtf8 (line_text line)
line-utf8 [] are = IsUtf8-nil
line-utf8 (word ∷ words) (is, are) =
    IsUtf8-append (word_text word) (flat_map spaced_word words) (word-utf8 word is) (spaced-utf8 words are)
