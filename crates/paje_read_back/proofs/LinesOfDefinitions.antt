-- The words of the definition lines of a canonical text are well written.
use Rattle.std.proofs.Common.{◌≡◌, ℕ, ◌&&◌, Bool, true, false, List, [], ◌∷◌}
use Rattle.std.proofs.Common.{leb-true, ltb-true, nat_le, nat_lt, refl, sym, true≢false}
use Rattle.std.proofs.lemmas.Bool.{and_parts}
use Rattle.std.specs.Fmt.{digits}
use Rattle.std.specs.List.{AllByRecursion, list_all}
use Rattle.paje_print.specs.WrittenEvents.{definitions_written}
use Rattle.paje_print.specs.WrittenWords.{WrittenLine, WrittenWord, bare, quoted}
use Rattle.paje_read_back.proofs.WordsWellWritten.{AreWellWritten, IsWellWritten, IsWordByte}

-- ---- tests that can be computed

abbrev is_word_byte : ℕ → Bool
is_word_byte b = nat_le 35 b && nat_lt b 128

abbrev is_bare : WrittenWord → Bool
is_bare (bare []) = false
is_bare (bare (b ∷ bytes)) = list_all is_word_byte (b ∷ bytes)
is_bare (quoted bytes) = false

definitions_pass : list_all (list_all is_bare) definitions_written ≡ true
unfolding definitions_written digits
definitions_pass = refl

-- ---- what they tell

byte_passed : (b : ℕ) → is_word_byte b ≡ true → IsWordByte b
byte_passed b e =
    let both = and_parts (nat_le 35 b) (nat_lt b 128) e in
    (leb-true 35 b both.0, ltb-true b 128 both.1)

bytes_passed : (bytes : List ℕ) → list_all is_word_byte bytes ≡ true → AllByRecursion IsWordByte bytes
bytes_passed [] e = tt
bytes_passed (b ∷ bytes) e =
    let both = and_parts (is_word_byte b) (list_all is_word_byte bytes) e in
    (byte_passed b both.0, bytes_passed bytes both.1)

word_passed : (word : WrittenWord) → is_bare word ≡ true → IsWellWritten word
word_passed (bare []) e = absurd (true≢false (sym e))
word_passed (bare (b ∷ bytes)) e = bytes_passed (b ∷ bytes) e
word_passed (quoted bytes) e = absurd (true≢false (sym e))

words_passed : (words : List WrittenWord) → list_all is_bare words ≡ true → AreWellWritten words
words_passed [] e = tt
words_passed (word ∷ words) e =
    let both = and_parts (is_bare word) (list_all is_bare words) e in
    (word_passed word both.0, words_passed words both.1)

lines_passed : (lines : List WrittenLine) → list_all (list_all is_bare) lines ≡ true
    → AllByRecursion AreWellWritten lines
lines_passed [] e = tt
lines_passed (line ∷ lines) e =
    let both = and_parts (list_all is_bare line) (list_all (list_all is_bare) lines) e in
    (words_passed line both.0, lines_passed lines both.1)

pub definitions-words : AllByRecursion AreWellWritten definitions_written
definitions-words = lines_passed definitions_written definitions_pass
