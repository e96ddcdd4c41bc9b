-- The words of a written line, as a reader sees them.
use Rattle.std.specs.Prelude.{ℕ, List, map}
use Rattle.paje_print.specs.WrittenWords.{WrittenLine, WrittenWord, bare, quoted}

abbrev pub word_bytes : WrittenWord → List ℕ
word_bytes (bare bytes) = bytes
word_bytes (quoted bytes) = bytes

abbrev pub words_of : WrittenLine → List (List ℕ)
words_of line = map word_bytes line
