-- The lines of a text as lists of words, of which some stand in quotes.
use Rattle.std.specs.Prelude.{ℕ, List, [], ◌∷◌, ◌++◌}
use Rattle.std.specs.List.{flat_map}

-- a word without quotes, and one in them
pub data WrittenWord : Type 0 where
  bare : List ℕ → WrittenWord
  quoted : List ℕ → WrittenWord

abbrev pub WrittenLine : Type 0
WrittenLine = List WrittenWord

abbrev pub word_text : WrittenWord → List ℕ
word_text (bare bytes) = bytes
word_text (quoted bytes) = 34 ∷ bytes ++ 34 ∷ []

abbrev pub spaced_word : WrittenWord → List ℕ
spaced_word word = 32 ∷ word_text word

-- the words with a space between two of them
abbrev pub line_text : WrittenLine → List ℕ
line_text [] = []
line_text (word ∷ words) = word_text word ++ flat_map spaced_word words

abbrev pub ended_line : WrittenLine → List ℕ
ended_line line = line_text line ++ 10 ∷ []

-- each line with its newline
abbrev pub lines_text : List WrittenLine → List ℕ
lines_text lines = flat_map ended_line lines
