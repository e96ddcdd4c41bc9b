-- The words of a line.
use Rattle.std.specs.Prelude.{ℕ, List, map, slice_range}
use Rattle.paje_lex.specs.declared.token.Token.{Token}
use Rattle.paje_defs.specs.declared.words.Words.{Words}

-- the bytes of the tokens of a line
abbrev pub words_at_tokens : List ℕ → List Token → List (List ℕ)
words_at_tokens line tokens = map (λ t. slice_range line t.from t.to) tokens

abbrev pub words_in : Words → List (List ℕ)
words_in w = words_at_tokens w.line.now w.tokens.now
