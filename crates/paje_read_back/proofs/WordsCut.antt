-- The pieces of a written line.
use Rattle.std.proofs.Common.{◌≡◌, ◌∙◌, ℕ, List, [], ◌∷◌, ◌++◌, ap, arith, map, refl, false, ne_eqb}
use Rattle.std.specs.List.{AllByRecursion, flat_map}
use Rattle.paje_lex.specs.LineGrammar.{ArePieces, IsPiece, IsPlain, MayStandBefore, NoBlanks, Piece, blank}
use Rattle.paje_lex.specs.LineGrammar.{piece_text, pieces_text, plain}
use Rattle.paje_lex.specs.LineGrammar as grammar
use Rattle.paje_lex.specs.LineKinds.{is_blank}
use Rattle.paje_print.specs.WrittenWords.{WrittenWord, bare, line_text, quoted, spaced_word, word_text}
use Rattle.paje_read_back.proofs.WordBytes.{word_bytes}
use Rattle.paje_read_back.proofs.WordsAtTokens.{piece_words}
use Rattle.paje_read_back.proofs.WordsWellWritten.{AreWellWritten, IsBareWord, IsWellWritten, IsWordByte}

abbrev piece_of_word : WrittenWord → Piece
piece_of_word (bare bytes) = plain bytes
piece_of_word (quoted bytes) = grammar.quoted bytes

-- a space and a word, again and again
abbrev spaced_pieces : List WrittenWord → List Piece
spaced_pieces [] = []
spaced_pieces (word ∷ words) = blank 32 ∷ (piece_of_word word ∷ spaced_pieces words)

abbrev pub line_pieces : List WrittenWord → List Piece
line_pieces [] = []
line_pieces (word ∷ words) = piece_of_word word ∷ spaced_pieces words

-- ---- their bytes

piece-text : (word : WrittenWord) → piece_text (piece_of_word word) ≡ word_text word
piece-text (bare bytes) = refl
piece-text (quoted bytes) = refl

spaced-text : (words : List WrittenWord) → pieces_text (spaced_pieces words) ≡ flat_map spaced_word words
spaced-text [] = refl
spaced-text (word ∷ words) =
    ap (λ text. 32 ∷ (text ++ pieces_text (spaced_pieces words))) (piece-text word)
    ∙ ap (λ text. 32 ∷ (word_text word ++ text)) (spaced-text words)

pub line-pieces_text : (line : List WrittenWord) → pieces_text (line_pieces line) ≡ line_text line
line-pieces_text [] = refl
line-pieces_text (word ∷ words) =
    ap (λ text. text ++ pieces_text (spaced_pieces words)) (piece-text word)
    ∙ ap (λ text. word_text word ++ text) (spaced-text words)

-- ---- their words

spaced-words : (words : List WrittenWord) → piece_words (spaced_pieces words) ≡ map word_bytes words
spaced-words [] = refl
spaced-words (bare bytes ∷ words) = ap (λ more. bytes ∷ more) (spaced-words words)
spaced-words (quoted bytes ∷ words) = ap (λ more. bytes ∷ more) (spaced-words words)

pub line-words : (line : List WrittenWord) → piece_words (line_pieces line) ≡ map word_bytes line
line-words [] = refl
line-words (bare bytes ∷ words) = ap (λ more. bytes ∷ more) (spaced-words words)
line-words (quoted bytes ∷ words) = ap (λ more. bytes ∷ more) (spaced-words words)

-- ---- they are pieces

word_byte-unblank : (b : ℕ) → IsWordByte b → is_blank b ≡ false
word_byte-unblank b is = rw (ne_eqb b 32 (λ e. omega arith), ne_eqb b 9 (λ e. omega arith)) refl

word-blankless : (bytes : List ℕ) → AllByRecursion IsWordByte bytes → NoBlanks bytes
word-blankless [] are = tt
word-blankless (b ∷ bytes) (is, are) = (word_byte-unblank b is, word-blankless bytes are)

word-plain : (bytes : List ℕ) → IsBareWord bytes → IsPlain bytes
word-plain [] is = absurd is
word-plain (b ∷ bytes) (is, are) = (
  ne_eqb b 34 (λ e. omega arith),
  (word_byte-unblank b is, word-blankless bytes are),
)

word-piece : (word : WrittenWord) → IsWellWritten word → IsPiece (piece_of_word word)
word-piece (bare bytes) is = word-plain bytes is
word-piece (quoted bytes) is = is.no_quote

before_space : (word : WrittenWord) (words : List WrittenWord)
    → MayStandBefore (piece_of_word word) (spaced_pieces words)
before_space (bare bytes) [] = tt
before_space (bare bytes) (word ∷ words) = tt
before_space (quoted bytes) words = tt

spaced-pieces : (words : List WrittenWord) → AreWellWritten words → ArePieces (spaced_pieces words)
spaced-pieces [] are = tt
spaced-pieces (word ∷ words) (is, are) = (
  refl,
  tt,
  (word-piece word is, before_space word words, spaced-pieces words are),
)

pub line-pieces : (line : List WrittenWord) → AreWellWritten line → ArePieces (line_pieces line)
line-pieces [] are = tt
line-pieces (word ∷ words) (is, are) =
    (word-piece word is, before_space word words, spaced-pieces words are)
