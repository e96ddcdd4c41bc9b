-- A written line is read as its words.
use Rattle.std.proofs.Common.{◌≡◌, ◌∙◌, ℕ, ◌≤◌, List, [], ◌∷◌, ◌++◌, Ok, ap, arith, false, IsUtf8, length}
use Rattle.std.proofs.Common.{map, ne_eqb, le-ltb, refl, sym}
use Rattle.std.specs.List.{flat_map}
use Rattle.trace_base.specs.declared.limits.TheConstants.{MAX_TRACE_LINE}
use Rattle.paje_defs.specs.Words.{words_at_tokens}
use Rattle.paje_lex.specs.declared.token.Token.{Token}
use Rattle.paje_lex.proofs.LineLaws.{lexed_only}
use Rattle.paje_lex.specs.LineGrammar.{IsCut, Piece, body_of_line, tokens_from}
use Rattle.paje_lex.specs.LineKinds.{is_definition_line, is_skipped_line, tokens_start}
use Rattle.paje_lex.specs.LineReading.{lexed}
use Rattle.paje_print.specs.Canonical.{FitsOnLine}
use Rattle.paje_print.specs.WrittenWords.{WrittenLine, WrittenWord, bare, line_text, quoted, spaced_word}
use Rattle.paje_reader.specs.TextLines.{reading, reading_of_bytes, reading_of_tokens, tells}
use Rattle.paje_reader.specs.TextLines.{text_line}
use Rattle.paje_read_back.proofs.LinesEnd.{line-no_carriage_return}
use Rattle.paje_read_back.proofs.WordBytes.{word_bytes}
use Rattle.paje_read_back.proofs.WordsAtTokens.{piece_words, words-at_tokens}
use Rattle.paje_read_back.proofs.WordsCut.{line-pieces, line-pieces_text, line-words, line_pieces}
use Rattle.paje_read_back.proofs.WordsWellWritten.{AreWellWritten, line-utf8}

-- ---- a line of pieces

-- the bytes are text, and behind a % that begins a definition line these pieces
abbrev HasPieces : List ℕ → List Piece → Type 0
HasPieces bytes ps = IsUtf8 bytes × IsCut (body_of_line bytes) ps

lexed-pieces : (bytes : List ℕ) (ps : List Piece) → HasPieces bytes ps
    → lexed bytes ≡ Ok (tokens_from (tokens_start bytes) ps)
lexed-pieces bytes ps (utf8, cut) =
    lexed_only bytes (Ok (tokens_from (tokens_start bytes) ps)) (utf8, ps, cut, refl)

words-of_pieces : (bytes : List ℕ) (ps : List Piece) → HasPieces bytes ps
    → words_at_tokens bytes (tokens_from (tokens_start bytes) ps) ≡ piece_words ps
words-of_pieces bytes ps (utf8, cut) = words-at_tokens bytes (tokens_start bytes) ps cut.text

tokens-told : (bytes : List ℕ) (tokens : List Token) → is_definition_line bytes ≡ false
    → reading_of_tokens bytes (Ok tokens) ≡ tells (words_at_tokens bytes tokens)
tokens-told bytes tokens event = rw event refl

bytes-read : (bytes : List ℕ) (ps : List Piece) → HasPieces bytes ps → is_skipped_line bytes ≡ false
    → reading_of_bytes bytes ≡ reading_of_tokens bytes (Ok (tokens_from (tokens_start bytes) ps))
bytes-read bytes ps has read = rw read (ap (reading_of_tokens bytes) (lexed-pieces bytes ps has))

pieces-told : (bytes : List ℕ) (ps : List Piece) → HasPieces bytes ps → is_skipped_line bytes ≡ false
    → is_definition_line bytes ≡ false → reading_of_bytes bytes ≡ tells (piece_words ps)
pieces-told bytes ps has read event =
    bytes-read bytes ps has read ∙ (tokens-told bytes (tokens_from (tokens_start bytes) ps) event
    ∙ ap tells (words-of_pieces bytes ps has))

-- ---- an event line

abbrev IsDigit : ℕ → Type 0
IsDigit b = (48 ≤ b) × (b ≤ 57)

-- it begins with a digit
abbrev pub IsEventLine : WrittenLine → Type 0
IsEventLine [] = ⊥
IsEventLine (quoted bytes ∷ words) = ⊥
IsEventLine (bare [] ∷ words) = ⊥
IsEventLine (bare (b ∷ bytes) ∷ words) = IsDigit b × AreWellWritten (bare (b ∷ bytes) ∷ words)

digit-read : (b : ℕ) (bytes : List ℕ) → IsDigit b → is_skipped_line (b ∷ bytes) ≡ false
digit-read b bytes is =
    rw (ne_eqb b 32 (λ e. omega arith), ne_eqb b 9 (λ e. omega arith), ne_eqb b 35 (λ e. omega arith)) refl

digit-tells : (b : ℕ) (bytes : List ℕ) → IsDigit b → is_definition_line (b ∷ bytes) ≡ false
digit-tells b bytes is =
    rw (ne_eqb b 32 (λ e. omega arith), ne_eqb b 9 (λ e. omega arith), ne_eqb b 37 (λ e. omega arith)) refl

-- the length is looked at, and the line doesn't end in a carriage return
length-read : (n : ℕ) (word : WrittenWord) (words : List WrittenWord) → AreWellWritten (word ∷ words)
    → FitsOnLine (word ∷ words)
    → reading (text_line (n, line_text (word ∷ words))) ≡ reading_of_bytes (line_text (word ∷ words))
length-read n word words are fits =
    rw (le-ltb MAX_TRACE_LINE (length (line_text (word ∷ words))) fits)
    (ap reading_of_bytes (line-no_carriage_return word words are))

told_bytes : (b : ℕ) (bytes : List ℕ) (words : List WrittenWord) → IsDigit b
    → AreWellWritten (bare (b ∷ bytes) ∷ words)
    → HasPieces (line_text (bare (b ∷ bytes) ∷ words)) (line_pieces (bare (b ∷ bytes) ∷ words))
told_bytes b bytes words is are =
    let line : WrittenLine = bare (b ∷ bytes) ∷ words in (
      line-utf8 line are,
      record {
        pieces = line-pieces line are;
        text = rw (digit-tells b (bytes ++ flat_map spaced_word words) is) (sym (line-pieces_text line));
      },
    )

pub event_line-told : (n : ℕ) (line : WrittenLine) → IsEventLine line → FitsOnLine line
    → reading (text_line (n, line_text line)) ≡ tells (map word_bytes line)
event_line-told n [] is fits = absurd is
event_line-told n (quoted bytes ∷ words) is fits = absurd is
event_line-told n (bare [] ∷ words) is fits = absurd is
event_line-told n (bare (b ∷ bytes) ∷ words) (digit, are) fits =
    let line : WrittenLine = bare (b ∷ bytes) ∷ words in
    length-read n (bare (b ∷ bytes)) words are fits
    ∙ (pieces-told (line_text line) (line_pieces line) (told_bytes b bytes words digit are)
    (digit-read b (bytes ++ flat_map spaced_word words) digit)
    (digit-tells b (bytes ++ flat_map spaced_word words) digit)
    ∙ ap tells (line-words line))
