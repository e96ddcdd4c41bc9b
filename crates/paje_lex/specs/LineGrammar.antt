-- The tokens of a line by its grammar: a line is cut into blanks, quoted tokens and plain ones.
use Rattle.std.specs.Prelude.{◌≡◌, ◌≤◌, All, ℕ, ◌+◌, ◌==◌, List, [], ◌∷◌, ◌++◌, length, drop, false, IsTrue}
use Rattle.std.specs.Prelude.{Ok, Err, Result, IsUtf8}
use Rattle.std.specs.List.{AllByRecursion}
use Rattle.std.specs.Str.Lossy.{utf8_valid_len}
use Rattle.paje_lex.specs.declared.token.Token.{Token}
use Rattle.paje_lex.specs.declared.lex_fault.LexFault.{LexFault}
use Rattle.paje_lex.specs.declared.lex_fault.LexFault.TheVariants.{NotText, OpenQuote}
use Rattle.paje_lex.specs.declared.unread.Unread.{Unread}
use Rattle.paje_lex.specs.declared.unread.Unread.TheVariants.{Memory, Refused}
use Rattle.paje_lex.specs.LineKinds.{is_blank, tokens_start}

-- what a line gives: its tokens, or what is wrong with it
abbrev pub Answer : Type 0
Answer = Result (List Token) LexFault

abbrev pub token : ℕ → ℕ → Token
token from to = record { from = from; to = to }

-- a blank, the bytes between two quotes, or the bytes of a token without quotes
pub data Piece : Type 0 where
  blank : ℕ → Piece
  quoted : List ℕ → Piece
  plain : List ℕ → Piece

-- how a piece is written
abbrev pub piece_text : Piece → List ℕ
piece_text (blank b) = b ∷ []
piece_text (quoted bytes) = 34 ∷ (bytes ++ 34 ∷ [])
piece_text (plain bytes) = bytes

abbrev pub pieces_text : List Piece → List ℕ
pieces_text [] = []
pieces_text (p ∷ ps) = piece_text p ++ pieces_text ps

-- ---- which pieces make a line

abbrev pub NoQuotes : List ℕ → Type 0
NoQuotes bytes = AllByRecursion (λ b. (b == 34) ≡ false) bytes

abbrev pub NoBlanks : List ℕ → Type 0
NoBlanks bytes = AllByRecursion (λ b. is_blank b ≡ false) bytes

-- a token without quotes has no blank, and doesn't begin with a quote
abbrev pub IsPlain : List ℕ → Type 0
IsPlain [] = ⊥
IsPlain (b ∷ bytes) = ((b == 34) ≡ false) × NoBlanks (b ∷ bytes)

abbrev pub IsPiece : Piece → Type 0
IsPiece (blank b) = IsTrue (is_blank b)
IsPiece (quoted bytes) = NoQuotes bytes
IsPiece (plain bytes) = IsPlain bytes

-- a token without quotes ends at a blank or at the line's end
abbrev pub MayStandBefore : Piece → List Piece → Type 0
MayStandBefore (plain bytes) (quoted more ∷ ps) = ⊥
MayStandBefore (plain bytes) (plain more ∷ ps) = ⊥
MayStandBefore (plain bytes) (blank b ∷ ps) = Unit {0}
MayStandBefore (plain bytes) [] = Unit {0}
MayStandBefore (blank b) ps = Unit {0}
MayStandBefore (quoted bytes) ps = Unit {0}

abbrev pub ArePieces : List Piece → Type 0
ArePieces [] = Unit {0}
ArePieces (p ∷ ps) = IsPiece p × MayStandBefore p ps × ArePieces ps

-- ---- where the tokens stand

abbrev pub tokens_from : ℕ → List Piece → List Token
tokens_from at [] = []
tokens_from at (blank b ∷ ps) = tokens_from (at + 1) ps
tokens_from at (quoted bytes ∷ ps) = token (at + 1) (at + 1 + length bytes)
    ∷ tokens_from (at + 1 + length bytes + 1) ps
tokens_from at (plain bytes ∷ ps) = token at (at + length bytes) ∷ tokens_from (at + length bytes) ps

-- ---- what a line has

-- the bytes are these pieces
pub record IsCut (bytes : List ℕ) (ps : List Piece) : Type 0 where
  pub pieces : ArePieces ps
  pub text : bytes ≡ pieces_text ps

-- the bytes are these pieces, and then a quote that isn't closed
pub record IsOpen (bytes : List ℕ) (ps : List Piece) (rest : List ℕ) : Type 0 where
  pub pieces : ArePieces (ps ++ quoted [] ∷ [])
  pub unclosed : NoQuotes rest
  pub text : bytes ≡ pieces_text ps ++ 34 ∷ rest

abbrev pub body_of_line : List ℕ → List ℕ
body_of_line line = drop (tokens_start line) line

-- A line has these tokens, or this is wrong with it.
abbrev pub Lexes : List ℕ → Answer → Type 0
Lexes line (Ok tokens) = IsUtf8 line × (ps : List Piece) × IsCut (body_of_line line) ps
    × (tokens ≡ tokens_from (tokens_start line) ps)
Lexes line (Err (NotText at)) = ¬ (IsUtf8 line) × (at ≡ utf8_valid_len line)
Lexes line (Err (OpenQuote at)) = IsUtf8 line × (ps : List Piece) × (rest : List ℕ)
    × IsOpen (body_of_line line) ps rest × (at ≡ tokens_start line + length (pieces_text ps))

-- what a call gave that filled a list with these tokens
abbrev pub filled : List Token → Result (Unit {0}) (Unread LexFault) → Result (List Token) (Unread LexFault)
filled tokens (Ok done) = Ok tokens
filled tokens (Err e) = Err e

-- what a call gave, where it isn't want of memory
abbrev pub LexesUnlessMemory : List ℕ → Result (List Token) (Unread LexFault) → Type 0
LexesUnlessMemory line (Ok tokens) = Lexes line (Ok tokens)
LexesUnlessMemory line (Err (Refused fault)) = Lexes line (Err fault)
LexesUnlessMemory line (Err Memory) = Unit {0}

-- the tokens stand in a line of this length
abbrev pub StandIn : ℕ → List Token → Type 0
StandIn len tokens = All (λ t. (t.from ≤ t.to) × (t.to ≤ len)) tokens
