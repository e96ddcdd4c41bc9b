-- How the code reads the tokens of a line, a byte at a time.
use Rattle.std.specs.Prelude.{◌≡◌, ℕ, ◌+◌, ◌<◌, ◌==◌, List, [], ◌∷◌, ◌++◌, drop, Option, Some, None, Ok, Err}
use Rattle.std.specs.Prelude.{Result, if◌then◌else◌}
use Rattle.std.specs.Option.{option_to_list}
use Rattle.std.specs.Str.{is_utf8}
use Rattle.std.specs.Str.Lossy.{utf8_valid_len}
use Rattle.paje_lex.specs.declared.token.Token.{Token}
use Rattle.paje_lex.specs.declared.line.Step.{Step}
use Rattle.paje_lex.specs.declared.lex_fault.LexFault.{LexFault}
use Rattle.paje_lex.specs.declared.lex_fault.LexFault.TheVariants.{NotText, OpenQuote}
use Rattle.paje_lex.specs.declared.state.State.{State}
use Rattle.paje_lex.specs.declared.state.State.TheVariants.{Between, Plain, Quoted}
use Rattle.paje_lex.specs.LineKinds.{is_blank, tokens_start}
use Rattle.paje_lex.specs.LineGrammar.{token}

-- what a byte begins where no token is open
abbrev pub starting : ℕ → ℕ → State
starting b at = if is_blank b then Between else (if b == 34 then Quoted at else Plain at)

-- what stands open after one more byte, and the token that it ends
abbrev pub step : State → ℕ → ℕ → State × Option Token
step Between b at = (starting b at, None)
step (Plain from) b at = if is_blank b then (Between, Some (token from at)) else (Plain from, None)
step (Quoted quote) b at = if b == 34 then (Between, Some (token (quote + 1) at)) else (Quoted quote, None)

-- what the end of the line makes of what stands open
abbrev pub ending : State → ℕ → Result (List Token) LexFault
ending Between at = Ok []
ending (Plain from) at = Ok (token from at ∷ [])
ending (Quoted quote) at = Err (OpenQuote quote)

-- the tokens before, and then those of a result
abbrev pub joined : List Token → Result (List Token) LexFault → Result (List Token) LexFault
joined tokens (Ok more) = Ok (tokens ++ more)
joined tokens (Err e) = Err e

-- the tokens of the bytes from a place on
abbrev pub scan : State → ℕ → List ℕ → Result (List Token) LexFault
scan state at [] = ending state at
scan state at (b ∷ bs) = joined (option_to_list (step state b at).1) (scan (step state b at).0 (at + 1) bs)

-- the tokens of a line of text
abbrev pub scanned : List ℕ → Result (List Token) LexFault
scanned line = scan Between (tokens_start line) (drop (tokens_start line) line)

-- the tokens of a line, or what is wrong with it
abbrev pub lexed : List ℕ → Result (List Token) LexFault
lexed line = if is_utf8 line then scanned line else Err (NotText (utf8_valid_len line))

-- what stands open began before a place
abbrev pub IsBefore : State → ℕ → Type 0
IsBefore Between at = Unit {0}
IsBefore (Plain from) at = from < at
IsBefore (Quoted quote) at = quote < at

-- what is so of a line from a place on is what a step over its front and the rest of the line give
abbrev pub StepsOver : Result (List Token) LexFault → List ℕ → Result Step LexFault → Type 0
StepsOver wanted line (Ok s) = wanted ≡ joined (option_to_list s.token) (scan Between s.behind
    (drop s.behind line))
StepsOver wanted line (Err e) = wanted ≡ Err e
