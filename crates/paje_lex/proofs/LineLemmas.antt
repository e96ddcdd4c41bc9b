-- Lines that are text, and lines that aren't.
use Rattle.std.proofs.Common.{◌≡◌, List, ℕ, Bool, true, false, Result, Err, refl, subst}
use Rattle.std.specs.Str.{IsUtf8, is_utf8}
use Rattle.std.specs.Str.Lossy.{utf8_valid_len}
use Rattle.std.proofs.lemmas.Str.{IsUtf8-from_is_utf8, is_utf8-from_IsUtf8}
use Rattle.paje_lex.specs.declared.token.Token.{Token}
use Rattle.paje_lex.specs.declared.lex_fault.LexFault.{LexFault}
use Rattle.paje_lex.specs.declared.lex_fault.LexFault.TheVariants.{NotText}
use Rattle.paje_lex.specs.declared.unread.Unread.{Unread}
use Rattle.paje_lex.specs.Unread.{UnlessMemory}
use Rattle.paje_lex.specs.LineReading.{lexed, scanned}

pub lexed_text : (line : List ℕ) → IsUtf8 line → lexed line ≡ scanned line
lexed_text line text = rw (is_utf8-from_IsUtf8 line text) refl

not_text : (line : List ℕ) (b : Bool) → is_utf8 line ≡ b → (IsUtf8 line → ⊥) → is_utf8 line ≡ false
not_text line true e other = absurd (other (IsUtf8-from_is_utf8 line e))
not_text line false e other = e

pub lexed_not_text : (line : List ℕ) → (IsUtf8 line → ⊥) → lexed line ≡ Err (NotText (utf8_valid_len line))
lexed_not_text line other = rw (not_text line (is_utf8 line) refl other) refl

pub told_of : (r : Result (List Token) (Unread LexFault)) (a b : Result (List Token) LexFault) → a ≡ b
    → UnlessMemory r a → UnlessMemory r b
told_of r a b e h = let P : Result (List Token) LexFault → Type 0 = λ x. UnlessMemory r x in subst P e h
