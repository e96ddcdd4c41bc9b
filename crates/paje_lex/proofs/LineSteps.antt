-- What one step over the front of what is left of a line leaves to be read.
use Rattle.std.proofs.Common.{◌≡◌, ℕ, ◌+◌, ◌-◌, ◌<◌, ◌==◌, List, [], ◌∷◌, length, take, drop}
use Rattle.std.proofs.Common.{true, false, Result, Ok, Err, sym, ◌∙◌, ap, refl, arith}
use Rattle.std.proofs.Common.{zero, suc, get_or, add-zero, subst}
use Rattle.std.specs.Result.{IsErrAnd}
use Rattle.std.specs.Str.{IsUtf8}
use Rattle.std.proofs.lemmas.List.{drop-drop}
use Rattle.std.proofs.lemmas.Bool.{false_from_ne_true}
use Rattle.memchr.specs.Find.{NoneBefore, Nowhere, Passes, is_byte}
use Rattle.paje_lex.specs.declared.token.Token.{Token}
use Rattle.paje_lex.specs.declared.lex_fault.LexFault.{LexFault}
use Rattle.paje_lex.specs.declared.lex_fault.LexFault.TheVariants.{OpenQuote}
use Rattle.paje_lex.specs.declared.unread.Unread.{Unread}
use Rattle.paje_lex.specs.declared.unread.Unread.TheVariants.{Refused}
use Rattle.paje_lex.specs.Unread.{UnlessMemory}
use Rattle.paje_lex.specs.declared.state.State.TheVariants.{Between, Quoted}
use Rattle.paje_lex.specs.LineKinds.{tokens_start}
use Rattle.paje_lex.specs.LineGrammar.{token, NoQuotes, filled}
use Rattle.paje_lex.specs.LineReading.{scan, joined, lexed}
use Rattle.paje_lex.proofs.DateLemmas.{slice_behind}
use Rattle.paje_lex.proofs.LineLemmas.{lexed_text, told_of}
use Rattle.paje_lex.proofs.LineLaws.{joined_nothing, scan_open}

-- ---- a token in quotes is open

quoted_until : (bytes : List ℕ) (k quote at : ℕ) → k < length bytes
    → ((j : ℕ) → j < k → (get_or bytes j 0 == 34) ≡ false) → (get_or bytes k 0 == 34) ≡ true
    → scan (Quoted quote) at bytes ≡ joined (token (quote + 1) (at + k) ∷ [])
    (scan Between (at + k + 1) (drop (k + 1) bytes))
quoted_until [] k quote at some before is = absurd (omega arith)
quoted_until (b ∷ bs) zero quote at some before is = rw (add-zero at) (rw is refl)
quoted_until (b ∷ bs) (suc k) quote at some before is =
    rw (before 0 (omega arith)) (joined_nothing (scan (Quoted quote) (at + 1) bs) ∙
    (quoted_until bs k quote (at + 1) (omega arith) (λ j h. before (suc j) (omega arith)) is
    ∙ (ap (λ n. joined (token (quote + 1) n ∷ []) (scan Between (n + 1) (drop (k + 1) bs))) (places at k)
    ∙ ap (λ n. joined (token (quote + 1) (at + suc k) ∷ []) (scan Between (at + suc k + 1)
    (drop n (b ∷ bs)))) (one_more k))))
  where
    places : (at n : ℕ) → at + 1 + n ≡ at + suc n
    places at n = omega arith

    one_more : (k : ℕ) → suc (k + 1) ≡ suc k + 1
    one_more k = omega arith

none_quoted : (bytes : List ℕ) → ((j : ℕ) → j < length bytes → (get_or bytes j 0 == 34) ≡ false)
    → NoQuotes bytes
none_quoted [] none = tt
none_quoted (b ∷ bs) none = (none 0 (omega arith), none_quoted bs (λ j h. none (suc j) (omega arith)))

-- the next quote is the first behind the opening one
pub quoted_found : (line : List ℕ) (quote len : ℕ)
    → NoneBefore (Passes (is_byte 34) (take (length line - (quote + 1)) (drop (quote + 1) line))) 0
    (length (take (length line - (quote + 1)) (drop (quote + 1) line))) len
    → Passes (is_byte 34) (take (length line - (quote + 1)) (drop (quote + 1) line)) len
    → scan (Quoted quote) (quote + 1) (drop (quote + 1) line) ≡ joined
    (token (quote + 1) (quote + 1 + len) ∷ [])
    (scan Between (quote + 1 + len + 1) (drop (quote + 1 + len + 1) line))
quoted_found line quote len =
    let P : List ℕ → Type 0 = λ bytes. NoneBefore (Passes (is_byte 34) bytes) 0 (length bytes) len
    → Passes (is_byte 34) bytes len → scan (Quoted quote) (quote + 1) (drop (quote + 1) line) ≡ joined
    (token (quote + 1) (quote + 1 + len) ∷ [])
    (scan Between (quote + 1 + len + 1) (drop (quote + 1 + len + 1) line)) in
    subst P (sym (slice_behind (quote + 1) (quote + 1) line refl)) (λ first is.
    quoted_until (drop (quote + 1) line) len quote (quote + 1) first.high
    (λ j h. false_from_ne_true _ (first.before j (omega arith) h)) is
    ∙ ap (λ bs. joined (token (quote + 1) (quote + 1 + len) ∷ []) (scan Between (quote + 1 + len + 1) bs))
    (drop-drop (len + 1) (quote + 1) line ∙ ap (λ n. drop n line) (behind quote len)))
  where
    behind : (quote len : ℕ) → quote + 1 + (len + 1) ≡ quote + 1 + len + 1
    behind quote len = omega arith

-- no quote is behind the opening one
pub quoted_open : (line : List ℕ) (quote : ℕ)
    → Nowhere (Passes (is_byte 34) (take (length line - (quote + 1)) (drop (quote + 1) line))) 0
    (length (take (length line - (quote + 1)) (drop (quote + 1) line)))
    → scan (Quoted quote) (quote + 1) (drop (quote + 1) line) ≡ Err (OpenQuote quote)
quoted_open line quote =
    let P : List ℕ → Type 0 = λ bytes. Nowhere (Passes (is_byte 34) bytes) 0 (length bytes)
    → scan (Quoted quote) (quote + 1) (drop (quote + 1) line) ≡ Err (OpenQuote quote) in
    subst P (sym (slice_behind (quote + 1) (quote + 1) line refl)) (λ none.
    scan_open (drop (quote + 1) line) quote (quote + 1)
    (none_quoted (drop (quote + 1) line) (λ j h. false_from_ne_true _ (none j (omega arith) h))))

-- ---- what is told

pub told_alone : (tokens : List Token) (r : Result (List Token) (Unread LexFault))
    (wanted : Result (List Token) LexFault) → tokens ≡ [] → UnlessMemory r (joined tokens wanted)
    → UnlessMemory r wanted
told_alone tokens r wanted none told = told_of r (joined tokens wanted) wanted
    (ap (λ ts. joined ts wanted) none ∙ joined_nothing wanted) told

-- what is read of a line of text from where its tokens begin
pub told_text : (line : List ℕ) (start : ℕ) (r : Result (List Token) (Unread LexFault))
    → start ≡ tokens_start line → IsUtf8 line → UnlessMemory r (scan Between start (drop start line))
    → UnlessMemory r (lexed line)
told_text line start r at text told = told_of r (scan Between start (drop start line)) (lexed line)
    (ap (λ n. scan Between n (drop n line)) at ∙ sym (lexed_text line text)) told

-- what is told by a call that gives up with a fault
pub same_fault : {T : Type 0} (r : Result T (Unread LexFault)) (given : Unread LexFault)
    → IsErrAnd r (λ e. e ≡ given) → r ≡ Err given
same_fault (Ok x) given gives = absurd gives
same_fault (Err told) given gives = ap Err gives

pub told_given_up : (tokens : List Token) (r : Result (Unit {0}) (Unread LexFault)) (fault : LexFault)
    (wanted : Result (List Token) LexFault) → IsErrAnd r (λ e. e ≡ Refused fault) → wanted ≡ Err fault
    → UnlessMemory (filled tokens r) wanted
told_given_up tokens r fault wanted gives e =
    let Told : Result (Unit {0}) (Unread LexFault) → Type 0 = λ x. UnlessMemory (filled tokens x) wanted in
    subst Told (sym (same_fault r (Refused fault) gives)) e

pub told_again : (r : Result (List Token) (Unread LexFault)) (given : Unread LexFault)
    (wanted : Result (List Token) LexFault) → IsErrAnd r (λ e. e ≡ given) → UnlessMemory (Err given) wanted
    → UnlessMemory r wanted
told_again r given wanted gives told =
    let Told : Result (List Token) (Unread LexFault) → Type 0 = λ x. UnlessMemory x wanted in
    subst Told (sym (same_fault r given gives)) told
