-- The function that cuts a line gives what the grammar says, and no line is without an answer.
use Rattle.std.proofs.Common.{◌≡◌, ℕ, ◌+◌, ◌≤◌, ◌==◌, ◌⊎◌, inl, inr, List, [], ◌∷◌, ◌++◌, length, Bool, true}
use Rattle.std.proofs.Common.{false, IsTrue, Result, Ok, Err, sym, ◌∙◌, ap, refl, arith, zero, suc, subst}
use Rattle.std.proofs.Common.{append_assoc, append-nil, length-append, add-zero}
use Rattle.std.specs.List.{AllByRecursion}
use Rattle.std.specs.Str.{IsUtf8, is_utf8}
use Rattle.std.specs.Str.Lossy.{utf8_valid_len}
use Rattle.std.proofs.lemmas.Str.{IsUtf8-from_is_utf8, is_utf8-from_IsUtf8}
use Rattle.std.proofs.lemmas.Bool.{true≢false, eqb-true}
use Rattle.list_lemmas.proofs.Fronts.{shorter_behind}
use Rattle.paje_lex.specs.declared.token.Token.{Token}
use Rattle.paje_lex.specs.declared.lex_fault.LexFault.{LexFault}
use Rattle.paje_lex.specs.declared.lex_fault.LexFault.TheVariants.{NotText, OpenQuote}
use Rattle.paje_lex.specs.declared.unread.Unread.{Unread}
use Rattle.paje_lex.specs.declared.unread.Unread.TheVariants.{Memory, Refused}
use Rattle.paje_lex.specs.Unread.{UnlessMemory}
use Rattle.paje_lex.specs.declared.state.State.TheVariants.{Between, Plain, Quoted}
use Rattle.paje_lex.specs.LineKinds.{is_blank, tokens_start}
use Rattle.paje_lex.specs.LineReading.{scan, joined, lexed}
use Rattle.paje_lex.specs.LineGrammar.{Answer, token, Piece, blank, quoted, plain, piece_text}
use Rattle.paje_lex.specs.LineGrammar.{pieces_text, NoQuotes, NoBlanks, IsPlain, IsPiece, MayStandBefore}
use Rattle.paje_lex.specs.LineGrammar.{ArePieces, tokens_from, IsCut, IsOpen, body_of_line, Lexes}
use Rattle.paje_lex.specs.LineGrammar.{LexesUnlessMemory}
use Rattle.paje_lex.proofs.LineLemmas.{lexed_text, lexed_not_text}

pub joined_nothing : (r : Result (List Token) LexFault) → joined [] r ≡ r
joined_nothing (Ok ts) = refl
joined_nothing (Err e) = refl

pub joined_twice : (a b : List Token) (r : Result (List Token) LexFault)
    → joined a (joined b r) ≡ joined (a ++ b) r
joined_twice a b (Ok ts) = ap Ok (sym (append_assoc a b ts))
joined_twice a b (Err e) = refl

-- ---- what reading makes of each piece

-- nothing, or a blank first
abbrev pub EndsPlain : List ℕ → Type 0
EndsPlain [] = Unit {0}
EndsPlain (b ∷ bs) = is_blank b ≡ true

pub plain_end : (rest : List ℕ) (from at : ℕ) → EndsPlain rest → scan (Plain from) at rest ≡ joined
    (token from at ∷ []) (scan Between at rest)
plain_end [] from at e = refl
plain_end (b ∷ bs) from at e = rw e (ap (joined (token from at ∷ []))
    (sym (joined_nothing (scan Between (at + 1) bs))))

pub scan_plain : (word rest : List ℕ) (from at : ℕ) → NoBlanks word → EndsPlain rest
    → scan (Plain from) at (word ++ rest) ≡ joined (token from (at + length word) ∷ [])
    (scan Between (at + length word) rest)
scan_plain [] rest from at none e = rw (add-zero at) (plain_end rest from at e)
scan_plain (c ∷ word) rest from at (first, none) e =
    rw first (joined_nothing (scan (Plain from) (at + 1) (word ++ rest)) ∙
    (scan_plain word rest from (at + 1) none e
    ∙ ap (λ n. joined (token from n ∷ []) (scan Between n rest)) (places at (length word))))
  where
    places : (at n : ℕ) → at + 1 + n ≡ at + suc n
    places at n = omega arith

pub scan_quoted : (word rest : List ℕ) (quote at : ℕ) → NoQuotes word
    → scan (Quoted quote) at (word ++ 34 ∷ rest) ≡ joined (token (quote + 1) (at + length word) ∷ [])
    (scan Between (at + length word + 1) rest)
scan_quoted [] rest quote at none = rw (add-zero at) refl
scan_quoted (c ∷ word) rest quote at (first, none) =
    rw first (joined_nothing (scan (Quoted quote) (at + 1) (word ++ 34 ∷ rest)) ∙
    (scan_quoted word rest quote (at + 1) none
    ∙ ap (λ n. joined (token (quote + 1) n ∷ []) (scan Between (n + 1) rest)) (places at (length word))))
  where
    places : (at n : ℕ) → at + 1 + n ≡ at + suc n
    places at n = omega arith

pub scan_open : (word : List ℕ) (quote at : ℕ) → NoQuotes word
    → scan (Quoted quote) at word ≡ Err (OpenQuote quote)
scan_open [] quote at none = refl
scan_open (c ∷ word) quote at (first, none) =
    rw first (joined_nothing (scan (Quoted quote) (at + 1) word) ∙ scan_open word quote (at + 1) none)

-- ---- what reading makes of many pieces

-- what may stand behind the pieces
abbrev pub Ready : List Piece → List ℕ → Type 0
Ready [] rest = Unit {0}
Ready (blank b ∷ ps) rest = Ready ps rest
Ready (quoted word ∷ ps) rest = Ready ps rest
Ready (plain word ∷ []) rest = EndsPlain rest
Ready (plain word ∷ (p ∷ ps)) rest = Ready (p ∷ ps) rest

plain_ready : (word : List ℕ) (ps : List Piece) (rest : List ℕ) → MayStandBefore (plain word) ps
    → ArePieces ps → Ready (plain word ∷ ps) rest → EndsPlain (pieces_text ps ++ rest)
plain_ready word [] rest follows are ready = ready
plain_ready word (blank b ∷ ps) rest follows (is, after, are) ready = is
plain_ready word (quoted more ∷ ps) rest follows are ready = absurd follows
plain_ready word (plain more ∷ ps) rest follows are ready = absurd follows

ready_rest : (word : List ℕ) (ps : List Piece) (rest : List ℕ) → Ready (plain word ∷ ps) rest → Ready ps rest
ready_rest word [] rest ready = tt
ready_rest word (p ∷ ps) rest ready = ready

begin_plain : (word rest : List ℕ) (at : ℕ) → IsPlain word → scan Between at (word ++ rest) ≡ scan
    (Plain at) at (word ++ rest)
begin_plain [] rest at is = absurd is
begin_plain (c ∷ word) rest at (unquoted, (unblank, none)) = rw (unblank, unquoted) refl

around : (word text rest : List ℕ) → ((word ++ 34 ∷ []) ++ text) ++ rest ≡ word ++ 34 ∷ (text ++ rest)
around word text rest = simp append_assoc

quoted_len : (word text : List ℕ) (at : ℕ) → at + 1 + length word + 1
    + length text ≡ at + length (piece_text (quoted word) ++ text)
quoted_len word text at = simp length-append (omega arith)

pub scan_pieces : (ps : List Piece) (rest : List ℕ) (at : ℕ) → ArePieces ps → Ready ps rest
    → scan Between at (pieces_text ps ++ rest) ≡ joined (tokens_from at ps)
    (scan Between (at + length (pieces_text ps)) rest)
scan_pieces [] rest at are ready = rw (add-zero at) (sym (joined_nothing (scan Between at rest)))
scan_pieces (blank b ∷ ps) rest at (is, follows, are) ready =
    rw is (joined_nothing (scan Between (at + 1) (pieces_text ps ++ rest)) ∙
    (scan_pieces ps rest (at + 1) are ready
    ∙ ap (λ n. joined (tokens_from (at + 1) ps) (scan Between n rest)) (places at (length (pieces_text ps)))))
  where
    places : (at n : ℕ) → at + 1 + n ≡ at + suc n
    places at n = omega arith
scan_pieces (quoted word ∷ ps) rest at (is, follows, are) ready =
    let text = pieces_text ps in
    ap (λ bytes. joined [] (scan (Quoted at) (at + 1) bytes)) (around word text rest)
    ∙ (joined_nothing (scan (Quoted at) (at + 1) (word ++ 34 ∷ (text ++ rest)))
    ∙ (scan_quoted word (text ++ rest) at (at + 1) is
    ∙ (ap (joined (token (at + 1) (at + 1 + length word) ∷ []))
    (scan_pieces ps rest (at + 1 + length word + 1) are ready)
    ∙ (joined_twice (token (at + 1) (at + 1 + length word) ∷ []) (tokens_from (at + 1 + length word + 1) ps)
    (scan Between (at + 1 + length word + 1 + length text) rest)
    ∙ ap (λ n. joined (tokens_from at (quoted word ∷ ps)) (scan Between n rest)) (quoted_len word text at)))))
scan_pieces (plain word ∷ ps) rest at (is, follows, are) ready =
    let text = pieces_text ps in
    ap (scan Between at) (append_assoc word text rest)
    ∙ (begin_plain word (text ++ rest) at is
    ∙ (scan_plain word (text ++ rest) at at (blankless word is)
    (plain_ready word ps rest follows are ready)
    ∙ (ap (joined (token at (at + length word) ∷ []))
    (scan_pieces ps rest (at + length word) are (ready_rest word ps rest ready))
    ∙ (joined_twice (token at (at + length word) ∷ []) (tokens_from (at + length word) ps)
    (scan Between (at + length word + length text) rest)
    ∙ ap (λ n. joined (tokens_from at (plain word ∷ ps)) (scan Between n rest)) (plain_len word text at)))))
  where
    blankless : (word : List ℕ) → IsPlain word → NoBlanks word
    blankless [] is = absurd is
    blankless (c ∷ word) (unquoted, none) = none

    plain_len : (word text : List ℕ) (at : ℕ) → at + length word + length text ≡ at + length (word ++ text)
    plain_len word text at = simp length-append (omega arith)

ready_end : (ps : List Piece) → Ready ps []
ready_end [] = tt
ready_end (blank b ∷ ps) = ready_end ps
ready_end (quoted word ∷ ps) = ready_end ps
ready_end (plain word ∷ []) = tt
ready_end (plain word ∷ (p ∷ ps)) = ready_end (p ∷ ps)

ready_open : (ps : List Piece) (rest : List ℕ) → ArePieces (ps ++ quoted [] ∷ []) → Ready ps (34 ∷ rest)
ready_open [] rest are = tt
ready_open (blank b ∷ ps) rest (is, follows, are) = ready_open ps rest are
ready_open (quoted word ∷ ps) rest (is, follows, are) = ready_open ps rest are
ready_open (plain word ∷ []) rest (is, follows, are) = absurd follows
ready_open (plain word ∷ (p ∷ ps)) rest (is, follows, are) = ready_open (p ∷ ps) rest are

follow_front : (p : Piece) (ps more : List Piece) → MayStandBefore p (ps ++ more) → MayStandBefore p ps
follow_front (blank b) ps more follows = tt
follow_front (quoted word) ps more follows = tt
follow_front (plain word) [] more follows = tt
follow_front (plain word) (blank b ∷ ps) more follows = tt
follow_front (plain word) (quoted w ∷ ps) more follows = follows
follow_front (plain word) (plain w ∷ ps) more follows = follows

pieces_front : (ps more : List Piece) → ArePieces (ps ++ more) → ArePieces ps
pieces_front [] more are = tt
pieces_front (p ∷ ps) more (is, follows, are) = (is, follow_front p ps more follows, pieces_front ps more are)

pub scan_cut : (bytes : List ℕ) (ps : List Piece) (at : ℕ) → IsCut bytes ps
    → scan Between at bytes ≡ Ok (tokens_from at ps)
scan_cut bytes ps at is =
    ap (scan Between at) (is.text ∙ sym (append-nil (pieces_text ps)))
    ∙ (scan_pieces ps [] at is.pieces (ready_end ps) ∙ ap Ok (append-nil (tokens_from at ps)))

pub scan_unclosed : (bytes : List ℕ) (ps : List Piece) (rest : List ℕ) (at : ℕ) → IsOpen bytes ps rest
    → scan Between at bytes ≡ Err (OpenQuote (at + length (pieces_text ps)))
scan_unclosed bytes ps rest at is =
    let n : ℕ = at + length (pieces_text ps) in
    ap (scan Between at) is.text
    ∙ (scan_pieces ps (34 ∷ rest) at (pieces_front ps (quoted [] ∷ []) is.pieces)
    (ready_open ps rest is.pieces)
    ∙ ap (λ r. joined (tokens_from at ps) (joined [] r)) (scan_open rest n (n + 1) is.unclosed))

-- ---- each line is cut

-- a line is whole pieces, or a quote in it isn't closed
abbrev pub Cut : List ℕ → Type 0
Cut bytes = ((ps : List Piece) × IsCut bytes ps)
    ⊎ ((ps : List Piece) × (rest : List ℕ) × IsOpen bytes ps rest)

abbrev Passes : (ℕ → Bool) → List ℕ → Type 0
Passes p [] = Unit {0}
Passes p (b ∷ bs) = p b ≡ true

-- the front on which a test fails, and what is behind
record Split (p : ℕ → Bool) (bytes : List ℕ) : Type 0 where
  front : List ℕ
  behind : List ℕ
  text : bytes ≡ front ++ behind
  fails : AllByRecursion (λ b. p b ≡ false) front
  passes : Passes p behind

split_more : (p : ℕ → Bool) (b : ℕ) (bs : List ℕ) → Split p bs → (x : Bool) → p b ≡ x → Split p (b ∷ bs)
split_more p b bs s true e = record { front = []; behind = b ∷ bs; text = refl; fails = tt; passes = e }
split_more p b bs s false e = record {
  front = b ∷ s.front;
  behind = s.behind;
  text = ap (λ x. b ∷ x) s.text;
  fails = (e, s.fails);
  passes = s.passes;
}

split : (p : ℕ → Bool) (bytes : List ℕ) → Split p bytes
split p [] = record { front = []; behind = []; text = refl; fails = tt; passes = tt }
split p (b ∷ bs) = split_more p b bs (split p bs) (p b) refl

-- a piece before what is cut
before_cut : (p : Piece) (bytes : List ℕ) → IsPiece p → ((ps : List Piece) → MayStandBefore p ps) → Cut bytes
    → Cut (piece_text p ++ bytes)
before_cut p bytes is follows (inl (ps, cut)) =
    inl (
      p ∷ ps,
      record {
        pieces = (is, follows ps, cut.pieces);
        text = ap (λ x. piece_text p ++ x) cut.text;
      },
    )
before_cut p bytes is follows (inr (ps, rest, open')) = inr (
  p ∷ ps,
  rest,
  record {
    pieces = (is, follows (ps ++ quoted [] ∷ []), open'.pieces);
    unclosed = open'.unclosed;
    text = ap (λ x. piece_text p ++ x) open'.text ∙ sym
        (append_assoc (piece_text p) (pieces_text ps) (34 ∷ rest));
  },
)

-- a token without quotes and the blank that ends it, before what is cut
plain_cut : (word : List ℕ) (b : ℕ) (bytes : List ℕ) → IsPlain word → IsTrue (is_blank b) → Cut bytes
    → Cut (word ++ b ∷ bytes)
plain_cut word b bytes is ends (inl (ps, cut)) = inl (
  plain word ∷ (blank b ∷ ps),
  record {
    pieces = (is, tt, (ends, tt, cut.pieces));
    text = ap (λ x. word ++ b ∷ x) cut.text;
  },
)
plain_cut word b bytes is ends (inr (ps, rest, open')) = inr (
  plain word ∷ (blank b ∷ ps),
  rest,
  record {
    pieces = (is, tt, (ends, tt, open'.pieces));
    unclosed = open'.unclosed;
    text = ap (λ x. word ++ b ∷ x) open'.text ∙ sym (append_assoc word (b ∷ pieces_text ps) (34 ∷ rest));
  },
)

moved : (a b : List ℕ) → a ≡ b → Cut b → Cut a
moved a b e cut = let P : List ℕ → Type 0 = λ x. Cut x in subst P (sym e) cut

quote_cut : (n : ℕ) (bs : List ℕ) → length bs ≤ n → ((bytes : List ℕ) → length bytes ≤ n → Cut bytes)
    → (s : Split (λ b. b == 34) bs) → (behind : List ℕ) → s.behind ≡ behind → Passes (λ b. b == 34) behind
    → Cut (34 ∷ bs)
quote_cut n bs small rec s [] e passes = inr (
  [],
  bs,
  record {
    pieces = (tt, tt, tt);
    unclosed = let P : List ℕ → Type 0 = λ x. NoQuotes x
        in subst P (sym (s.text ∙ (ap (λ x. s.front ++ x) e ∙ append-nil s.front))) s.fails;
    text = refl;
  },
)
quote_cut n bs small rec s (b ∷ behind) e passes =
    let text : bs ≡ s.front ++ 34 ∷ behind =
    s.text ∙ (ap (λ x. s.front ++ x) e ∙ ap (λ x. s.front ++ x ∷ behind) (eqb-true b 34 passes)) in
    moved (34 ∷ bs) (piece_text (quoted s.front) ++ behind)
    (ap (λ x. 34 ∷ x) (text ∙ sym (append_assoc s.front (34 ∷ []) behind)))
    (before_cut (quoted s.front) behind s.fails (λ ps. tt)
    (rec behind (shorter_behind s.front behind bs 34 n text small)))

word_cut : (n c : ℕ) (bs : List ℕ) → length bs ≤ n → is_blank c ≡ false → (c == 34) ≡ false
    → ((bytes : List ℕ) → length bytes ≤ n → Cut bytes) → (s : Split is_blank bs) → (behind : List ℕ)
    → s.behind ≡ behind → Passes is_blank behind → Cut (c ∷ bs)
word_cut n c bs small word other rec s [] e passes = inl (
  plain (c ∷ s.front) ∷ [],
  record {
    pieces = ((other, (word, s.fails)), tt, tt);
    text = ap (λ x. c ∷ x) (s.text ∙ ap (λ x. s.front ++ x) e);
  },
)
word_cut n c bs small word other rec s (b ∷ behind) e passes =
    let text : bs ≡ s.front ++ b ∷ behind = s.text ∙ ap (λ x. s.front ++ x) e in
    moved (c ∷ bs) ((c ∷ s.front) ++ b ∷ behind) (ap (λ x. c ∷ x) text)
    (plain_cut (c ∷ s.front) b behind (other, (word, s.fails)) passes
    (rec behind (shorter_behind s.front behind bs b n text small)))

cut_first : (n b : ℕ) (bs : List ℕ) → length bs ≤ n → ((bytes : List ℕ) → length bytes ≤ n → Cut bytes)
    → (x : Bool) → is_blank b ≡ x → (q : Bool) → (b == 34) ≡ q → Cut (b ∷ bs)
cut_first n b bs small rec true e q f = before_cut (blank b) bs e (λ ps. tt) (rec bs small)
cut_first n b bs small rec false e true f =
    let s = split (λ c. c == 34) bs in
    moved (b ∷ bs) (34 ∷ bs) (ap (λ x. x ∷ bs) (eqb-true b 34 f))
    (quote_cut n bs small rec s s.behind refl s.passes)
cut_first n b bs small rec false e false f =
    let s = split is_blank bs in
    word_cut n b bs small e f rec s s.behind refl s.passes

cut_within : (n : ℕ) (bytes : List ℕ) → length bytes ≤ n → Cut bytes
cut_within n [] small = inl ([], record { pieces = tt; text = refl })
cut_within zero (b ∷ bs) small = absurd (omega arith)
cut_within (suc n) (b ∷ bs) small = cut_first n b bs (omega arith) (cut_within n) (is_blank b) refl (b == 34)
    refl

pub cut_of : (bytes : List ℕ) → Cut bytes
cut_of bytes = cut_within (length bytes) bytes (omega arith)

-- ---- the answers by the grammar are those of the function

pub lexed_only : (line : List ℕ) (wanted : Answer) → Lexes line wanted → lexed line ≡ wanted
lexed_only line (Ok tokens) (text, ps, cut, e) = lexed_text line text ∙
    (scan_cut (body_of_line line) ps (tokens_start line) cut ∙ ap Ok (sym e))
lexed_only line (Err (NotText at)) (other, e) = lexed_not_text line other ∙ ap (λ n. Err (NotText n)) (sym e)
lexed_only line (Err (OpenQuote at)) (text, ps, rest, open', e) = lexed_text line text ∙
    (scan_unclosed (body_of_line line) ps rest (tokens_start line) open' ∙ ap (λ n. Err (OpenQuote n))
    (sym e))

text_lexes : (line : List ℕ) → IsUtf8 line → Cut (body_of_line line) → (wanted : Answer) × Lexes line wanted
text_lexes line text (inl (ps, cut)) = (Ok (tokens_from (tokens_start line) ps), (text, ps, cut, refl))
text_lexes line text (inr (ps, rest, open')) = (
  Err (OpenQuote (tokens_start line + length (pieces_text ps))),
  (text, ps, rest, open', refl),
)

-- each line has an answer by the grammar
pub some_answer : (line : List ℕ) → (wanted : Answer) × Lexes line wanted
some_answer line = by_text (is_utf8 line) refl
  where
    by_text : (b : Bool) → is_utf8 line ≡ b → (wanted : Answer) × Lexes line wanted
    by_text true e = text_lexes line (IsUtf8-from_is_utf8 line e) (cut_of (body_of_line line))
    by_text false e = (
      Err (NotText (utf8_valid_len line)),
      ((λ text. true≢false (sym (is_utf8-from_IsUtf8 line text) ∙ e)), refl),
    )

pub lexed_found : (line : List ℕ) → Lexes line (lexed line)
lexed_found line =
    let some = some_answer line in
    let P : Answer → Type 0 = λ x. Lexes line x in
    subst P (sym (lexed_only line some.0 some.1)) some.1

pub told_found : (line : List ℕ) (r : Result (List Token) (Unread LexFault)) (lexes : Answer)
    → Lexes line lexes → UnlessMemory r lexes → LexesUnlessMemory line r
told_found line (Ok tokens) lexes is told = let P : Answer → Type 0 = λ x. Lexes line x in subst P told is
told_found line (Err (Refused fault)) lexes is told = let P : Answer → Type 0 = λ x. Lexes line x
    in subst P told is
told_found line (Err Memory) lexes is told = tt
