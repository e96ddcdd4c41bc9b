-- The words at the tokens of pieces are the bytes of the pieces.
use Rattle.std.proofs.Common.{◌≡◌, ◌∙◌, ℕ, ◌+◌, List, [], ◌∷◌, ◌++◌, ap, append_assoc, drop}
use Rattle.std.proofs.Common.{length, refl}
use Rattle.list_lemmas.proofs.Fronts.{drop_is, take_drop_is}
use Rattle.paje_defs.specs.Words.{words_at_tokens}
use Rattle.paje_lex.specs.LineGrammar.{Piece, blank, pieces_text, plain, quoted, tokens_from}

-- the bytes of the tokens
abbrev pub piece_words : List Piece → List (List ℕ)
piece_words [] = []
piece_words (blank b ∷ ps) = piece_words ps
piece_words (quoted bytes ∷ ps) = bytes ∷ piece_words ps
piece_words (plain bytes ∷ ps) = bytes ∷ piece_words ps

pub words-at_tokens : (line : List ℕ) (at : ℕ) (ps : List Piece) → drop at line ≡ pieces_text ps
    → words_at_tokens line (tokens_from at ps) ≡ piece_words ps
words-at_tokens line at [] e = refl
words-at_tokens line at (blank b ∷ ps) e =
    words-at_tokens line (at + 1) ps (drop_is line at (b ∷ []) (pieces_text ps) e)
words-at_tokens line at (quoted bytes ∷ ps) e =
    let inside : drop (at + 1) line ≡ bytes ++ 34 ∷ pieces_text ps =
    drop_is line at (34 ∷ []) (bytes ++ 34 ∷ pieces_text ps) (e ∙ ap (λ x. 34 ∷ x)
    (append_assoc bytes (34 ∷ []) (pieces_text ps))) in
    let closed : drop (at + 1 + length bytes + 1) line ≡ pieces_text ps =
    drop_is line (at + 1 + length bytes) (34 ∷ []) (pieces_text ps)
    (drop_is line (at + 1) bytes (34 ∷ pieces_text ps) inside) in
    ap (λ word. word ∷ words_at_tokens line (tokens_from (at + 1 + length bytes + 1) ps))
    (take_drop_is line (at + 1) bytes (34 ∷ pieces_text ps) inside)
    ∙ ap (λ more. bytes ∷ more) (words-at_tokens line (at + 1 + length bytes + 1) ps closed)
words-at_tokens line at (plain bytes ∷ ps) e =
    ap (λ word. word ∷ words_at_tokens line (tokens_from (at + length bytes) ps))
    (take_drop_is line at bytes (pieces_text ps) e)
    ∙ ap (λ more. bytes ∷ more) (words-at_tokens line (at + length bytes) ps
    (drop_is line at bytes (pieces_text ps) e))
