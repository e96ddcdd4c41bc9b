-- A written line doesn't end in a carriage return.
use Rattle.std.proofs.Common.{◌≡◌, ◌∙◌, ℕ, ◌≤◌, ◌-◌, List, [], ◌∷◌, ◌++◌, ap, append-nil, append_assoc}
use Rattle.std.proofs.Common.{arith, length, length-append, ne_eqb, refl, slice_index, subst, sym}
use Rattle.std.specs.List.{AllByRecursion, flat_map}
use Rattle.std.specs.Str.Lines.{strip_carriage_return}
use Rattle.std.proofs.Math.Seq.{get_or-append_seam}
use Rattle.paje_print.specs.WrittenWords.{WrittenWord, bare, line_text, quoted, spaced_word, word_text}
use Rattle.paje_read_back.proofs.WordsWellWritten.{AreWellWritten, IsWellWritten, IsWordByte}

-- the last byte is none that controls
record EndsVisibly (bytes : List ℕ) : Type 0 where
  front : List ℕ
  last : ℕ
  text : bytes ≡ front ++ last ∷ []
  visible : 34 ≤ last

behind : (a b : List ℕ) → EndsVisibly b → EndsVisibly (a ++ b)
behind a b ends = record {
  front = a ++ ends.front;
  last = ends.last;
  text = ap (λ x. a ++ x) ends.text ∙ sym (append_assoc a ends.front (ends.last ∷ []));
  visible = ends.visible;
}

bare_ends : (b : ℕ) (bytes : List ℕ) → AllByRecursion IsWordByte (b ∷ bytes) → EndsVisibly (b ∷ bytes)
bare_ends b [] (is, are) = record { front = []; last = b; text = refl; visible = omega arith }
bare_ends b (next ∷ bytes) (is, are) = behind (b ∷ []) (next ∷ bytes) (bare_ends next bytes are)

word_ends : (word : WrittenWord) → IsWellWritten word → EndsVisibly (word_text word)
word_ends (bare []) is = absurd is
word_ends (bare (b ∷ bytes)) is = bare_ends b bytes is
word_ends (quoted bytes) is = record { front = 34 ∷ bytes; last = 34; text = refl; visible = omega arith }

words_end : (text : List ℕ) (words : List WrittenWord) → EndsVisibly text → AreWellWritten words
    → EndsVisibly (text ++ flat_map spaced_word words)
words_end text [] ends are = subst EndsVisibly (sym (append-nil text)) ends
words_end text (word ∷ words) ends (is, are) =
    subst EndsVisibly (append_assoc text (spaced_word word) (flat_map spaced_word words))
    (words_end (text ++ spaced_word word) words
    (behind text (spaced_word word) (behind (32 ∷ []) (word_text word) (word_ends word is))) are)

line_ends : (word : WrittenWord) (words : List WrittenWord) → AreWellWritten (word ∷ words)
    → EndsVisibly (line_text (word ∷ words))
line_ends word words (is, are) = words_end (word_text word) words (word_ends word is) are

kept : (bytes : List ℕ) → EndsVisibly bytes → strip_carriage_return bytes ≡ bytes
kept bytes ends =
    let at : length bytes - 1 ≡ length ends.front =
    omega (arith, ap length ends.text, length-append ends.front (ends.last ∷ [])) in
    let read : slice_index bytes (length bytes - 1) ≡ ends.last =
    ap (slice_index bytes) at ∙ (ap (λ x. slice_index x (length ends.front)) ends.text
    ∙ get_or-append_seam ends.front ends.last [] 0) in
    rw (read, ne_eqb ends.last 13 (λ e. omega (arith, ends.visible, e))) refl

pub line-no_carriage_return : (word : WrittenWord) (words : List WrittenWord) → AreWellWritten (word ∷ words)
    → strip_carriage_return (line_text (word ∷ words)) ≡ line_text (word ∷ words)
line-no_carriage_return word words are = kept (line_text (word ∷ words)) (line_ends word words are)
