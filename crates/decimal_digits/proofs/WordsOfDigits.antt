-- Words all of whose bytes pass a test, by how many at their front do.
use Rattle.std.proofs.Common.{◌≡◌, ℕ, ◌<◌, ◌⊎◌, inl, inr, List, [], ◌∷◌, length, take}
use Rattle.std.proofs.Common.{Option, None, refl, ◌∙◌, ap, arith}
use Rattle.std.specs.List.{prefix_len}
use Rattle.std.specs.Char.{is_ascii_digit}
use Rattle.std.specs.Str.Parse.{digits_value}
use Rattle.std.proofs.lemmas.Bool.{lt-ltb}
use Rattle.std.proofs.lemmas.List.{take_all}
use Rattle.list_lemmas.proofs.Found.{all_by_prefix, not_all_by_prefix}
use Rattle.decimal_digits.specs.Decimal.{below_64_bits, decimal_of}

-- a word without digits, or with a byte that is none, has no number
pub no_decimal : (word : List ℕ) → (length word ≡ 0) ⊎ (prefix_len is_ascii_digit word < length word)
    → None ≡ decimal_of word
no_decimal [] why = refl
no_decimal (b ∷ bs) (inl none) = absurd (omega arith)
no_decimal (b ∷ bs) (inr short) = rw (not_all_by_prefix is_ascii_digit (b ∷ bs) short) refl

-- one whose digits at the front are all its bytes has theirs
pub a_decimal : (word : List ℕ) (count : ℕ) (r : Option ℕ) → 0 < length word
    → count ≡ prefix_len is_ascii_digit word → length word ≡ count
    → r ≡ below_64_bits (digits_value 10 (take count word)) → r ≡ decimal_of word
a_decimal word count r some front all is =
    let whole = take_all count word (omega arith) in
    rw (all_by_prefix is_ascii_digit word (omega arith), lt-ltb 0 (length word) some)
    (is ∙ ap (λ w. below_64_bits (digits_value 10 w)) whole)
