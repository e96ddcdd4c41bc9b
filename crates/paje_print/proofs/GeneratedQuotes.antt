-- The texts of the generated trace can stand in quotes.
use Rattle.std.proofs.Common.{◌≡◌, ℕ, ◌+◌, ◌%◌, ◌<◌, ◌^◌, List, [], ◌∷◌, ◌++◌, Bool, true, false, refl, ◌∙◌}
use Rattle.std.proofs.Common.{not, ◌&&◌, ◌==◌, nat_lt, codes, arith}
use Rattle.std.specs.Prelude.{decimal}
use Rattle.std.specs.List.{AllByRecursion, list_all}
use Rattle.std.proofs.lemmas.Bool.{and_parts, and_from, ltb-true, lt-ltb, not-true, not_from_false, ne_eqb}
use Rattle.std.proofs.lemmas.Fmt.{decimal_by_steps}
use Rattle.std.proofs.lemmas.List.Elements.{All-from_recursion}
use Rattle.std.proofs.lemmas.List.Folds.{list_all-append}
use Rattle.std.proofs.lemmas.Str.{IsUtf8-from_ascii}
use Rattle.std.proofs.lemmas.Str.Ascii.{IsAscii-from_all}
use Rattle.paje_print.specs.Canonical.{IsQuotable}

-- ASCII, and neither a quote nor a newline
abbrev pub is_plain : ℕ → Bool
is_plain b = nat_lt b 128 && (not (b == 34) && not (b == 10))

plain-parts : (P : ℕ → Type 0) → ((b : ℕ) → is_plain b ≡ true → P b) → (text : List ℕ)
    → list_all is_plain text ≡ true → AllByRecursion P text
plain-parts P holds [] plain = tt
plain-parts P holds (b ∷ bs) plain =
    let both = and_parts (is_plain b) (list_all is_plain bs) plain in
    (holds b both.0, plain-parts P holds bs both.1)

pub quotable : (text : List ℕ) → list_all is_plain text ≡ true → IsQuotable text
quotable text plain = record {
  utf8 = IsUtf8-from_ascii text (IsAscii-from_all text (All-from_recursion (λ b. b < 128) text
      (plain-parts (λ b. b < 128) (λ b is. ltb-true b 128
      (and_parts (nat_lt b 128) (not (b == 34) && not (b == 10)) is).0) text plain)));
  no_quote = plain-parts (λ b. (b == 34) ≡ false) (λ b is. not-true (b == 34)
      (and_parts (not (b == 34)) (not (b == 10))
      (and_parts (nat_lt b 128) (not (b == 34) && not (b == 10)) is).1).0) text plain;
  no_newline = plain-parts (λ b. (b == 10) ≡ false) (λ b is. not-true (b == 10)
      (and_parts (not (b == 34)) (not (b == 10))
      (and_parts (nat_lt b 128) (not (b == 34) && not (b == 10)) is).1).1) text plain;
}

digit-plain : (n : ℕ) → n < 10 → is_plain (48 + n) ≡ true
digit-plain n small = and_from (nat_lt (48 + n) 128) _ (lt-ltb (48 + n) 128 (omega (arith, small)))
    (and_from (not ((48 + n) == 34)) (not ((48 + n) == 10))
    (not_from_false ((48 + n) == 34) (ne_eqb (48 + n) 34 (λ e. omega (arith, e))))
    (not_from_false ((48 + n) == 10) (ne_eqb (48 + n) 10 (λ e. omega (arith, e)))))

-- a number in decimal
pub decimal-plain : (n : ℕ) → n < 2 ^ 64 → list_all is_plain (decimal n) ≡ true
decimal-plain n small = decimal_by_steps (λ n ds. list_all is_plain ds ≡ true)
    (λ n low. and_from (is_plain (48 + n)) true (digit-plain n low) refl)
    (λ n ds some plain. list_all-append is_plain ds ((48 + n % 10) ∷ [])
    ∙ and_from (list_all is_plain ds) (is_plain (48 + n % 10) && true) plain
    (and_from (is_plain (48 + n % 10)) true (digit-plain (n % 10) (omega arith)) refl)) n small

-- a plain word and a number
pub joined-quotable : (word : List ℕ) (n : ℕ) → list_all is_plain word ≡ true → n < 2 ^ 64
    → IsQuotable (word ++ decimal n)
joined-quotable word n plain small = quotable (word ++ decimal n) (list_all-append is_plain word (decimal n)
    ∙ and_from (list_all is_plain word) (list_all is_plain (decimal n)) plain (decimal-plain n small))

pub decimal-quotable : (n : ℕ) → n < 2 ^ 64 → IsQuotable (decimal n)
decimal-quotable n small = quotable (decimal n) (decimal-plain n small)
