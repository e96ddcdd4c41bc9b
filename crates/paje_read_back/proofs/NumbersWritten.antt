-- The numbers and times of a canonical text are read as they were written.
use Rattle.std.proofs.Common.{◌≡◌, ℕ, ◌+◌, ◌-◌, ◌*◌, ◌/◌, ◌%◌, ◌^◌, ◌<◌, ◌≤◌, ◌==◌, zero, suc, List, []}
use Rattle.std.proofs.Common.{◌∷◌, ◌++◌, length, replicate, true, false, cond, Some, None, Ok, inl, refl}
use Rattle.std.proofs.Common.{sym, ◌∙◌, ap, arith}
use Rattle.std.specs.Fmt.{decimal}
use Rattle.std.specs.Char.{is_ascii_digit}
use Rattle.std.specs.Str.Parse.{AllDigits, digits_value}
use Rattle.std.proofs.lemmas.Bool.{le-ltb, lt-ltb, le-leb}
use Rattle.std.proofs.lemmas.Bool.Decides.{nat_tests}
use Rattle.std.proofs.lemmas.Fmt.{decimal_is_IsNumeral, length-decimal-le}
use Rattle.std.proofs.lemmas.List.{append-nil, length-append, length-replicate}
use Rattle.std.proofs.lemmas.Nat.{div-add-mod'}
use Rattle.list_lemmas.proofs.Digits.{digit_is, value-append, value-zeros}
use Rattle.trace_base.specs.declared.limits.TheConstants.{MAX_TIME}
use Rattle.paje_lex.specs.DateGrammar.{AreDigits, Date, IsDate, date_text, whole_nanoseconds}
use Rattle.paje_lex.specs.DateReading.{date_of}
use Rattle.paje_lex.proofs.DateLaws.{date_only, digits_append}
use Rattle.paje_lex.proofs.DateLaws.{all_true}
use Rattle.paje_defs.specs.Numbers.{below, plain_size, size_of}
use Rattle.paje_print.specs.WrittenNumbers.{seconds_text, zero_padded}

-- ---- digits

are-digits : (ds : List ℕ) → AllDigits 10 ds → AreDigits ds
are-digits [] all = tt
are-digits (d ∷ ds) (is, all) = (digit_is d is, are-digits ds all)

are-zeros : (count : ℕ) → AreDigits (replicate count 48)
are-zeros zero = tt
are-zeros (suc count) = (refl, are-zeros count)

-- ---- a number with zeros before it

padded-length : (n : ℕ) → n < 10 ^ 9 → length (zero_padded 9 n) ≡ 9
padded-length n small =
    let short : length (decimal n) ≤ 9 = length-decimal-le 9 n (omega arith) small (omega arith) in
    length-append (replicate (9 - length (decimal n)) 48) (decimal n)
    ∙ (ap (λ k. k + length (decimal n)) (length-replicate (9 - length (decimal n)) 48) ∙ omega (arith, short))

padded-digits : (n : ℕ) → n < 10 ^ 9 → AreDigits (zero_padded 9 n)
padded-digits n small =
    let is = decimal_is_IsNumeral n (omega arith) in
    digits_append (replicate (9 - length (decimal n)) 48) (decimal n) (are-zeros (9 - length (decimal n)))
    (are-digits (decimal n) is.0.1)

padded-value : (n : ℕ) → n < 10 ^ 9 → digits_value 10 (zero_padded 9 n) ≡ n
padded-value n small = value-zeros (9 - length (decimal n)) (decimal n)
    ∙ (decimal_is_IsNumeral n (omega arith)).1

-- ---- a time

abbrev written_date : ℕ → Date
written_date time = record {
  sign = [];
  whole = decimal (time / 10 ^ 9);
  fraction = Some (zero_padded 9 (time % 10 ^ 9));
  exponent = None;
}

below_rest : (time : ℕ) → time % 10 ^ 9 < 10 ^ 9
below_rest time = omega arith

below_whole : (time : ℕ) → time ≤ MAX_TIME → time / 10 ^ 9 < 2 ^ 64
below_whole time fits = omega arith

written_is_date : (time : ℕ) → time ≤ MAX_TIME → IsDate (written_date time)
written_is_date time fits =
    let whole = decimal_is_IsNumeral (time / 10 ^ 9) (below_whole time fits) in
    record {
      sign = inl refl;
      digits = digits_append (decimal (time / 10 ^ 9)) (zero_padded 9 (time % 10 ^ 9))
          (are-digits (decimal (time / 10 ^ 9)) whole.0.1) (padded-digits (time % 10 ^ 9) (below_rest time));
      some = omega (
        arith,
        whole.0.0,
        length-append (decimal (time / 10 ^ 9)) (zero_padded 9 (time % 10 ^ 9)),
      );
      exponent = tt;
    }

written_text : (time : ℕ) → seconds_text time ≡ date_text (written_date time)
written_text time = ap (λ rest. decimal (time / 10 ^ 9) ++ (46 ∷ rest))
    (sym (append-nil (zero_padded 9 (time % 10 ^ 9))))

written_value : (time : ℕ) → time ≤ MAX_TIME
    → digits_value 10 (decimal (time / 10 ^ 9) ++ zero_padded 9 (time % 10 ^ 9)) ≡ time
written_value time fits =
    value-append (decimal (time / 10 ^ 9)) (zero_padded 9 (time % 10 ^ 9))
    ∙ by (time / 10 ^ 9) (time % 10 ^ 9) _ _ _
    (decimal_is_IsNumeral (time / 10 ^ 9) (below_whole time fits)).1
    (padded-length (time % 10 ^ 9) (below_rest time)) (padded-value (time % 10 ^ 9) (below_rest time))
    (div-add-mod' time (10 ^ 9))
  where
    by : (whole rest a k b : ℕ) → a ≡ whole → k ≡ 9 → b ≡ rest → whole * 10 ^ 9 + rest ≡ time
        → a * 10 ^ k + b ≡ time
    by whole rest a k b x y z e = rw (x, y, z) e

whole_is : (time above below : ℕ) → time ≤ MAX_TIME → above ≡ time * 10 ^ 9 → below ≡ 10 ^ 9
    → whole_nanoseconds above below ≡ Ok time
whole_is time above below fits x y = rw (x, y) (rw (le-ltb (MAX_TIME * 10 ^ 9) (time * 10 ^ 9) (omega arith))
    (ap Ok (omega arith)))

-- a written time is read as that time
pub date-written : (time : ℕ) → time ≤ MAX_TIME → date_of (seconds_text time) ≡ Ok time
date-written time fits =
    date_only (seconds_text time) (written_date time) (written_is_date time fits) (written_text time)
    ∙ whole_is time _ _ fits (ap (λ n. n * 10 ^ 9) (written_value time fits))
    (ap (λ k. 10 ^ k) (ap (λ k. k + 0) (padded-length (time % 10 ^ 9) (below_rest time))))

-- ---- a size

plain-digits : (ds : List ℕ) → AreDigits ds → 0 < length ds → length ds ≤ 19 → digits_value 10 ds < 2 ^ 63
    → plain_size ds ≡ digits_value 10 ds
plain-digits ds are some short small = rw (
  le-leb (length ds) 19 short,
  all_true ds are,
  lt-ltb 0 (length ds) some,
  lt-ltb (digits_value 10 ds) (2 ^ 64) (omega arith),
  lt-ltb (digits_value 10 ds) (2 ^ 63) small,
) refl

no_plus : (byte : ℕ) → is_ascii_digit byte ≡ true → (byte == 43) ≡ false
no_plus byte is = grind (arith, nat_tests, is)

size-digits : (ds : List ℕ) → AreDigits ds → 0 < length ds → length ds ≤ 19 → digits_value 10 ds < 2 ^ 63
    → size_of ds ≡ digits_value 10 ds
size-digits [] are some short small = refl
size-digits (d ∷ ds) are some short small =
    ap (λ plus. cond plus (plain_size ds) (plain_size (d ∷ ds))) (no_plus d are.0)
    ∙ plain-digits (d ∷ ds) are some short small

-- and a written size as that size
pub size-written : (n : ℕ) → n < 2 ^ 63 → size_of (decimal n) ≡ n
size-written n small =
    let is = decimal_is_IsNumeral n (omega arith) in
    size-digits (decimal n) (are-digits (decimal n) is.0.1) is.0.0
    (length-decimal-le 19 n (omega arith) (omega arith) (omega arith)) (omega (arith, is.1)) ∙ is.1
