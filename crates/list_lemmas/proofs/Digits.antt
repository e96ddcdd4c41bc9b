-- Digits, and the numbers that they stand for.
use Rattle.std.proofs.Common.{List, [], arith, length, refl, replicate, suc, true, zero, ℕ, ◌*◌, ◌++◌, ◌+◌}
use Rattle.std.proofs.Common.{◌-◌, ◌<◌, ◌^◌, ◌∙◌, ◌∷◌, ◌≡◌}
use Rattle.std.proofs.Math.Nat.{one-le-pow, pow-suc}
use Rattle.std.proofs.lemmas.Bool.Decides.{nat_tests}
use Rattle.std.proofs.lemmas.Int.Digits.{digits_value_push}
use Rattle.std.specs.Char.{digit_value, is_ascii_digit}
use Rattle.std.specs.Str.Parse.{digits_value, digits_value_after}

pub value_of_digit : (byte : ℕ) → is_ascii_digit byte ≡ true → digit_value byte ≡ byte - 48
value_of_digit byte is = grind (arith, nat_tests, is)

-- a digit's number is below 10
pub small_digit : (byte : ℕ) → is_ascii_digit byte ≡ true → byte - 48 < 10
small_digit byte is = grind (arith, nat_tests, is)

pub ten_pow_pos : (k : ℕ) → 0 < 10 ^ k
ten_pow_pos k = omega (arith, one-le-pow k 10 (omega arith))

-- one digit more
pub value_push : (digits : List ℕ) (byte : ℕ) → is_ascii_digit byte ≡ true
    → digits_value 10 (digits ++ byte ∷ []) ≡ 10 * digits_value 10 digits + (byte - 48)
value_push digits byte is = digits_value_push 10 digits byte ∙ omega (arith, value_of_digit byte is)

value_after-append : (n : ℕ) (xs ys : List ℕ) → digits_value_after 10 n (xs ++ ys) ≡ digits_value_after 10
    (digits_value_after 10 n xs) ys
value_after-append n [] ys = refl
value_after-append n (x ∷ xs) ys = value_after-append (n * 10 + digit_value x) xs ys

value-one_more : (n digit count value first : ℕ) → first ≡ (0 * 10 + digit) * 10 ^ count + value
    → (n * 10 + digit) * 10 ^ count + value ≡ n * 10 ^ suc count + first
value-one_more n digit count value first is = rw (pow-suc 10 count) (omega (arith, is))

value-after : (n : ℕ) (ds : List ℕ) → digits_value_after 10 n ds ≡ n * 10 ^ length ds + digits_value 10 ds
value-after n [] = omega arith
value-after n (d ∷ ds) =
    let v = digit_value d in
    value-after (n * 10 + v) ds
    ∙ value-one_more n v (length ds) (digits_value 10 ds) _ (value-after (0 * 10 + v) ds)

pub value-append : (xs ys : List ℕ) → digits_value 10 (xs ++ ys) ≡ digits_value 10 xs * 10 ^ length ys
    + digits_value 10 ys
value-append xs ys = value_after-append 0 xs ys ∙ value-after (digits_value 10 xs) ys

pub value-zeros : (count : ℕ) (ds : List ℕ) → digits_value 10 (replicate count 48 ++ ds) ≡ digits_value 10 ds
value-zeros zero ds = refl
value-zeros (suc count) ds = value-zeros count ds

pub digit_is : (byte : ℕ) → digit_value byte < 10 → is_ascii_digit byte ≡ true
digit_is byte is = grind (arith, nat_tests, is)
