-- What a date of a trace line is, as a list of parts, and the time that it means.
use Rattle.std.specs.Prelude.{◌≡◌, ℕ, ◌+◌, ◌*◌, ◌/◌, ◌^◌, ◌<◌, ◌≤◌, ◌&&◌, ◌==◌, ◌⊎◌, List, [], ◌∷◌, ◌++◌}
use Rattle.std.specs.Prelude.{length, Bool, true, Option, Some, None, Ok, Err, Result, unwrap_or}
use Rattle.std.specs.Prelude.{if◌then◌else◌, nat_lt, slice_index}
use Rattle.std.specs.List.{AllByRecursion}
use Rattle.std.specs.Char.{is_ascii_digit}
use Rattle.std.specs.Str.Parse.{digits_value}
use Rattle.trace_base.specs.declared.limits.TheConstants.{MAX_TIME}
use Rattle.paje_lex.specs.declared.date_fault.DateFault.{DateFault}
use Rattle.paje_lex.specs.declared.date_fault.DateFault.TheVariants.{Negative, Big}

-- the parts of an exponent, in order: its letter, its sign (nothing, + or -), its digits
pub record Exponent : Type 0 where
  pub letter : ℕ
  pub sign : List ℕ
  pub digits : List ℕ

-- the parts of a date, in order; where it has a point, the digits after the point may be none
pub record Date : Type 0 where
  pub sign : List ℕ
  pub whole : List ℕ
  pub fraction : Option (List ℕ)
  pub exponent : Option Exponent

-- ---- how it is written

abbrev pub fraction_text : Option (List ℕ) → List ℕ
fraction_text None = []
fraction_text (Some digits) = 46 ∷ digits

abbrev pub exponent_text : Option Exponent → List ℕ
exponent_text None = []
exponent_text (Some e) = e.letter ∷ (e.sign ++ e.digits)

abbrev pub date_text : Date → List ℕ
date_text d = d.sign ++ (d.whole ++ (fraction_text d.fraction ++ exponent_text d.exponent))

-- ---- which parts make a date

-- nothing, + or -
abbrev pub IsSign : List ℕ → Type 0
IsSign sign = (sign ≡ []) ⊎ ((sign ≡ 43 ∷ []) ⊎ (sign ≡ 45 ∷ []))

abbrev pub AreDigits : List ℕ → Type 0
AreDigits bytes = AllByRecursion (λ b. is_ascii_digit b ≡ true) bytes

-- the digits of the number, without its point
abbrev pub date_digits : Date → List ℕ
date_digits d = d.whole ++ unwrap_or d.fraction []

-- e or E, a sign, and one to four digits of a number up to 30
pub record IsExponent (e : Exponent) : Type 0 where
  pub letter : (e.letter ≡ 101) ⊎ (e.letter ≡ 69)
  pub sign : IsSign e.sign
  pub digits : AreDigits e.digits
  pub some : 0 < length e.digits
  pub four : length e.digits ≤ 4
  pub small : digits_value 10 e.digits ≤ 30

abbrev pub IfExponent : Option Exponent → Type 0
IfExponent None = Unit {0}
IfExponent (Some e) = IsExponent e

-- a sign, digits with at most one point and at least one digit in all, and maybe an exponent
pub record IsDate (d : Date) : Type 0 where
  pub sign : IsSign d.sign
  pub digits : AreDigits (date_digits d)
  pub some : 0 < length (date_digits d)
  pub exponent : IfExponent d.exponent

-- ---- what it means

-- the powers of ten that the exponent multiplies and divides by
abbrev pub is_minus : List ℕ → Bool
is_minus sign = slice_index sign 0 == 45

abbrev pub tens_up : Option Exponent → ℕ
tens_up None = 0
tens_up (Some e) = if is_minus e.sign then 0 else digits_value 10 e.digits

abbrev pub tens_down : Option Exponent → ℕ
tens_down None = 0
tens_down (Some e) = if is_minus e.sign then digits_value 10 e.digits else 0

-- both: what the exponent multiplies by and what it divides by
abbrev pub tens_of : Option Exponent → ℕ × ℕ
tens_of e = (tens_up e, tens_down e)

-- The nanoseconds as a fraction: a second has 10 ^ 9 of them, and each digit after the point is a tenth.
abbrev pub numerator : Date → ℕ
numerator d = digits_value 10 (date_digits d) * 10 ^ (9 + tens_up d.exponent)

abbrev pub denominator : Date → ℕ
denominator d = 10 ^ (length (unwrap_or d.fraction []) + tens_down d.exponent)

-- the fraction, its part behind the point dropped, unless it is above the greatest time
abbrev pub whole_nanoseconds : ℕ → ℕ → Result ℕ DateFault
whole_nanoseconds above below = if nat_lt (MAX_TIME * below) above then Err Big else Ok (above / below)

-- A date below 0 is refused, whatever it is rounded to; -0 is 0.
abbrev pub meaning : Date → Result ℕ DateFault
meaning d = if (is_minus d.sign && nat_lt 0 (digits_value 10 (date_digits d))) then Err Negative
    else whole_nanoseconds (numerator d) (denominator d)
