-- Which date a text is, as a function that computes.
use Rattle.std.specs.Prelude.{◌≡◌, ℕ, ◌&&◌, ◌||◌, ◌==◌, List, [], ◌∷◌, ◌++◌, length, take, drop, Bool, Option}
use Rattle.std.specs.Prelude.{Some, None, Err, Result, unwrap_or, if◌then◌else◌, nat_lt, nat_le}
use Rattle.std.specs.List.{take_while, prefix_len, list_all}
use Rattle.std.specs.Option.{option_map}
use Rattle.std.specs.Char.{is_ascii_digit}
use Rattle.std.specs.Str.Parse.{digits_value}
use Rattle.decimal_digits.specs.Held.{Holds}
use Rattle.paje_lex.specs.declared.dates.Mantissa.{Mantissa}
use Rattle.paje_lex.specs.declared.date_fault.DateFault.{DateFault}
use Rattle.paje_lex.specs.declared.date_fault.DateFault.TheVariants.{Shape}
use Rattle.paje_lex.specs.DateGrammar.{Date, Exponent, fraction_text, meaning}

abbrev pub is_sign : ℕ → Bool
is_sign b = b == 43 || b == 45

-- the length of the sign at the front
abbrev pub sign_len : List ℕ → ℕ
sign_len [] = 0
sign_len (b ∷ bs) = if is_sign b then 1 else 0

-- the digits after the point, where a point stands at the front
abbrev pub fraction_of : List ℕ → Option (List ℕ)
fraction_of [] = None
fraction_of (b ∷ bs) = if b == 46 then Some (take_while is_ascii_digit bs) else None

-- the same behind the digits at the front
abbrev pub fraction_at : List ℕ → Option (List ℕ)
fraction_at body = fraction_of (drop (prefix_len is_ascii_digit body) body)

-- how many digits stand behind the point
abbrev pub places_at : List ℕ → ℕ
places_at body = length (unwrap_or (fraction_at body) [])

abbrev pub are_exponent_digits : List ℕ → Bool
are_exponent_digits bs = list_all is_ascii_digit bs
    && (nat_lt 0 (length bs) && (nat_le (length bs) 4 && nat_le (digits_value 10 bs) 30))

abbrev pub is_exponent_letter : ℕ → Bool
is_exponent_letter b = b == 101 || b == 69

-- the exponent of a letter and the whole text behind it
abbrev pub exponent_behind : ℕ → List ℕ → Option Exponent
exponent_behind letter bs = if are_exponent_digits (drop (sign_len bs) bs)
    then Some (record { letter = letter; sign = take (sign_len bs) bs; digits = drop (sign_len bs) bs })
    else None

-- the exponent that a whole text is: none where it is empty
unfoldable pub exponent_of : List ℕ → Option (Option Exponent)
exponent_of [] = Some None
exponent_of (b ∷ bs) = if is_exponent_letter b then option_map Some (exponent_behind b bs) else None

-- the text behind the digits, the point and the digits after it
abbrev pub behind_digits : List ℕ → List ℕ
behind_digits body = drop (length (fraction_text (fraction_at body)))
    (drop (prefix_len is_ascii_digit body) body)

-- a date without its sign and its exponent
abbrev pub unsigned_of : List ℕ → List ℕ → Option Exponent → Date
unsigned_of sign body exponent = record {
  sign = sign;
  whole = take_while is_ascii_digit body;
  fraction = fraction_at body;
  exponent = exponent;
}

abbrev pub body_of : List ℕ → List ℕ
body_of text = drop (sign_len text) text

-- the digits at the front, without the point
abbrev pub digits_at : List ℕ → List ℕ
digits_at body = take_while is_ascii_digit body ++ unwrap_or (fraction_at body) []

abbrev pub date_parts : List ℕ → List ℕ → Option Date
date_parts sign body = if length (digits_at body) == 0 then None else option_map (unsigned_of sign body)
    (exponent_of (behind_digits body))

-- the parts of the text, where it is a date
unfoldable pub parts_of : List ℕ → Option Date
parts_of text = date_parts (take (sign_len text) text) (body_of text)

-- the time of a text in nanoseconds, or why it has none
abbrev pub meaning_or_shape : Option Date → Result ℕ DateFault
meaning_or_shape None = Err Shape
meaning_or_shape (Some d) = meaning d

abbrev pub date_of : List ℕ → Result ℕ DateFault
date_of text = meaning_or_shape (parts_of text)

-- ---- what the code reads of a text behind its sign

pub record IsRead (text : List ℕ) (m : Mantissa) : Type 0 where
  pub digits : Holds m.digits (digits_at (body_of text))
  pub count : m.count ≡ length (digits_at (body_of text))
  pub places : m.places ≡ places_at (body_of text)
  pub rest : m.rest.now ≡ behind_digits (body_of text)
