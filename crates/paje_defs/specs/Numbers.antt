-- The numbers that stand in the lines of a trace.
use Rattle.std.specs.Prelude.{ℕ, ◌^◌, ◌==◌, List, [], ◌∷◌, length, Option, Some, None, unwrap_or}
use Rattle.std.specs.Prelude.{if◌then◌else◌, nat_lt, nat_le}
use Rattle.decimal_digits.specs.Decimal.{decimal_of}

-- the number of a text of decimal digits, one of them at least and no more than most
abbrev pub short_decimal : ℕ → List ℕ → Option ℕ
short_decimal most text = if nat_le (length text) most then decimal_of text else None

abbrev pub below : ℕ → Option ℕ → Option ℕ
below limit None = None
below limit (Some n) = if nat_lt n limit then Some n else None

-- the number of a definition: one to ten digits, below 2 ^ 32
abbrev pub event_number_of : List ℕ → Option ℕ
event_number_of text = below (2 ^ 32) (short_decimal 10 text)

abbrev pub plain_size : List ℕ → ℕ
plain_size text = unwrap_or (below (2 ^ 63) (short_decimal 19 text)) 0

-- the size of a message: one to nineteen digits behind + or no sign, below 2 ^ 63; anything else is 0
abbrev pub size_of : List ℕ → ℕ
size_of [] = 0
size_of (b ∷ bs) = if b == 43 then plain_size bs else plain_size (b ∷ bs)
