-- The number of a word of decimal digits.
use Rattle.std.specs.Prelude.{ℕ, ◌^◌, ◌&&◌, List, length, Option, Some, None, if◌then◌else◌, nat_lt}
use Rattle.std.specs.List.{list_all}
use Rattle.std.specs.Char.{is_ascii_digit}
use Rattle.std.specs.Str.Parse.{digits_value}

-- a number that has 64 bits
abbrev pub below_64_bits : ℕ → Option ℕ
below_64_bits n = if nat_lt n (2 ^ 64) then Some n else None

-- the number of a word of one or more digits, where it is below 2 ^ 64
abbrev pub decimal_of : List ℕ → Option ℕ
decimal_of word = if list_all is_ascii_digit word && nat_lt 0 (length word)
    then below_64_bits (digits_value 10 word) else None
