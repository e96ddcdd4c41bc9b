-- How times and the names of numbered entities are written.
use Rattle.std.specs.Prelude.{ℕ, ◌-◌, ◌/◌, ◌%◌, ◌^◌, List, ◌∷◌, ◌++◌, length, replicate}
use Rattle.std.specs.Prelude.{◌==◌, codes, decimal, if◌then◌else◌}

-- the digits of a number, with zeros before them up to a count of digits
abbrev pub zero_padded : ℕ → ℕ → List ℕ
zero_padded count n = replicate (count - length (decimal n)) 48 ++ decimal n

-- a time in nanoseconds, written in seconds with nine digits behind the point
abbrev pub seconds_text : ℕ → List ℕ
seconds_text time = decimal (time / 10 ^ 9) ++ 46 ∷ zero_padded 9 (time % 10 ^ 9)

-- the aliases: a letter, and the place of what it names in the list of the trace
abbrev pub state_type_alias : ℕ → List ℕ
state_type_alias i = 115 ∷ decimal i

abbrev pub link_type_alias : ℕ → List ℕ
link_type_alias i = 108 ∷ decimal i

-- the root is `0`
abbrev pub container_alias : ℕ → List ℕ
container_alias i = if i == 0 then codes "0" else 99 ∷ decimal i
