-- What is kept of digits that were read.
use Rattle.std.specs.Prelude.{◌≡◌, ℕ, ◌+◌, ◌*◌, ◌^◌, ◌<◌, ◌≤◌, ◌↔◌, List, IsTrue}
use Rattle.std.specs.Str.Parse.{digits_value}
use Rattle.decimal_digits.specs.declared.digits.Digits.{Digits}

-- The number of the digits is head, with low behind it. Where some were left out, the number isn't below
-- 2 ^ 64, and the head has no room for a further digit.
pub record Holds (d : Digits) (digits : List ℕ) : Type 0 where
  pub low : ℕ
  pub whole : digits_value 10 digits ≡ d.head * 10 ^ d.more + low
  pub low_below : low < 10 ^ d.more
  pub tail : IsTrue d.tail ↔ (0 < low)
  pub large : 0 < d.more → 2 ^ 64 ≤ digits_value 10 digits
  pub full : 0 < d.more → 10 ^ 18 ≤ d.head
