use Rattle.std.proofs.Common.{◌≡◌, ℕ, ◌+◌, ◌-◌, ◌*◌, ◌^◌, ◌<◌, ◌≤◌, List, ◌++◌, length, take, true, get_or}
use Rattle.std.specs.Char.{is_ascii_digit}
use Rattle.std.specs.Str.Parse.{digits_value}
use Rattle.paje_lex.proofs.short_dates.with_digits.Given as goal

abbrev pub invariant-loop-at : goal.invariant-loop-at
invariant-loop-at l = record {
  number : (digits : List ℕ) → l.number ≡ digits_value 10 digits
      → l.longer ≡ digits_value 10 (digits ++ take l.at l.text);
  room : (l.longer + 1) * 10 ^ (length l.text - l.at) ≤ 10 ^ 19;
  front : (k : ℕ) → k < l.at → is_ascii_digit (get_or l.text k 0) ≡ true;
}
