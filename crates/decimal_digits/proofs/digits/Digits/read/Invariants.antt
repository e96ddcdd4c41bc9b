use Rattle.std.proofs.Common.{◌≡◌, ℕ, ◌+◌, ◌<◌, ◌≤◌, List, ◌++◌, take, true, get_or}
use Rattle.std.specs.Char.{is_ascii_digit}
use Rattle.decimal_digits.specs.Held.{Holds}
use Rattle.decimal_digits.proofs.digits.Digits.read.Given as goal

abbrev pub invariant-loop-at : goal.invariant-loop-at
invariant-loop-at l = record {
  number : (digits : List ℕ) → Holds l.fn.self digits → Holds l.digits (digits ++ take l.at l.text);
  more : l.digits.more ≤ l.fn.self.more + l.at;
  front : (k : ℕ) → k < l.at → is_ascii_digit (get_or l.text k 0) ≡ true;
}
