-- The bytes of a line that is too long.
use Rattle.std.proofs.Common.{◌≡◌, ◌≢◌, ap, ◌∙◌, sym, ℕ, ◌<◌, ◌≤◌, List, [], ◌∷◌, ◌++◌, length, append_assoc}
use Rattle.std.proofs.Common.{arith, length-append}
use Rattle.std.proofs.lemmas.List.{length_push}
use Rattle.request_reader.specs.Skipping.{HasNoNewline, IsWholeLine}
use Rattle.request_reader.specs.LineReading.{IsLongLine}
use Rattle.request_reader.proofs.Lines.{append-no_newline, push-no_newline}

-- so many bytes without a newline that the line is too long
abbrev pub BeginsLong : List ℕ → Type 0
BeginsLong bytes = HasNoNewline bytes × (4096 < length bytes)

-- one byte more than a request line may have
pub begins_long : (line s : List ℕ) (b : ℕ) → HasNoNewline line → 4096 ≤ length line → b ≢ 10 → s ≡ line
    → BeginsLong (s ++ b ∷ [])
begins_long line s b none full other is =
    rw is (push-no_newline line b none other, omega (arith, length_push line b))

-- and then the rest of the line
pub long_whole : (s t : List ℕ) → BeginsLong s → IsWholeLine t → IsLongLine (s ++ t)
long_whole s t long whole =
    let len = length-append s whole.0 in (
      s ++ whole.0,
      ap (λ l. s ++ l) whole.1 ∙ sym (append_assoc s whole.0 (10 ∷ [])),
      append-no_newline s whole.0 long.0 whole.2,
      omega (arith, long.1),
    )

-- and then no newline
pub long_cut : (s t : List ℕ) → BeginsLong s → HasNoNewline t → (s ++ t ≢ []) × HasNoNewline (s ++ t)
long_cut s t long none =
    let len = length-append s t in
    ((λ is. absurd (omega (arith, ap length is, long.1))), append-no_newline s t long.0 none)
