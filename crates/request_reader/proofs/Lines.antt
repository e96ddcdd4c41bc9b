-- Where the first newline stands in bytes that are put together.
use Rattle.std.proofs.Common.{◌≡◌, ◌≢◌, refl, ℕ, suc, ◌-◌, ◌<◌, ◌≤◌, false, ◌==◌, List, [], ◌∷◌, ◌++◌, length}
use Rattle.std.proofs.Common.{get_or, Some, arith, length-append}
use Rattle.std.specs.List.{position_or_len}
use Rattle.std.proofs.lemmas.Bool.Decides.{nat_tests}
use Rattle.std.proofs.lemmas.List.{get_or_append_left, get_or_at, get_or-append_right}
use Rattle.std.proofs.lemmas.List.Sums.{fails_before_first, position_or_len_is}
use Rattle.request_reader.specs.Requests.{line_end}
use Rattle.request_reader.specs.Skipping.{HasNoNewline}

no_newline_at : (bytes : List ℕ) → HasNoNewline bytes → (k : ℕ) → k < length bytes
    → (get_or bytes k 0 == 10) ≡ false
no_newline_at bytes none k here =
    let past : length bytes ≤ position_or_len (λ b. b == 10) bytes = grind (arith, nat_tests) in
    fails_before_first (λ b. b == 10) bytes k 0 (omega (arith, past))

no_newline : (bytes : List ℕ) → ((k : ℕ) → k < length bytes → (get_or bytes k 0 == 10) ≡ false)
    → HasNoNewline bytes
no_newline bytes all =
    let at : position_or_len (λ b. b == 10) bytes ≡ length bytes = position_or_len_is (λ b. b == 10) bytes
    (length bytes) 0 (omega arith) all (λ h. absurd (omega arith)) in
    grind (arith, nat_tests)

-- the first newline stands behind bytes that have none
pub line_end-append : (bytes more : List ℕ) → HasNoNewline bytes → line_end (bytes ++ 10 ∷ more) ≡ Some
    (length bytes)
line_end-append bytes more none =
    let len = length-append bytes (10 ∷ more) in
    let at : position_or_len (λ b. b == 10) (bytes ++ 10 ∷ more) ≡ length bytes =
    position_or_len_is (λ b. b == 10) (bytes ++ 10 ∷ more) (length bytes) 0 (omega arith)
    (λ k h. rw (get_or_append_left bytes (10 ∷ more) 0 k h) (no_newline_at bytes none k h))
    (λ h. rw (get_or_at bytes 10 more 0 (length bytes) refl) refl) in
    grind (arith, nat_tests)

-- bytes that have none, one behind the other
pub append-no_newline : (xs ys : List ℕ) → HasNoNewline xs → HasNoNewline ys → HasNoNewline (xs ++ ys)
append-no_newline xs ys none none_more =
    no_newline (xs ++ ys) (λ k h.
    let len = length-append xs ys in
    grind (
      arith,
      no_newline_at xs none k,
      no_newline_at ys none_more (k - length xs),
      get_or_append_left xs ys 0 k,
      get_or-append_right xs ys (length xs) k 0 refl,
    ))

-- one byte more that is none
pub push-no_newline : (bytes : List ℕ) (b : ℕ) → HasNoNewline bytes → b ≢ 10 → HasNoNewline (bytes ++ b ∷ [])
push-no_newline bytes b none other = append-no_newline bytes (b ∷ []) none
    (no_newline (b ∷ []) (λ k h. let z : k ≡ 0 = omega arith in rw z (grind (arith, nat_tests))))

-- the bytes behind the first, and the first
pub rest-no_newline : (b : ℕ) (bytes : List ℕ) → HasNoNewline (b ∷ bytes) → HasNoNewline bytes
rest-no_newline b bytes none = no_newline bytes (λ k h. no_newline_at (b ∷ bytes) none (suc k) (omega arith))

pub not_newline : (b : ℕ) (bytes : List ℕ) → HasNoNewline (b ∷ bytes) → b ≢ 10
not_newline b bytes none is =
    let no : (b == 10) ≡ false = no_newline_at (b ∷ bytes) none 0 (omega arith) in grind (arith, nat_tests)
