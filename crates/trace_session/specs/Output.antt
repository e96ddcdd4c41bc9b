-- What is written where a sink fails.
use Rattle.std.specs.Prelude.{◌≡◌, ◌≢◌, ℕ, List, [], ◌++◌}

-- a front of the bytes was added, and some are left
abbrev pub WritesFront : List ℕ → List ℕ → List ℕ → Type 0
WritesFront bytes was now = (front rest : List ℕ) × (bytes ≡ front ++ rest) × (rest ≢ [])
    × (now ≡ was ++ front)
