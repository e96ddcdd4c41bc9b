-- What the objects of the outside have in common.
use Rattle.std.specs.Prelude.{◌≡◌, ℕ, ◌+◌, ◌-◌, ◌^◌, ◌<◌, ◌==◌, Bool, ◌⊎◌, List, min, Option, None, Some}
use Rattle.std.specs.List.{list_any}

-- the last value of a count
abbrev pub last_count : ℕ
last_count = 2 ^ 64 - 1

-- a count after one more; it stands still at its last value
abbrev pub one_more : ℕ → ℕ
one_more n = min (n + 1) last_count

-- whether n is one of the numbers
abbrev pub is_one_of : List ℕ → ℕ → Bool
is_one_of numbers n = list_any (λ k. k == n) numbers

-- a count of faults rose, or stands at its last value
abbrev pub Rose : ℕ → ℕ → Type 0
Rose old new = (old < new) ⊎ (new ≡ last_count)

-- Where an object tells what it holds, it goes on to tell it, and this holds of what it held and holds. One
-- that doesn't tell it goes on not to.
abbrev pub Told : {X : Type 0} → Option X → Option X → (X → X → Type 0) → Type 0
Told (Some was) (Some now) P = P was now
Told (Some was) None P = ⊥
Told None (Some now) P = ⊥
Told None None P = Unit {0}
