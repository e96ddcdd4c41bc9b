-- The traces that a query asks for, and what the history tells of them.
use Rattle.std.specs.Prelude.{◌≡◌, ℕ, ◌⊎◌, ◌==◌, false, if◌then◌else◌, List, IsTrue}
use Rattle.hall_history.specs.History.{EntryOf, is_open}
use Rattle.hall_history.specs.declared.asks.AskIds.{AskIds}
use Rattle.hall_history.specs.declared.asks.AskIds.TheVariants.{One, Two}

-- the first trace that is asked for
abbrev pub first_id : AskIds → ℕ
first_id (One a) = a
first_id (Two a b) = a

-- the second one; where one is asked for, that one
abbrev pub second_id : AskIds → ℕ
second_id (One a) = a
second_id (Two a b) = b

-- the first trace, for 0, or the second, for 1
abbrev pub id_at : AskIds → ℕ → ℕ
id_at ids which = if which == 0 then first_id ids else second_id ids

-- each trace that is asked for is open
abbrev pub AreOpen : {X : Type 0} → List (EntryOf X) → AskIds → Type 0
AreOpen entries (One a) = IsTrue (is_open entries a)
AreOpen entries (Two a b) = IsTrue (is_open entries a) × IsTrue (is_open entries b)

-- the trace is the first of those that are asked for that isn't open
abbrev pub IsFirstUnknown : {X : Type 0} → List (EntryOf X) → AskIds → ℕ → Type 0
IsFirstUnknown entries (One a) id = (id ≡ a) × (is_open entries a ≡ false)
IsFirstUnknown entries (Two a b) id =
    ((id ≡ a) × (is_open entries a ≡ false))
    ⊎ ((id ≡ b) × IsTrue (is_open entries a) × (is_open entries b ≡ false))
