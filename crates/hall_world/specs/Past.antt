-- The history of a hall so far.
use Rattle.std.specs.Prelude.{ℕ, ◌+◌, ◌-◌, List, ◌++◌, length, take}
use Rattle.hall_history.specs.History.{Entry}
use Rattle.registry_core.specs.Standing.{Start}

-- the place behind which the history began, and its entries since then
pub record Past : Type 0 where
  pub first : ℕ
  pub entries : List Entry

-- where its registry was started: ids are counted from 1
abbrev pub start_of : Past → Start
start_of past = record { place = past.first; id = 1 }

-- the place of the last entry
abbrev pub last_place : Past → ℕ
last_place past = past.first + length past.entries

-- the place that the next entry gets
abbrev pub next_place : Past → ℕ
next_place past = last_place past + 1

-- the entries up to a place
abbrev pub up_to : Past → ℕ → List Entry
up_to past place = take (place - past.first) past.entries

-- the history with more entries
abbrev pub with_entries : Past → List Entry → Past
with_entries past more = record past { entries = past.entries ++ more }
