-- What the registry answers to who closes a trace or lists them, and what becomes of it.
use Rattle.std.specs.Prelude.{◌≡◌, ℕ, ◌+◌, ◌<◌, false, List, filter, map, None, Some, Result, Ok, Err}
use Rattle.std.specs.Prelude.{IsTrue}
use Rattle.hall_history.specs.declared.listing.ListRow.{ListRow}
use Rattle.hall_history.specs.declared.listing.Listing.{Listing}
use Rattle.registry_core.specs.declared.answers.RegClose.{RegClose}
use Rattle.registry_core.specs.declared.answers.RegClose.TheVariants as close
use Rattle.registry_core.specs.declared.answers.RegFault.{RegFault}
use Rattle.registry_core.specs.declared.answers.RegFault.TheVariants as fault
use Rattle.registry_core.specs.Loading.{with_ended, with_kept}
use Rattle.registry_core.specs.Registry.{FitsPlaces, LacksPlaces, RegistryValue, after_entry, is_open_trace}
use Rattle.registry_core.specs.Registry.{open_trace}
use Rattle.registry_core.specs.Trace.{Trace, list_row, roots_in}

-- this trace is open, and no longer loading
pub record IsSealedTrace (r : RegistryValue) (id : ℕ) (t : Trace) : Type 0 where
  pub is_open : open_trace r.traces id ≡ Some t
  pub sealed : t.loading ≡ false

-- What close answers. Spent comes where no place is left, before the id is looked at; all else makes an
-- entry. A trace that is open and no longer loading ends: where it has users it is kept, else its roots come
-- free.
abbrev pub ClosesIn : RegistryValue → ℕ → RegClose → RegistryValue → Type 0
ClosesIn old id (close.Ended place roots) new = FitsPlaces old 1 × (t : Trace) × IsSealedTrace old id t
    × (t.users ≡ 0) × (place ≡ old.place + 1) × (roots ≡ roots_in t.tracks) × (new ≡ with_ended old t)
ClosesIn old id (close.Kept place) new = FitsPlaces old 1 × (t : Trace) × IsSealedTrace old id t
    × (0 < t.users) × (place ≡ old.place + 1) × (new ≡ with_kept old t)
ClosesIn old id (close.Loading place) new = FitsPlaces old 1 × (t : Trace)
    × (open_trace old.traces id ≡ Some t) × IsTrue t.loading × (place ≡ old.place + 1)
    × (new ≡ after_entry old)
ClosesIn old id (close.Unknown next place) new = FitsPlaces old 1 × (open_trace old.traces id ≡ None)
    × (next ≡ old.next_id) × (place ≡ old.place + 1) × (new ≡ after_entry old)
ClosesIn old id (close.Spent p) new = LacksPlaces old 1 p × (new ≡ old)

-- a row for each open trace, rising by id
abbrev pub rows_of : RegistryValue → List ListRow
rows_of r = map list_row (filter is_open_trace r.traces)

-- What list answers. Spent comes where no place is left. It is never told that too many traces are open.
abbrev pub ListsIn : RegistryValue → Result Listing RegFault → RegistryValue → Type 0
ListsIn old (Ok listing) new = FitsPlaces old 1
    × (listing ≡ record { place = old.place + 1; rows = rows_of old }) × (new ≡ after_entry old)
ListsIn old (Err (fault.Spent p)) new = LacksPlaces old 1 p × (new ≡ old)
ListsIn old (Err fault.Memory) new = FitsPlaces old 1 × (new ≡ old)
ListsIn old (Err (fault.Full place)) new = ⊥
