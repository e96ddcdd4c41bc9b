-- Histories in which the ids count up and each trace's tracks are published in order.
use Rattle.std.specs.Prelude.{◌≡◌, ℕ, ◌<◌, ◌≤◌, false, nat_lt, is_some, List, length}
use Rattle.std.specs.List.{list_any, range_with_len}
use Rattle.hall_history.specs.History.{EntryOf, opened_ids, info_of, published_of, tracks_of}
use Rattle.hall_history.specs.History.{published_count, seals, ends}

-- no entry is about the trace
pub record IsUnborn {X : Type 0} (entries : List (EntryOf X)) (id : ℕ) : Type 0 where
  pub info : is_some (info_of entries id) ≡ false
  pub ended : list_any (ends id) entries ≡ false
  pub sealed : list_any (seals id) entries ≡ false

-- the ids are 1, 2 and so on, and of each trace the first tracks are published
pub record IsOrderly {X : Type 0} (entries : List (EntryOf X)) : Type 0 where
  pub ids : opened_ids entries ≡ range_with_len 1 (length (opened_ids entries))
  pub unborn : (id : ℕ) → length (opened_ids entries) < id → IsUnborn entries id
  pub counted : (id : ℕ) → published_count entries id ≤ tracks_of entries id
  pub in_order : (id track : ℕ) → is_some (published_of entries id track) ≡ nat_lt track
      (published_count entries id)
