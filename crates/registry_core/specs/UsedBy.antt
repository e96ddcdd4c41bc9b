-- Whose users the users of traces are.
use Rattle.std.specs.Prelude.{◌≡◌, ℕ, ◌<◌, List, All, sum_by, IsSome}
use Rattle.hall_history.specs.declared.asks.AskIds.{AskIds}
use Rattle.registry_core.specs.Asking.{times_asked}
use Rattle.registry_core.specs.Registry.{kept_trace}
use Rattle.registry_core.specs.Trace.{Trace}

-- how often the queries that run name this id
abbrev pub times_named : List AskIds → ℕ → ℕ
times_named queries id = sum_by (λ ids. times_asked ids id) queries

-- The users of the traces are these queries, whose traces are all kept.
pub record AreUsedBy (traces : List Trace) (queries : List AskIds) : Type 0 where
  pub users : All (λ (t : Trace). t.users ≡ times_named queries t.id) traces
  pub kept : (id : ℕ) → 0 < times_named queries id → IsSome (kept_trace traces id)
