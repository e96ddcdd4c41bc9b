-- How many entries are owed after each call of a registry.
use Rattle.std.proofs.Common.{◌≡◌, ℕ, ◌+◌, ◌≤◌, length, Ok, ap, arith}
use Rattle.trace_base.specs.declared.names.TraceInfo.{TraceInfo}
use Rattle.hall_history.specs.declared.asks.AskIds.{AskIds}
use Rattle.registry_core.proofs.SoundAsks.{open_count-asked, open_count-unpinned}
use Rattle.registry_core.proofs.SoundLoads.{count-opened, count-published, count-sealed}
use Rattle.registry_core.specs.Asking.{AsksIn, after_unpin}
use Rattle.registry_core.specs.Loading.{AdmitsIn, with_published, with_sealed}
use Rattle.registry_core.specs.Registry.{RegistryValue, after_entry}
use Rattle.registry_core.specs.declared.answers.Opened.{Opened}
use Rattle.registry_core.specs.declared.answers.RegAsk.TheVariants.{Pinned}
use Rattle.plain_hall.specs.KeptHistory.{entries_owed}

-- a trace that is opened is owed its tracks, the end of its load and its own end
pub owed-opened : (r q : RegistryValue) (info : TraceInfo) (o : Opened) → AdmitsIn r info (Ok o) q
    → entries_owed q ≡ entries_owed r + length info.names.tracks + 2
owed-opened r q info o (fits, few, is, becomes) = omega (
  arith,
  ap entries_owed becomes,
  count-opened r info,
)

-- a question leaves what is owed
pub owed-asked : (r q : RegistryValue) → q ≡ after_entry r → entries_owed q ≡ entries_owed r
owed-asked r q is = ap entries_owed is

pub owed-pinned : (r q : RegistryValue) (ids : AskIds) (place : ℕ) → AsksIn r ids (Pinned place) q
    → entries_owed q ≡ entries_owed r
owed-pinned r q ids place (fits, known, is, becomes) = omega (
  arith,
  ap entries_owed becomes,
  open_count-asked ids r.traces,
)

pub owed-unpinned : (r q : RegistryValue) (ids : AskIds) → q ≡ after_unpin r ids
    → entries_owed q ≡ entries_owed r
owed-unpinned r q ids is = omega (arith, ap entries_owed is, open_count-unpinned ids r.traces)

-- an entry of a load is one of those that are owed
pub owed-published : (r q : RegistryValue) (id track start root : ℕ) → 1 ≤ r.promised
    → q ≡ with_published r id track start root → entries_owed q + 1 ≡ entries_owed r
owed-published r q id track start root some is = omega (
  arith,
  some,
  ap entries_owed is,
  count-published r id track start root,
)

pub owed-sealed : (r q : RegistryValue) (id : ℕ) → 1 ≤ r.promised → q ≡ with_sealed r id
    → entries_owed q + 1 ≡ entries_owed r
owed-sealed r q id some is = omega (arith, some, ap entries_owed is, count-sealed r id)
