-- The roots that a registry keeps, and how they change.
use Rattle.std.specs.Prelude.{◌≡◌, ℕ, ◌+◌, ◌==◌, ◌++◌, List, [], count_by, unwrap_or}
use Rattle.std.specs.List.{flat_map}
use Rattle.registry_core.specs.Trace.{Trace, roots_in}
use Rattle.registry_core.specs.declared.answers.RegUnpin.{RegUnpin}

-- the published roots of all kept traces, open or still in use
abbrev pub roots_kept : List Trace → List ℕ
roots_kept traces = flat_map (λ (t : Trace). roots_in t.tracks) traces

-- how often a root stands among these
abbrev pub times_root : ℕ → List ℕ → ℕ
times_root n roots = count_by (λ root. root == n) roots

-- Some roots are taken from the old ones and others are added; in which order they stand isn't said.
abbrev pub ExchangesRoots : (old new taken added : List ℕ) → Type 0
ExchangesRoots old new taken added = (n : ℕ) → times_root n new + times_root n taken
    ≡ times_root n old + times_root n added

-- the roots that came free when a query gave its traces back
abbrev pub roots_freed_by : RegUnpin → List ℕ
roots_freed_by freed = unwrap_or freed.first [] ++ unwrap_or freed.second []
