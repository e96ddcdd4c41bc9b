use Rattle.std.proofs.Common.{ℕ, ◌<◌, [], ◌∷◌, All, arith, get_or}
use Rattle.list_lemmas.proofs.All.{All-one, All-two}
use Rattle.registry_core.specs.Examples.{KeepsTraces}
use Rattle.registry_core.specs.Registry.{RegistryValue}
use Rattle.core_tests.proofs.Samples.{IsKept}
use Rattle.core_tests.proofs.registry.compare.Goals as goal

-- two of the five are kept
both : (r : RegistryValue) (k l : ℕ) → KeepsTraces r (1 ∷ 2 ∷ 3 ∷ 4 ∷ 5 ∷ []) → k < 5 → l < 5
    → All (IsKept r) (get_or (1 ∷ 2 ∷ 3 ∷ 4 ∷ 5 ∷ []) k 0 ∷ get_or (1 ∷ 2 ∷ 3 ∷ 4 ∷ 5 ∷ []) l 0 ∷ [])
both r k l kept first second = All-two (IsKept r) _ _ (kept k 0 first) (kept l 0 second)

pub same_names-requires : goal.same_names-requires
same_names-requires g c = All-one (IsKept c.args.registry.now) 1 (c.requires 0 0 (omega arith))

pub same_names-requires-2 : goal.same_names-requires-2
same_names-requires-2 g c = both c.args.registry.now 0 1 c.requires (omega arith) (omega arith)

pub same_names-requires-3 : goal.same_names-requires-3
same_names-requires-3 g c = both c.args.registry.now 2 2 c.requires (omega arith) (omega arith)

pub same_names-requires-4 : goal.same_names-requires-4
same_names-requires-4 g c = both c.args.registry.now 0 2 c.requires (omega arith) (omega arith)

pub same_names-requires-5 : goal.same_names-requires-5
same_names-requires-5 g c = both c.args.registry.now 0 3 c.requires (omega arith) (omega arith)

pub same_names-requires-6 : goal.same_names-requires-6
same_names-requires-6 g c = both c.args.registry.now 3 0 c.requires (omega arith) (omega arith)

pub same_names-requires-7 : goal.same_names-requires-7
same_names-requires-7 g c = both c.args.registry.now 0 4 c.requires (omega arith) (omega arith)
