-- What is kept of the first bundles of a generated trace.
use Rattle.std.specs.Prelude.{◌≡◌, ℕ, List, length, map}
use Rattle.std.specs.List.{flat_map, range_with_len}
use Rattle.paje_print.specs.declared.bundles.Bundles.{Bundles}
use Rattle.paje_print.specs.Generated.{bundle_links, clock_behind, kernel_of, random_after}

pub record AreBundles (seed count : ℕ) (b : Bundles) : Type 0 where
  pub random : b.random.value ≡ random_after seed count
  pub kernels : b.kernels ≡ map (kernel_of seed) (range_with_len 0 count)
  pub clocks : b.clocks ≡ map (λ track. clock_behind seed track count) (range_with_len 0 128)
  pub links : b.links ≡ flat_map (bundle_links seed) (range_with_len 0 count)

-- the kernels of the first bundles
abbrev pub AreKernels : ℕ → List ℕ → Type 0
AreKernels seed kernels = kernels ≡ map (kernel_of seed) (range_with_len 0 (length kernels))
