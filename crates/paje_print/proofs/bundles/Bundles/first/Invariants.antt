use Rattle.paje_print.specs.Bundles.{AreBundles}
use Rattle.paje_print.proofs.bundles.Bundles.first.Given as goal

abbrev pub invariant-loop-bundle : goal.invariant-loop-bundle
invariant-loop-bundle l = AreBundles l.seed l.bundle l.bundles
