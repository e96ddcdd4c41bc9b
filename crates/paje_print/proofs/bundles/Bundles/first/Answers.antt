use Rattle.paje_print.proofs.bundles.Bundles.first.Goals as goal

-- src/bundles.rt:107:13
pub add-requires-clause-known : goal.add-requires-clause-known
add-requires-clause-known c = (c.args.seed, c.loop-bundle.invariant)
