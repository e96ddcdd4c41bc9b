use Rattle.paje_print.proofs.KernelPlaces.{bundles_of, there_within}
use Rattle.paje_print.proofs.kernels.bundle_count.Goals as goal

pub returns : goal.returns
returns c = record {
  bundles = bundles_of c.args.track c.args.count c.requires.track;
  within = there_within c.args.track c.args.count;
}
