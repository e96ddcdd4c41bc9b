-- The roots of the slots so far are those of the slots left, with the root of the one that was taken out.
use Rattle.std.proofs.Common.{sym, ◌∙◌}
use Rattle.registry_core.proofs.RootsOfTracks.{roots_in-taken, roots_in-free}
use Rattle.registry_core.proofs.roots.Roots.pop.Goals as goal

pub returns-in-Some-track : goal.returns-in-Some-track
returns-in-Some-track c = sym c.loop-track.invariant
    ∙ roots_in-taken _ _ _ _ c.in-Some.ensures.items c.in-Some-track.is

pub loop-track-preserved : goal.loop-track-preserved
loop-track-preserved c = roots_in-free _ _ _ c.in-Some.ensures.items c.in_default-track.is
    ∙ c.loop-track.invariant
