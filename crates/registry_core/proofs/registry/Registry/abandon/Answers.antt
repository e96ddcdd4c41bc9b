-- A trace that is loading may end.
use Rattle.std.proofs.Common.{sym, ◌∙◌}
use Rattle.registry_core.proofs.registry.Registry.abandon.Goals as goal

pub end-requires : goal.end-requires
end-requires c = (c.requires.0, c.requires.1, λ sealed. absurd (cc (sym c.requires.2 ∙ sealed)))
