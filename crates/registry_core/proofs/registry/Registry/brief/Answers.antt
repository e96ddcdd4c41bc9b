use Rattle.std.proofs.Common.{sym, ap, ◌∙◌, option_copied}
use Rattle.registry_core.proofs.SoundAsks.{few_tracks}
use Rattle.registry_core.proofs.registry.Registry.brief.Goals as goal

pub track_count-requires : goal.track_count-requires
track_count-requires c =
    few_tracks _ c.args.id _ c.self.invariant.0 (sym c.find.ensures ∙ ap option_copied c.in-Some.is)
