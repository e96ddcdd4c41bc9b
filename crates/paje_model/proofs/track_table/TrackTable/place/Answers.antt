use Rattle.std.proofs.Common.{◌∙◌}
use Rattle.paje_model.proofs.Tracks.{pair-place}
use Rattle.paje_model.proofs.track_table.TrackTable.place.Goals as goal

pub returns : goal.returns
returns c = c.get_index_of.ensures.index ∙ pair-place c.args.pair c.args.self.now.places.entries
