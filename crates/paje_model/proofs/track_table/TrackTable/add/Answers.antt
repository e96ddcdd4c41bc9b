use Rattle.paje_model.proofs.Tracks.{pairs-more}
use Rattle.paje_model.proofs.track_table.TrackTable.add.Goals as goal

pub returns-clause-tracks : goal.returns-clause-tracks
returns-clause-tracks c = pairs-more c.args.pair c.args.self.now.places.entries c.insert.new.self.entries tt
    c.requires c.in_ok-insert.ensures.entries
