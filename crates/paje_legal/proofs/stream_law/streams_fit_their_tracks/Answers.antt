use Rattle.paje_legal.proofs.StreamFits.{streams_count, streams_fit}
use Rattle.paje_legal.proofs.stream_law.streams_fit_their_tracks.Goals as goal

pub returns-clause-count : goal.returns-clause-count
returns-clause-count c = streams_count

pub returns-clause-fits : goal.returns-clause-fits
returns-clause-fits c = streams_fit
