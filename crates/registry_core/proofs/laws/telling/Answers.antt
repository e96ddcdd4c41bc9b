use Rattle.registry_core.specs.Standing.{AreTrees}
use Rattle.registry_core.proofs.OpenRows.{open_count_told, rows_told}
use Rattle.registry_core.proofs.ToldTracks.{not_yet_told, published_told}
use Rattle.registry_core.proofs.laws.telling.Goals as goal

pub returns-clause-rows : goal.returns-clause-rows
returns-clause-rows c key_at start r entries = rows_told (AreTrees key_at) start r entries

pub returns-clause-open_traces : goal.returns-clause-open_traces
returns-clause-open_traces c key_at start r entries = open_count_told (AreTrees key_at) start r entries

pub returns-clause-published : goal.returns-clause-published
returns-clause-published c key_at start r entries id place track from root t =
    published_told (AreTrees key_at) start r entries id place track from root t

pub returns-clause-not_yet : goal.returns-clause-not_yet
returns-clause-not_yet c key_at start r entries id place track t =
    not_yet_told (AreTrees key_at) start r entries id place track t
