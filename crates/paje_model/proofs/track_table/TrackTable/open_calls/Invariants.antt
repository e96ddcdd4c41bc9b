use Rattle.std.proofs.Common.{◌≡◌, sum_by, take}
use Rattle.paje_model.specs.TrackTable.{calls_at}
use Rattle.paje_model.proofs.track_table.TrackTable.open_calls.Given as goal

abbrev pub invariant-loop-place : goal.invariant-loop-place
invariant-loop-place l = l.open ≡ sum_by (calls_at l.self) (take l.place-index l.places)
