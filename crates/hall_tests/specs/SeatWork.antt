-- What a seat's work is in a hall that counts it.
use Rattle.std.specs.Prelude.{ℕ, ◌+◌, List, sum_by, Some}
use Rattle.hall_history.specs.History.{Entry, Opened, Published, Sealed, Dropped, Closed, Asked}
use Rattle.hall_history.specs.Seat.{Seat}
use Rattle.hall_trait.specs.Answers.{places_of_load}
use Rattle.hall_trait.specs.View.{Account, HallView, no_account}

-- How many entries are made or promised with this one: with one that opens a trace, all those of its load.
-- The others of a load were promised.
abbrev pub entries_begun : Entry → ℕ
entries_begun (Opened id info) = places_of_load info
entries_begun (Published id track what) = 0
entries_begun (Sealed id) = 0
entries_begun (Dropped id) = 0
entries_begun (Closed id) = 1
entries_begun Asked = 1

-- the work of a seat that is alone: the nodes that it interned, and the entries that it made or has promised
abbrev pub work_of : ℕ → List Entry → ℕ
work_of interned seen = interned + sum_by entries_begun seen

-- this work is told of the calls, and nothing else
abbrev pub work_alone : ℕ → Seat → Account
work_alone interned seat = record no_account { work = Some (work_of interned seat.seen) }

-- what a hall tells that counts so many nodes, over one that tells nothing of its calls
abbrev pub counted : ℕ → HallView → HallView
counted interned v = record v { account = work_alone interned v.seat }
