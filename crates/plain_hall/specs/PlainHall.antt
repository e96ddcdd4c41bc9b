-- What a plain hall is to its owner.
use Rattle.std.specs.Prelude.{ℕ, List, [], map, true, None, Some}
use Rattle.std.specs.Option.{option_to_list}
use Rattle.hall_history.specs.History.{Entry}
use Rattle.hall_history.specs.Seat.{Seat}
use Rattle.hall_history.specs.declared.seat.PinView.{PinView}
use Rattle.hall_trait.specs.Reach.{Reaching}
use Rattle.hall_trait.specs.View.{HallView, no_account}
use Rattle.memo_rooms.specs.Rooms.{kept_under}
use Rattle.node_store.specs.Given.{ever, stakes_of}
use Rattle.store_laws.specs.Store.{empty_store}
use Rattle.plain_hall.specs.KeptHistory.{history}
use Rattle.plain_hall.specs.PlainSeat.{plain_seat, kept_view}
use Rattle.plain_hall.specs.Reaching.{Reaches}
use Rattle.plain_hall.specs.Rooted.{with_trees}
use Rattle.plain_hall.specs.declared.hall.PlainHall.{PlainHall}

-- its history
abbrev pub seen_by : PlainHall → List Entry
seen_by hall = with_trees (ever hall.nodes.given) (history hall.past)

-- its pins, of which there is at most one
abbrev pub pins_of : PlainHall → List PinView
pins_of hall = map kept_view (option_to_list hall.pin)

-- its seat
abbrev pub seat_of : PlainHall → Seat
seat_of hall = plain_seat (stakes_of hall.nodes.given) (seen_by hall) (pins_of hall)

-- What it tells: its owner is alone, and its store and memo are told. What the calls came to isn't.
abbrev pub view_of : PlainHall → HallView
view_of hall = record {
  seat = seat_of hall;
  alone = true;
  account = no_account;
  rooms = Some hall.nodes.rooms;
  memo = Some (kept_under hall.memos);
}

-- what it tells before the first call, where its rooms give their numbers from this index on: nothing was
-- done or stored, and no profile is kept
abbrev pub view_at_first : ℕ → HallView
view_at_first first = record {
  seat = record { stakes = []; pins = []; passes = []; seen = []; places = [] };
  alone = true;
  account = no_account;
  rooms = Some (empty_store first);
  memo = Some (λ n kind. None);
}

-- what its owner reaches
abbrev pub reached_in : PlainHall → Reaching
reached_in hall = Reaches hall.nodes hall.registry (pins_of hall)
