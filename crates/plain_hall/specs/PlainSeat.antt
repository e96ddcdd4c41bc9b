-- The seat of a hall with one owner.
use Rattle.std.specs.Prelude.{◌≤◌, List, Option, length, map, take, IsSome}
use Rattle.std.specs.List.{range_with_len}
use Rattle.std.specs.Option.{option_to_list}
use Rattle.hall_history.specs.declared.asks.AskIds.{AskIds}
use Rattle.hall_history.specs.History.{Entry, EntryOf, info_of}
use Rattle.plain_hall.specs.Loading.{passes_of}
use Rattle.hall_history.specs.Asks.{first_id, second_id}
use Rattle.hall_history.specs.Seat.{Seat}
use Rattle.hall_history.specs.declared.seat.PinView.{PinView}
use Rattle.node_key.specs.declared.stake.Stake.{Stake}
use Rattle.plain_hall.specs.declared.kept_pin.KeptPin.{KeptPin}

-- Each entry is the seat's own, and each loading trace has one pass.
abbrev pub plain_seat : List Stake → List Entry → List PinView → Seat
plain_seat stakes entries pins = record {
  stakes = stakes;
  pins = pins;
  passes = passes_of entries;
  seen = entries;
  places = range_with_len 1 (length entries);
}

-- the pin as the seat has it
abbrev pub kept_view : KeptPin → PinView
kept_view pin = record { ids = pin.ids; place = pin.place }

-- the queries that run, of which there is one where a pin is out
abbrev pub queries_of : Option KeptPin → List AskIds
queries_of pin = map (λ (p : KeptPin). p.ids) (option_to_list pin)

-- the pin's traces were opened by its place
pub record IsHeld {X : Type 0} (entries : List (EntryOf X)) (pin : KeptPin) : Type 0 where
  pub place : pin.place ≤ length entries
  pub first : IsSome (info_of (take pin.place entries) (first_id pin.ids))
  pub second : IsSome (info_of (take pin.place entries) (second_id pin.ids))
