-- The traces of a pin.
use Rattle.std.specs.Prelude.{ℕ, ◌==◌, if◌then◌else◌}
use Rattle.hall_history.specs.declared.brief.Brief.{Brief}
use Rattle.hall_history.specs.declared.seat.PinView.{PinView}
use Rattle.hall_trait.specs.declared.pin.Pin.{Pin}

-- the brief of the first trace, for 0, or of the second, for 1
abbrev pub brief_at : Pin → ℕ → Brief
brief_at pin which = if which == 0 then pin.first else pin.second

-- the pin as its seat has it
abbrev pub pin_view : Pin → PinView
pin_view pin = record { ids = pin.ids; place = pin.place }
