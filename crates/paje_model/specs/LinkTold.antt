-- The end of a message that a line tells.
use Rattle.std.specs.Prelude.{ℕ, if◌then◌else◌}
use Rattle.trace_base.specs.declared.messages.LinkEvent.{LinkEvent}
use Rattle.paje_defs.specs.declared.role.Role.TheVariants as roles
use Rattle.paje_lines.specs.EventLine.{EventLine, starts_link, text_of}

-- of this link type and in this container
abbrev pub link_told : EventLine → ℕ → ℕ → LinkEvent
link_told line kind container = record {
  starts = starts_link line.event;
  kind = kind;
  key = text_of line roles.Key;
  container = container;
  time = line.time;
  size = if starts_link line.event then line.size else 0;
}
