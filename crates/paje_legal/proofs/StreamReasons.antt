-- What the track of a state event is like, where the line isn't refused.
use Rattle.std.proofs.Common.{◌≡◌, ◌+◌, ◌≤◌, nat_lt, true}
use Rattle.std.proofs.Common.{Some, None, sym, ◌∙◌, List, subst}
use Rattle.std.proofs.lemmas.Bool.{ltb-false}
use Rattle.std.proofs.lemmas.Option.{same_Some}
use Rattle.list_lemmas.proofs.Numbers.{pos_unless, room_unless}
use Rattle.trace_base.specs.declared.limits.TheConstants.{MAX_OPEN_CALLS}
use Rattle.trace_base.specs.declared.names.Track.{Track}
use Rattle.paje_lines.specs.declared.model_fault.ModelFault.TheVariants.{TimeBack}
use Rattle.paje_lines.specs.EventLine.{EventLine, is_state_event, pops, pushes}
use Rattle.paje_lines.specs.Containers.{destruction}
use Rattle.paje_lines.specs.States.{track_named, last_time, open_calls}
use Rattle.paje_lines.specs.Reasons.{event_reason_at, met}
use Rattle.paje_lines.proofs.NoReason.{when_none}
use Rattle.paje_lines.proofs.StateEvents.{IsMet, is_met, meets}
use Rattle.paje_lines.proofs.NotDestroyed.{not_destroyed}

-- its container is there, it isn't later than the line, and the line's call may be left or entered
pub record Allows (before : List EventLine) (line : EventLine) (track : Track) : Type 0 where
  pub alive : destruction before track.container ≡ None
  pub in_order : last_time before track ≤ line.time
  pub some_open : pops line.event ≡ true → 1 ≤ open_calls before track
  pub more_room : pushes line.event ≡ true → open_calls before track + 1 ≤ MAX_OPEN_CALLS

allowed : (before : List EventLine) (line : EventLine) (track : Track) → IsMet line (met before line track)
    → Allows before line track
allowed before line track is = record {
  alive = not_destroyed (destruction before track.container) is.exists;
  in_order = ltb-false line.time (last_time before track)
      (when_none (nat_lt line.time (last_time before track)) (TimeBack (last_time before track)) is.in_order);
  some_open = λ e. pos_unless (open_calls before track) (pops line.event) e is.pops_open;
  more_room = λ e. room_unless MAX_OPEN_CALLS (open_calls before track) (pushes line.event) e
      is.pushes_within;
}

pub allows : (before : List EventLine) (line : EventLine) (track : Track)
    → event_reason_at (record { before = before; line = line }) ≡ None → is_state_event line.event ≡ true
    → track_named before line ≡ Some track → Allows before line track
allows before line track none state named =
    let m = meets before line none state in
    subst (Allows before line) (same_Some m.track track (sym m.named ∙ named))
    (allowed before line m.track (is_met line (met before line m.track) m.none))
