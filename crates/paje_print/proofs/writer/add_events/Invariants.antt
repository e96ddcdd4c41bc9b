use Rattle.std.proofs.Common.{◌≡◌, ◌++◌, ◌∷◌, drop, map}
use Rattle.trace_base.specs.declared.names.Track.{Track}
use Rattle.paje_print.specs.CanonicalText.{state_line}
use Rattle.paje_print.specs.WrittenNumbers.{container_alias, state_type_alias}
use Rattle.paje_print.specs.WrittenWords.{lines_text}
use Rattle.paje_print.proofs.writer.add_events.Given as goal

abbrev pub invariant-loop-event : goal.invariant-loop-event
invariant-loop-event l = (track : Track)
    → l.names ≡ 32 ∷ state_type_alias track.kind ++ 32 ∷ container_alias track.container
    → l.out.items ++ lines_text (map (state_line l.functions track) (drop l.event-index l.events))
    ≡ l.fn.out.items ++ lines_text (map (state_line l.functions track) l.events)
