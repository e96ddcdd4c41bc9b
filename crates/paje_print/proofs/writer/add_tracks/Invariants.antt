use Rattle.std.proofs.Common.{◌≡◌, ◌++◌, drop}
use Rattle.std.specs.List.{flat_map, zip}
use Rattle.paje_print.specs.CanonicalText.{track_lines}
use Rattle.paje_print.specs.WrittenWords.{lines_text}
use Rattle.paje_print.proofs.writer.add_tracks.Given as goal

abbrev pub invariant-loop-i : goal.invariant-loop-i
invariant-loop-i l = l.out.items
    ++ lines_text (flat_map (track_lines l.functions) (zip (drop l.i l.tracks) (drop l.i l.streams)))
    ≡ l.fn.out.items ++ lines_text (flat_map (track_lines l.functions) (zip l.tracks l.streams))
