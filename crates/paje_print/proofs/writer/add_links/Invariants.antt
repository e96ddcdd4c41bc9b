use Rattle.std.proofs.Common.{◌≡◌, ◌++◌, drop, map}
use Rattle.paje_print.specs.CanonicalText.{link_line}
use Rattle.paje_print.specs.WrittenWords.{lines_text}
use Rattle.paje_print.proofs.writer.add_links.Given as goal

abbrev pub invariant-loop-link : goal.invariant-loop-link
invariant-loop-link l = l.out.items ++ lines_text (map link_line (drop l.link-index l.links))
    ≡ l.fn.out.items ++ lines_text (map link_line l.links)
