-- The link events that a canonical text says are those of the trace.
use Rattle.std.proofs.Common.{◌≡◌, ◌+◌, ◌++◌, false, length, refl, ◌∙◌, ap}
use Rattle.list_lemmas.proofs.Options.{cond_unless}
use Rattle.trace_base.specs.declared.text.TraceText.{TraceText}
use Rattle.paje_lines.specs.EventLine.{is_link_event}
use Rattle.paje_lines.specs.Text.{link_at, links_of}
use Rattle.paje_print.specs.Canonical.{IsCanonical}
use Rattle.paje_print.specs.CanonicalText.{placed_containers}
use Rattle.paje_read_back.specs.ToldLines.{containers_told, declarations_told, destroy_told, first_told}
use Rattle.paje_read_back.specs.ToldLines.{links_told}
use Rattle.paje_read_back.specs.ToldLines.{states_told, told_lines, types_told}
use Rattle.paje_read_back.proofs.DeclaredLines.{told-same}
use Rattle.paje_read_back.proofs.DeclaredParts.{end_lines, link_lines, state_lines, states-are_states}
use Rattle.paje_read_back.proofs.DeclaredParts.{told-parts}
use Rattle.paje_read_back.proofs.LinksTold.{links-behind}
use Rattle.paje_read_back.proofs.NumberedLines.{any_told}

pub links-said : (t : TraceText) → IsCanonical t → links_of (told_lines t) ≡ t.links
links-said t is = ap links_of (told-parts t)
    ∙ (told-same link_at (λ l. is_link_event l.event)
    (λ before line never. cond_unless (is_link_event line.event) _ never)
    (declarations_told t ++ state_lines t ++ link_lines t) (end_lines t)
    (any_told (λ l. is_link_event l.event ≡ false) destroy_told (λ c n. refl)
    (first_told + length (types_told t ++ containers_told t ++ states_told t ++ links_told t))
    (placed_containers t))
    ∙ links-behind t is (state_lines t) (states-are_states t)
    (first_told + length (types_told t ++ containers_told t ++ states_told t)))
