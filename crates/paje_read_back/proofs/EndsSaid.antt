-- Each container of a canonical text ends as in the trace.
use Rattle.std.proofs.Common.{◌≡◌, ℕ, ◌+◌, ◌<◌, ◌++◌, length, zero, suc, Option, Some}
use Rattle.std.proofs.Common.{None, sym, ◌∙◌, ap, subst, arith}
use Rattle.std.specs.Option.{option_map, option_map_or}
use Rattle.std.proofs.lemmas.Option.{none-some, same_Some, slice_get_within}
use Rattle.trace_base.specs.declared.text.TraceText.{TraceText}
use Rattle.paje_lines.specs.Containers.{destruction, greatest}
use Rattle.paje_lines.specs.EventLine.{EventLine}
use Rattle.paje_print.specs.Canonical.{IsCanonical, root_until}
use Rattle.paje_print.specs.CanonicalText.{placed_containers}
use Rattle.paje_read_back.specs.ToldLines.{containers_told, first_told, links_told, states_told, told_lines}
use Rattle.paje_read_back.specs.ToldLines.{types_told}
use Rattle.paje_read_back.proofs.DeclaredParts.{link_lines, link_lines-are_links, state_lines}
use Rattle.paje_read_back.proofs.DeclaredParts.{states-are_states, told-parts}
use Rattle.paje_read_back.proofs.EndsTimes.{end-said}
use Rattle.paje_read_back.proofs.EndsTold.{EndsAre, ends-walked}
use Rattle.paje_read_back.proofs.FindsNames.{EndsAsTold}
use Rattle.paje_read_back.proofs.NamesFound.{count-placed}

-- behind all lines
pub all-ended : (t : TraceText) → IsCanonical t → EndsAre t (placed_containers t) (told_lines t)
all-ended t is = subst (EndsAre t (placed_containers t)) (sym (told-parts t))
    (ends-walked t is (state_lines t) (link_lines t) (states-are_states t) (link_lines-are_links t)
    (first_told + length (types_told t ++ containers_told t ++ states_told t ++ links_told t)))

ended-by : (o : Option EventLine) (last end : ℕ) → option_map (λ l. l.time) o ≡ Some end
    → option_map_or (λ l. l.time) o last ≡ end
ended-by None last end is = absurd (none-some end is)
ended-by (Some line) last end is = same_Some line.time end is

placed-below : (t : TraceText) → IsCanonical t → (i : ℕ) → i < length t.names.containers
    → i < length (placed_containers t) + 1
placed-below t is i within =
    let count = count-placed t is in
    omega (arith, within, count)

-- each container ends as in the trace, the root at the greatest time
pub ends-as-told : (t : TraceText) → IsCanonical t → EndsAsTold t (told_lines t)
ends-as-told t is zero c at =
    ap (λ o. option_map_or (λ l. l.time) o (greatest (told_lines t))) (all-ended t is).root
    ∙ (end-said t is ∙ ap (λ c. c.end) (same_Some (root_until t.names.end) c (sym is.root ∙ at)))
ends-as-told t is (suc k) c at =
    ended-by (destruction (told_lines t) (suc k)) (greatest (told_lines t)) c.end
    ((all-ended t is).ended (suc k) c at (omega arith) (placed-below t is (suc k)
    (slice_get_within t.names.containers (suc k) c at)))
