-- No line of a canonical text is refused, where no state event is.
use Rattle.std.proofs.Common.{◌≡◌, ◌+◌, List, [], ◌∷◌, ◌++◌, find, length, is_some, None, Some, refl}
use Rattle.std.proofs.Common.{sym, ◌∙◌, ap, subst}
use Rattle.std.specs.List.{All, AllByRecursion}
use Rattle.std.specs.Option.{option_and_then}
use Rattle.std.proofs.lemmas.Bool.{cond-false}
use Rattle.std.proofs.lemmas.List.Elements.{All-from_recursion, recursion_from_All}
use Rattle.trace_base.specs.declared.text.TraceText.{TraceText}
use Rattle.paje_defs.specs.Refusals.{Placed, placed, placed_behind}
use Rattle.paje_lines.specs.EventLine.{EventLine}
use Rattle.paje_lines.specs.Reasons.{event_reason_at, event_refusal}
use Rattle.paje_print.specs.Canonical.{IsCanonical}
use Rattle.paje_read_back.specs.ToldLines.{containers_told, declarations_told, first_told, links_told}
use Rattle.paje_read_back.specs.ToldLines.{states_told}
use Rattle.paje_read_back.specs.ToldLines.{told_lines, types_told}
use Rattle.paje_read_back.proofs.DeclaredParts.{end_lines, link_lines, link_lines-are_links, state_lines}
use Rattle.paje_read_back.proofs.DeclaredParts.{states-are_states, told-parts}
use Rattle.paje_read_back.proofs.DeclaredUnrefused.{Unrefused, declared, unrefused-joined}
use Rattle.paje_read_back.proofs.EndsTold.{LastTimesWithin, ends-unrefused}
use Rattle.paje_read_back.proofs.LineKinds.{IsLinkLine, IsStateLine}
use Rattle.paje_read_back.proofs.LinksTold.{links-unrefused}

none_found : (ps : List (Placed EventLine)) → AllByRecursion Unrefused ps
    → find (λ p. is_some (event_reason_at p)) ps ≡ None
none_found [] all = refl
none_found (p ∷ ps) all = cond-false (is_some (event_reason_at p)) (Some p)
    (find (λ p. is_some (event_reason_at p)) ps) (ap is_some all.0) ∙ none_found ps all.1

lines-unrefused : (lines : List EventLine) → AllByRecursion Unrefused (placed lines)
    → event_refusal lines ≡ None
lines-unrefused lines all = ap (option_and_then event_reason_at) (none_found (placed lines) all)

-- where the state events aren't refused, and none of them comes behind the end of its container
pub whole-unrefused : (t : TraceText) → IsCanonical t
    → All (λ p. event_reason_at p ≡ None) (placed_behind (declarations_told t) (state_lines t))
    → LastTimesWithin t (declarations_told t ++ state_lines t) → event_refusal (told_lines t) ≡ None
whole-unrefused t is states times =
    let d = declarations_told t in
    let s = state_lines t in
    let l = link_lines t in
    let e = end_lines t in
    let are_states = All-from_recursion IsStateLine s (states-are_states t) in
    let are_links = All-from_recursion IsLinkLine l (link_lines-are_links t) in
    let behind_states : AllByRecursion Unrefused (placed (d ++ s)) = unrefused-joined [] d s
    (declared t is).each (recursion_from_All Unrefused (placed_behind d s) states) in
    let behind_links : AllByRecursion Unrefused (placed (d ++ s ++ l)) = unrefused-joined [] (d ++ s) l
    behind_states (recursion_from_All Unrefused (placed_behind (d ++ s) l) (links-unrefused t is s are_states
    (first_told + length (types_told t ++ containers_told t ++ states_told t)))) in
    lines-unrefused (told_lines t) (subst (λ ls. AllByRecursion Unrefused (placed ls)) (sym (told-parts t))
    (unrefused-joined [] (d ++ s ++ l) e behind_links (recursion_from_All Unrefused
    (placed_behind (d ++ s ++ l) e) (ends-unrefused t is s l are_states are_links times
    (first_told + length (types_told t ++ containers_told t ++ states_told t ++ links_told t))))))
