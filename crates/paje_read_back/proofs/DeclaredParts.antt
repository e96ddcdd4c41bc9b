-- The parts of a canonical text: its declarations, state events, link events and ends.
use Rattle.std.proofs.Common.{◌≡◌, ℕ, ◌+◌, List, ◌++◌, filter, length, Bool, false, refl}
use Rattle.std.proofs.Common.{◌∙◌, ap}
use Rattle.std.specs.List.{AllByRecursion, zip}
use Rattle.list_lemmas.proofs.Each.{all_mapped}
use Rattle.trace_base.specs.declared.text.TraceText.{TraceText}
use Rattle.paje_lines.specs.EventLine.{EventLine}
use Rattle.paje_lines.specs.Examples.{from}
use Rattle.paje_print.specs.CanonicalText.{placed_containers}
use Rattle.paje_read_back.specs.ToldLines.{containers_told, declarations_told, destroy_told, ends_told}
use Rattle.paje_read_back.specs.ToldLines.{first_told}
use Rattle.paje_read_back.specs.ToldLines.{links_told, states_told, told_lines}
use Rattle.paje_read_back.specs.ToldLines.{types_told}
use Rattle.paje_read_back.proofs.DeclaredLines.{NoneIs, picked-same}
use Rattle.paje_read_back.proofs.FindsNames.{DeclaresNothing}
use Rattle.paje_read_back.proofs.LineKinds.{IsLinkLine, IsStateLine, links-are_links, links-declare_nothing}
use Rattle.paje_read_back.proofs.LineKinds.{states-declare_nothing, tracks_are}
use Rattle.paje_read_back.proofs.NumberedLines.{any_told, from-append}

-- the number of the first state line
abbrev pub first_state : TraceText → ℕ
first_state t = first_told + length (types_told t ++ containers_told t)

abbrev pub state_lines : TraceText → List EventLine
state_lines t = from (first_state t) (states_told t)

abbrev pub link_lines : TraceText → List EventLine
link_lines t = from (first_told + length (types_told t ++ containers_told t ++ states_told t)) (links_told t)

abbrev pub end_lines : TraceText → List EventLine
end_lines t = from (first_told + length (types_told t ++ containers_told t ++ states_told t ++ links_told t))
    (ends_told t)

pub told-parts : (t : TraceText) → told_lines t
    ≡ declarations_told t ++ state_lines t ++ link_lines t ++ end_lines t
unfolding told_lines
told-parts t = from-append first_told (types_told t ++ containers_told t ++ states_told t ++ links_told t)
    (ends_told t)
    ∙ ap (λ ls. ls ++ end_lines t)
    (from-append first_told (types_told t ++ containers_told t ++ states_told t) (links_told t)
    ∙ ap (λ ls. ls ++ link_lines t) (from-append first_told (types_told t ++ containers_told t)
    (states_told t)))

-- ---- the lines of states and of link events

pub states-are_states : (t : TraceText) → AllByRecursion IsStateLine (state_lines t)
states-are_states t = tracks_are t.names.functions (zip t.names.tracks t.tracks)
    (first_told + length (types_told t ++ containers_told t))

pub link_lines-are_links : (t : TraceText) → AllByRecursion IsLinkLine (link_lines t)
link_lines-are_links t = links-are_links t.links
    (first_told + length (types_told t ++ containers_told t ++ states_told t))

ends-none : (t : TraceText) (p : EventLine → Bool) → ((line : EventLine) → DeclaresNothing line
    → p line ≡ false) → NoneIs p (end_lines t)
ends-none t p never = any_told (λ l. p l ≡ false) destroy_told (λ c n. never (destroy_told c n) refl)
    (first_told + length (types_told t ++ containers_told t ++ states_told t ++ links_told t))
    (placed_containers t)

-- a list of lines that declare is that of the declarations
pub only-declared : (t : TraceText) (p : EventLine → Bool) → ((line : EventLine) → DeclaresNothing line
    → p line ≡ false) → filter p (told_lines t) ≡ filter p (declarations_told t)
only-declared t p never = ap (filter p) (told-parts t)
    ∙ (picked-same p (declarations_told t ++ state_lines t ++ link_lines t) (end_lines t)
    (ends-none t p never)
    ∙ (picked-same p (declarations_told t ++ state_lines t) (link_lines t)
    (all_mapped DeclaresNothing (λ l. p l ≡ false) never (link_lines t)
    (links-declare_nothing (link_lines t) (link_lines-are_links t)))
    ∙ picked-same p (declarations_told t) (state_lines t)
    (all_mapped DeclaresNothing (λ l. p l ≡ false) never (state_lines t)
    (states-declare_nothing (state_lines t) (states-are_states t)))))
