-- The canonical text, part by part.
use Rattle.std.proofs.Common.{◌≡◌, ◌++◌, ◌∷◌, ◌∙◌, List, ℕ, map, ap, refl, sym}
use Rattle.std.proofs.lemmas.Grind.{flat_map-append}
use Rattle.std.proofs.lemmas.List.{append_assoc}
use Rattle.std.specs.Fmt.{digits}
use Rattle.std.specs.List.{enumerate_from, flat_map, zip}
use Rattle.trace_base.specs.declared.text.TraceText.{TraceText}
use Rattle.paje_print.specs.CanonicalText.{canonical_text, create_line, destroy_line, link_line}
use Rattle.paje_print.specs.CanonicalText.{link_type_line, placed_containers, process_type_line}
use Rattle.paje_print.specs.CanonicalText.{state_type_line, track_lines}
use Rattle.paje_print.specs.WrittenEvents.{definitions_written}
use Rattle.paje_print.specs.WrittenWords.{WrittenLine, ended_line, lines_text}
use Rattle.paje_print.specs.declared.writer.TheConstants.{DEFINITIONS}

pub definitions_text : DEFINITIONS.now ≡ lines_text definitions_written ++ ended_line process_type_line
unfolding definitions_written digits
definitions_text = refl

-- lines behind a text
behind : (text : List ℕ) (a b : List WrittenLine) → text ++ lines_text (a ++ b) ≡ text ++ lines_text a
    ++ lines_text b
behind text a b = ap (λ x. text ++ x) (flat_map-append ended_line a b)
    ∙ sym (append_assoc text (lines_text a) (lines_text b))

-- more lines behind those of which this is known
more : (text : List ℕ) (a b : List WrittenLine) (known : List ℕ) → text ++ lines_text a ≡ known
    → text ++ lines_text (a ++ b) ≡ known ++ lines_text b
more text a b known e = behind text a b ∙ ap (λ x. x ++ lines_text b) e

-- a first line, and lists of lines behind it
parts : (d : List WrittenLine) (p : WrittenLine) (s l c t k e : List WrittenLine)
    → lines_text (d ++ (p ∷ s ++ l ++ c ++ t ++ k ++ e)) ≡ lines_text d ++ ended_line p ++ lines_text s
    ++ lines_text l ++ lines_text c ++ lines_text t ++ lines_text k ++ lines_text e
parts d p s l c t k e = flat_map-append ended_line d (p ∷ s ++ l ++ c ++ t ++ k ++ e)
    ∙ more (lines_text d) (p ∷ s ++ l ++ c ++ t ++ k) e _
    (more (lines_text d) (p ∷ s ++ l ++ c ++ t) k _
    (more (lines_text d) (p ∷ s ++ l ++ c) t _
    (more (lines_text d) (p ∷ s ++ l) c _
    (more (lines_text d) (p ∷ s) l _
    (sym (append_assoc (lines_text d) (ended_line p) (lines_text s)))))))

-- the parts of the canonical text
pub whole_text : (t : TraceText) → lines_text definitions_written ++ ended_line process_type_line
    ++ lines_text (map state_type_line (enumerate_from 0 t.names.kinds))
    ++ lines_text (map link_type_line (enumerate_from 0 t.names.link_kinds))
    ++ lines_text (map create_line (placed_containers t))
    ++ lines_text (flat_map (track_lines t.names.functions) (zip t.names.tracks t.tracks))
    ++ lines_text (map link_line t.links)
    ++ lines_text (map destroy_line (placed_containers t)) ≡ canonical_text t
unfolding canonical_text
whole_text t = sym (parts definitions_written process_type_line
    (map state_type_line (enumerate_from 0 t.names.kinds))
    (map link_type_line (enumerate_from 0 t.names.link_kinds)) (map create_line (placed_containers t))
    (flat_map (track_lines t.names.functions) (zip t.names.tracks t.tracks)) (map link_line t.links)
    (map destroy_line (placed_containers t)))
