-- How long the parts of great traces are.
use Rattle.std.proofs.Common.{◌≡◌, ℕ, ◌+◌, ◌*◌, ◌≤◌, zero, suc, List, [], ◌∷◌, ◌++◌, length, map, codes}
use Rattle.std.proofs.Common.{refl, ap, arith, length-append}
use Rattle.std.specs.Fmt.{digits}
use Rattle.std.specs.List.{enumerate_from, flat_map, zip}
use Rattle.std.proofs.lemmas.List.{length-replicate}
use Rattle.std.proofs.lemmas.List.Concat.{flat_map-append}
use Rattle.trace_base.specs.LegalExamples.{calls_in_a_row}
use Rattle.trace_base.specs.declared.limits.TheConstants.{MAX_TRACE_LINE}
use Rattle.trace_base.specs.declared.text.TraceText.{TraceText}
use Rattle.paje_print.specs.Canonical.{FitsOnLine}
use Rattle.paje_print.specs.CanonicalText.{canonical_text, create_line, destroy_line, event_lines_written}
use Rattle.paje_print.specs.CanonicalText.{link_line, link_type_line, placed_containers, process_type_line}
use Rattle.paje_print.specs.CanonicalText.{state_type_line, track_lines}
use Rattle.paje_print.specs.Examples.{long_text, long_texts, of_state_types, sent, starts}
use Rattle.paje_print.specs.WrittenEvents.{definitions_written}
use Rattle.paje_print.specs.WrittenNumbers.{state_type_alias}
use Rattle.paje_print.specs.WrittenWords.{WrittenLine, bare, ended_line, line_text, lines_text, quoted}
use Rattle.paje_print.proofs.GeneratedSizes.{length-line, length-quoted}

-- ---- lists that are as long as they say

pub length-long : (n : ℕ) → length (long_text n) ≡ n
unfolding long_text
length-long n = length-replicate n 97

pub length-starts : (n : ℕ) → length (starts n) ≡ n
unfolding starts
length-starts n = length-replicate n (sent 1 100)

-- a call has two events
pub length-calls : (n : ℕ) → length (calls_in_a_row n) ≡ 2 * n
unfolding calls_in_a_row
length-calls zero = refl
length-calls (suc n) = omega (arith, length-calls n)

-- ---- a long line

pub line-fits : (n : ℕ) → FitsOnLine (link_type_line (0, long_text n)) → n + 13 ≤ MAX_TRACE_LINE
unfolding digits
line-fits n fits =
    let front : List ℕ = codes "2 l0 P P P \"" in
    let behind : List ℕ = (long_text n ++ 34 ∷ []) ++ [] in
    let whole : length (front ++ behind) ≤ MAX_TRACE_LINE = fits in
    let twelve : length front ≡ 12 = refl in
    omega (
      arith,
      whole,
      length-append front behind,
      twelve,
      length-append (long_text n ++ 34 ∷ []) [],
      length-append (long_text n) (34 ∷ []),
      length-long n,
    )

-- ---- a long text

line-long : (k : ℕ) (text : List ℕ) → length text ≤ length (ended_line (state_type_line (k, text)))
line-long k text =
    let behind : WrittenLine = bare (state_type_alias k) ∷ bare (codes "P") ∷ quoted text ∷ [] in
    omega (
      arith,
      length-append (line_text (state_type_line (k, text))) (10 ∷ []),
      length-line (bare (codes "1")) behind,
      length-quoted text,
    )

pub types-long : (k n size : ℕ)
    → n * size ≤ length (lines_text (map state_type_line (enumerate_from k (long_texts n size))))
unfolding long_texts
types-long k zero size = omega arith
types-long k (suc n) size = omega (
  arith,
  length-append (ended_line (state_type_line (k, long_text size)))
      (lines_text (map state_type_line (enumerate_from (k + 1) (long_texts n size)))),
  line-long k (long_text size),
  length-long size,
  types-long (k + 1) n size,
)

-- as long, with lines behind, or before
with_behind : (n : ℕ) (xs ys : List WrittenLine) → n ≤ length (lines_text xs)
    → n ≤ length (lines_text (xs ++ ys))
with_behind n xs ys long = omega (
  arith,
  long,
  ap length (flat_map-append ended_line xs ys),
  length-append (lines_text xs) (lines_text ys),
)

with_before : (n : ℕ) (xs ys : List WrittenLine) → n ≤ length (lines_text ys)
    → n ≤ length (lines_text (xs ++ ys))
with_before n xs ys long = omega (
  arith,
  long,
  ap length (flat_map-append ended_line xs ys),
  length-append (lines_text xs) (lines_text ys),
)

-- the lines of the state types are a part of the text
pub text-long : (n : ℕ) (kinds : List (List ℕ))
    → n ≤ length (lines_text (map state_type_line (enumerate_from 0 kinds)))
    → n ≤ length (canonical_text (of_state_types kinds))
unfolding canonical_text
text-long n kinds long =
    let t : TraceText = of_state_types kinds in
    let types : List WrittenLine = map state_type_line (enumerate_from 0 kinds) in
    let links : List WrittenLine = map link_type_line (enumerate_from 0 t.names.link_kinds) in
    let creates : List WrittenLine = map create_line (placed_containers t) in
    let states : List WrittenLine =
    flat_map (track_lines t.names.functions) (zip t.names.tracks t.tracks) in
    let ends : List WrittenLine = map link_line t.links in
    let destroys : List WrittenLine = map destroy_line (placed_containers t) in
    with_before n definitions_written (event_lines_written t)
    (with_before n (process_type_line ∷ []) (types ++ links ++ creates ++ states ++ ends ++ destroys)
    (with_behind n (types ++ links ++ creates ++ states ++ ends) destroys
    (with_behind n (types ++ links ++ creates ++ states) ends
    (with_behind n (types ++ links ++ creates) states
    (with_behind n (types ++ links) creates
    (with_behind n types links long))))))
