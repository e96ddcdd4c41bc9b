-- How long each line of the generated trace's canonical text is: with its newline at most 50 bytes.
use Rattle.std.proofs.Common.{ℕ, ◌-◌, ◌^◌, ◌<◌, ◌≤◌, zero, suc, List, [], ◌∷◌, ◌++◌, length, map}
use Rattle.std.proofs.Common.{codes, sym, subst, arith, length-append}
use Rattle.std.specs.Prelude.{decimal}
use Rattle.std.specs.List.{AllByRecursion}
use Rattle.std.proofs.lemmas.Bool.{cond_both}
use Rattle.trace_base.specs.Stream.{time_of}
use Rattle.trace_base.specs.declared.messages.LinkEvent.{LinkEvent}
use Rattle.trace_base.specs.declared.names.Container.{Container}
use Rattle.trace_base.specs.declared.names.Track.{Track}
use Rattle.trace_base.specs.declared.stream.Event.{Event}
use Rattle.trace_base.specs.declared.stream.Event.TheVariants.{Enter, Leave}
use Rattle.paje_print.specs.CanonicalText.{state_type_line, link_type_line, create_line, destroy_line}
use Rattle.paje_print.specs.CanonicalText.{reset_line, state_line, text_of_function, link_words, link_line}
use Rattle.paje_print.specs.Generated.{functions_generated, kernels_called}
use Rattle.paje_print.specs.WrittenNumbers.{container_alias, seconds_text, state_type_alias, link_type_alias}
use Rattle.paje_print.specs.WrittenWords.{WrittenLine, bare, quoted}
use Rattle.paje_print.proofs.GeneratedFunctions.{kernels-below, kernel_text, functions-are}
use Rattle.paje_print.proofs.GeneratedSizes.{IsWithin, length-line, length-quoted, length-seconds, looked_up}
use Rattle.paje_print.proofs.GeneratedSizes.{length-decimal_short, length-decimal_two, length-container_alias}

-- ---- texts of functions

abbrev pub IsShort : List ℕ → Type 0
IsShort text = length text ≤ 8

kernels-short : (kernels : List ℕ) → AllByRecursion (λ kernel. kernel < 8) kernels
    → AllByRecursion IsShort (map kernel_text kernels)
kernels-short [] small = tt
kernels-short (k ∷ ks) small =
    let first : k < 8 = small.0 in
    let digit = length-decimal_short k (omega (arith, first)) in
    (omega (arith, length-append (codes "kernel ") (decimal k), digit), kernels-short ks small.1)

pub functions-short : (seed count : ℕ) → AllByRecursion IsShort (functions_generated seed count)
functions-short seed zero = tt
functions-short seed (suc n) = subst (AllByRecursion IsShort) (sym (functions-are seed n))
    (omega arith, kernels-short (kernels_called seed (suc n)) (kernels-below seed (suc n)))

-- ---- types

pub state_type-within : (i : ℕ) (name : List ℕ) → i < 10 → length name ≤ 8
    → IsWithin 50 (state_type_line (i, name))
state_type-within i name low short =
    let words : WrittenLine = bare (state_type_alias i) ∷ bare (codes "P") ∷ quoted name ∷ [] in
    omega (arith, length-line (bare (codes "1")) words, length-decimal_short i low, length-quoted name, short)

pub link_type-within : (i : ℕ) (name : List ℕ) → i < 10 → length name ≤ 8
    → IsWithin 50 (link_type_line (i, name))
link_type-within i name low short =
    let words : WrittenLine = bare (link_type_alias i) ∷ bare (codes "P") ∷ bare (codes "P") ∷ bare
    (codes "P")
    ∷ quoted name ∷ [] in
    omega (arith, length-line (bare (codes "2")) words, length-decimal_short i low, length-quoted name, short)

-- ---- containers

pub create-within : (place : ℕ) (c : Container) → place < 100 → c.start < 10 ^ 9 → IsShort c.name
    → IsWithin 50 (create_line (place, c))
create-within place c low early short =
    let words : WrittenLine = bare (seconds_text c.start) ∷ bare (container_alias place) ∷ bare (codes "P")
    ∷ bare (codes "0") ∷ quoted c.name ∷ [] in
    let seconds = length-seconds c.start early in
    let alias = length-container_alias place low in
    omega (arith, length-line (bare (codes "3")) words, seconds, alias, length-quoted c.name, short)

pub destroy-within : (place : ℕ) (c : Container) → place < 100 → c.end < 10 ^ 9
    → IsWithin 50 (destroy_line (place, c))
destroy-within place c low early =
    let words : WrittenLine = bare (seconds_text c.end) ∷ bare (codes "P") ∷ bare (container_alias place) ∷
    [] in
    let alias = length-container_alias place low in
    omega (arith, length-line (bare (codes "4")) words, length-seconds c.end early, alias)

-- ---- tracks

-- the track's container and kind are written with few digits
abbrev pub HasFewDigits : Track → Type 0
HasFewDigits track = (track.container < 100) × (track.kind < 10)

abbrev words_on : Track → ℕ → WrittenLine
words_on track time = bare (seconds_text time) ∷ bare (state_type_alias track.kind)
    ∷ bare (container_alias track.container) ∷ []

pub reset-within : (track : Track) (start : ℕ) → HasFewDigits track → start < 10 ^ 9
    → IsWithin 40 (reset_line track start)
reset-within track start few early =
    let kind = length-decimal_short track.kind few.1 in
    let container = length-container_alias track.container few.0 in
    omega (
      arith,
      length-line (bare (codes "7")) (words_on track start),
      length-seconds start early,
      kind,
      container,
    )

pub event-within : (functions : List (List ℕ)) (track : Track) (e : Event) → AllByRecursion IsShort functions
    → HasFewDigits track → time_of e < 10 ^ 9 → IsWithin 40 (state_line functions track e)
event-within functions track (Enter f time) short few early =
    let text : List ℕ = text_of_function functions f in
    let kind = length-decimal_short track.kind few.1 in
    let container = length-container_alias track.container few.0 in
    let words : WrittenLine = bare (seconds_text time) ∷ bare (state_type_alias track.kind)
    ∷ bare (container_alias track.container) ∷ quoted text ∷ [] in
    omega (
      arith,
      length-line (bare (codes "5")) words,
      length-seconds time early,
      kind,
      container,
      length-quoted text,
      looked_up 8 (f - 1) functions short,
    )
event-within functions track (Leave time) short few early =
    let kind = length-decimal_short track.kind few.1 in
    let container = length-container_alias track.container few.0 in
    omega (
      arith,
      length-line (bare (codes "6")) (words_on track time),
      length-seconds time early,
      kind,
      container,
    )

-- ---- link events

pub link-within : (l : LinkEvent) → l.time < 10 ^ 9 → l.kind < 10 → l.container < 100 → length l.key ≤ 6
    → l.size < 100 → IsWithin 50 (link_line l)
link-within l early kind container key size =
    let start : WrittenLine = link_words l ++ bare (decimal l.size) ∷ [] in
    let seconds = length-seconds l.time early in
    let kinds = length-decimal_short l.kind kind in
    let containers = length-container_alias l.container container in
    let sizes = length-decimal_two l.size size in
    let keys = length-quoted l.key in
    cond_both l.starts (bare (codes "8") ∷ start) (bare (codes "9") ∷ link_words l) (IsWithin 50)
    (λ e. omega (arith, length-line (bare (codes "8")) start, seconds, kinds, containers, sizes, keys, key))
    (λ e. omega (arith, length-line (bare (codes "9")) (link_words l), seconds, kinds, containers, keys, key))
