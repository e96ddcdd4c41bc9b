-- Each event line of a canonical text is well written.
use Rattle.std.proofs.Common.{ℕ, zero, suc, ◌-◌, ◌<◌, ◌≤◌, List, [], ◌∷◌, ◌++◌, arith, codes, decimal}
use Rattle.std.proofs.Common.{drop, map, refl, slice_get, unwrap_or}
use Rattle.std.proofs.lemmas.Bool.{cond_both}
use Rattle.std.proofs.lemmas.List.Elements.{recursion_from_All}
use Rattle.std.specs.List.{AllByRecursion, enumerate_from, flat_map, zip}
use Rattle.list_lemmas.proofs.Each.{all_append, all_dropped, all_enumerated, all_first, all_made, all_second}
use Rattle.list_lemmas.proofs.Each.{all_unmap, any_made, any_parts}
use Rattle.trace_base.specs.declared.messages.LinkEvent.{LinkEvent}
use Rattle.trace_base.specs.declared.names.Container.{Container}
use Rattle.trace_base.specs.declared.names.Track.{Track}
use Rattle.trace_base.specs.declared.stream.Event.{Event}
use Rattle.trace_base.specs.declared.stream.Event.TheVariants.{Enter, Leave}
use Rattle.trace_base.specs.declared.stream.TrackStream.{TrackStream}
use Rattle.trace_base.specs.declared.text.TraceText.{TraceText}
use Rattle.paje_print.specs.Canonical.{IsCanonical, IsQuotable, texts_in}
use Rattle.paje_print.specs.CanonicalText.{create_line, destroy_line, event_lines_written, link_line}
use Rattle.paje_print.specs.CanonicalText.{link_type_line, link_words, placed_containers, process_type_line}
use Rattle.paje_print.specs.CanonicalText.{reset_line, state_line, state_type_line, text_of_function}
use Rattle.paje_print.specs.CanonicalText.{track_lines}
use Rattle.paje_print.specs.WrittenNumbers.{container_alias, link_type_alias, seconds_text}
use Rattle.paje_print.specs.WrittenNumbers.{state_type_alias}
use Rattle.paje_print.specs.WrittenWords.{WrittenLine, WrittenWord, bare, quoted}
use Rattle.paje_read_back.proofs.WordsOfNumbers.{container_alias-written, decimal-written}
use Rattle.paje_read_back.proofs.WordsOfNumbers.{link_type_alias-written, seconds-written}
use Rattle.paje_read_back.proofs.WordsOfNumbers.{state_type_alias-written}
use Rattle.paje_read_back.proofs.WordsRead.{IsEventLine}
use Rattle.paje_read_back.proofs.WordsWellWritten.{AreWellWritten, IsBareWord, IsWellWritten}
use Rattle.paje_read_back.proofs.WordsWellWritten.{word_bytes-ascii}
use Rattle.std.proofs.lemmas.Str.{IsUtf8-from_ascii, IsUtf8-nil}

abbrev pub AreEventLines : List WrittenLine → Type 0
AreEventLines lines = AllByRecursion IsEventLine lines

abbrev AreQuotable : List (List ℕ) → Type 0
AreQuotable texts = AllByRecursion IsQuotable texts

-- ---- words of one letter or digit

letter : (b : ℕ) → 35 ≤ b → b < 128 → IsBareWord (b ∷ [])
letter b above below = ((above, below), tt)

of_number : (b : ℕ) (words : List WrittenWord) → 48 ≤ b → b ≤ 57 → AreWellWritten words
    → IsEventLine (bare (b ∷ []) ∷ words)
of_number b words above below are = ((above, below), (letter b (omega arith) (omega arith), are))

-- ---- types

p_quotable : IsQuotable (codes "P")
p_quotable = record {
  utf8 = IsUtf8-from_ascii (codes "P") (word_bytes-ascii (codes "P") ((omega arith, omega arith), tt));
  no_quote = (refl, tt);
  no_newline = (refl, tt);
}

process_type-written : IsEventLine process_type_line
process_type-written =
    of_number 48 (bare (codes "P") ∷ bare (codes "0") ∷ quoted (codes "P") ∷ []) (omega arith) (omega arith)
    (letter 80 (omega arith) (omega arith), (letter 48 (omega arith) (omega arith), (p_quotable, tt)))

state_type-written : (p : ℕ × List ℕ) → IsQuotable p.1 → IsEventLine (state_type_line p)
state_type-written p is =
    of_number 49 (bare (state_type_alias p.0) ∷ bare (codes "P") ∷ quoted p.1 ∷ []) (omega arith)
    (omega arith)
    (state_type_alias-written p.0, (letter 80 (omega arith) (omega arith), (is, tt)))

link_type-written : (p : ℕ × List ℕ) → IsQuotable p.1 → IsEventLine (link_type_line p)
link_type-written p is =
    let kind : IsBareWord (codes "P") = letter 80 (omega arith) (omega arith) in
    of_number 50 (bare (link_type_alias p.0) ∷ bare (codes "P") ∷ bare (codes "P") ∷ bare (codes "P")
    ∷ quoted p.1 ∷ []) (omega arith) (omega arith)
    (link_type_alias-written p.0, (kind, (kind, (kind, (is, tt)))))

-- ---- containers

create-written : (p : ℕ × Container) → IsQuotable p.1.name → IsEventLine (create_line p)
create-written p is =
    of_number 51 (bare (seconds_text p.1.start) ∷ bare (container_alias p.0) ∷ bare (codes "P")
    ∷ bare (codes "0") ∷ quoted p.1.name ∷ []) (omega arith) (omega arith) (
      seconds-written p.1.start,
      (
        container_alias-written p.0,
        (
          letter 80 (omega arith) (omega arith),
          (letter 48 (omega arith) (omega arith), (is, tt)),
        ),
      ),
    )

destroy-written : (p : ℕ × Container) → IsEventLine (destroy_line p)
destroy-written p =
    of_number 52 (bare (seconds_text p.1.end) ∷ bare (codes "P") ∷ bare (container_alias p.0) ∷ [])
    (omega arith) (omega arith)
    (seconds-written p.1.end, (letter 80 (omega arith) (omega arith), (container_alias-written p.0, tt)))

-- ---- tracks

text_of_function-quotable : (functions : List (List ℕ)) (f : ℕ) → AreQuotable functions
    → IsQuotable (text_of_function functions f)
text_of_function-quotable functions f are = found functions (f - 1) are
  where
    found : (functions : List (List ℕ)) (i : ℕ) → AreQuotable functions
        → IsQuotable (unwrap_or (slice_get functions i) [])
    found [] i are = record { utf8 = IsUtf8-nil; no_quote = tt; no_newline = tt }
    found (text ∷ functions) zero (is, are) = is
    found (text ∷ functions) (suc i) (is, are) = found functions i are

reset-written : (track : Track) (start : ℕ) → IsEventLine (reset_line track start)
reset-written track start =
    of_number 55 (bare (seconds_text start) ∷ bare (state_type_alias track.kind)
    ∷ bare (container_alias track.container) ∷ []) (omega arith) (omega arith) (
      seconds-written start,
      (
        state_type_alias-written track.kind,
        (container_alias-written track.container, tt),
      ),
    )

state-written : (functions : List (List ℕ)) (track : Track) (event : Event) → AreQuotable functions
    → IsEventLine (state_line functions track event)
state-written functions track (Enter f time) are =
    of_number 53 (bare (seconds_text time) ∷ bare (state_type_alias track.kind)
    ∷ bare (container_alias track.container) ∷ quoted (text_of_function functions f) ∷ [])
    (omega arith) (omega arith) (
      seconds-written time,
      (
        state_type_alias-written track.kind,
        (
          container_alias-written track.container,
          (text_of_function-quotable functions f are, tt),
        ),
      ),
    )
state-written functions track (Leave time) are =
    of_number 54 (bare (seconds_text time) ∷ bare (state_type_alias track.kind)
    ∷ bare (container_alias track.container) ∷ []) (omega arith) (omega arith) (
      seconds-written time,
      (
        state_type_alias-written track.kind,
        (container_alias-written track.container, tt),
      ),
    )

track-written : (functions : List (List ℕ)) (p : Track × TrackStream) → AreQuotable functions
    → AreEventLines (track_lines functions p)
track-written functions p are = (
  reset-written p.0 p.1.start,
  any_made IsEventLine (state_line functions p.0) (λ event. state-written functions p.0 event are) p.1.events,
)

-- ---- link events

link_words-written : (l : LinkEvent) → IsQuotable l.key → AreWellWritten (link_words l)
link_words-written l is = (
  seconds-written l.time,
  (
    link_type_alias-written l.kind,
    (
      letter 48 (omega arith) (omega arith),
      (
        letter 109 (omega arith) (omega arith),
        (container_alias-written l.container, (is, tt)),
      ),
    ),
  ),
)

link-written : (l : LinkEvent) → IsQuotable l.key → IsEventLine (link_line l)
link-written l is =
    let start : List WrittenWord = link_words l ++ bare (decimal l.size) ∷ [] in
    cond_both l.starts (bare (codes "8") ∷ start) (bare (codes "9") ∷ link_words l) IsEventLine
    (λ starts. of_number 56 start (omega arith) (omega arith)
    (all_append IsWellWritten (link_words l) (bare (decimal l.size) ∷ []) (link_words-written l is)
    (decimal-written l.size, tt)))
    (λ ends. of_number 57 (link_words l) (omega arith) (omega arith) (link_words-written l is))

-- ---- all of them

-- the texts of a trace can stand in quotes
record HasQuotable (t : TraceText) : Type 0 where
  containers : AllByRecursion (λ c. IsQuotable c.name) t.names.containers
  kinds : AreQuotable t.names.kinds
  link_kinds : AreQuotable t.names.link_kinds
  functions : AreQuotable t.names.functions
  links : AllByRecursion (λ l. IsQuotable l.key) t.links

has_quotable : (t : TraceText) → AreQuotable (texts_in t) → HasQuotable t
has_quotable t are =
    let names : List (List ℕ) = map (λ (c : Container). c.name) t.names.containers in
    let keys : List (List ℕ) = map (λ (l : LinkEvent). l.key) t.links in
    let kinds : List (List ℕ) = names ++ t.names.kinds in
    let link_kinds : List (List ℕ) = kinds ++ t.names.link_kinds in
    let to_functions = all_first IsQuotable (link_kinds ++ t.names.functions) keys are in
    let to_link_kinds = all_first IsQuotable link_kinds t.names.functions to_functions in
    let to_kinds = all_first IsQuotable kinds t.names.link_kinds to_link_kinds in
    record {
      containers = all_unmap IsQuotable (λ (c : Container). c.name) t.names.containers
          (all_first IsQuotable names t.names.kinds to_kinds);
      kinds = all_second IsQuotable names t.names.kinds to_kinds;
      link_kinds = all_second IsQuotable kinds t.names.link_kinds to_link_kinds;
      functions = all_second IsQuotable link_kinds t.names.functions to_functions;
      links = all_unmap IsQuotable (λ (l : LinkEvent). l.key) t.links
          (all_second IsQuotable (link_kinds ++ t.names.functions) keys are);
    }

placed-written : (t : TraceText) → HasQuotable t
    → AreEventLines (map create_line (placed_containers t))
placed-written t has =
    all_made (λ p. IsQuotable p.1.name) IsEventLine create_line create-written (placed_containers t)
    (all_enumerated (λ c. IsQuotable c.name) 1 (drop 1 t.names.containers)
    (all_dropped (λ c. IsQuotable c.name) t.names.containers has.containers))

lines-written : (t : TraceText) → HasQuotable t → AreEventLines (event_lines_written t)
lines-written t has = (
  process_type-written,
  all_append IsEventLine _ (map destroy_line (placed_containers t))
      (all_append IsEventLine _ (map link_line t.links)
      (all_append IsEventLine _ (flat_map (track_lines t.names.functions) (zip t.names.tracks t.tracks))
      (all_append IsEventLine _ (map create_line (placed_containers t))
      (all_append IsEventLine (map state_type_line (enumerate_from 0 t.names.kinds))
      (map link_type_line (enumerate_from 0 t.names.link_kinds))
      (all_made (λ p. IsQuotable p.1) IsEventLine state_type_line state_type-written
      (enumerate_from 0 t.names.kinds) (all_enumerated IsQuotable 0 t.names.kinds has.kinds))
      (all_made (λ p. IsQuotable p.1) IsEventLine link_type_line link_type-written
      (enumerate_from 0 t.names.link_kinds) (all_enumerated IsQuotable 0 t.names.link_kinds has.link_kinds)))
      (placed-written t has))
      (any_parts IsEventLine (track_lines t.names.functions)
      (λ p. track-written t.names.functions p has.functions) (zip t.names.tracks t.tracks)))
      (all_made (λ l. IsQuotable l.key) IsEventLine link_line link-written t.links has.links))
      (any_made IsEventLine destroy_line destroy-written (placed_containers t)),
)

pub event_lines-written : (t : TraceText) → IsCanonical t → AreEventLines (event_lines_written t)
event_lines-written t is =
    lines-written t (has_quotable t (recursion_from_All IsQuotable (texts_in t) is.texts))
