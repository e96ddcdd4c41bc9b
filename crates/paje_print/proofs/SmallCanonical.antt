-- The small traces of the examples have a canonical text.
use Rattle.std.proofs.Common.{◌-◌, ◌^◌, [], ◌∷◌, codes, replicate, refl}
use Rattle.std.specs.Fmt.{digits}
use Rattle.trace_base.specs.LegalExamples.{lasting, nested_calls, one_call, track_of_kind}
use Rattle.trace_base.specs.Stream.{IsLegal, stack_after}
use Rattle.trace_base.specs.declared.limits.TheConstants.{MAX_OPEN_CALLS, MAX_TIME}
use Rattle.trace_base.specs.declared.limits.TheConstants.{MAX_TRACE_LINE, MAX_TYPES}
use Rattle.trace_base.specs.declared.stream.TrackStream.{TrackStream}
use Rattle.trace_base.proofs.LegalTest.{IsLegal-from}
use Rattle.paje_print.specs.Canonical.{IsCanonical}
use Rattle.paje_print.specs.CanonicalText.{canonical_text}
use Rattle.paje_print.specs.Examples.{beside_lasting, beside_track, calling_two, linking, quiet_process, sent}
use Rattle.paje_print.specs.Examples.{long_text, nesting, of_link_type, of_state_types, small_trace}
use Rattle.paje_print.specs.Examples.{of_two_link_types, two_in_a_row, two_nested}
use Rattle.paje_print.specs.WrittenEvents.{definitions_written}
use Rattle.paje_print.proofs.CanonicalTest.{IsCanonical-from}

-- ---- its streams are legal

call-legal : IsLegal (one_call 1 3 7)
unfolding stack_after
call-legal = IsLegal-from (one_call 1 3 7)
    (record { in_time = refl; in_order = refl; each = refl; all_closed = refl; depth = refl; calls = refl })

quiet-legal : IsLegal quiet_process
unfolding stack_after
quiet-legal = IsLegal-from quiet_process
    (record { in_time = refl; in_order = refl; each = refl; all_closed = refl; depth = refl; calls = refl })

two-legal : IsLegal (two_in_a_row 1 2)
unfolding stack_after
two-legal = IsLegal-from (two_in_a_row 1 2)
    (record { in_time = refl; in_order = refl; each = refl; all_closed = refl; depth = refl; calls = refl })

nested-legal : IsLegal two_nested
unfolding stack_after
nested-legal = IsLegal-from two_nested
    (record { in_time = refl; in_order = refl; each = refl; all_closed = refl; depth = refl; calls = refl })

abbrev deep : TrackStream
deep = record { start = 2; end = 10; events = (nested_calls MAX_OPEN_CALLS).events }

deep-legal : IsLegal deep
unfolding stack_after
deep-legal = IsLegal-from deep
    (record { in_time = refl; in_order = refl; each = refl; all_closed = refl; depth = refl; calls = refl })

-- ---- the traces

pub small-canonical : IsCanonical small_trace
unfolding canonical_text definitions_written digits
small-canonical = IsCanonical-from small_trace
    (record { test = refl; root = refl; streams = refl; numbered = refl; end = refl })
    (tt, tt) ((lasting 2 10, refl, (refl, refl)), tt) (call-legal, tt) (tt, tt)

pub beside-canonical : IsCanonical (beside_track (track_of_kind 1 1) (quiet_process ∷ []))
unfolding canonical_text definitions_written digits
beside-canonical = IsCanonical-from (beside_track (track_of_kind 1 1) (quiet_process ∷ []))
    (record { test = refl; root = refl; streams = refl; numbered = refl; end = refl })
    ((refl, tt), (tt, tt)) ((lasting 2 10, refl, (refl, refl)), ((lasting 2 10, refl, (refl, refl)), tt))
    (call-legal, (quiet-legal, tt)) (tt, tt)

pub two-canonical : IsCanonical (calling_two (codes "main" ∷ codes "f" ∷ []) 1 2)
unfolding canonical_text definitions_written digits
two-canonical = IsCanonical-from (calling_two (codes "main" ∷ codes "f" ∷ []) 1 2)
    (record { test = refl; root = refl; streams = refl; numbered = refl; end = refl })
    (tt, tt) ((lasting 2 10, refl, (refl, refl)), tt) (two-legal, tt) ((refl, tt), (tt, tt))

pub great-canonical : IsCanonical (linking (sent 1 (2 ^ 63 - 1)))
unfolding canonical_text definitions_written digits
great-canonical = IsCanonical-from (linking (sent 1 (2 ^ 63 - 1)))
    (record { test = refl; root = refl; streams = refl; numbered = refl; end = refl })
    (tt, tt) ((lasting 2 10, refl, (refl, refl)), tt) (call-legal, tt) (tt, tt)

pub linked-canonical : IsCanonical of_two_link_types
unfolding canonical_text definitions_written digits
linked-canonical = IsCanonical-from of_two_link_types
    (record { test = refl; root = refl; streams = refl; numbered = refl; end = refl })
    (tt, tt) ((lasting 2 10, refl, (refl, refl)), tt) (nested-legal, tt) ((refl, tt), (tt, tt))

pub last-canonical : IsCanonical (beside_lasting MAX_TIME)
unfolding canonical_text definitions_written digits
last-canonical = IsCanonical-from (beside_lasting MAX_TIME)
    (record { test = refl; root = refl; streams = refl; numbered = refl; end = refl })
    (tt, tt) ((lasting 2 10, refl, (refl, refl)), tt) (call-legal, tt) (tt, tt)

pub most_types-canonical : IsCanonical (of_state_types (replicate (MAX_TYPES - 2) (codes "State")))
unfolding canonical_text definitions_written digits
most_types-canonical = IsCanonical-from (of_state_types (replicate (MAX_TYPES - 2) (codes "State")))
    (record { test = refl; root = refl; streams = refl; numbered = refl; end = refl })
    (tt, tt) ((lasting 2 10, refl, (refl, refl)), tt) (call-legal, tt) (tt, tt)

pub longest-canonical : IsCanonical (of_link_type (long_text (MAX_TRACE_LINE - 13)))
unfolding canonical_text definitions_written digits long_text
longest-canonical = IsCanonical-from (of_link_type (long_text (MAX_TRACE_LINE - 13)))
    (record { test = refl; root = refl; streams = refl; numbered = refl; end = refl })
    (tt, tt) ((lasting 2 10, refl, (refl, refl)), tt) (call-legal, tt) (tt, tt)

pub deepest-canonical : IsCanonical (nesting MAX_OPEN_CALLS)
unfolding canonical_text definitions_written digits
deepest-canonical = IsCanonical-from (nesting MAX_OPEN_CALLS)
    (record { test = refl; root = refl; streams = refl; numbered = refl; end = refl })
    (tt, tt) ((lasting 2 10, refl, (refl, refl)), tt) (deep-legal, tt) (tt, tt)
