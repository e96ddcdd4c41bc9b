use Rattle.std.proofs.Common.{◌≤◌, ◌+◌, ◌-◌, ◌*◌, ◌/◌, [], decimal, arith}
use Rattle.std.specs.List.{range_with_len}
use Rattle.std.proofs.lemmas.List.{length-map}
use Rattle.std.proofs.lemmas.List.FromFn.{length-range_with_len}
use Rattle.trace_base.specs.LegalExamples.{track_of_kind}
use Rattle.trace_base.specs.Stream.{stack_after}
use Rattle.trace_base.specs.declared.limits.TheConstants.{MAX_FUNCTIONS, MAX_LINK_EVENTS, MAX_STATE_EVENTS}
use Rattle.trace_base.specs.declared.limits.TheConstants.{MAX_TRACE_LINE, MAX_TRACKS}
use Rattle.paje_print.specs.Examples.{long_texts, quiet_process}
use Rattle.paje_print.specs.WrittenEvents.{definitions_written}
use Rattle.paje_print.proofs.GreatTraces.{length-calls, length-starts, line-fits, text-long, types-long}
use Rattle.paje_print.proofs.canonical_examples.great_traces.Goals as goal

pub returns-clause-tracks : goal.returns-clause-tracks
returns-clause-tracks c is = omega (
  arith,
  is.limits.tracks,
  length-map (range_with_len 2 MAX_TRACKS) (λ k. track_of_kind k 0),
  length-range_with_len 2 MAX_TRACKS,
)

pub returns-clause-functions : goal.returns-clause-functions
returns-clause-functions c is = omega (
  arith,
  is.limits.functions,
  length-map (range_with_len 1 (MAX_FUNCTIONS + 1)) decimal,
  length-range_with_len 1 (MAX_FUNCTIONS + 1),
)

pub returns-clause-states : goal.returns-clause-states
returns-clause-states c is = omega (arith, is.limits.states, length-calls (MAX_STATE_EVENTS / 2))

pub returns-clause-links : goal.returns-clause-links
returns-clause-links c is = omega (arith, is.limits.links, length-starts (MAX_LINK_EVENTS + 1))

pub returns-clause-line : goal.returns-clause-line
unfolding definitions_written
returns-clause-line c is =
    let below : MAX_TRACE_LINE - 12 + 13 ≤ MAX_TRACE_LINE =
    line-fits (MAX_TRACE_LINE - 12) (is.limits.lines 64 [] (omega arith)) in
    omega (arith, below)

pub returns-clause-text : goal.returns-clause-text
returns-clause-text c is =
    omega (
      arith,
      is.limits.text,
      text-long (1033 * 65000) (long_texts 1033 65000) (types-long 0 1033 65000),
    )

pub returns-clause-depth : goal.returns-clause-depth
unfolding stack_after
returns-clause-depth c is =
    let h : 257 ≤ 256 = (is.legal 0 quiet_process (omega arith)).depth 257 in
    omega (arith, h)
