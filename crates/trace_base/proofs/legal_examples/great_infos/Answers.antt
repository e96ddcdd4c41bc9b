use Rattle.std.proofs.Common.{◌+◌, ◌/◌, arith, codes}
use Rattle.std.specs.List.{range_with_len}
use Rattle.std.proofs.lemmas.List.{length-replicate, length-map}
use Rattle.std.proofs.lemmas.List.FromFn.{length-range_with_len}
use Rattle.trace_base.proofs.LegalExamples.{messages_counted}
use Rattle.trace_base.specs.LegalExamples.{lasting, track_of_kind}
use Rattle.trace_base.specs.declared.limits.TheConstants.{MAX_CONTAINERS, MAX_TYPES, MAX_TRACKS}
use Rattle.trace_base.specs.declared.limits.TheConstants.{MAX_FUNCTIONS, MAX_LINK_EVENTS}
use Rattle.trace_base.proofs.legal_examples.great_infos.Goals as goal

pub returns-clause-containers : goal.returns-clause-containers
returns-clause-containers c legal =
    omega (arith, legal.containers, length-replicate (MAX_CONTAINERS + 1) (lasting 0 10))

pub returns-clause-types : goal.returns-clause-types
returns-clause-types c legal = omega (arith, legal.types, length-replicate MAX_TYPES (codes "State"))

pub returns-clause-tracks : goal.returns-clause-tracks
returns-clause-tracks c legal = omega (
  arith,
  legal.tracks,
  length-map (range_with_len 0 (MAX_TRACKS + 1)) (λ k. track_of_kind k 0),
  length-range_with_len 0 (MAX_TRACKS + 1),
)

pub returns-clause-functions : goal.returns-clause-functions
returns-clause-functions c legal =
    omega (arith, legal.functions, length-replicate (MAX_FUNCTIONS + 1) (codes "f"))

pub returns-clause-messages : goal.returns-clause-messages
returns-clause-messages c legal =
    omega (arith, legal.messages, messages_counted (MAX_LINK_EVENTS / 2 + 1))
