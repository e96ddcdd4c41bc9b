use Rattle.trace_base.proofs.LegalExamples.{last_time-legal, whole_track-legal, no_time-legal}
use Rattle.trace_base.proofs.LegalExamples.{last_function-legal}
use Rattle.trace_base.proofs.LegalTest.{two_calls-legal, recursion-legal, no_length-legal}
use Rattle.trace_base.proofs.legal_examples.legal_streams.Goals as goal

pub returns-clause-two_calls : goal.returns-clause-two_calls
returns-clause-two_calls c = two_calls-legal

pub returns-clause-recursion : goal.returns-clause-recursion
returns-clause-recursion c = recursion-legal

pub returns-clause-no_length : goal.returns-clause-no_length
returns-clause-no_length c = no_length-legal

pub returns-clause-last_time : goal.returns-clause-last_time
returns-clause-last_time c = last_time-legal

pub returns-clause-whole_track : goal.returns-clause-whole_track
returns-clause-whole_track c = whole_track-legal

pub returns-clause-no_time : goal.returns-clause-no_time
returns-clause-no_time c = no_time-legal

pub returns-clause-last_function : goal.returns-clause-last_function
returns-clause-last_function c = last_function-legal
