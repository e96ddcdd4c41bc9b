use Rattle.trace_base.proofs.LegalExamples.{one_process-legal, one_process-fits}
use Rattle.trace_base.proofs.legal_examples.legal_info.Goals as goal

pub returns-clause-legal : goal.returns-clause-legal
returns-clause-legal c = one_process-legal

pub returns-clause-fits : goal.returns-clause-fits
returns-clause-fits c = one_process-fits
