use Rattle.trace_session.proofs.Opening.{put_refused}
use Rattle.trace_session.proofs.load.serve_load.Goals as goal

pub returns-in-Err-Refused : goal.returns-in-Err-Refused
returns-in-Err-Refused g c =
    put_refused (g.H.Hall.view c.args.hall.now) c.args.text.now c.word.result c.in-Err-Refused.field-0
    c.in-Err-Refused.refusal c.requires.rest c.in-Err-Refused.ensures.exact c.in-Err-Refused.field-0-is
    c.in-Err-Refused.refusal-is c.word.ensures
