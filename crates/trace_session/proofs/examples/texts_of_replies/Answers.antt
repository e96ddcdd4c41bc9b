use Rattle.std.proofs.Common.{refl}
use Rattle.std.specs.Fmt.{digits}
use Rattle.session_proto.specs.Reply.{reply_text}
use Rattle.trace_session.proofs.examples.texts_of_replies.Goals as goal

pub returns-clause-put : goal.returns-clause-put
unfolding digits reply_text
returns-clause-put c = refl

pub returns-clause-profile : goal.returns-clause-profile
unfolding digits reply_text
returns-clause-profile c = refl

pub returns-clause-unknown : goal.returns-clause-unknown
unfolding digits reply_text
returns-clause-unknown c = refl

pub returns-clause-full : goal.returns-clause-full
unfolding digits reply_text
returns-clause-full c = refl
