use Rattle.std.proofs.Common.{◌≡◌, ℕ, [], length, Result, Ok, Err, sym, ap, ◌∙◌, subst}
use Rattle.std.specs.Arc.{arc_value}
use Rattle.trace_base.specs.Messages.{table_of}
use Rattle.trace_base.specs.declared.messages.MsgTable.{MsgTable}
use Rattle.hall_trait.specs.Answers.{places_of_load}
use Rattle.hall_trait.specs.declared.answers.HallFault.{HallFault}
use Rattle.paje_lines.specs.Text.{info_of_text}
use Rattle.session_proto.specs.declared.reply.Reply.{Reply}
use Rattle.request_reader.specs.Requests.{Load}
use Rattle.builders.specs.Spending.{BuildSpends}
use Rattle.builders.specs.View.{GoesOnBuilding}
use Rattle.trace_session.specs.Load.{Publishes}
use Rattle.trace_session.specs.Serving.{GoesOnServing, Serves}
use Rattle.trace_session.proofs.GoingOn.{serving_built, serving_then, serving_worked}
use Rattle.trace_session.proofs.Opening.{Admitted, admitted_as, put_memory, Serves-opened, Serves-dropped}
use Rattle.trace_session.proofs.Opening.{Serves-refused, info_made, table_made}
use Rattle.trace_session.proofs.load.open_trace.Goals as goal
use Rattle.trace_session.proofs.load.open_trace.Goals.{After-admit, In-Ok-admit}
use Rattle.trace_session.proofs.load.open_trace.Given.{Over}

-- the info is that of the text
made : (g : Over) (c : After-admit g) → arc_value c.in-Ok-new.info ≡ info_of_text c.args.trace
made g c =
    info_made c.args.trace (arc_value c.in-Ok-new.info) c.in-Ok.messages c.as_slice.result.now
    c.in-Ok-new.ensures.ok c.in-Ok.ensures c.as_slice.ensures

-- the trace was let in
let_in : (g : Over) (c : In-Ok-admit g)
    → Admitted (g.H.Hall.view c.args.hall.now) (g.H.Hall.view c.admit.new.self) (info_of_text c.args.trace)
    (Ok c.in-Ok-admit.pass)
let_in g c =
    admitted_as (g.H.Hall.view c.args.hall.now) (g.H.Hall.view c.admit.new.self)
    (arc_value c.in-Ok-new.info) (info_of_text c.args.trace) c.admit.result (Ok c.in-Ok-admit.pass)
    (info_made c.args.trace (arc_value c.in-Ok-new.info) c.in-Ok.messages c.as_slice.result.now
    c.in-Ok-new.ensures.ok c.in-Ok.ensures c.as_slice.ensures) c.in-Ok-admit.is
    (c.admit.ensures.answer, c.admit.ensures.rest)

-- and what the hall tells beside the seat goes on
goes_on : (g : Over) (c : In-Ok-admit g)
    → GoesOnServing [] (g.H.Hall.view c.args.hall.now) (g.H.Hall.view c.admit.new.self)
goes_on g c =
    serving_worked (g.H.Hall.view c.args.hall.now) (g.H.Hall.view c.admit.new.self)
    (places_of_load (info_of_text c.args.trace)) (let_in g c).1

pub returns-in_default : goal.returns-in_default
returns-in_default g c = λ text form. put_memory (g.H.Hall.view c.args.hall.now) text c.requires.rest

pub returns-in_default-new : goal.returns-in_default-new
returns-in_default-new g c = λ text form. put_memory (g.H.Hall.view c.args.hall.now) text c.requires.rest

pub publish_all-requires-clause-tracks : goal.publish_all-requires-clause-tracks
publish_all-requires-clause-tracks g c = record {
  info = info_of_text c.args.trace;
  opened = (let_in g (goal.at.publish_all-requires-clause-tracks g c).In-Ok-admit).0.opened;
  count = sym c.requires.lengths;
  fit = c.requires.fits;
}

pub returns-in-Ok-publish_all : goal.returns-in-Ok-publish_all
returns-in-Ok-publish_all g c = λ text form.
    let t = (goal.at.returns-in-Ok-publish_all g c).In-Ok-admit in
    let old = g.H.Hall.view c.args.hall.now in
    let mid = g.H.Hall.view c.admit.new.self in
    let new = g.H.Hall.view c.publish_all.new.hall in
    let opened = goes_on g t in
    let published = subst (λ (r : Result ℕ HallFault). Publishes mid new c.in-Ok-admit.pass.id
    c.args.trace.tracks r) c.in-Ok-publish_all.is c.publish_all.ensures.published in
    let built = subst (λ (r : Result ℕ HallFault). GoesOnBuilding r mid new) c.in-Ok-publish_all.is
    c.publish_all.ensures.rest in
    let served = Serves-opened old mid new text c.args.trace c.in-Ok-admit.pass c.in-Ok-publish_all.place form
    (let_in g t).0 published opened.alone
    (serving_then old mid new [] [] opened (serving_built mid new c.in-Ok-publish_all.place built)) in
    let count : c.len-message_count.result ≡ length (table_of c.args.trace.links).messages =
    c.len-message_count.ensures ∙ ap (λ (m : MsgTable). length m.messages)
    (table_made c.args.trace c.in-Ok.messages c.as_slice.result.now c.in-Ok.ensures c.as_slice.ensures) in
    rw (c.id-id.ensures, c.len-track_count.ensures, c.len-functions.ensures, count) served

pub returns-in-Err-publish_all : goal.returns-in-Err-publish_all
returns-in-Err-publish_all g c = λ text form.
    let t = (goal.at.returns-in-Err-publish_all g c).In-Ok-admit in
    let old = g.H.Hall.view c.args.hall.now in
    let mid = g.H.Hall.view c.admit.new.self in
    let new = g.H.Hall.view c.publish_all.new.hall in
    let published = subst (λ (r : Result ℕ HallFault). Publishes mid new c.in-Ok-admit.pass.id
    c.args.trace.tracks r) c.in-Err-publish_all.is c.publish_all.ensures.published in
    let built = subst (λ (r : Result ℕ HallFault). GoesOnBuilding r mid new) c.in-Err-publish_all.is
    c.publish_all.ensures.rest in
    let spends = subst (λ (r : Result ℕ HallFault). BuildSpends new.rooms r) c.in-Err-publish_all.is
    c.publish_all.ensures.spent in
    subst (λ (r : Reply). Serves old new (Load text) r) (sym c.refusal.ensures)
    (Serves-dropped old mid new text c.args.trace c.in-Ok-admit.pass c.in-Err-publish_all.given_up form
    (let_in g t).0 published (goes_on g t) built spends)

pub returns-in-Err : goal.returns-in-Err
returns-in-Err g c = λ text form.
    let t = (goal.at.returns-in-Err g c).After-admit in
    let old = g.H.Hall.view c.args.hall.now in
    let new = g.H.Hall.view c.admit.new.self in
    subst (λ (r : Reply). Serves old new (Load text) r) (sym c.refusal-in-Err.ensures)
    (Serves-refused old new text c.args.trace c.in-Err.refused form c.requires.rest
    (admitted_as old new (arc_value c.in-Ok-new.info) (info_of_text c.args.trace) c.admit.result
    (Err c.in-Err.refused) (made g t) c.in-Err.is (c.admit.ensures.answer, c.admit.ensures.rest)))
