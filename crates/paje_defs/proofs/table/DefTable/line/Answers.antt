use Rattle.std.proofs.Common.{sym, subst}
use Rattle.paje_defs.specs.Words.{words_at_tokens}
use Rattle.paje_defs.specs.Table.{StopsAt, TakesNext, definitions_of, numbered_line}
use Rattle.paje_defs.proofs.LinesSoFar.{all_of, refused_before, stops_at, takes_line}
use Rattle.paje_defs.proofs.table.DefTable.line.Goals as goal

pub returns-in-Some-clause-so_far : goal.returns-in-Some-clause-so_far
returns-in-Some-clause-so_far c before is = (
  refused_before before (numbered_line c.args.n (words_at_tokens c.args.line.now c.args.tokens.now))
      (definitions_of c.args.self.now) c.in-Some.fault is c.in-Some.is,
  c.in-Some.is,
)

pub returns-in-Err-clause-so_far : goal.returns-in-Err-clause-so_far
returns-in-Err-clause-so_far c before is =
    let line = numbered_line c.args.n (words_at_tokens c.args.line.now c.args.tokens.now) in
    let new = definitions_of c.step-taken.new.self in
    subst (λ fault. StopsAt before line (all_of new.complete new.begun fault) c.in-Err.unread)
    (sym c.reason-self.ensures)
    (stops_at before line (definitions_of c.args.self.now) new c.in-Err.unread is c.in_default.is
    c.in-Err.ensures)

pub returns-in_default-taken-clause-so_far : goal.returns-in_default-taken-clause-so_far
returns-in_default-taken-clause-so_far c before is =
    let line = numbered_line c.args.n (words_at_tokens c.args.line.now c.args.tokens.now) in
    let new = definitions_of c.step-taken.new.self in
    subst (λ r. TakesNext before line new r) (sym c.in_default-taken.is)
    (takes_line before line (definitions_of c.args.self.now) new c.in_default-taken.field-0 is c.in_default.is
    c.in_default-taken.ensures)
