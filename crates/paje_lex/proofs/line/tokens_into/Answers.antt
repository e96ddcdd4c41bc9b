use Rattle.std.proofs.Common.{drop, ◌∙◌, sym, ap, Err}
use Rattle.paje_lex.specs.declared.state.State.TheVariants.{Between}
use Rattle.paje_lex.specs.LineReading.{lexed, scan}
use Rattle.paje_lex.specs.LineGrammar.{filled}
use Rattle.paje_lex.specs.Unread.{UnlessMemory}
use Rattle.paje_lex.proofs.LineLemmas.{lexed_not_text, told_of}
use Rattle.paje_lex.proofs.LineLaws.{lexed_found, lexed_only, told_found}
use Rattle.paje_lex.proofs.LinePlaces.{told_within}
use Rattle.paje_lex.proofs.LineSteps.{told_alone, told_given_up, told_text}
use Rattle.paje_lex.proofs.line.tokens_into.Goals as goal

-- ---- the line isn't text

not_text : (c : goal.After-from_residual) → UnlessMemory (filled c.clear.new.self c.from_residual.result)
    (lexed c.args.line.now)
not_text c =
    let fault = c.in_err-demand_text.ensures in
    told_given_up c.clear.new.self c.from_residual.result c.in_err-demand_text.field-0.0
    (lexed c.args.line.now) c.from_residual.ensures.1
    (lexed_not_text c.args.line.now fault.0 ∙ ap Err (sym fault.1))

pub returns-in_err-demand_text-clause-found : goal.returns-in_err-demand_text-clause-found
returns-in_err-demand_text-clause-found c =
    told_found c.args.line.now (filled c.clear.new.self c.from_residual.result) (lexed c.args.line.now)
    (lexed_found c.args.line.now) (not_text c)

pub returns-in_err-demand_text-clause-only : goal.returns-in_err-demand_text-clause-only
returns-in_err-demand_text-clause-only c = λ wanted lexes.
    told_of (filled c.clear.new.self c.from_residual.result) (lexed c.args.line.now) wanted
    (lexed_only c.args.line.now wanted lexes) (not_text c)

pub returns-in_err-demand_text-clause-exact : goal.returns-in_err-demand_text-clause-exact
returns-in_err-demand_text-clause-exact c = not_text c

-- ---- it is

read : (c : goal.After-scan) → UnlessMemory (filled c.scan.new.tokens c.scan.result)
    (scan Between c.start_of.result (drop c.start_of.result c.args.line.now))
read c = told_alone c.clear.new.self (filled c.scan.new.tokens c.scan.result)
    (scan Between c.start_of.result (drop c.start_of.result c.args.line.now)) c.clear.ensures c.scan.ensures

told : (c : goal.After-scan) → UnlessMemory (filled c.scan.new.tokens c.scan.result) (lexed c.args.line.now)
told c = told_text c.args.line.now c.start_of.result (filled c.scan.new.tokens c.scan.result)
    c.start_of.ensures.start c.in_ok-demand_text.ensures (read c)

pub returns-clause-found : goal.returns-clause-found
returns-clause-found c =
    told_found c.args.line.now (filled c.scan.new.tokens c.scan.result) (lexed c.args.line.now)
    (lexed_found c.args.line.now) (told c)

pub returns-clause-only : goal.returns-clause-only
returns-clause-only c = λ wanted lexes.
    told_of (filled c.scan.new.tokens c.scan.result) (lexed c.args.line.now) wanted
    (lexed_only c.args.line.now wanted lexes) (told c)

pub returns-clause-within : goal.returns-clause-within
returns-clause-within c = told_within (filled c.scan.new.tokens c.scan.result) c.start_of.result
    c.args.line.now c.start_of.ensures.within (read c)

pub returns-clause-exact : goal.returns-clause-exact
returns-clause-exact c = told c
