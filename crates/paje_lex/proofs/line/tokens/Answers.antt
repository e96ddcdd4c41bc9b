use Rattle.paje_lex.specs.Unread.{UnlessMemory}
use Rattle.paje_lex.specs.LineReading.{lexed}
use Rattle.paje_lex.proofs.LineLemmas.{told_of}
use Rattle.paje_lex.proofs.LineLaws.{lexed_found, lexed_only, told_found}
use Rattle.paje_lex.proofs.LineSteps.{told_again}
use Rattle.paje_lex.proofs.line.tokens.Goals as goal

given : (c : goal.After-drop-tokens-inside) → UnlessMemory c.from_residual.result (lexed c.args.line.now)
given c = told_again c.from_residual.result c.in_err-tokens_into.field-0.0 (lexed c.args.line.now)
    c.from_residual.ensures.1 c.in_err-tokens_into.ensures.exact

pub returns-in_err-tokens_into-clause-found : goal.returns-in_err-tokens_into-clause-found
returns-in_err-tokens_into-clause-found c =
    told_found c.args.line.now c.from_residual.result (lexed c.args.line.now) (lexed_found c.args.line.now)
    (given c)

pub returns-in_err-tokens_into-clause-only : goal.returns-in_err-tokens_into-clause-only
returns-in_err-tokens_into-clause-only c = λ wanted lexes.
    told_of c.from_residual.result (lexed c.args.line.now) wanted (lexed_only c.args.line.now wanted lexes)
    (given c)
