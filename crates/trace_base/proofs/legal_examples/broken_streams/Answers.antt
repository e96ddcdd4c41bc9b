use Rattle.std.proofs.Common.{◌≤◌, ◌+◌, refl, arith}
use Rattle.trace_base.proofs.LegalExamples.{calls_counted}
use Rattle.trace_base.specs.Stream.{stack_after}
use Rattle.trace_base.specs.declared.limits.TheConstants.{MAX_STATE_EVENTS}
use Rattle.trace_base.proofs.legal_examples.broken_streams.Goals as goal

pub returns-clause-late : goal.returns-clause-late
returns-clause-late c legal = let h = legal.in_time in omega (arith, h)

pub returns-clause-falling : goal.returns-clause-falling
returns-clause-falling c legal = let h : 5 ≤ 4 = legal.in_order 1 2 0 (omega arith) (omega arith)
    in omega arith

pub returns-clause-before : goal.returns-clause-before
returns-clause-before c legal = let h : 2 ≤ 1 = legal.in_order 0 1 0 (omega arith) (omega arith)
    in omega arith

pub returns-clause-behind : goal.returns-clause-behind
returns-clause-behind c legal = let h : 11 ≤ 10 = legal.in_order 2 3 0 (omega arith) (omega arith)
    in omega arith

pub returns-clause-left_twice : goal.returns-clause-left_twice
unfolding stack_after
returns-clause-left_twice c legal = legal.closes_open 2 5 refl refl

pub returns-clause-left_open : goal.returns-clause-left_open
unfolding stack_after
returns-clause-left_open c legal = let h = legal.all_closed in cc

pub returns-clause-deep : goal.returns-clause-deep
unfolding stack_after
returns-clause-deep c legal = let h : 257 ≤ 256 = legal.depth 257 in omega arith

pub returns-clause-many : goal.returns-clause-many
returns-clause-many c legal = omega (arith, legal.calls, calls_counted (MAX_STATE_EVENTS + 1))

pub returns-clause-no_function : goal.returns-clause-no_function
returns-clause-no_function c legal = let h = legal.functions 0 0 3 refl in omega (arith, h)

pub returns-clause-past_functions : goal.returns-clause-past_functions
returns-clause-past_functions c legal = let h = legal.functions 0 65537 3 refl in omega (arith, h)
