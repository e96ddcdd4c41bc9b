use Rattle.std.proofs.Common.{◌≡◌, ◌+◌, cond, ap, subst, sym, ◌∙◌, arith, rules}
use Rattle.std.proofs.lemmas.Grind.{common_steps}
use Rattle.list_lemmas.proofs.InOrder.{keys_of-insert_entry}
use Rattle.trace_base.specs.declared.matrix.MatrixRow.{MatrixRow}
use Rattle.std.specs.Map.{keys_of}
use Rattle.trace_base.specs.Matrix.{is_of, pair_cmp, pair_of}
use Rattle.msg_matrix.specs.Pairs.{IsOfAtMost, row_at, row_with}
use Rattle.msg_matrix.proofs.Sums.{IsOfAtMost-cond}
use Rattle.msg_matrix.proofs.pairs.add.Goals as goal

pub returns-clause-in_order : goal.returns-clause-in_order
returns-clause-in_order c =
    ap keys_of c.in_ok-insert.ensures.entries ∙ keys_of-insert_entry pair_cmp c.args.pairs.now.entries
    (pair_of c.args.m) c.with_message.result

pub returns-clause-limits : goal.returns-clause-limits
returns-clause-limits c = λ q n small.
    let row : row_at c.insert.new.self q ≡ cond (is_of q c.args.m)
    (row_with (row_at c.args.pairs.now q) c.args.m) (row_at c.args.pairs.now q) =
    first_of (search rules, grind (arith, common_steps)) in
    let P : MatrixRow → Type 0 = λ r. IsOfAtMost r (n + 1) in
    subst P (sym row) (IsOfAtMost-cond (is_of q c.args.m) (row_at c.args.pairs.now q)
    (row_with (row_at c.args.pairs.now q) c.args.m) n
    (c.with_message.ensures.limits (row_at c.args.pairs.now q) n) small)
