use Rattle.std.proofs.Common.{◌∙◌, ◌+◌, sym, arith, map}
use Rattle.list_lemmas.proofs.Ranges.{filter_of_range-kept, filter_of_range-left}
use Rattle.trace_base.specs.Flat.{row_of, stands}
use Rattle.event_model.proofs.flat.flat_of_all.Goals as goal
use Rattle.event_model.proofs.flat.flat_of_all.Goals.{then-is_told+in_ok-push, else-is_told}

pub loop-i-preserved : goal.loop-i-preserved
loop-i-preserved c =
    elim c.if-is_told.branch [
      | then-is_told+in_ok-push w ↦ filter_of_range-kept stands
          (row_of (map (λ s. s.now) c.args.streams.now) c.args.a c.args.b) 1 c.loop-i.i (c.loop-i.i + 1)
          c.in_ok-row.row c.loop-i.rows c.if-is_told.rows (omega arith) c.loop-i.invariant c.in_ok-row.ensures
          (sym c.is_told.ensures ∙ w.if-is_told.true) (w.rows-is ∙ w.in_ok-push.ensures.ok)
      | else-is_told w ↦ w.rows-is ∙ filter_of_range-left stands
          (row_of (map (λ s. s.now) c.args.streams.now) c.args.a c.args.b) 1 c.loop-i.i (c.loop-i.i + 1)
          c.in_ok-row.row c.loop-i.rows (omega arith) c.loop-i.invariant c.in_ok-row.ensures
          (sym c.is_told.ensures ∙ w.if-is_told.false)
    ]
