-- The names so far are the same, and so is one more.
use Rattle.std.proofs.Common.{arith, ◌∙◌, sym}
use Rattle.std.proofs.lemmas.Bool.{not-false}
use Rattle.std.proofs.lemmas.Slice.Eq.{bytes_eq-Decides}
use Rattle.list_lemmas.proofs.Fronts.{take_same_more}
use Rattle.registry_core.proofs.same_names.are_same.Goals as goal

pub loop-i-preserved : goal.loop-i-preserved
loop-i-preserved c =
    let equal = (bytes_eq-Decides c.as_bytes.result.now c.as_bytes-in-loop-i.result.now).0
    (not-false _ (sym c.ne.ensures ∙ c.if-ne.false)) in
    take_same_more _ _ _ _ _ (omega arith) (omega arith) c.index-a-i.is c.index-b-i.is
    (sym c.as_bytes.ensures ∙ equal ∙ c.as_bytes-in-loop-i.ensures) c.loop-i.invariant
