use Rattle.std.proofs.Common.{◌≡◌, ◌+◌, ◌-◌, ◌≤◌, ◌++◌, List, arith, drop, length, replicate, subst}
use Rattle.std.proofs.Common.{sum_by, sym}
use Rattle.node_key.specs.declared.key.Kid.{Kid}
use Rattle.node_key.proofs.KeyKids.{filled-behind, filled-within, no_kid}
use Rattle.node_key.proofs.key.NodeKey.over.Goals as goal

pub invariant_of-result : goal.invariant_of-result
invariant_of-result c =
    let kids = c.args.kids.now in
    let behind = drop (length kids) (replicate 8 no_kid) in record {
      few = c.requires.few;
      zero_past = subst
          (λ (l : List Kid). drop (length kids) (l ++ behind) ≡ replicate (8 - length kids) no_kid)
          (sym c.copy_from_slice.ensures.after) (filled-behind kids);
      leaf = (
        λ e. absurd (omega (arith, e, c.requires.higher)),
        λ e. absurd (omega (arith, e, c.requires.some)),
      );
      within = subst (λ (l : List Kid). sum_by (λ (k : Kid). k.gap + k.span) (l ++ behind) ≤ c.args.dur)
          (sym c.copy_from_slice.ensures.after) (filled-within kids c.args.dur c.requires.within);
    }
