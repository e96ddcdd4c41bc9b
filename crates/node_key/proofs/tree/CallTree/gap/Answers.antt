use Rattle.std.proofs.Common.{◌≡◌, List, Some, subst, sym, ap, get_or, arith}
use Rattle.std.specs.Option.{option_map}
use Rattle.std.specs.List.{slice_get}
use Rattle.node_key.specs.Tree.{Tree, count}
use Rattle.node_key.specs.Branches.{branches}
use Rattle.node_key.specs.declared.tree.Branch.{Branch}
use Rattle.node_key.proofs.Kids.{branch_at, count-kids_of}
use Rattle.node_key.proofs.tree.CallTree.gap.Goals as goal

pub returns : goal.returns
returns c =
    let same = ap (λ (t : Tree). t.kids) c.self.view_is in
    subst (λ (bs : List Branch). option_map (λ (b : Branch). b.gap)
    (slice_get (branches c.args.self.now.kids) c.args.i)
    ≡ Some ((λ (b : Branch). b.gap) (get_or bs c.args.i c.index-as_slice-i.result))) (sym c.as_slice.ensures)
    (branch_at (λ (b : Branch). b.gap) c.self.inside.kids c.args.self.now.kids c.args.i
    c.index-as_slice-i.result same
    (omega (arith, count-kids_of c.self.inside.kids, ap count same, c.requires)))
