use Rattle.std.proofs.Common.{◌<◌, List, length, subst, sym, get_or, ◌≡◌}
use Rattle.node_key.specs.Bound.{start_of}
use Rattle.builders.specs.declared.built.BuiltItem.{BuiltItem}
use Rattle.builders.specs.Built.{items_in}
use Rattle.builders.proofs.Placed.{starts}
use Rattle.builders.proofs.spans.start.Goals as goal

pub returns : goal.returns
returns c stored e =
    subst (λ (bs : List BuiltItem). (get_or bs 0 (record { at = 0; dur = 0; height = 0; number = 0 })).at
    ≡ start_of (items_in stored)) (sym e) (starts stored (record { at = 0; dur = 0; height = 0; number = 0 })
    (subst (λ (bs : List BuiltItem). 0 < length bs) e c.requires))
