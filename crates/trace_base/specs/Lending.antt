-- What a list ends as, once an item that it lent to be changed is given back.
use Rattle.std.specs.Prelude.{ℕ, List, slice_set}
use Rattle.std.specs.Borrow.{Fml, Lends, MutBor, RattleType}
use Rattle.trace_base.specs.contracts.seq.Seq.{the_row}

-- the item at the index is the last value written through the reference
abbrev pub LendsItem : (T : RattleType) → MutBor (List T.Denot) → ℕ → MutBor T.Denot → Fml
LendsItem T list at item = Lends (the_row T) T list item (λ last. slice_set list.now at last)
