-- Keys in order, each once.
use Rattle.std.specs.Prelude.{List, [], ◌∷◌, ◌++◌, filter}
use Rattle.std.specs.Ordering.{is_lt}
use Rattle.std.specs.declared.cmp.Ordering.{Ordering}

-- the key between those below it and those above it
abbrev pub put_in_order : {K : Type 0} → (K → K → Ordering) → K → List K → List K
put_in_order cmp k ks = filter (λ j. is_lt (cmp j k)) ks ++ k ∷ filter (λ j. is_lt (cmp k j)) ks

-- the keys in order, each once
unfoldable pub in_order : {K : Type 0} → (K → K → Ordering) → List K → List K
in_order cmp [] = []
in_order cmp (k ∷ ks) = put_in_order cmp k (in_order cmp ks)
