-- Kids with their numbers.
use Rattle.std.proofs.Common.{List, [], arith, length, refl, ℕ, ◌∷◌, ◌≡◌}
use Rattle.node_key.specs.Keys.{numbered}
use Rattle.node_key.specs.Tree.{Kids, count, kid, no_kids}

-- there are as many numbered kids as kids
pub length-numbered : (ks : Kids) (ns : List ℕ) → length ns ≡ count ks → length (numbered ks ns) ≡ count ks
length-numbered no_kids ns long = refl
length-numbered (kid gap func dur inner more) [] long = absurd (omega (arith, long))
length-numbered (kid gap func dur inner more) (n ∷ ns) long =
    omega (arith, length-numbered more ns (omega (arith, long)))
