-- Small trees and keys on which the definitions are computed. Times are nanoseconds.
use Rattle.std.specs.Prelude.{◌∷◌, replicate, refl}
use Rattle.std.proofs.Common.{lit≤, suc-ne-zero}
use Rattle.node_key.specs.Tree.{Tree, no_kids, kid}
use Rattle.node_key.specs.declared.key.Kid.{Kid}
use Rattle.node_key.specs.declared.key.NodeKey.{NodeKey}

-- f runs for a tenth of a second
abbrev pub tenth : Tree
tenth = record { func = 2; dur = 100000000; kids = no_kids }

-- main runs for half a second and calls f twice, for a tenth of a second each
abbrev pub half : Tree
half = record {
  func = 1;
  dur = 500000000;
  kids = kid 100000000 2 100000000 no_kids
      (kid 100000000 2 100000000 no_kids no_kids);
}

-- the track that has this call of main alone
abbrev pub track_of_half : Tree
track_of_half = record { func = 0; dur = 500000000; kids = kid 0 half.func half.dur half.kids no_kids }

-- f calls itself
abbrev pub recursion : Tree
recursion = record { func = 0; dur = 10; kids = kid 0 1 10 (kid 2 1 2 no_kids no_kids) no_kids }

abbrev no_kid : Kid
no_kid = record { gap = 0; span = 0; node = 0 }

-- a call of function 3 that takes no time
abbrev pub leaf_of_three : NodeKey
leaf_of_three = record {
  func = 3;
  dur = 0;
  height = 0;
  len = 0;
  kids = replicate 8 no_kid;
  few = lit≤ tt;
  zero_past = refl;
  leaf = (λ _. refl, λ _. refl);
  within = lit≤ tt;
}

-- the key of f
abbrev pub tenth_key : NodeKey
tenth_key = record {
  func = 2;
  dur = 100000000;
  height = 0;
  len = 0;
  kids = replicate 8 no_kid;
  few = lit≤ tt;
  zero_past = refl;
  leaf = (λ _. refl, λ _. refl);
  within = lit≤ tt;
}

-- the key of main over f, which has number 0
abbrev pub half_key : NodeKey
half_key = record {
  func = 1;
  dur = 500000000;
  height = 1;
  len = 2;
  kids = record { gap = 100000000; span = 100000000; node = 0 }
      ∷ record { gap = 100000000; span = 100000000; node = 0 } ∷ replicate 6 no_kid;
  few = lit≤ tt;
  zero_past = refl;
  leaf = (λ e. absurd (suc-ne-zero 0 e), λ e. absurd (suc-ne-zero 1 e));
  within = lit≤ tt;
}

-- the key of the track over main, which has number 12
abbrev pub track_key : NodeKey
track_key = record {
  func = 0;
  dur = 500000000;
  height = 2;
  len = 1;
  kids = record { gap = 0; span = 500000000; node = 12 } ∷ replicate 7 no_kid;
  few = lit≤ tt;
  zero_past = refl;
  leaf = (λ e. absurd (suc-ne-zero 1 e), λ e. absurd (suc-ne-zero 0 e));
  within = lit≤ tt;
}

-- the key of the inner call of a recursion
abbrev pub inner_key : NodeKey
inner_key = record {
  func = 1;
  dur = 2;
  height = 0;
  len = 0;
  kids = replicate 8 no_kid;
  few = lit≤ tt;
  zero_past = refl;
  leaf = (λ _. refl, λ _. refl);
  within = lit≤ tt;
}

-- the key of the outer call over the inner one, which has number 3
abbrev pub outer_key : NodeKey
outer_key = record {
  func = 1;
  dur = 10;
  height = 1;
  len = 1;
  kids = record { gap = 2; span = 2; node = 3 } ∷ replicate 7 no_kid;
  few = lit≤ tt;
  zero_past = refl;
  leaf = (λ e. absurd (suc-ne-zero 0 e), λ e. absurd (suc-ne-zero 0 e));
  within = lit≤ tt;
}

-- the key of the track over the outer call, which has number 13
abbrev pub recursion_key : NodeKey
recursion_key = record {
  func = 0;
  dur = 10;
  height = 2;
  len = 1;
  kids = record { gap = 0; span = 10; node = 13 } ∷ replicate 7 no_kid;
  few = lit≤ tt;
  zero_past = refl;
  leaf = (λ e. absurd (suc-ne-zero 1 e), λ e. absurd (suc-ne-zero 0 e));
  within = lit≤ tt;
}
