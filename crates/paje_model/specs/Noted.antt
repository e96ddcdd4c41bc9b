-- The place that is noted for a text.
use Rattle.std.specs.Prelude.{ℕ, List, Option, Vec}
use Rattle.std.specs.Str.{bytes_eq}
use Rattle.indexmap.specs.IndexMap.{IndexMap, get_by}

abbrev pub place_noted : {A S : Type 0} → IndexMap (Vec ℕ A) ℕ S → List ℕ → Option ℕ
place_noted places text = get_by (λ k. bytes_eq text k.items) places
