-- When lists of items begin and end.
use Rattle.std.proofs.Common.{◌≡◌, ℕ, ◌+◌, ◌<◌, ◌≤◌, zero, suc, List, [], ◌∷◌, length, map, refl, arith}
use Rattle.std.proofs.Common.{get_or}
use Rattle.node_key.specs.Bound.{start_of, stop_of}
use Rattle.node_key.specs.Items.{FitBetween, end_of}
use Rattle.builders.specs.declared.built.BuiltItem.{BuiltItem}
use Rattle.builders.specs.Built.{BuiltFitBetween, StoredItem, built, items_in}
use Rattle.builders.proofs.KeyKids.{BuiltFitBetween-le}

pub starts : (stored : List StoredItem) (d : BuiltItem) → 0 < length (map built stored)
    → (get_or (map built stored) 0 d).at ≡ start_of (items_in stored)
starts [] d some = absurd (omega arith)
starts (s ∷ ss) d some = refl

pub stops : (stored : List StoredItem) (n : ℕ) (d : BuiltItem) → length (map built stored) ≡ suc n
    → (get_or (map built stored) n d).at + (get_or (map built stored) n d).dur ≡ stop_of (items_in stored)
stops [] n d e = absurd (omega arith)
stops (s ∷ []) zero d e = refl
stops (s ∷ []) (suc n) d e = absurd (omega (arith, e))
stops (s ∷ t ∷ ss) zero d e = absurd (omega (arith, e))
stops (s ∷ t ∷ ss) (suc n) d e = stops (t ∷ ss) n d (omega (arith, e))

-- the last item ends by the time by which all do
pub last-within : (start end : ℕ) (bs : List BuiltItem) (n : ℕ) (d : BuiltItem) → BuiltFitBetween start end bs
    → n < length bs → (get_or bs n d).at + (get_or bs n d).dur ≤ end
last-within start end [] n d fit h = absurd (omega (arith, h))
last-within start end (b ∷ bs) zero d fit h = BuiltFitBetween-le (b.at + b.dur) end bs fit.1
last-within start end (b ∷ bs) (suc n) d fit h =
    last-within (b.at + b.dur) end bs n d fit.1 (omega (arith, h))

-- items that are built lie where they are
pub fit-stored : (start end : ℕ) (stored : List StoredItem)
    → FitBetween start end (items_in stored) → BuiltFitBetween start end (map built stored)
fit-stored start end [] fit = fit
fit-stored start end (s ∷ ss) fit = (fit.0, fit-stored (end_of s.item) end ss fit.1)
