-- What a hall tells goes on from one moment to the next.
use Rattle.std.proofs.Common.{◌≤◌, List, [], ◌∷◌, Option, None, Some, refl, ◌∙◌, arith}
use Rattle.std.specs.List.{AllZip}
use Rattle.shard_core.specs.Room.{Room}
use Rattle.hall_trait.specs.View.{GoesOn, HallView, KeepsSeat, NextsRise}

-- each room has given no fewer numbers at the later moment
abbrev pub Later : List Room → List Room → Type 0
Later was now = AllZip (λ (a b : Room). a.next ≤ b.next) was now

pub later_same : (rs : List Room) → Later rs rs
later_same [] = tt
later_same (r ∷ rs) = (omega arith, later_same rs)

pub later_then : (a b c : List Room) → Later a b → Later b c → Later a c
later_then [] [] [] p q = tt
later_then [] [] (z ∷ zs) p q = absurd q
later_then [] (y ∷ ys) c p q = absurd p
later_then (x ∷ xs) [] c p q = absurd p
later_then (x ∷ xs) (y ∷ ys) [] p q = absurd q
later_then (x ∷ xs) (y ∷ ys) (z ∷ zs) p q = (omega (arith, p.0, q.0), later_then xs ys zs p.1 q.1)

pub nexts_same : (o : Option (List Room)) → NextsRise o o
nexts_same None = tt
nexts_same (Some rs) = later_same rs

pub nexts_then : (a b c : Option (List Room)) → NextsRise a b → NextsRise b c → NextsRise a c
nexts_then None None None p q = tt
nexts_then None None (Some z) p q = absurd q
nexts_then None (Some y) c p q = absurd p
nexts_then (Some x) None c p q = absurd p
nexts_then (Some x) (Some y) None p q = absurd q
nexts_then (Some x) (Some y) (Some z) p q = later_then x y z p q

-- nothing happens
pub goes_on_same : (v : HallView) → GoesOn v v
goes_on_same v = record { alone = refl; account = refl; rooms = nexts_same v.rooms; memo = refl }

pub keeps_seat_same : (v : HallView) → KeepsSeat v v
keeps_seat_same v = record { seat = refl; rest = goes_on_same v }

-- two moments in a row
pub goes_on_then : (a b c : HallView) → GoesOn a b → GoesOn b c → GoesOn a c
goes_on_then a b c p q = record {
  alone = q.alone ∙ p.alone;
  account = q.account ∙ p.account;
  rooms = nexts_then a.rooms b.rooms c.rooms p.rooms q.rooms;
  memo = q.memo ∙ p.memo;
}
