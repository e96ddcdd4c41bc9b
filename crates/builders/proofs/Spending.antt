-- The numbers that the rooms of a store give, from one moment to the next.
use Rattle.std.proofs.Common.{◌≡◌, ℕ, zero, suc, inl, inr, List, [], ◌∷◌, Option, None, Some}
use Rattle.std.proofs.Common.{Err, refl, ap, arith, slice_get}
use Rattle.shard_core.specs.Interning.{IsSpent}
use Rattle.shard_core.specs.Room.{Room}
use Rattle.node_key.specs.Rooms.{room}
use Rattle.node_key.specs.declared.key.NodeKey.{NodeKey}
use Rattle.hall_trait.specs.Nodes.{InternTells}
use Rattle.hall_trait.specs.View.{NextsRise}
use Rattle.hall_trait.specs.declared.answers.HallFault.{HallFault}
use Rattle.hall_trait.specs.declared.answers.HallFault.TheVariants as fault
use Rattle.hall_trait.proofs.Views.{Later}
use Rattle.builders.specs.Spending.{BuildSpends, HasFullRoom, IsStoreSpent}

-- a room that has given all its numbers has given them from then on
full_later : (a b : List Room) → Later a b → HasFullRoom a → HasFullRoom b
full_later [] b p (i, r, at, full) = absurd (cc)
full_later (x ∷ xs) [] p f = absurd p
full_later (x ∷ xs) (y ∷ ys) p (zero, r, at, full) =
    let here : x ≡ r = cc in
    let next : x.next ≡ r.next = ap (λ (z : Room). z.next) here in
    (zero, y, refl, omega (arith, p.0, full, next))
full_later (x ∷ xs) (y ∷ ys) p (suc i, r, at, full) =
    let f = full_later xs ys p.1 (i, r, at, full) in (suc f.0, f.1, f.2, f.3)

pub store_later : (a b : Option (List Room)) (p : ℕ) → NextsRise a b → IsStoreSpent a p → IsStoreSpent b p
store_later None None p rise spent = spent
store_later None (Some now) p rise spent = absurd rise
store_later (Some was) None p rise spent = absurd rise
store_later (Some was) (Some now) p rise (inl (is, full)) = inl (is, full_later was now rise full)
store_later (Some was) (Some now) p rise (inr is) = inr is

pub spends_later : (a b : Option (List Room)) (e : HallFault) → NextsRise a b
    → BuildSpends {X = ℕ} a (Err e) → BuildSpends {X = ℕ} b (Err e)
spends_later a b fault.Memory rise spends = tt
spends_later a b (fault.Spent v) rise spends = store_later a b v rise spends
spends_later a b (fault.Full place) rise spends = tt

-- an intern that was refused
spent_in : (rooms : List Room) (key : NodeKey) (v : ℕ) (r : Room) → slice_get rooms (room key) ≡ Some r
    → IsSpent r key v → IsStoreSpent (Some rooms) v
spent_in rooms key v r at (inl (new, full, is)) = inl (is, (room key, r, at, omega (arith, full)))
spent_in rooms key v r at (inr (n, has, is)) = inr is

refused : (rooms : Option (List Room)) (key : NodeKey) (e : HallFault) → InternTells rooms key (Err e)
    → BuildSpends {X = ℕ} rooms (Err e)
refused rooms key fault.Memory spends = tt
refused None key (fault.Spent v) spends = spends
refused (Some rooms) key (fault.Spent v) spends = spent_in rooms key v spends.0 spends.1 spends.2
refused rooms key (fault.Full place) spends = tt

pub interned_spends : (a b : Option (List Room)) (key : NodeKey) (e : HallFault) → NextsRise a b
    → InternTells a key (Err e) → BuildSpends {X = ℕ} b (Err e)
interned_spends a b key e rise spends = spends_later a b e rise (refused a key e spends)
