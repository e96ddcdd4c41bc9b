-- Each change of a room leaves it sound.
use Rattle.std.proofs.Common.{◌≡◌, ◌⊎◌, inl, inr, ℕ, ◌/◌, ◌%◌, ◌<◌, ◌≤◌, Bool, true, false, cond}
use Rattle.std.proofs.Common.{Option, Some, None, refl, sym, ap, ◌∙◌, subst, arith, nat_eq, unwrap_or}
use Rattle.std.proofs.Common.{is_some}
use Rattle.std.proofs.Common.{true≢false}
use Rattle.std.specs.Cmp.{nat_cmp_total}
use Rattle.std.specs.FinMap as map
use Rattle.std.specs.FinMap.{get-insert, get-remove, get-empty}
use Rattle.std.specs.Ordering.{nat_cmp}
use Rattle.std.proofs.lemmas.Bool.{eqb-true}
use Rattle.list_lemmas.proofs.Numbers.{nat_tie}
use Rattle.node_key.specs.Rooms.{room}
use Rattle.node_key.specs.declared.key.NodeKey.{NodeKey}
use Rattle.node_key.specs.declared.limits.TheConstants.{MAX_NUMBERS, STORE_ROOMS}
use Rattle.shard_core.specs.declared.limits.TheConstants.{MAX_COUNT}
use Rattle.shard_core.specs.Room.{Stored, Room, HasNode, IsThere, IsSound, with_node, with_new}
use Rattle.shard_core.specs.Room.{without}
use Rattle.shard_core.specs.Room.{next_number}

by_test : (m n : ℕ) (s t : Stored) (rest : Option Stored) (b : Bool) → nat_eq m n ≡ b
    → cond b (Some s) rest ≡ Some t → ((m ≡ n) × (s ≡ t)) ⊎ (rest ≡ Some t)
by_test m n s t rest true e is = inl (eqb-true m n e, ap (λ (o : Option Stored). unwrap_or o s) is)
by_test m n s t rest false e is = inr is

-- what is under a number once a node was put under another
put_cases : (nodes : map.FinMap nat_cmp Stored) (n m : ℕ) (s t : Stored)
    → map.get (map.insert nodes n s) m ≡ Some t → ((m ≡ n) × (s ≡ t)) ⊎ (map.get nodes m ≡ Some t)
put_cases nodes n m s t is = by_test m n s t (map.get nodes m) (nat_eq m n) refl
    (ap (λ b. cond b (Some s) (map.get nodes m)) (sym (nat_tie m n))
    ∙ sym (get-insert nat_cmp_total nodes n s m)
    ∙ is)

by_removal : (t : Stored) (rest : Option Stored) (b : Bool) → cond b None rest ≡ Some t → rest ≡ Some t
by_removal t rest true is = absurd (true≢false (sym (ap is_some is)))
by_removal t rest false is = is

left_cases : (nodes : map.FinMap nat_cmp Stored) (n m : ℕ) (t : Stored)
    → map.get (map.remove nodes n) m ≡ Some t → map.get nodes m ≡ Some t
left_cases nodes n m t is = by_removal t (map.get nodes m) _ (sym (get-remove nat_cmp_total nodes n m) ∙ is)

abbrev node : NodeKey → ℕ → Stored
node k c = record { key = k; count = c }

pub IsSound-with_node : (r : Room) (n : ℕ) (k : NodeKey) (b c : ℕ) → IsSound r → HasNode r n k b → 1 ≤ c
    → c ≤ MAX_COUNT → IsSound (with_node r n k c)
IsSound-with_node r n k b c sound keeps least most = record {
  room = sound.room;
  next = sound.next;
  placed = λ m j d h. elim (put_cases r.nodes n m (node k c) (node j d) h) [
    | inl p ↦
        let at = sound.placed n k b keeps in
        record {
          number = ap (λ x. x % STORE_ROOMS) p.0 ∙ at.number;
          index = subst (λ x. x / STORE_ROOMS < r.next) (sym p.0) at.index;
          key = ap (λ (s : Stored). room s.key) (sym p.1) ∙ at.key;
          least = subst (λ (s : Stored). 1 ≤ s.count) p.1 least;
          most = subst (λ (s : Stored). s.count ≤ MAX_COUNT) p.1 most;
        }
    | inr g ↦
        let at = sound.placed m j d g in
        record { number = at.number; index = at.index; key = at.key; least = at.least; most = at.most }
  ];
  keys_differ = λ m l j d e g h. elim (put_cases r.nodes n m (node k c) (node j d) g) [
    | inl p ↦ elim (put_cases r.nodes n l (node k c) (node j e) h) [
      | inl q ↦ p.0 ∙ sym q.0
      | inr y ↦ p.0 ∙ sound.keys_differ n l j b e
          (subst (λ (s : Stored). map.get r.nodes n ≡ Some (node s.key b)) p.1 keeps) y
    ]
    | inr x ↦ elim (put_cases r.nodes n l (node k c) (node j e) h) [
      | inl q ↦ sound.keys_differ m n j d b x
          (subst (λ (s : Stored). map.get r.nodes n ≡ Some (node s.key b)) q.1 keeps) ∙ sym q.0
      | inr y ↦ sound.keys_differ m l j d e x y
    ]
  ];
}

pub IsSound-with_new : (r : Room) (k : NodeKey) → IsSound r → (¬ IsThere r k) → r.next < MAX_NUMBERS
    → room k ≡ r.room → IsSound (with_new r k)
IsSound-with_new r k sound absent below here = record {
  room = sound.room;
  next = omega (arith, below);
  placed = λ m j d h. elim (put_cases r.nodes (next_number r) m (node k 1) (node j d) h) [
    | inl p ↦
        record {
          number = omega (arith, p.0, sound.room);
          index = omega (arith, p.0, sound.room);
          key = ap (λ (s : Stored). room s.key) (sym p.1) ∙ here;
          least = subst (λ (s : Stored). 1 ≤ s.count) p.1 (omega arith);
          most = subst (λ (s : Stored). s.count ≤ MAX_COUNT) p.1 (omega arith);
        }
    | inr g ↦
        let at = sound.placed m j d g in
        record {
          number = at.number;
          index = omega (arith, at.index);
          key = at.key;
          least = at.least;
          most = at.most;
        }
  ];
  keys_differ = λ m l j d e g h. elim (put_cases r.nodes (next_number r) m (node k 1) (node j d) g) [
    | inl p ↦ elim (put_cases r.nodes (next_number r) l (node k 1) (node j e) h) [
      | inl q ↦ p.0 ∙ sym q.0
      | inr y ↦ absurd (absent (
        l,
        e,
        subst (λ (s : Stored). map.get r.nodes l ≡ Some (node s.key e))
            (sym p.1) y,
      ))
    ]
    | inr x ↦ elim (put_cases r.nodes (next_number r) l (node k 1) (node j e) h) [
      | inl q ↦ absurd (absent (
        m,
        d,
        subst (λ (s : Stored). map.get r.nodes m ≡ Some (node s.key d))
            (sym q.1) x,
      ))
      | inr y ↦ sound.keys_differ m l j d e x y
    ]
  ];
}

pub IsSound-without : (r : Room) (n : ℕ) → IsSound r → IsSound (without r n)
IsSound-without r n sound = record {
  room = sound.room;
  next = sound.next;
  placed = λ m j d h.
      let at = sound.placed m j d (left_cases r.nodes n m (node j d) h) in
      record { number = at.number; index = at.index; key = at.key; least = at.least; most = at.most };
  keys_differ = λ m l j d e g h. sound.keys_differ m l j d e (left_cases r.nodes n m (node j d) g)
      (left_cases r.nodes n l (node j e) h);
}

pub IsSound-empty : (number next : ℕ) → number < STORE_ROOMS → next ≤ MAX_NUMBERS
    → IsSound (record { room = number; next = next; nodes = map.empty })
IsSound-empty number next below most = record {
  room = below;
  next = most;
  placed = λ m j d h. absurd (true≢false (sym (ap is_some (sym (get-empty nat_cmp m) ∙ h))));
  keys_differ = λ m l j d e g h. absurd (true≢false (sym (ap is_some (sym (get-empty nat_cmp m) ∙ g))));
}
