-- One room of the store is another: what is under each number then.
use Rattle.std.proofs.Common.{◌≡◌, ◌⊎◌, inl, inr, ℕ, ◌<◌, ◌≤◌, ◌%◌, cond, Option}
use Rattle.std.proofs.Common.{Some, None, length, length-set, refl, sym, ap, ◌∙◌, arith, slice_get, slice_set}
use Rattle.std.proofs.Common.{subst, unwrap_or, option_and_then}
use Rattle.std.specs.Cmp.{nat_cmp_total}
use Rattle.std.specs.FinMap as map
use Rattle.std.specs.FinMap.{get-insert, get-remove}
use Rattle.std.specs.Ordering.{nat_cmp}
use Rattle.std.proofs.lemmas.Bool.{cases_eq, eq-eqb, ne_eqb}
use Rattle.list_lemmas.proofs.Numbers.{nat_tie}
use Rattle.list_lemmas.proofs.Positions.{slice_get-set, slice_get-set_else}
use Rattle.node_key.specs.Rooms.{room}
use Rattle.node_key.specs.declared.key.NodeKey.{NodeKey}
use Rattle.node_key.specs.declared.limits.TheConstants.{MAX_NUMBERS, STORE_ROOMS}
use Rattle.shard_core.specs.declared.limits.TheConstants.{MAX_COUNT}
use Rattle.shard_core.specs.Room.{HasNode, IsSound, IsThere, Room, Stored, next_number, node_at, with_new}
use Rattle.shard_core.specs.Room.{with_node, without}
use Rattle.shard_core.proofs.Soundness.{IsSound-with_new, IsSound-with_node, IsSound-without}
use Rattle.store_laws.specs.Store.{IsCanonic, Store, node_in}

-- the nodes of a room
abbrev pub Nodes : Type 0
Nodes = map.FinMap nat_cmp Stored

-- under one number there is something else, and all else is as it was
pub record IsChanged (rooms after : Store) (n : ℕ) (o : Option Stored) : Type 0 where
  pub count : length after ≡ STORE_ROOMS
  pub sound : (i : ℕ) (r : Room) → slice_get after i ≡ Some r → (r.room ≡ i) × IsSound r
  pub here : node_in after n ≡ o
  pub others : (m : ℕ) → (m ≡ n → ⊥) → node_in after m ≡ node_in rooms m

-- ---- nodes of a room

put_here : (m : Nodes) (n : ℕ) (s : Stored) → map.get (map.insert m n s) n ≡ Some s
put_here m n s = get-insert nat_cmp_total m n s n
    ∙ ap (λ b. cond b (Some s) (map.get m n)) (nat_tie n n ∙ eq-eqb n n refl)

put_else : (m : Nodes) (n q : ℕ) (s : Stored) → (q ≡ n → ⊥) → map.get (map.insert m n s) q ≡ map.get m q
put_else m n q s apart = get-insert nat_cmp_total m n s q
    ∙ ap (λ b. cond b (Some s) (map.get m q)) (nat_tie q n ∙ ne_eqb q n apart)

pub taken_here : (m : Nodes) (n : ℕ) → map.get (map.remove m n) n ≡ None
taken_here m n = get-remove nat_cmp_total m n n
    ∙ ap (λ b. cond b None (map.get m n)) (nat_tie n n ∙ eq-eqb n n refl)

taken_else : (m : Nodes) (n q : ℕ) → (q ≡ n → ⊥) → map.get (map.remove m n) q ≡ map.get m q
taken_else m n q apart = get-remove nat_cmp_total m n q
    ∙ ap (λ b. cond b None (map.get m q)) (nat_tie q n ∙ ne_eqb q n apart)

-- ---- the store

-- the node of a number in its room
pub node_in_room : (rooms : Store) (i m : ℕ) (r : Room) → slice_get rooms i ≡ Some r → m % STORE_ROOMS ≡ i
    → node_in rooms m ≡ node_at r m
node_in_room rooms i m r at here =
    ap (λ j. option_and_then (λ (x : Room). node_at x m) (slice_get rooms j)) here
    ∙ ap (option_and_then (λ (x : Room). node_at x m)) at

module _ (rooms : Store) (i n : ℕ) (old r : Room) (o : Option Stored) (whole : IsCanonic rooms)
    (at : slice_get rooms i ≡ Some old) (here : n % STORE_ROOMS ≡ i) (same_room : r.room ≡ old.room)
    (sound : IsSound r) (is : node_at r n ≡ o)
    (rest : (m : ℕ) → (m ≡ n → ⊥) → node_at r m ≡ node_at old m) where
  sound_by : (j : ℕ) (q : Room) → slice_get (slice_set rooms i r) j ≡ Some q → (j ≡ i) ⊎ (j ≡ i → ⊥)
      → (q.room ≡ j) × IsSound q
  sound_by j q is_at (inl e) =
      let same : r ≡ q = ap (λ (x : Option Room). unwrap_or x r)
      (sym (slice_get-set rooms i old r at) ∙ ap (slice_get (slice_set rooms i r)) (sym e) ∙ is_at) in
      subst (λ (x : Room). (x.room ≡ j) × IsSound x) same
      (same_room ∙ (whole.sound i old at).0 ∙ sym e, sound)
  sound_by j q is_at (inr apart) = whole.sound j q (sym (slice_get-set_else rooms i j r apart) ∙ is_at)

  others_by : (m : ℕ) → (m ≡ n → ⊥) → (m % STORE_ROOMS ≡ i) ⊎ (m % STORE_ROOMS ≡ i → ⊥)
      → node_in (slice_set rooms i r) m ≡ node_in rooms m
  others_by m apart (inl e) = node_in_room (slice_set rooms i r) i m r (slice_get-set rooms i old r at) e
      ∙ rest m apart ∙ sym (node_in_room rooms i m old at e)
  others_by m apart (inr e) = ap (option_and_then (λ (x : Room). node_at x m))
      (slice_get-set_else rooms i (m % STORE_ROOMS) r e)

  replaced : IsChanged rooms (slice_set rooms i r) n o
  replaced = record {
    count = length-set rooms i r ∙ whole.count;
    sound = λ j q is_at. sound_by j q is_at (cases_eq j i);
    here = node_in_room (slice_set rooms i r) i n r (slice_get-set rooms i old r at) here ∙ is;
    others = λ m apart. others_by m apart (cases_eq (m % STORE_ROOMS) i);
  }

-- a node of this key with this count
abbrev pub node : NodeKey → ℕ → Stored
node k c = record { key = k; count = c }

no_node : (r : Room) (o : Option Stored) → IsSound r → node_at r (next_number r) ≡ o → o ≡ None
no_node r None sound is = refl
no_node r (Some s) sound is =
    let at = sound.placed (next_number r) s.key s.count is in absurd (omega (arith, at.index, sound.room))

-- no node has the next number
pub next_is_fresh : (r : Room) → IsSound r → node_at r (next_number r) ≡ None
next_is_fresh r sound = no_node r (node_at r (next_number r)) sound refl

-- the number gives the room
pub next_is_here : (r : Room) → IsSound r → next_number r % STORE_ROOMS ≡ r.room
next_is_here r sound = omega (arith, sound.room)

-- a key more, under the next number
pub changed_with_new : (rooms : Store) (key : NodeKey) (old : Room) → IsCanonic rooms
    → slice_get rooms (room key) ≡ Some old → (¬ IsThere old key) → old.next < MAX_NUMBERS
    → IsChanged rooms (slice_set rooms (room key) (with_new old key)) (next_number old) (Some (node key 1))
changed_with_new rooms key old whole at absent below =
    let own = whole.sound (room key) old at in
    replaced rooms (room key) (next_number old) old (with_new old key) (Some (node key 1)) whole at
    (next_is_here old own.1 ∙ own.0) refl (IsSound-with_new old key own.1 absent below (sym own.0))
    (put_here old.nodes (next_number old) (node key 1))
    (λ m apart. put_else old.nodes (next_number old) m (node key 1) apart)

-- another count
pub changed_with_node : (rooms : Store) (i n : ℕ) (key : NodeKey) (old : Room) (b c : ℕ) → IsCanonic rooms
    → slice_get rooms i ≡ Some old → n % STORE_ROOMS ≡ i → HasNode old n key b → 1 ≤ c → c ≤ MAX_COUNT
    → IsChanged rooms (slice_set rooms i (with_node old n key c)) n (Some (node key c))
changed_with_node rooms i n key old b c whole at here has least most =
    let own = whole.sound i old at in
    replaced rooms i n old (with_node old n key c) (Some (node key c)) whole at here refl
    (IsSound-with_node old n key b c own.1 has least most) (put_here old.nodes n (node key c))
    (λ m apart. put_else old.nodes n m (node key c) apart)

-- a node less
pub changed_without : (rooms : Store) (n : ℕ) (old : Room) → IsCanonic rooms
    → slice_get rooms (n % STORE_ROOMS) ≡ Some old
    → IsChanged rooms (slice_set rooms (n % STORE_ROOMS) (without old n)) n None
changed_without rooms n old whole at =
    let own = whole.sound (n % STORE_ROOMS) old at in
    replaced rooms (n % STORE_ROOMS) n old (without old n) None whole at refl refl
    (IsSound-without old n own.1) (taken_here old.nodes n) (λ m apart. taken_else old.nodes n m apart)
