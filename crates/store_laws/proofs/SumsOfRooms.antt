-- Sums over the nodes of the store, once a room is another.
use Rattle.std.proofs.Common.{◌≡◌, ℕ, ◌+◌, ◌≤◌, ◌%◌, Bool, true, false, cond, List, [], ◌∷◌, Option, Some}
use Rattle.std.proofs.Common.{None, slice_get, slice_set, sum_by, refl, sym, ap, ◌∙◌, arith, is_some}
use Rattle.std.proofs.Common.{true≢false}
use Rattle.std.specs.Cmp.{nat_cmp_total}
use Rattle.std.specs.FinMap as map
use Rattle.std.specs.FinMap.{entries-insert, find, get-entries, get-insert, get-remove}
use Rattle.std.specs.FinMap.{nat_cmp-IsAntisymmetric, put, same_map}
use Rattle.std.specs.FinMap.Entries.{by_order}
use Rattle.std.specs.Ordering.{eq_by_cmp, is_eq, nat_cmp}
use Rattle.std.specs.declared.cmp.Ordering.{Ordering}
use Rattle.std.specs.declared.cmp.Ordering.TheVariants.{Less, Equal, Greater}
use Rattle.std.proofs.lemmas.List.Sums.{sum_by-append, sum_by-cons, sum_by-set, get_or-le-sum_by}
use Rattle.std.proofs.lemmas.Option.{get_or_from_slice_get, option_and_then_some, slice_get_within}
use Rattle.list_lemmas.proofs.Numbers.{nat_tie}
use Rattle.node_key.specs.declared.key.NodeKey.{NodeKey}
use Rattle.node_key.specs.declared.limits.TheConstants.{STORE_ROOMS}
use Rattle.std.proofs.lemmas.Bool.{eqb-true}
use Rattle.shard_core.specs.Room.{Room, Stored, next_number, node_at, with_new, with_node, without}
use Rattle.store_laws.specs.Store.{Store, node_in, nodes_in}
use Rattle.store_laws.proofs.StepsInRooms.{Nodes, node, taken_here}

abbrev pub Entries : Type 0
Entries = List (ℕ × Stored)

-- what a node adds
abbrev pub Weight : Type 0
Weight = ℕ × Stored → ℕ

by_place : (f : Weight) (k : ℕ) (v : Stored) (e : ℕ × Stored) (es : Entries) (o : Ordering)
    → nat_cmp k e.0 ≡ o → find nat_cmp k (e ∷ es) ≡ None
    → (find nat_cmp k es ≡ None → sum_by f (put nat_cmp k v es) ≡ sum_by f es + f (k, v))
    → sum_by f (by_order o ((k, v) ∷ e ∷ es) ((e.0, v) ∷ es) (e ∷ put nat_cmp k v es))
    ≡ sum_by f (e ∷ es) + f (k, v)
by_place f k v e es Less is none rest = omega (arith, sum_by-cons f (k, v) (e ∷ es))
by_place f k v e es Equal is none rest = absurd (true≢false (ap is_some
    (ap (λ o. cond (is_eq o) (Some e.1) (find nat_cmp k es)) (sym is) ∙ none)))
by_place f k v e es Greater is none rest =
    let later = rest (ap (λ o. cond (is_eq o) (Some e.1) (find nat_cmp k es)) (sym is) ∙ none) in
    omega (arith, later, sum_by-cons f e es, sum_by-cons f e (put nat_cmp k v es))

-- one entry more, under a new key
sum-put : (f : Weight) (k : ℕ) (v : Stored) (es : Entries) → find nat_cmp k es ≡ None
    → sum_by f (put nat_cmp k v es) ≡ sum_by f es + f (k, v)
sum-put f k v [] none = omega (arith, sum_by-cons f (k, v) [])
sum-put f k v (e ∷ es) none = by_place f k v e es (nat_cmp k e.0) refl none (sum-put f k v es)

-- a node more
sum-insert : (f : Weight) (m : Nodes) (k : ℕ) (v : Stored) → map.get m k ≡ None
    → sum_by f (map.entries (map.insert m k v)) ≡ sum_by f (map.entries m) + f (k, v)
sum-insert f m k v none = ap (sum_by f) (entries-insert nat_cmp_total m k v)
    ∙ sum-put f k v (map.entries m) (sym (get-entries m k) ∙ none)

tied_alike : (m : Nodes) (k q : ℕ) (v : Stored) (b : Bool) → eq_by_cmp nat_cmp q k ≡ b → map.get m k ≡ Some v
    → cond b (Some v) (cond b None (map.get m q)) ≡ map.get m q
tied_alike m k q v true is has = sym (ap (map.get m) (eqb-true q k (sym (nat_tie q k) ∙ is)) ∙ has)
tied_alike m k q v false is has = refl

-- what is removed and put back
put_back : (m : Nodes) (k : ℕ) (v : Stored) → map.get m k ≡ Some v → map.insert (map.remove m k) k v ≡ m
put_back m k v has = same_map nat_cmp_total nat_cmp-IsAntisymmetric _ _ (λ q.
    get-insert nat_cmp_total (map.remove m k) k v q
    ∙ ap (cond (eq_by_cmp nat_cmp q k) (Some v)) (get-remove nat_cmp_total m k q)
    ∙ tied_alike m k q v (eq_by_cmp nat_cmp q k) refl has)

over : (b : Bool) (w : Stored) (o : Option Stored) → cond b (Some w) (cond b None o) ≡ cond b (Some w) o
over true w o = refl
over false w o = refl

put_over : (m : Nodes) (k : ℕ) (w : Stored) → map.insert (map.remove m k) k w ≡ map.insert m k w
put_over m k w = same_map nat_cmp_total nat_cmp-IsAntisymmetric _ _ (λ q.
    get-insert nat_cmp_total (map.remove m k) k w q
    ∙ ap (cond (eq_by_cmp nat_cmp q k) (Some w)) (get-remove nat_cmp_total m k q)
    ∙ over (eq_by_cmp nat_cmp q k) w (map.get m q) ∙ sym (get-insert nat_cmp_total m k w q))

-- a node less
sum-remove : (f : Weight) (m : Nodes) (k : ℕ) (v : Stored) → map.get m k ≡ Some v
    → sum_by f (map.entries (map.remove m k)) + f (k, v) ≡ sum_by f (map.entries m)
sum-remove f m k v has = sym (sum-insert f (map.remove m k) k v (taken_here m k))
    ∙ ap (λ x. sum_by f (map.entries x)) (put_back m k v has)

-- a node that is another
sum-again : (f : Weight) (m : Nodes) (k : ℕ) (v w : Stored) → map.get m k ≡ Some v
    → sum_by f (map.entries (map.insert m k w)) + f (k, v) ≡ sum_by f (map.entries m) + f (k, w)
sum-again f m k v w has =
    let put_in = sum-insert f (map.remove m k) k w (taken_here m k) in
    let taken_out = sum-remove f m k v has in
    let same = ap (λ x. sum_by f (map.entries x)) (put_over m k w) in
    omega (arith, put_in, taken_out, same)

in_room : (f : Weight) (m : Nodes) (k : ℕ) (v : Stored) → map.get m k ≡ Some v
    → f (k, v) ≤ sum_by f (map.entries m)
in_room f m k v has = let less = sum-remove f m k v has in omega (arith, less)

-- what the nodes of a room add up to
abbrev pub room_sum : Weight → Room → ℕ
room_sum f r = sum_by f (map.entries r.nodes)

pub store_sum : (f : Weight) (rooms : Store) → sum_by f (nodes_in rooms) ≡ sum_by (room_sum f) rooms
store_sum f [] = refl
store_sum f (r ∷ rooms) =
    sum_by-append f (map.entries r.nodes) (nodes_in rooms)
    ∙ ap (λ n. room_sum f r + n) (store_sum f rooms) ∙ sym (sum_by-cons (room_sum f) r rooms)

-- one room is another
pub sum_of_replaced : (f : Weight) (rooms : Store) (i : ℕ) (old r : Room) → slice_get rooms i ≡ Some old
    → sum_by f (nodes_in (slice_set rooms i r)) + room_sum f old ≡ sum_by f (nodes_in rooms) + room_sum f r
sum_of_replaced f rooms i old r at =
    let changed = sum_by-set (room_sum f) rooms i r old (slice_get_within rooms i old at) in
    let was = ap (room_sum f) (get_or_from_slice_get rooms i old old at) in
    omega (arith, changed, was, store_sum f rooms, store_sum f (slice_set rooms i r))

-- a room with a new key
pub sum_with_new : (f : Weight) (rooms : Store) (i : ℕ) (old : Room) (key : NodeKey)
    → slice_get rooms i ≡ Some old → node_at old (next_number old) ≡ None
    → sum_by f (nodes_in (slice_set rooms i (with_new old key)))
    ≡ sum_by f (nodes_in rooms) + f (next_number old, node key 1)
sum_with_new f rooms i old key at fresh =
    let changed = sum_of_replaced f rooms i old (with_new old key) at in
    let more = sum-insert f old.nodes (next_number old) (node key 1) fresh in
    omega (arith, changed, more)

-- a room with another count, or key, under a number
pub sum_with_node : (f : Weight) (rooms : Store) (i n : ℕ) (old : Room) (s : Stored) (key : NodeKey) (c : ℕ)
    → slice_get rooms i ≡ Some old → node_at old n ≡ Some s
    → sum_by f (nodes_in (slice_set rooms i (with_node old n key c))) + f (n, s)
    ≡ sum_by f (nodes_in rooms) + f (n, node key c)
sum_with_node f rooms i n old s key c at has =
    let changed = sum_of_replaced f rooms i old (with_node old n key c) at in
    let again = sum-again f old.nodes n s (node key c) has in
    omega (arith, changed, again)

-- a room without a node
pub sum_without : (f : Weight) (rooms : Store) (i n : ℕ) (old : Room) (s : Stored)
    → slice_get rooms i ≡ Some old → node_at old n ≡ Some s
    → sum_by f (nodes_in (slice_set rooms i (without old n))) + f (n, s) ≡ sum_by f (nodes_in rooms)
sum_without f rooms i n old s at has =
    let changed = sum_of_replaced f rooms i old (without old n) at in
    let less = sum-remove f old.nodes n s has in
    omega (arith, changed, less)

-- each node is part of the sum
pub in_the_sum : (f : Weight) (rooms : Store) (n : ℕ) (s : Stored) → node_in rooms n ≡ Some s
    → f (n, s) ≤ sum_by f (nodes_in rooms)
in_the_sum f rooms n s has =
    option_and_then_some (λ (r : Room). node_at r n) (slice_get rooms (n % STORE_ROOMS)) s has (λ r at is.
    let i = n % STORE_ROOMS in
    let whole = get_or-le-sum_by (room_sum f) rooms i r (slice_get_within rooms i r at) in
    let this = ap (room_sum f) (get_or_from_slice_get rooms i r r at) in
    let part = in_room f r.nodes n s is in
    omega (arith, whole, this, part, store_sum f rooms))
