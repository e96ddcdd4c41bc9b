-- Stores that are made of a list of nodes, which is how the examples give them.
use Rattle.std.proofs.Common.{◌≡◌, ℕ, ◌+◌, ◌%◌, ◌/◌, ◌<◌, ◌≤◌, ◌==◌, Bool, true, false, cond}
use Rattle.std.proofs.Common.{List, [], ◌∷◌, ◌++◌, Option, Some, filter, map, length, refl, sym, ap, ◌∙◌}
use Rattle.std.proofs.Common.{subst, arith, slice_get, option_and_then, flat_map, true≢false}
use Rattle.std.proofs.Common.{sum_by}
use Rattle.std.specs.Cmp.{nat_cmp_total}
use Rattle.std.specs.FinMap as fin
use Rattle.std.specs.FinMap.{entries-insert, find, get-from_entries, len-empty, len-entries, put}
use Rattle.std.specs.List.{range_with_len}
use Rattle.std.specs.Ordering.{eq_by_cmp, nat_cmp}
use Rattle.std.proofs.lemmas.Bool.{eq-eqb, eqb-true}
use Rattle.std.proofs.lemmas.List.FromFn.{length-map-range_with_len}
use Rattle.std.proofs.lemmas.Option.{none-some, same_Some, slice_get_within}
use Rattle.list_lemmas.proofs.All.{Each, Each-at}
use Rattle.list_lemmas.proofs.Numbers.{nat_tie}
use Rattle.list_lemmas.proofs.Ranges.{range_item}
use Rattle.node_key.specs.Rooms.{room}
use Rattle.node_key.specs.Stands.{Stands}
use Rattle.node_key.specs.declared.key.NodeKey.{NodeKey}
use Rattle.node_key.specs.declared.limits.TheConstants.{STORE_ROOMS}
use Rattle.node_key.specs.declared.stake.Stake.{Stake}
use Rattle.shard_core.specs.declared.limits.TheConstants.{MAX_COUNT}
use Rattle.shard_core.specs.Room.{IsSound, Room, Stored, node_at}
use Rattle.store_laws.specs.Counted.{IsCounted, kid_places, names_kid, stakes_on}
use Rattle.store_laws.specs.Store.{IsCanonic, IsWellPlaced, key_in, node_in, nodes_in}
use Rattle.hall_core.specs.Examples.{room_with, rooms_with}

-- nodes with their numbers
abbrev pub Nodes : Type 0
Nodes = List (ℕ × Stored)

-- ---- what is found in a list of nodes

-- it is the first of them, or one of the rest
first_or_later : (P : ℕ × Stored → Type 0) (e : ℕ × Stored) (n : ℕ) (s : Stored) (b : Bool)
    (later : Option Stored) → eq_by_cmp nat_cmp n e.0 ≡ b → P e → (later ≡ Some s → P (n, s))
    → cond b (Some e.1) later ≡ Some s → P (n, s)
first_or_later P e n s true later same here rest is =
    let number : e.0 ≡ n = sym (eqb-true n e.0 (sym (nat_tie n e.0) ∙ same)) in
    subst (λ (v : Stored). P (n, v)) (same_Some e.1 s is) (subst (λ (m : ℕ). P (m, e.1)) number here)
first_or_later P e n s false later other here rest is = rest is

-- what holds of each node holds of what is found under a number
pub found_is : (P : ℕ × Stored → Type 0) (es : Nodes) (n : ℕ) (s : Stored) → Each P es
    → find nat_cmp n es ≡ Some s → P (n, s)
found_is P [] n s each is = absurd (none-some s is)
found_is P (e ∷ es) n s each is = first_or_later P e n s (eq_by_cmp nat_cmp n e.0) (find nat_cmp n es) refl
    each.0 (found_is P es n s each.1) is

-- one node more, if its number is in the room
passed : (P : ℕ × Stored → Type 0) (e : ℕ × Stored) (i : ℕ) (b : Bool) (es : Nodes)
    → (e.0 % STORE_ROOMS == i) ≡ b → P e → Each (λ d. P d × (d.0 % STORE_ROOMS ≡ i)) es
    → Each (λ d. P d × (d.0 % STORE_ROOMS ≡ i)) (cond b (e ∷ es) es)
passed P e i true es is here rest = ((here, eqb-true (e.0 % STORE_ROOMS) i is), rest)
passed P e i false es is here rest = rest

-- what holds of each node holds of those in one room
each_there : (P : ℕ × Stored → Type 0) (es : Nodes) (i : ℕ) → Each P es
    → Each (λ d. P d × (d.0 % STORE_ROOMS ≡ i)) (filter (λ e. e.0 % STORE_ROOMS == i) es)
each_there P [] i each = tt
each_there P (e ∷ es) i each = passed P e i (e.0 % STORE_ROOMS == i)
    (filter (λ d. d.0 % STORE_ROOMS == i) es) refl each.0 (each_there P es i each.1)

-- one node more in the list: that of this number is kept
kept : (e : ℕ × Stored) (n : ℕ) (b c : Bool) (es : Nodes) (later : Option Stored)
    → eq_by_cmp nat_cmp n e.0 ≡ b → (e.0 % STORE_ROOMS == n % STORE_ROOMS) ≡ c → find nat_cmp n es ≡ later
    → find nat_cmp n (cond c (e ∷ es) es) ≡ cond b (Some e.1) later
kept e n b true es later same passes rest = λ i. cond (same i) (Some e.1) (rest i)
kept e n true false es later same fails rest =
    let number : e.0 % STORE_ROOMS ≡ n % STORE_ROOMS =
    ap (λ m. m % STORE_ROOMS) (sym (eqb-true n e.0 (sym (nat_tie n e.0) ∙ same))) in
    absurd (true≢false (sym (eq-eqb (e.0 % STORE_ROOMS) (n % STORE_ROOMS) number) ∙ fails))
kept e n false false es later same fails rest = rest

-- a number is found in its room as in all of the list
find-filter : (es : Nodes) (n : ℕ)
    → find nat_cmp n (filter (λ e. e.0 % STORE_ROOMS == n % STORE_ROOMS) es) ≡ find nat_cmp n es
find-filter [] n = refl
find-filter (e ∷ es) n =
    kept e n (eq_by_cmp nat_cmp n e.0) (e.0 % STORE_ROOMS == n % STORE_ROOMS)
    (filter (λ d. d.0 % STORE_ROOMS == n % STORE_ROOMS) es) (find nat_cmp n es) refl refl (find-filter es n)

-- ---- the rooms

-- the room of an index
pub room_there : (nodes : Nodes) (i : ℕ) → i < STORE_ROOMS
    → slice_get (rooms_with nodes) i ≡ Some (room_with nodes i)
room_there nodes i below = range_item (room_with nodes) 0 STORE_ROOMS i i below (omega arith)

-- what is there at an index
pub room_seen : (nodes : Nodes) (i : ℕ) (r : Room) → slice_get (rooms_with nodes) i ≡ Some r
    → (i < STORE_ROOMS) × (room_with nodes i ≡ r)
room_seen nodes i r is =
    let below : i < STORE_ROOMS =
    omega (
      arith,
      slice_get_within (rooms_with nodes) i r is,
      length-map-range_with_len (room_with nodes) 0 STORE_ROOMS,
    ) in
    (below, same_Some (room_with nodes i) r (sym (room_there nodes i below) ∙ is))

-- what is under a number in the rooms
pub node_in-rooms_with : (nodes : Nodes) (n : ℕ) → node_in (rooms_with nodes) n ≡ find nat_cmp n nodes
node_in-rooms_with nodes n =
    ap (option_and_then (λ (r : Room). node_at r n)) (room_there nodes (n % STORE_ROOMS) (omega arith))
    ∙ get-from_entries nat_cmp_total (filter (λ e. e.0 % STORE_ROOMS == n % STORE_ROOMS) nodes) n
    ∙ find-filter nodes n

-- what a room has under a number
pub node_at-room_with : (nodes : Nodes) (i n : ℕ)
    → node_at (room_with nodes i) n ≡ find nat_cmp n (filter (λ e. e.0 % STORE_ROOMS == i) nodes)
node_at-room_with nodes i n = get-from_entries nat_cmp_total (filter (λ e. e.0 % STORE_ROOMS == i) nodes) n

-- ---- all nodes

-- a list in the order of the numbers
abbrev pub in_order : Nodes → Nodes
in_order [] = []
in_order (e ∷ es) = put nat_cmp e.0 e.1 (in_order es)

-- a list of length 0
nothing_from_length : (es : Nodes) → length es ≡ 0 → es ≡ []
nothing_from_length [] is = refl
nothing_from_length (e ∷ es) is = absurd (omega arith)

-- the entries of a map that a list makes
entries-from_entries : (es : Nodes) → fin.entries (fin.from_entries {R = nat_cmp} es) ≡ in_order es
entries-from_entries [] = nothing_from_length (fin.entries (fin.empty {X = Stored} {R = nat_cmp}))
    (sym (len-entries (fin.empty {X = Stored} {R = nat_cmp})) ∙ len-empty nat_cmp Stored)
entries-from_entries (e ∷ es) = entries-insert nat_cmp_total (fin.from_entries es) e.0 e.1
    ∙ ap (put nat_cmp e.0 e.1) (entries-from_entries es)

-- the nodes of the rooms, one room after the other
abbrev pub room_by_room : Nodes → List ℕ → Nodes
room_by_room nodes [] = []
room_by_room nodes (i ∷ is) = in_order (filter (λ e. e.0 % STORE_ROOMS == i) nodes) ++ room_by_room nodes is

-- those of some of the rooms
flat_map-rooms : (nodes : Nodes) (is : List ℕ)
    → flat_map (λ (r : Room). fin.entries r.nodes) (map (room_with nodes) is) ≡ room_by_room nodes is
flat_map-rooms nodes [] = refl
flat_map-rooms nodes (i ∷ is) = λ j.
    entries-from_entries (filter (λ e. e.0 % STORE_ROOMS == i) nodes) j ++ flat_map-rooms nodes is j

-- those of all rooms
pub nodes_in-rooms_with : (nodes : Nodes)
    → nodes_in (rooms_with nodes) ≡ room_by_room nodes (range_with_len 0 STORE_ROOMS)
nodes_in-rooms_with nodes = flat_map-rooms nodes (range_with_len 0 STORE_ROOMS)

-- ---- sound rooms

-- the node may stand under its number, and the key tells the number
pub record Fits (number_told : NodeKey → ℕ) (e : ℕ × Stored) : Type 0 where
  pub index : e.0 / STORE_ROOMS < 2
  pub key : room e.1.key ≡ e.0 % STORE_ROOMS
  pub least : 1 ≤ e.1.count
  pub most : e.1.count ≤ MAX_COUNT
  pub number : number_told e.1.key ≡ e.0

-- a room with nodes that fit is sound
IsSound-room_with : (number_told : NodeKey → ℕ) (nodes : Nodes) (i : ℕ) → Each (Fits number_told) nodes
    → i < STORE_ROOMS → IsSound (room_with nodes i)
IsSound-room_with number_told nodes i each below =
    let there = filter (λ (e : ℕ × Stored). e.0 % STORE_ROOMS == i) nodes in
    let fits : (n : ℕ) (s : Stored) → node_at (room_with nodes i) n ≡ Some s
    → Fits number_told (n, s) × (n % STORE_ROOMS ≡ i) =
    λ n s has. found_is (λ e. Fits number_told e × (e.0 % STORE_ROOMS ≡ i)) there n s
    (each_there (Fits number_told) nodes i each) (sym (get-from_entries nat_cmp_total there n) ∙ has) in
    record {
      room = below;
      next = omega arith;
      placed = λ n k c has.
          let fit = fits n (record { key = k; count = c }) has in
          record {
            number = fit.1;
            index = fit.0.index;
            key = fit.0.key ∙ fit.1;
            least = fit.0.least;
            most = fit.0.most;
          };
      keys_differ = λ m n k c d one two.
          sym (fits m (record { key = k; count = c }) one).0.number
          ∙ (fits n (record { key = k; count = d }) two).0.number;
    }

-- rooms with nodes that fit and are well placed are canonic
pub IsCanonic-rooms_with : (number_told : NodeKey → ℕ) (nodes : Nodes) → Each (Fits number_told) nodes
    → Each (λ e. IsWellPlaced (rooms_with nodes) e.1.key) nodes → IsCanonic (rooms_with nodes)
IsCanonic-rooms_with number_told nodes each placed = record {
  count = length-map-range_with_len (room_with nodes) 0 STORE_ROOMS;
  sound = λ i r is.
      let seen = room_seen nodes i r is in
      subst (λ (q : Room). (q.room ≡ i) × IsSound q) seen.1
      (refl, IsSound-room_with number_told nodes i each seen.0);
  keys = λ n s has. found_is (λ e. IsWellPlaced (rooms_with nodes) e.1.key) nodes n s placed
      (sym (node_in-rooms_with nodes n) ∙ has);
}

-- ---- counts

-- the kids of this number, of all nodes
abbrev pub kids_counted : Nodes → ℕ → ℕ
kids_counted nodes n = sum_by (names_kid n) (room_by_room nodes (range_with_len 0 STORE_ROOMS))

-- as many as the rooms have
pub kid_places-rooms_with : (nodes : Nodes) (n : ℕ) → kid_places (rooms_with nodes) n ≡ kids_counted nodes n
kid_places-rooms_with nodes n = ap (sum_by (names_kid n)) (nodes_in-rooms_with nodes)

-- Where each stake is on a tree that its number stands for, and each node has its count in the list, the
-- rooms are counted.
pub IsCounted-rooms_with : (nodes : Nodes) (held : List Stake)
    → Each (λ x. Stands (key_in (rooms_with nodes)) x.number x.tree) held
    → Each (λ e. e.1.count ≡ stakes_on e.0 held + kids_counted nodes e.0) nodes
    → IsCounted (rooms_with nodes) held
IsCounted-rooms_with nodes held stand counted = record {
  stands = λ x has. Each-at (λ y. Stands (key_in (rooms_with nodes)) y.number y.tree) held x stand has;
  counts = λ n s has.
      found_is (λ e. e.1.count ≡ stakes_on e.0 held + kids_counted nodes e.0) nodes n s counted
      (sym (node_in-rooms_with nodes n) ∙ has)
      ∙ ap (λ m. stakes_on n held + m) (sym (kid_places-rooms_with nodes n));
}

-- a count in rooms that are counted
pub count_told : (nodes : Nodes) (held : List Stake) (n : ℕ) (s : Stored) → IsCounted (rooms_with nodes) held
    → find nat_cmp n nodes ≡ Some s → s.count ≡ stakes_on n held + kids_counted nodes n
count_told nodes held n s counted found = counted.counts n s (node_in-rooms_with nodes n ∙ found)
    ∙ ap (λ m. stakes_on n held + m) (kid_places-rooms_with nodes n)
