-- The nodes of a store as one list: it has just those that are found by number, each once.
use Rattle.std.proofs.Common.{◌≡◌, inl, inr, ℕ, zero, suc, ◌+◌, ◌<◌, ◌%◌, Bool, true, false, cond, T, List}
use Rattle.std.proofs.Common.{[], ◌∷◌, slice_get, Some, refl, sym, ap, ◌∙◌, subst, arith, nat_eq, nat_cmp}
use Rattle.std.proofs.Common.{option_and_then, eq-eqb}
use Rattle.std.specs.FinMap as map
use Rattle.std.specs.FinMap.{find, entries_sorted, get-entries}
use Rattle.std.specs.FinMap.Entries.{below_all, is_sorted}
use Rattle.std.specs.Cmp.{ranks, unsigned_tied}
use Rattle.std.specs.Ordering.{eq_by_cmp}
use Rattle.std.proofs.lemmas.Bool.{eqb-true}
use Rattle.std.proofs.lemmas.Option.{none-some, same_Some}
use lib.Ieee.Fits.{and_l, and_r}
use Rattle.list_lemmas.proofs.Members.{IsAmong, IsAmong-flat_map, IsAmong-flat_map_cases, IsAmong-from_place}
use Rattle.list_lemmas.proofs.Members.{IsAmong-place, IsApart, IsApart-append}
use Rattle.list_lemmas.proofs.Numbers.{eqb_above, lt-from_is_lt}
use Rattle.node_key.specs.declared.limits.TheConstants.{STORE_ROOMS}
use Rattle.shard_core.specs.Room.{IsSound, Room, Stored, node_at}
use Rattle.store_laws.specs.Store.{IsCanonic, Store, node_in, nodes_in}
use Rattle.store_laws.proofs.CanonicKeys.{room_of_node}

-- ---- the entries of a map

greater_keys : (k : ℕ) (es : List (ℕ × Stored)) → T (below_all nat_cmp k es) → (e : ℕ × Stored) → IsAmong es e
    → k < e.0
greater_keys k [] below e h = absurd h
greater_keys k (f ∷ es) below e (inl same) =
    let less = lt-from_is_lt k f.0 (nat_cmp k f.0) (ranks k f.0) (and_l _ _ below) in
    subst (λ (x : ℕ × Stored). k < x.0) same less
greater_keys k (f ∷ es) below e (inr h) = greater_keys k es (and_r _ _ below) e h

IsApart-entries : (es : List (ℕ × Stored)) → T (is_sorted nat_cmp es) → IsApart es
IsApart-entries [] sorted = tt
IsApart-entries (e ∷ es) sorted = (
  λ h. let less = greater_keys e.0 es (and_l _ _ sorted) e h in omega (arith, less),
  IsApart-entries es (and_r _ _ sorted),
)

find_entry : (es : List (ℕ × Stored)) (n : ℕ) (s : Stored) → T (is_sorted nat_cmp es) → IsAmong es (n, s)
    → find nat_cmp n es ≡ Some s
find_entry [] n s sorted h = absurd h
find_entry (e ∷ es) n s sorted (inl same) =
    let number : e.0 ≡ n = ap (λ (x : ℕ × Stored). x.0) same in
    let node : e.1 ≡ s = ap (λ (x : ℕ × Stored). x.1) same in
    let tied : eq_by_cmp nat_cmp n e.0 ≡ true = unsigned_tied n e.0 ∙ eq-eqb n e.0 (sym number) in
    ap (λ b. cond b (Some e.1) (find nat_cmp n es)) tied ∙ ap (λ (x : Stored). Some x) node
find_entry (e ∷ es) n s sorted (inr h) =
    let less = greater_keys e.0 es (and_l _ _ sorted) (n, s) h in
    let tied : eq_by_cmp nat_cmp n e.0 ≡ false = unsigned_tied n e.0 ∙ eqb_above e.0 n less in
    ap (λ b. cond b (Some e.1) (find nat_cmp n es)) tied ∙ find_entry es n s (and_r _ _ sorted) h

entry_by : (e : ℕ × Stored) (es : List (ℕ × Stored)) (n : ℕ) (s : Stored) (b : Bool) → nat_eq n e.0 ≡ b
    → cond b (Some e.1) (find nat_cmp n es) ≡ Some s
    → (find nat_cmp n es ≡ Some s → IsAmong es (n, s)) → IsAmong (e ∷ es) (n, s)
entry_by e es n s true is found later =
    let number : e.0 ≡ n = sym (eqb-true n e.0 is) in
    let node : e.1 ≡ s = same_Some e.1 s found in
    inl (λ i. (number i, node i))
entry_by e es n s false is found later = inr (later found)

entry_found : (es : List (ℕ × Stored)) (n : ℕ) (s : Stored) → find nat_cmp n es ≡ Some s → IsAmong es (n, s)
entry_found [] n s found = absurd (none-some s found)
entry_found (e ∷ es) n s found = entry_by e es n s (nat_eq n e.0) refl
    (ap (λ b. cond b (Some e.1) (find nat_cmp n es)) (sym (unsigned_tied n e.0)) ∙ found)
    (entry_found es n s)

-- ---- the rooms

-- a node of a sound room is under a number of the room
room_of_entry : (r : Room) (e : ℕ × Stored) → IsSound r → IsAmong (map.entries r.nodes) e
    → (node_at r e.0 ≡ Some e.1) × (e.0 % STORE_ROOMS ≡ r.room)
room_of_entry r e sound h =
    let node : node_at r e.0 ≡ Some e.1 = get-entries r.nodes e.0
    ∙ find_entry (map.entries r.nodes) e.0 e.1 (entries_sorted r.nodes) h in
    (node, (sound.placed e.0 e.1.key e.1.count node).number)

-- rooms that are sound and numbered from one number on
abbrev AreRoomsFrom : ℕ → List Room → Type 0
AreRoomsFrom k rs = (i : ℕ) (r : Room) → slice_get rs i ≡ Some r → (r.room ≡ k + i) × IsSound r

IsApart-rooms : (k : ℕ) (rs : List Room) → AreRoomsFrom k rs → IsApart (nodes_in rs)
IsApart-rooms k [] are = tt
IsApart-rooms k (r ∷ rs) are =
    let first = are zero r refl in
    IsApart-append (map.entries r.nodes) (nodes_in rs)
    (IsApart-entries (map.entries r.nodes) (entries_sorted r.nodes))
    (IsApart-rooms (k + 1) rs (λ i l at. let later = are (suc i) l at in (omega (arith, later.0), later.1)))
    (λ e here there.
    let (l, among, in_l) = IsAmong-flat_map_cases (λ (x : Room). map.entries x.nodes) rs e there in
    let at = IsAmong-place rs l among in
    let later = are (suc at.0) l at.1 in
    let one = (room_of_entry r e first.1 here).1 in
    let other = (room_of_entry l e later.1 in_l).1 in
    omega (arith, one, other, first.0, later.0))

-- no node of the store stands twice among them
pub IsApart-nodes_in : (rooms : Store) → IsCanonic rooms → IsApart (nodes_in rooms)
IsApart-nodes_in rooms canonic =
    IsApart-rooms 0 rooms (λ i r at. let is = canonic.sound i r at in (omega (arith, is.0), is.1))

-- a node that is found by its number is among them
pub node_listed : (rooms : Store) (n : ℕ) (s : Stored) → IsCanonic rooms → node_in rooms n ≡ Some s
    → IsAmong (nodes_in rooms) (n, s)
node_listed rooms n s canonic is =
    let (r, p) = room_of_node rooms n s canonic is in
    IsAmong-flat_map (λ (x : Room). map.entries x.nodes) rooms r (n, s)
    (IsAmong-from_place rooms r (n % STORE_ROOMS) p.there)
    (entry_found (map.entries r.nodes) n s (sym (get-entries r.nodes n) ∙ p.node))

-- and each of them is found
pub node_found : (rooms : Store) (n : ℕ) (s : Stored) → IsCanonic rooms → IsAmong (nodes_in rooms) (n, s)
    → node_in rooms n ≡ Some s
node_found rooms n s canonic h =
    let (r, among, in_r) = IsAmong-flat_map_cases (λ (x : Room). map.entries x.nodes) rooms (n, s) h in
    let at = IsAmong-place rooms r among in
    let is = canonic.sound at.0 r at.1 in
    let entry = room_of_entry r (n, s) is.1 in_r in
    let place : slice_get rooms (n % STORE_ROOMS) ≡ Some r =
    ap (slice_get rooms) (entry.1 ∙ is.0) ∙ at.1 in
    ap (option_and_then (λ (x : Room). node_at x n)) place ∙ entry.0
