-- How many nodes there are.
use Rattle.std.proofs.Common.{◌≡◌, ℕ, suc, ◌+◌, ◌*◌, ◌<◌, ◌≤◌, ◌^◌, Bool, true, T}
use Rattle.std.proofs.Common.{List}
use Rattle.std.proofs.Common.{[], ◌∷◌, get_or, length, map, take, Some, refl, sym, ap, ◌∙◌}
use Rattle.std.proofs.Common.{arith}
use Rattle.std.proofs.Common.{slice_get, nat_eq, sum_by}
use Rattle.std.proofs.Common.{nat_cmp}
use Rattle.std.specs.FinMap as map
use Rattle.std.specs.FinMap.{contains_key-keys, entries_sorted, len-entries}
use Rattle.std.specs.FinMap.Entries.{below_all, is_sorted}
use Rattle.std.specs.Cmp.{ranks}
use Rattle.std.specs.List.{list_any}
use Rattle.std.proofs.lemmas.Bool.{eq-eqb}
use Rattle.std.proofs.lemmas.List.{take_all}
use Rattle.std.proofs.lemmas.List.Concat.{length-flat_map}
use Rattle.std.proofs.lemmas.List.Sums.{sum_by-cons, sum_by_more_le}
use Rattle.std.proofs.lemmas.Option.{slice_get-get_or}
use Rattle.std.proofs.lemmas.Bool.{or_left, or_right}
use lib.Ieee.Fits.{and_l, and_r}
use Rattle.list_lemmas.proofs.Numbers.{lt-from_is_lt, nat_tie}
use Rattle.list_lemmas.proofs.Options.{given_some}
use Rattle.node_key.specs.declared.limits.TheConstants.{MAX_NUMBERS, STORE_ROOMS}
use Rattle.shard_core.specs.Room.{IsSound, Room, Stored, node_at}
use Rattle.store_laws.specs.Store.{Store, nodes_in}
use Rattle.node_store.specs.Kept.{AreKept, NodesKept}

-- ---- numbers that rise

abbrev numbers : List (ℕ × Stored) → List ℕ
numbers es = map (λ e. e.0) es

rising : (n k : ℕ) (es : List (ℕ × Stored)) → T (below_all nat_cmp k es) → T (is_sorted nat_cmp es) → k < n
    → ((q : ℕ) → list_any (nat_eq q) (numbers es) ≡ true → q < n) → length es + k + 1 ≤ n
rising n k [] below sorted low each = omega (arith, low)
rising n k (e ∷ es) below sorted low each =
    let less = lt-from_is_lt k e.0 (nat_cmp k e.0) (ranks k e.0) (and_l _ _ below) in
    let here = each e.0 (or_left _ _ (eq-eqb e.0 e.0 refl)) in
    let rest = rising n e.0 es (and_l _ _ sorted) (and_r _ _ sorted) here
    (λ q is. each q (or_right (nat_eq q e.0) (list_any (nat_eq q) (numbers es)) is)) in
    omega (arith, less, rest)

at_most : (n : ℕ) (es : List (ℕ × Stored)) → T (is_sorted nat_cmp es)
    → ((q : ℕ) → list_any (nat_eq q) (numbers es) ≡ true → q < n) → length es ≤ n
at_most n [] sorted each = omega arith
at_most n (e ∷ es) sorted each =
    let here = each e.0 (or_left _ _ (eq-eqb e.0 e.0 refl)) in
    let rest = rising n e.0 es (and_l _ _ sorted) (and_r _ _ sorted) here
    (λ q is. each q (or_right (nat_eq q e.0) (list_any (nat_eq q) (numbers es)) is)) in
    omega (arith, rest)

-- ---- rooms

abbrev pub nodes_of : Room → ℕ
nodes_of r = map.len r.nodes

-- a room has no more nodes than numbers
few_nodes : (r : Room) → IsSound r → nodes_of r ≤ STORE_ROOMS * MAX_NUMBERS
few_nodes r sound =
    let fits = at_most (STORE_ROOMS * MAX_NUMBERS) (map.entries r.nodes) (entries_sorted r.nodes) (λ q is.
    let there : map.contains_key r.nodes q ≡ true = contains_key-keys r.nodes q
    ∙ ap (λ (e : ℕ → Bool). list_any e (map.keys r.nodes)) (λ i y. nat_tie q y i) ∙ is in
    let (s, at) = given_some (node_at r q) there in
    omega (arith, (sound.placed q s.key s.count at).index, sound.next)) in
    omega (arith, fits, len-entries r.nodes)

each_few : (m : ℕ) (rooms : Store) → ((i : ℕ) (r : Room) → slice_get rooms i ≡ Some r → nodes_of r ≤ m)
    → sum_by nodes_of rooms ≤ length rooms * m
each_few m [] each = omega arith
each_few m (r ∷ rooms) each =
    let here = each 0 r refl in
    let rest = each_few m rooms (λ i q at. each (suc i) q at) in
    omega (arith, here, rest, sum_by-cons nodes_of r rooms)

all_few : (s : NodesKept) → AreKept s → sum_by nodes_of s.rooms ≤ STORE_ROOMS * (STORE_ROOMS * MAX_NUMBERS)
all_few s is_kept =
    let most = each_few (STORE_ROOMS * MAX_NUMBERS) s.rooms (λ i r at.
    few_nodes r (is_kept.room i r (get_or s.given.rooms i []) at (slice_get-get_or s.given.rooms i []
    (let low = Rattle.std.proofs.lemmas.Option.slice_get_within s.rooms i r at in
    omega (arith, low, is_kept.count, is_kept.lists)))).sound) in
    let long = ap (λ (n : ℕ). n * (STORE_ROOMS * MAX_NUMBERS)) is_kept.count in
    omega (arith, most, long)

-- the sum so far fits with one room more
pub live_fits : (s : NodesKept) (live i more : ℕ) (d : Room) → AreKept s
    → live ≡ sum_by nodes_of (take i s.rooms) → i < length s.rooms → more ≡ nodes_of (get_or s.rooms i d)
    → live + more < 2 ^ 64
live_fits s live i more d is_kept so_far within is =
    omega (arith, so_far, is, sum_by_more_le nodes_of s.rooms i d within, all_few s is_kept)

lengths : (rooms : Store) → sum_by nodes_of rooms ≡ sum_by (λ r. length (map.entries r.nodes)) rooms
lengths [] = refl
lengths (r ∷ rooms) =
    sum_by-cons nodes_of r rooms ∙ (λ i. len-entries r.nodes i + lengths rooms i)
    ∙ sym (sum_by-cons (λ (q : Room). length (map.entries q.nodes)) r rooms)

pub all_nodes : (rooms : Store) → sum_by nodes_of rooms ≡ length (nodes_in rooms)
all_nodes rooms = lengths rooms ∙ sym (length-flat_map (λ (r : Room). map.entries r.nodes) rooms)

-- the sum over all rooms
pub all_counted : (rooms : Store) (live i : ℕ) → live ≡ sum_by nodes_of (take i rooms) → length rooms ≤ i
    → live ≡ length (nodes_in rooms)
all_counted rooms live i so_far past = so_far ∙ ap (sum_by nodes_of) (take_all i rooms past) ∙ all_nodes rooms
