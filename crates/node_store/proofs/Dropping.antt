-- One of the other stakes is given back, and the kids of a node that goes.
use Rattle.std.proofs.Common.{◌≡◌, inl, inr, ℕ, zero, suc, ◌+◌, ◌-◌, ◌%◌, ◌<◌, ◌≤◌, List, [], ◌∷◌, ◌++◌}
use Rattle.std.proofs.Common.{Contains, IsSome}
use Rattle.std.proofs.Common.{drop, get_or, length, map, Option, Some, refl, sym, ap, ◌∙◌, arith, subst}
use Rattle.std.proofs.Common.{is_some, slice_get, slice_set, option_map, zero-lt-suc}
use Rattle.std.specs.List.{AllZip}
use Rattle.std.specs.Option.{option_map_or}
use Rattle.std.proofs.lemmas.List.{drop_all, drop_more}
use Rattle.std.proofs.lemmas.List.Elements.{Contains-append_left}
use Rattle.std.proofs.lemmas.Option.{none-some, same_Some, slice_get-get_or, slice_get_read}
use Rattle.list_lemmas.proofs.Options.{some_or_none}
use Rattle.node_key.specs.Stakes.{Exchanges, HasStakes, stake}
use Rattle.node_key.specs.declared.stake.Stake.{Stake}
use Rattle.node_key.specs.Stands.{KeyAt}
use Rattle.node_key.specs.Tree.{Tree}
use Rattle.node_key.specs.declared.key.Kid.{Kid}
use Rattle.node_key.specs.declared.key.NodeKey.{NodeKey}
use Rattle.node_key.specs.declared.limits.TheConstants.{STORE_ROOMS}
use Rattle.node_key.proofs.StakeLaws.{first_taken, times-append}
use Rattle.shard_core.specs.Interning.{Drops}
use Rattle.shard_core.specs.Room.{Room, Stored, node_at}
use Rattle.shard_core.specs.declared.answers.Dropped.TheVariants.{Kept, Removed}
use Rattle.store_laws.specs.Store.{Store, key_in, kids_in, node_in}
use Rattle.store_laws.proofs.StepsAnswered.{dropped_kept, dropped_removed}
use Rattle.store_laws.proofs.StepsInRooms.{node_in_room}
use Rattle.store_laws.proofs.SumsOfStakes.{among_held}
use Rattle.store_laws.proofs.StoreExchanged.{store_exchanged}
use Rattle.node_store.specs.Answering.{GivesBack, HasOther}
use Rattle.node_store.specs.Given.{Given, ever, stakes_of}
use Rattle.node_store.specs.Kept.{AreKept, KeepsFor, NextNeverFalls, NodesKept}
use Rattle.node_store.specs.TreeUnder.{kid_stakes, tree_under}
use Rattle.node_store.proofs.Exchanging.{exchanged_behind, has_behind}
use Rattle.node_store.proofs.Exchanging.{has_from_exchange}
use Rattle.node_store.proofs.Keeping.{kept, kept_with_node, kept_without}
use Rattle.node_store.proofs.TreesUnder.{kid_of_standing, kid_stakes_are, stands_still, tree_is}

-- stakes on some kids of a key
abbrev pub on_kids : KeyAt → List Kid → List Stake
on_kids at ks = map (λ (k : Kid). stake k.node (tree_under at k.node)) ks

-- a stake is among all that are held
pub held_one : (g : Given) (others left : List Stake) (x : Stake) → Exchanges others left (x ∷ []) []
    → HasStakes (stakes_of g ++ others) (x ∷ [])
held_one g others left x swap = has_behind (stakes_of g) others (x ∷ [])
    (has_from_exchange others left x swap)

pub stored_of_key : (rooms : Store) (n : ℕ) (key : NodeKey) → key_in rooms n ≡ Some key
    → (s : Stored) × (node_in rooms n ≡ Some s)
stored_of_key rooms n key is = elim (some_or_none (node_in rooms n)) [
  | inl none ↦ absurd (none-some key (sym (ap (option_map (λ (s : Stored). s.key)) none) ∙ is))
  | inr some ↦ some
]

-- what is staked is a node
pub live_node : (rooms : Store) (g : Given) (others left : List Stake) (n : ℕ) (t : Tree)
    → KeepsFor (kept rooms g) others → Exchanges others left (stake n t ∷ []) []
    → (s : Stored) × (node_in rooms n ≡ Some s)
live_node rooms g others left n t keeps swap =
    let x = stake n t in
    let among = among_held (stakes_of g ++ others) (x ∷ []) x (held_one g others left x swap)
    (0, zero-lt-suc 0, refl) in
    let stands = keeps.counted.stands x among in
    stored_of_key rooms n stands.0 stands.2

-- ---- where the numbers of rooms go on

abbrev no_less : Room → Room → Type 0
no_less was now = was.next ≤ now.next

pub rooms_same : (rooms : Store) → AllZip no_less rooms rooms
rooms_same [] = tt
rooms_same (r ∷ rooms) = (omega arith, rooms_same rooms)

pub room_rises : (rooms : Store) (i : ℕ) (old r : Room) → slice_get rooms i ≡ Some old → old.next ≤ r.next
    → AllZip no_less rooms (slice_set rooms i r)
room_rises [] i old r there most = tt
room_rises (q ∷ rooms) zero old r there most =
    let same = ap (λ (x : Room). x.next) (same_Some q old there) in
    (omega (arith, same, most), rooms_same rooms)
room_rises (q ∷ rooms) (suc i) old r there most = (omega arith, room_rises rooms i old r there most)

rise_then : (xs ys zs : Store) → AllZip no_less xs ys → AllZip no_less ys zs → AllZip no_less xs zs
rise_then [] [] [] one two = tt
rise_then [] [] (z ∷ zs) one two = absurd two
rise_then [] (y ∷ ys) zs one two = absurd one
rise_then (x ∷ xs) [] zs one two = absurd one
rise_then (x ∷ xs) (y ∷ ys) [] one two = absurd two
rise_then (x ∷ xs) (y ∷ ys) (z ∷ zs) one two = (omega (arith, one.0, two.0), rise_then xs ys zs one.1 two.1)

pub next_then : (a b c : NodesKept) → NextNeverFalls a b → NextNeverFalls b c → NextNeverFalls a c
next_then a b c first then = rise_then a.rooms b.rooms c.rooms first then

pub next_kept : (rooms : Store) (i : ℕ) (old r : Room) → slice_get rooms i ≡ Some old → old.next ≤ r.next
    → (g after : Given) → NextNeverFalls (kept rooms g) (kept (slice_set rooms i r) after)
next_kept rooms i old r there most g after = room_rises rooms i old r there most

-- after a stake was given back, some are still to be given back
pub record IsDropped (rooms after : Store) (g : Given) (n : ℕ) (more : List Stake) : Type 0 where
  pub sound : AreKept (kept after g)
  pub next : NextNeverFalls (kept rooms g) (kept after g)
  pub keeps : (others left : List Stake) (t : Tree) → KeepsFor (kept rooms g) others
      → Exchanges others left (stake n t ∷ []) [] → KeepsFor (kept after g) (more ++ left)

module _ (rooms : Store) (g : Given) (n : ℕ) (old : Room) (is_kept : AreKept (kept rooms g))
    (there : slice_get rooms (n % STORE_ROOMS) ≡ Some old) (some_others some_left : List Stake)
    (some_tree : Tree)
    (some_keeps : KeepsFor (kept rooms g) some_others)
    (some_swap : Exchanges some_others some_left (stake n some_tree ∷ []) []) where
  abbrev set_room : Room → Store
  set_room r = slice_set rooms (n % STORE_ROOMS) r

  -- the node is still there
  pub is_dropped_kept : (r : Room) → Drops old n Kept r → IsDropped rooms (set_room r) g n []
  is_dropped_kept r (key, c, has, above, is) =
      let canonic = some_keeps.canonic in
      let own = (canonic.sound (n % STORE_ROOMS) old there).1 in
      let placed = own.placed n key c has in
      let sound = kept_with_node rooms g (n % STORE_ROOMS) n key old c (c - 1) is_kept canonic there refl has
      (omega (arith, above)) (omega (arith, placed.most)) in
      let next = ap (λ (x : Room). x.next) is in
      record {
        sound = subst (λ (q : Room). AreKept (kept (set_room q) g)) (sym is) sound;
        next = next_kept rooms (n % STORE_ROOMS) old r there (omega (arith, next)) g g;
        keeps = λ others left t keeps swap.
            dropped_kept rooms (stakes_of g ++ others) (stakes_of g ++ left) (stake n t) old r keeps there
            (held_one g others left (stake n t) swap) (key, c, has, above, is)
            (exchanged_behind (stakes_of g) others left (stake n t ∷ []) [] swap);
      }

  -- the node had this key
  pub key_removed : (r : Room) (key : NodeKey) → Drops old n (Removed key) r → ever g n ≡ Some key
  key_removed r key (has, is) =
      is_kept.keys n (record { key = key; count = 1 })
      (node_in_room rooms (n % STORE_ROOMS) n old there refl ∙ has)

  module _ (r : Room) (key : NodeKey) (drops : Drops old n (Removed key) r) where
    sound_without : AreKept (kept (set_room r) g)
    sound_without = subst (λ (q : Room). AreKept (kept (set_room q) g)) (sym drops.1)
        (kept_without rooms g n old is_kept some_keeps.canonic there)

    found_given : (m : ℕ) (k : NodeKey) → key_in (set_room r) m ≡ Some k → ever g m ≡ Some k
    found_given m k is =
        let found = stored_of_key (set_room r) m k is in
        sound_without.keys m found.0 found.1
        ∙ sym (ap (option_map (λ (s : Stored). s.key)) found.1) ∙ is

    kids_due : (others left : List Stake) (t : Tree) → KeepsFor (kept rooms g) others
        → Exchanges others left (stake n t ∷ []) []
        → KeepsFor (kept (set_room r) g) (kid_stakes (ever g) key ++ left)
    kids_due others left t keeps swap =
        let x = stake n t in
        let held = stakes_of g ++ others in
        let (kids, over, rest) = dropped_removed rooms held x key old r keeps there
        (held_one g others left x swap)
        drops in
        let whole = kids ++ (stakes_of g ++ left) in
        let first = rest whole (λ y. omega (
          arith,
          swap y,
          times-append y kids (stakes_of g ++ left),
          times-append y (stakes_of g) left,
          times-append y (stakes_of g) others,
        )) in
        let each = λ (y : Stake) (among : Contains kids y).
        let stands = first.counted.stands y (Contains-append_left kids (stakes_of g ++ left) y among) in
        tree_is (ever g) y.number y.tree
        (stands_still (key_in (set_room r)) (ever g) found_given y.number y.tree stands) in
        let same = kid_stakes_are (ever g) t kids key over each in
        let all = store_exchanged (set_room r) whole (stakes_of g ++ (kids ++ left)) first (λ y.
        omega (
          arith,
          times-append y kids (stakes_of g ++ left),
          times-append y (stakes_of g) left,
          times-append y (stakes_of g) (kids ++ left),
          times-append y kids left,
        )) in
        subst (λ (ks : List Stake). KeepsFor (kept (set_room r) g) (ks ++ left)) (sym same) all

    pub is_dropped_removed : IsDropped rooms (set_room r) g n (kid_stakes (ever g) key)
    is_dropped_removed =
        let next = ap (λ (x : Room). x.next) drops.1 in
        record {
          sound = sound_without;
          next = next_kept rooms (n % STORE_ROOMS) old r there (omega (arith, next)) g g;
          keeps = kids_due;
        }

-- ---- in the room of the number

-- the room of a number is there
room_there : (s : NodesKept) (n : ℕ) (r : Room) → AreKept s → r ≡ get_or s.rooms (n % STORE_ROOMS) r
    → slice_get s.rooms (n % STORE_ROOMS) ≡ Some r
room_there s n r is_kept is = slice_get_read s.rooms STORE_ROOMS (n % STORE_ROOMS) r (sym is_kept.count)
    (omega arith) is

pub live_in_room : (s old : NodesKept) (n : ℕ) (r : Room) → s ≡ old → AreKept s → HasOther old n
    → r ≡ get_or s.rooms (n % STORE_ROOMS) r → IsSome (node_at r n)
live_in_room s old n r same is_kept has is =
    let (others, left, t, keeps, swap) = subst (λ (q : NodesKept). HasOther q n) (sym same) has in
    let live = live_node s.rooms s.given others left n t keeps swap in
    ap (is_some {T = Stored})
    (sym (node_in_room s.rooms (n % STORE_ROOMS) n r (room_there s n r is_kept is) refl) ∙ live.1)

pub kept_case : (s old : NodesKept) (n : ℕ) (r q : Room) → s ≡ old → AreKept s → HasOther old n
    → r ≡ get_or s.rooms (n % STORE_ROOMS) r → Drops r n Kept q
    → IsDropped s.rooms (slice_set s.rooms (n % STORE_ROOMS) q) s.given n []
kept_case s old n r q same is_kept has is drops =
    let (others, left, t, keeps, swap) = subst (λ (p : NodesKept). HasOther p n) (sym same) has in
    is_dropped_kept s.rooms s.given n r is_kept (room_there s n r is_kept is) others left t keeps swap q drops

pub removed_case : (s old : NodesKept) (n : ℕ) (r q : Room) (key : NodeKey) → s ≡ old → AreKept s
    → HasOther old n
    → r ≡ get_or s.rooms (n % STORE_ROOMS) r → Drops r n (Removed key) q
    → IsDropped s.rooms (slice_set s.rooms (n % STORE_ROOMS) q) s.given n (kid_stakes (ever s.given) key)
removed_case s old n r q key same is_kept has is drops =
    let (others, left, t, keeps, swap) = subst (λ (p : NodesKept). HasOther p n) (sym same) has in
    is_dropped_removed s.rooms s.given n r is_kept (room_there s n r is_kept is) others left
    t keeps swap q key
    drops

pub removed_key : (s old : NodesKept) (n : ℕ) (r q : Room) (key : NodeKey) → s ≡ old → AreKept s
    → HasOther old n
    → r ≡ get_or s.rooms (n % STORE_ROOMS) r → Drops r n (Removed key) q → ever s.given n ≡ Some key
removed_key s old n r q key same is_kept has is drops =
    let (others, left, t, keeps, swap) = subst (λ (p : NodesKept). HasOther p n) (sym same) has in
    key_removed s.rooms s.given n r is_kept (room_there s n r is_kept is) others left t keeps swap q key drops

-- ---- kid after kid

-- the kids from the i-th on are still to be given back
pub record IsDropping (old now : NodesKept) (n : ℕ) (ks : List Kid) (i : ℕ) : Type 0 where
  pub sound : AreKept now
  pub given : now.given ≡ old.given
  pub next : NextNeverFalls old now
  pub keeps : (others left : List Stake) (t : Tree) → KeepsFor old others
      → Exchanges others left (stake n t ∷ []) [] → KeepsFor now (on_kids (ever old.given)
      (drop i ks) ++ left)

-- the next kid is the first of those
pub next_kid : (at : KeyAt) (ks : List Kid) (i : ℕ) (d : Kid) → i < length ks
    → on_kids at (drop i ks) ≡ stake (get_or ks i d).node (tree_under at (get_or ks i d).node)
    ∷ on_kids at (drop (i + 1) ks)
next_kid at ks i d within = ap (on_kids at) (drop_more ks i d within)

pub last_kid : (at : KeyAt) (ks : List Kid) (i : ℕ) → length ks ≤ i → on_kids at (drop i ks) ≡ []
last_kid at ks i past = ap (on_kids at) (drop_all i ks past)

pub dropping_begins : (old : NodesKept) (rooms after : Store) (g : Given) (n : ℕ) (key : NodeKey)
    → kept rooms g ≡ old → IsDropped rooms after g n (kid_stakes (ever g) key)
    → IsDropping old (kept after g) n (kids_in key) 0
dropping_begins old rooms after g n key is dropped =
    subst (λ (s : NodesKept). IsDropping s (kept after g) n (kids_in key) 0) is
    (record { sound = dropped.sound; given = refl; next = dropped.next; keeps = dropped.keeps })

pub kid_requires : (old now : NodesKept) (n : ℕ) (ks : List Kid) (i : ℕ) (d : Kid) → HasOther old n
    → IsDropping old now n ks i → i < length ks → HasOther now (get_or ks i d).node
kid_requires old now n ks i d (others, left, t, keeps, swap) dropping within =
    let at = ever old.given in
    let x = stake (get_or ks i d).node (tree_under at (get_or ks i d).node) in
    let rest = on_kids at (drop (i + 1) ks) ++ left in (
      x ∷ rest,
      rest,
      tree_under at (get_or ks i d).node,
      subst (λ (l : List Stake). KeepsFor now (l ++ left)) (next_kid at ks i d within)
          (dropping.keeps others left t keeps swap),
      first_taken x rest,
    )

pub dropping_goes_on : (old now then : NodesKept) (n : ℕ) (ks : List Kid) (i : ℕ) (d : Kid)
    → IsDropping old now n ks i → i < length ks → then.given ≡ now.given
    → GivesBack now (get_or ks i d).node then → NextNeverFalls now then → AreKept then
    → IsDropping old then n ks (i + 1)
dropping_goes_on old now then n ks i d dropping within given keeps next sound =
    let at = ever old.given in
    record {
      sound = sound;
      given = given ∙ dropping.given;
      next = next_then old now then dropping.next next;
      keeps = λ others left t before swap.
          let x = stake (get_or ks i d).node (tree_under at (get_or ks i d).node) in
          let rest = on_kids at (drop (i + 1) ks) ++ left in
          keeps (x ∷ rest) rest (tree_under at (get_or ks i d).node)
          (subst (λ (l : List Stake). KeepsFor now (l ++ left)) (next_kid at ks i d within)
          (dropping.keeps others left t before swap)) (first_taken x rest);
    }

pub dropping_ends : (old now : NodesKept) (n : ℕ) (ks : List Kid) (i : ℕ) → IsDropping old now n ks i
    → length ks ≤ i → GivesBack old n now
dropping_ends old now n ks i dropping past others left t keeps swap =
    subst (λ (l : List Stake). KeepsFor now (l ++ left)) (last_kid (ever old.given) ks i past)
    (dropping.keeps others left t keeps swap)

-- a kid is lower than the node
pub kid_is_lower : (s : NodesKept) (n : ℕ) (key : NodeKey) (i : ℕ) (d : Kid) → AreKept s
    → ever s.given n ≡ Some key
    → i < length (kids_in key)
    → option_map_or (λ (k : NodeKey). k.height) (ever s.given (get_or (kids_in key) i d).node) 0
    < option_map_or (λ (k : NodeKey). k.height) (ever s.given n) 0
kid_is_lower s n key i d is_kept is within =
    let c = get_or (kids_in key) i d in
    let (u, stands, lower) = kid_of_standing (ever s.given) n (tree_under (ever s.given) n) key i c
    (is_kept.stand n key is) is (slice_get-get_or (kids_in key) i d within) in
    let own = ap (λ (o : Option NodeKey). option_map_or (λ (k : NodeKey). k.height) o 0) is in
    let low = ap (λ (o : Option NodeKey). option_map_or (λ (k : NodeKey). k.height) o 0) stands.2 in
    omega (arith, own, low, lower, stands.3.height)

abbrev pub height_at : Given → ℕ → ℕ
height_at g n = option_map_or (λ (k : NodeKey). k.height) (ever g n) 0

-- so the recursion ends
pub kid_falls : (s old now : NodesKept) (n : ℕ) (key : NodeKey) (i : ℕ) (d : Kid) → s ≡ old
    → now.given ≡ old.given
    → AreKept s → ever s.given n ≡ Some key → i < length (kids_in key)
    → height_at now.given (get_or (kids_in key) i d).node < height_at old.given n
kid_falls s old now n key i d same given is_kept is within =
    let lower = kid_is_lower s n key i d is_kept is within in
    let one = ap (λ (q : NodesKept). height_at q.given n) same in
    let two = ap (λ (q : NodesKept). height_at q.given (get_or (kids_in key) i d).node) same in
    let three = ap (λ (g : Given). height_at g (get_or (kids_in key) i d).node) given in
    omega (arith, lower, one, two, three)
