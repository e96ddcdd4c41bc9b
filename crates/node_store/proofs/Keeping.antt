-- What holds of the store at every moment still holds after a step.
use Rattle.std.proofs.Common.{◌≡◌, inl, inr, ℕ, ◌+◌, ◌*◌, ◌-◌, ◌/◌, ◌%◌, ◌<◌, ◌≤◌, List, [], ◌∷◌}
use Rattle.std.proofs.Common.{◌++◌, length, length-set, length-append, Option, Some, None, refl, sym, ap, ◌∙◌}
use Rattle.std.proofs.Common.{arith, subst, slice_get, slice_set, option_map}
use Rattle.std.proofs.lemmas.Bool.{cases_eq}
use Rattle.std.proofs.lemmas.Option.{none-some}
use Rattle.list_lemmas.proofs.Positions.{slice_get-set_else, slice_get-set_is}
use Rattle.node_key.specs.Rooms.{room}
use Rattle.node_key.specs.Stands.{KeyAt, Stands}
use Rattle.node_key.specs.Tree.{Tree}
use Rattle.node_key.specs.declared.key.NodeKey.{NodeKey}
use Rattle.node_key.specs.declared.limits.TheConstants.{MAX_NUMBERS, STORE_ROOMS}
use Rattle.shard_core.specs.declared.limits.TheConstants.{MAX_COUNT}
use Rattle.shard_core.specs.Room.{HasNode, IsThere, Room, Stored, next_number, with_new, with_node}
use Rattle.shard_core.specs.Room.{without}
use Rattle.store_laws.specs.Store.{IsCanonic, Store, node_in}
use Rattle.store_laws.proofs.StepsInRooms.{IsChanged, changed_with_new, changed_with_node, changed_without}
use Rattle.store_laws.proofs.StepsInRooms.{node_in_room}
use Rattle.node_store.specs.Changes.{room_list, restaked, with_last, with_staked}
use Rattle.node_store.specs.Given.{Given, ever, given_entry}
use Rattle.node_store.specs.Kept.{AreKept, IsRoomOf, NodesKept}
use Rattle.node_store.specs.TreeUnder.{tree_under}
use Rattle.node_store.specs.declared.numbered.Numbered.{Numbered}
use Rattle.node_store.proofs.GivenEntries.{entry_is, list_is}
use Rattle.node_store.proofs.Staking.{ever-with_staked, key_of_new, key_of_others, keys_kept}
use Rattle.node_store.proofs.TreesUnder.{stands_so, stands_still}

abbrev pub kept : Store → Given → NodesKept
kept rooms g = record { rooms = rooms; given = g }

-- ---- another count of stakes

module _ (g : Given) (n : ℕ) (e : Numbered) (c : ℕ) (is : given_entry g n ≡ Some e) where
  list_staked : (i : ℕ) (es : List Numbered) → slice_get (with_staked g n c).rooms i ≡ Some es
      → (old : List Numbered) × (slice_get g.rooms i ≡ Some old) × (length es ≡ length old)
  list_staked i es at = elim (cases_eq i (n % STORE_ROOMS)) [
    | inl same ↦ (
        let entry = entry_is g n e is in
        let q = n / STORE_ROOMS - g.first in
        let l = restaked (room_list g (n % STORE_ROOMS)) q c in
        let here : l ≡ es = slice_get-set_is g.rooms (n % STORE_ROOMS) i entry.list l es entry.there same at
        in
        let f : Numbered = record { key = e.key; staked = c } in
        let as_set : l ≡ slice_set entry.list q f =
        ap (λ (k : List Numbered). restaked k q c) (list_is g (n % STORE_ROOMS) entry.list entry.there)
        ∙ restaked_is entry.list q e c entry.at in
        let long = ap length (sym here ∙ as_set) ∙ length-set entry.list q f in
        (entry.list, ap (slice_get g.rooms) same ∙ entry.there, long))
    | inr other ↦ (es, sym (slice_get-set_else g.rooms (n % STORE_ROOMS) i _ other) ∙ at, refl)
  ]
    where
      restaked_is : (k : List Numbered) (p : ℕ) (d : Numbered) (m : ℕ) → slice_get k p ≡ Some d
          → restaked k p m ≡ slice_set k p (let f : Numbered = record { key = d.key; staked = m } in f)
      restaked_is k p d m at_p = ap (λ (o : Option Numbered). Rattle.std.specs.Option.option_map_or
          (λ (h : Numbered). slice_set k p (let f : Numbered = record {
            key = h.key;
            staked = m;
          } in f)) o k) at_p

  pub kept_staked : (rooms : Store) → AreKept (kept rooms g) → AreKept (kept rooms (with_staked g n c))
  kept_staked rooms is_kept =
      let same = ever-with_staked g n e c is in
      record {
        count = is_kept.count;
        lists = length-set g.rooms (n % STORE_ROOMS) _ ∙ is_kept.lists;
        room = λ i r es at at_list.
            let (old, at_old, long) = list_staked i es at_list in
            let own = is_kept.room i r old at at_old in
            record { room = own.room; sound = own.sound; next = omega (arith, own.next, long) };
        keys = subst (λ (at : KeyAt). (m : ℕ) (node : Stored) → node_in rooms m ≡ Some node
            → at m ≡ Some node.key)
            (sym same) is_kept.keys;
        stand = subst (λ (at : KeyAt). (m : ℕ) (key : NodeKey) → at m ≡ Some key → Stands at m
            (tree_under at m))
            (sym same) is_kept.stand;
      }

-- ---- another node under a number that was given

module _ (rooms : Store) (g : Given) (i n : ℕ) (old r : Room) (o : Option Stored) (is_kept : AreKept
    (kept rooms g))
    (there : slice_get rooms i ≡ Some old) (changed : IsChanged rooms (slice_set rooms i r) n o)
    (next : r.next ≡ old.next) (key : (node : Stored) → o ≡ Some node → ever g n ≡ Some node.key) where
  room_by : (j : ℕ) (q : Room) (es : List Numbered) → slice_get (slice_set rooms i r) j ≡ Some q
      → slice_get g.rooms j ≡ Some es → q.next ≡ g.first + length es
  room_by j q es at at_list = elim (cases_eq j i) [
    | inl same ↦ (
        let is : r ≡ q = slice_get-set_is rooms i j old r q there same at in
        let own = is_kept.room j old es (ap (slice_get rooms) same ∙ there) at_list in
        sym (ap (λ (x : Room). x.next) is) ∙ next ∙ own.next)
    | inr other ↦ (is_kept.room j q es (sym (slice_get-set_else rooms i j r other) ∙ at) at_list).next
  ]

  key_by : (m : ℕ) (node : Stored) → node_in (slice_set rooms i r) m ≡ Some node → ever g m ≡ Some node.key
  key_by m node is = elim (cases_eq m n) [
    | inl same ↦ (
        ap (ever g) same
        ∙ key node (sym changed.here ∙ sym (ap (node_in (slice_set rooms i r)) same) ∙ is))
    | inr other ↦ is_kept.keys m node (sym (changed.others m other) ∙ is)
  ]

  pub kept_changed : AreKept (kept (slice_set rooms i r) g)
  kept_changed = record {
    count = changed.count;
    lists = is_kept.lists;
    room = λ j q es at at_list.
        let sound = changed.sound j q at in
        record { room = sound.0; sound = sound.1; next = room_by j q es at at_list };
    keys = key_by;
    stand = is_kept.stand;
  }

abbrev node : NodeKey → ℕ → Stored
node key c = record { key = key; count = c }

-- another count of a node
pub kept_with_node : (rooms : Store) (g : Given) (i n : ℕ) (key : NodeKey) (old : Room) (b c : ℕ)
    → AreKept (kept rooms g) → IsCanonic rooms → slice_get rooms i ≡ Some old → n % STORE_ROOMS ≡ i
    → HasNode old n key b → 1 ≤ c → c ≤ MAX_COUNT
    → AreKept (kept (slice_set rooms i (with_node old n key c)) g)
kept_with_node rooms g i n key old b c is_kept canonic there here has least most =
    let at = is_kept.keys n (node key b) (node_in_room rooms i n old there here ∙ has) in
    kept_changed rooms g i n old (with_node old n key c) (Some (node key c)) is_kept there
    (changed_with_node rooms i n key old b c canonic there here has least most) refl
    (λ s is. at ∙ ap (λ (o : Option Stored). option_map (λ (x : Stored). x.key) o) is)

-- a node less
pub kept_without : (rooms : Store) (g : Given) (n : ℕ) (old : Room) → AreKept (kept rooms g) → IsCanonic rooms
    → slice_get rooms (n % STORE_ROOMS) ≡ Some old
    → AreKept (kept (slice_set rooms (n % STORE_ROOMS) (without old n)) g)
kept_without rooms g n old is_kept canonic there =
    kept_changed rooms g (n % STORE_ROOMS) n old (without old n) None is_kept there
    (changed_without rooms n old canonic there) refl (λ s is. absurd (none-some s is))

-- ---- a new number

module _ (rooms : Store) (g : Given) (key : NodeKey) (old : Room) (es : List Numbered) (t : Tree)
    (is_kept : AreKept (kept rooms g)) (canonic : IsCanonic rooms)
    (there : slice_get rooms (room key) ≡ Some old)
    (list : slice_get g.rooms (room key) ≡ Some es) (absent : ¬ IsThere old key)
    (below : old.next < MAX_NUMBERS) where
  abbrev first_of : Numbered
  first_of = record { key = key; staked = 1 }

  abbrev longer : Given
  longer = with_last g (room key) first_of

  abbrev more : Store
  more = slice_set rooms (room key) (with_new old key)

  abbrev number : ℕ
  number = STORE_ROOMS * (g.first + length es) + room key

  own : IsRoomOf g.first (room key) old es
  own = is_kept.room (room key) old es there list

  within : room key < STORE_ROOMS
  within = omega (arith, own.sound.room, own.room)

  pub number_is : next_number old ≡ number
  number_is = omega (arith, own.next, own.room)

  changed : IsChanged rooms more number (Some (node key 1))
  changed = subst (λ (m : ℕ). IsChanged rooms more m (Some (node key 1))) number_is
      (changed_with_new rooms key old canonic there absent below)

  next_by : (j : ℕ) (q : Room) (ks : List Numbered) → slice_get more j ≡ Some q
      → slice_get longer.rooms j ≡ Some ks → q.next ≡ g.first + length ks
  next_by j q ks at at_list = elim (cases_eq j (room key)) [
    | inl same ↦ (
        let is = slice_get-set_is rooms (room key) j old (with_new old key) q there same at in
        let same_list = slice_get-set_is g.rooms (room key) j es (room_list g (room key)
        ++ first_of ∷ []) ks list same
        at_list in
        let long = ap length (sym same_list ∙ ap (λ (l : List Numbered). l ++ first_of ∷ [])
        (list_is g (room key) es list)) ∙ length-append es (first_of ∷ []) in
        let next = ap (λ (x : Room). x.next) (sym is) in
        omega (arith, next, own.next, long))
    | inr other ↦ (is_kept.room j q ks (sym (slice_get-set_else rooms (room key) j (with_new old key) other)
        ∙ at)
        (sym (slice_get-set_else g.rooms (room key) j (room_list g (room key) ++ first_of ∷ []) other)
        ∙ at_list)).next
  ]

  key_of_node : (m : ℕ) (s : Stored) → node_in more m ≡ Some s → ever longer m ≡ Some s.key
  key_of_node m s is = elim (cases_eq m number) [
    | inl same ↦ (
        ap (ever longer) same ∙ key_of_new g (room key) es key within list
        ∙ ap (λ (o : Option Stored). option_map (λ (x : Stored). x.key) o)
        (sym changed.here ∙ sym (ap (node_in more) same) ∙ is))
    | inr other ↦ (
        key_of_others g (room key) es key within list m other
        ∙ is_kept.keys m s (sym (changed.others m other) ∙ is))
  ]

  stand_by : Stands (ever longer) number t → (m : ℕ) (k : NodeKey) → ever longer m ≡ Some k
      → Stands (ever longer) m (tree_under (ever longer) m)
  stand_by stands m k is = elim (cases_eq m number) [
    | inl same ↦ subst (λ (j : ℕ). Stands (ever longer) j (tree_under (ever longer) j)) (sym same)
        (stands_so (ever longer) number t stands)
    | inr other ↦ (
        let before = sym (key_of_others g (room key) es key within list m other) ∙ is in
        stands_so (ever longer) m _ (stands_still (ever g) (ever longer)
        (keys_kept g (room key) es key within list) m _ (is_kept.stand m k before)))
  ]

  pub kept_with_new : Stands (ever longer) number t → AreKept (kept more longer)
  kept_with_new stands = record {
    count = changed.count;
    lists = length-set g.rooms (room key) (room_list g (room key) ++ first_of ∷ []) ∙ is_kept.lists;
    room = λ j q ks at at_list.
        let sound = changed.sound j q at in
        record { room = sound.0; sound = sound.1; next = next_by j q ks at at_list };
    keys = key_of_node;
    stand = stand_by stands;
  }
