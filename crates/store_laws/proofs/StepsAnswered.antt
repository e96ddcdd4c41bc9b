-- What a room answered, and the store after it.
use Rattle.std.proofs.Common.{◌≡◌, ℕ, ◌+◌, ◌-◌, ◌≤◌, ◌%◌, List, [], ◌∷◌, Contains, Some, None, Ok, refl}
use Rattle.std.proofs.Common.{slice_get, slice_set, sym, ◌∙◌, arith, subst, zero-lt-suc}
use Rattle.node_key.specs.Rooms.{room}
use Rattle.node_key.specs.Stakes.{Exchanges, HasStakes, IsOverStakes}
use Rattle.node_key.specs.declared.stake.Stake.{Stake}
use Rattle.node_key.specs.Stands.{Stands}
use Rattle.node_key.specs.Tree.{Tree}
use Rattle.node_key.specs.declared.key.NodeKey.{NodeKey}
use Rattle.node_key.specs.declared.limits.TheConstants.{STORE_ROOMS}
use Rattle.shard_core.specs.declared.limits.TheConstants.{MAX_COUNT}
use Rattle.shard_core.specs.declared.answers.Dropped.TheVariants.{Kept, Removed}
use Rattle.shard_core.specs.declared.answers.Interned.TheVariants.{Known, New}
use Rattle.shard_core.specs.Interning.{Drops, Interns}
use Rattle.shard_core.specs.Room.{Room, next_number, with_new, with_node, without}
use Rattle.store_laws.specs.Counted.{IsStore, stakes_on}
use Rattle.store_laws.specs.Store.{Store, key_in, node_in}
use Rattle.store_laws.proofs.StepsInRooms.{changed_with_new, changed_with_node, changed_without, node}
use Rattle.store_laws.proofs.StepsInRooms.{next_is_fresh, next_is_here, node_in_room}
use Rattle.store_laws.proofs.StepsNew.{only, stake, with_another}
use Rattle.store_laws.proofs.StepsOfKids.{KidsStand-staked, numbers}
use Rattle.store_laws.proofs.StepsRecounted.{recounted}
use Rattle.store_laws.proofs.StepsRemoved.{kids_of_stake, without_it}
use Rattle.store_laws.proofs.SumsOfRooms.{sum_with_new, sum_with_node, sum_without}
use Rattle.store_laws.proofs.SumsOfStakes.{among_held, on_none, on_one}
use Rattle.store_laws.proofs.CanonicKeys.{key_of_node}

-- a key that is new
pub interned_new : (rooms : Store) (held left kids : List Stake) (t : Tree) (key : NodeKey) (old r : Room)
    (n : ℕ) → IsStore rooms held → slice_get rooms (room key) ≡ Some old → IsOverStakes t kids key
    → HasStakes held kids → Interns old key (Ok (New n)) r → Exchanges held left kids (stake n t ∷ [])
    → IsStore (slice_set rooms (room key) r) left
interned_new rooms held left kids t key old r n store at over has (absent, below, number, after) swap =
    let own = store.canonic.sound (room key) old at in
    let unknown = next_is_fresh old own.1 in
    let fresh : node_in rooms (next_number old) ≡ None =
    node_in_room rooms (room key) (next_number old) old at (next_is_here old own.1 ∙ own.0) ∙ unknown in
    subst (λ (x : Room). IsStore (slice_set rooms (room key) x) left) (sym after)
    (with_another rooms (slice_set rooms (room key) (with_new old key)) held left kids t key (next_number old)
    store over has fresh (changed_with_new rooms key old store.canonic at absent below)
    (λ f. sum_with_new f rooms (room key) old key at unknown)
    (subst (λ (m : ℕ). Exchanges held left kids (stake m t ∷ [])) number swap))

-- a stake stands where its key is found
stake_stands : (rooms : Store) (held kids : List Stake) (t : Tree) (key : NodeKey) (n b : ℕ)
    → IsStore rooms held → IsOverStakes t kids key → HasStakes held kids → node_in rooms n ≡ Some (node key b)
    → (x : Stake) → Contains (stake n t ∷ []) x → Stands (key_in rooms) x.number x.tree
stake_stands rooms held kids t key n b store over has found x there =
    subst (λ (y : Stake). Stands (key_in rooms) y.number y.tree) (only (stake n t) x there) (
      key,
      numbers kids,
      key_of_node rooms n (node key b) found,
      over.key_of,
      KidsStand-staked (key_in rooms) t.kids kids over.kids
          (λ y among. store.counted.stands y (among_held held kids y has among)),
    )

-- a key that is known
pub interned_known : (rooms : Store) (held left kids : List Stake) (t : Tree) (key : NodeKey) (old r : Room)
    (n : ℕ) → IsStore rooms held → slice_get rooms (room key) ≡ Some old → IsOverStakes t kids key
    → HasStakes held kids → Interns old key (Ok (Known n)) r → Exchanges held left [] (stake n t ∷ [])
    → IsStore (slice_set rooms (room key) r) left
interned_known rooms held left kids t key old r n store at over has (c, there, below, after) swap =
    let own = store.canonic.sound (room key) old at in
    let placed = own.1.placed n key c there in
    let here : n % STORE_ROOMS ≡ room key = placed.number ∙ own.0 in
    let found : node_in rooms n ≡ Some (node key c) = node_in_room rooms (room key) n old at here ∙ there in
    let least : 1 ≤ c + 1 = omega arith in
    let most : c + 1 ≤ MAX_COUNT = omega (arith, below) in
    let one = on_one n (stake n t) refl in
    let here_more : c + 1 + stakes_on n [] ≡ c + stakes_on n (stake n t ∷ []) = omega (arith, one) in
    subst (λ (x : Room). IsStore (slice_set rooms (room key) x) left) (sym after)
    (recounted rooms (slice_set rooms (room key) (with_node old n key (c + 1))) held left [] (stake n t ∷ [])
    key n c (c + 1) store found
    (changed_with_node rooms (room key) n key old c (c + 1) store.canonic at here there least most)
    (λ f. sum_with_node f rooms (room key) n old (node key c) key (c + 1) at there) swap
    (stake_stands rooms held kids t key n c store over has found) here_more
    (λ m apart. sym (on_none m (stake n t) (λ e. apart (sym e)))))

-- a stake whose node stays
pub dropped_kept : (rooms : Store) (held left : List Stake) (x : Stake) (old r : Room) → IsStore rooms held
    → slice_get rooms (x.number % STORE_ROOMS) ≡ Some old → HasStakes held (x ∷ [])
    → Drops old x.number Kept r → Exchanges held left (x ∷ []) []
    → IsStore (slice_set rooms (x.number % STORE_ROOMS) r) left
dropped_kept rooms held left x old r store at has (key, c, there, above, after) swap =
    let i = x.number % STORE_ROOMS in
    let own = store.canonic.sound i old at in
    let placed = own.1.placed x.number key c there in
    let found : node_in rooms x.number ≡ Some (node key c) =
    node_in_room rooms i x.number old at refl ∙ there in
    let least : 1 ≤ c - 1 = omega (arith, above) in
    let most : c - 1 ≤ MAX_COUNT = omega (arith, placed.most) in
    let one = on_one x.number x refl in
    let one_less : c - 1 + stakes_on x.number (x ∷ []) ≡ c + stakes_on x.number [] =
    omega (arith, one, above) in
    subst (λ (q : Room). IsStore (slice_set rooms i q) left) (sym after)
    (recounted rooms (slice_set rooms i (with_node old x.number key (c - 1))) held left (x ∷ []) [] key
    x.number c (c - 1) store found
    (changed_with_node rooms i x.number key old c (c - 1) store.canonic at refl there least most)
    (λ f. sum_with_node f rooms i x.number old (node key c) key (c - 1) at there) swap
    (λ y among. absurd (omega (arith, among.1))) one_less
    (λ m apart. on_none m x (λ e. apart (sym e))))

-- a stake whose node goes
pub dropped_removed : (rooms : Store) (held : List Stake) (x : Stake) (key : NodeKey) (old r : Room)
    → IsStore rooms held → slice_get rooms (x.number % STORE_ROOMS) ≡ Some old → HasStakes held (x ∷ [])
    → Drops old x.number (Removed key) r → (kids : List Stake) × IsOverStakes x.tree kids key
    × ((left : List Stake) → Exchanges held left (x ∷ []) kids
    → IsStore (slice_set rooms (x.number % STORE_ROOMS) r) left)
dropped_removed rooms held x key old r store at has (there, after) =
    let i = x.number % STORE_ROOMS in
    let found : node_in rooms x.number ≡ Some (node key 1) =
    node_in_room rooms i x.number old at refl ∙ there in
    let among = among_held held (x ∷ []) x has (0, zero-lt-suc 0, refl) in
    let below = kids_of_stake rooms x key (key_of_node rooms x.number (node key 1) found)
    (store.counted.stands x among) in (
      below.kids,
      below.over,
      λ left swap.
          let all_but_it = slice_set rooms i (without old x.number) in
          subst (λ (q : Room). IsStore (slice_set rooms i q) left) (sym after)
          (without_it rooms all_but_it held left below.kids x key store below.over below.stand among found
          (changed_without rooms x.number old store.canonic at)
          (λ f. sum_without f rooms i x.number old (node key 1) at there) swap),
    )
