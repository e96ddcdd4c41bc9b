-- The nodes of a hall after each event: they are those that the stakes of all seats, and the roots that the
-- registry keeps, need.
use Rattle.std.proofs.Common.{◌≡◌, ◌≤◌, ◌%◌, ◌∙◌, ℕ, Contains, List, [], ◌∷◌, ◌++◌, Ok, Some, ap, arith, eqb, eqb-true, eq-eqb, map}
use Rattle.std.proofs.Common.{refl, slice_get, slice_set, subst, sym}
use Rattle.std.proofs.lemmas.List.Elements.{Contains-append_right}
use Rattle.hall_world.specs.Good.{HoldsNodes}
use Rattle.hall_world.specs.OneTree.{IsStakedTree, OneTreeEach}
use Rattle.hall_world.specs.Seats.{AreFreed, handed_over, number_told}
use Rattle.hall_world.specs.World.{all_stakes}
use Rattle.hall_world.specs.declared.world.SeatView.{SeatView}
use Rattle.hall_world.proofs.KeptStores.{drops, has_one}
use Rattle.hall_world.proofs.SeatStakes.{exchanges-set}
use Rattle.hall_world.proofs.StakesTaken.{on_numbers, taken_by_number, taken_out}
use Rattle.list_lemmas.proofs.Booleans.{one_if}
use Rattle.list_lemmas.proofs.Members.{Contains-from_IsAmong, IsAmong-from_Contains, one_that_passes}
use Rattle.list_lemmas.proofs.Members.{part-le-sum_by}
use Rattle.std.proofs.lemmas.List.Sums.{sum_by-cons}
use Rattle.node_key.proofs.StakeLaws.{times-append, times-cons, times-one}
use Rattle.node_key.specs.Leads.{here}
use Rattle.node_key.specs.Rooms.{room}
use Rattle.node_key.specs.Stakes.{Exchanges, HasStakes, stake, times}
use Rattle.node_key.specs.Stands.{Stands}
use Rattle.node_key.specs.Tree.{Tree}
use Rattle.node_key.specs.declared.key.NodeKey.{NodeKey}
use Rattle.node_key.specs.declared.limits.TheConstants.{STORE_ROOMS}
use Rattle.node_key.specs.declared.stake.Stake.{Stake}
use Rattle.registry_core.specs.Registry.{RegistryValue}
use Rattle.registry_core.specs.Roots.{ExchangesRoots, roots_kept, times_root}
use Rattle.shard_core.specs.Interning.{Drops, Interns}
use Rattle.shard_core.specs.Room.{Room}
use Rattle.shard_core.specs.declared.answers.Dropped.{Dropped}
use Rattle.shard_core.specs.declared.answers.Interned.{Interned}
use Rattle.shard_core.specs.declared.answers.Interned.TheVariants.{Known, New}
use Rattle.store_laws.proofs.CanonicTrees.{one_tree}
use Rattle.store_laws.proofs.ReachKept.{led-kept}
use Rattle.store_laws.proofs.StepsAnswered.{interned_known, interned_new}
use Rattle.store_laws.proofs.StoreExchanged.{store_exchanged}
use Rattle.store_laws.proofs.SumsOfStakes.{among_held, on_cons, stakes_exchanged}
use Rattle.store_laws.specs.Counted.{IsStore}
use Rattle.store_laws.specs.Store.{Store, key_in}
use Rattle.store_laws.specs.StoreSteps.{IsStoreStep}

module _ (rooms : Store) (seats : List SeatView) (registry : RegistryValue) (actor : ℕ) (seat after : SeatView)
    (holds : HoldsNodes rooms seats registry) (there : slice_get seats actor ≡ Some seat)
  where
    -- all stakes, of the seats and of the registry, before and after
    abbrev held : List Stake
    held = all_stakes seats ++ holds.roots

    abbrev left : List Stake
    left = all_stakes (slice_set seats actor after) ++ holds.roots

    -- what the seat exchanges all exchange
    swap_all : (taken given : List Stake) → Exchanges seat.stakes after.stakes taken given
        → Exchanges held left taken given
    swap_all taken given swap x =
        omega (
          arith,
          swap x,
          exchanges-set seats actor seat after there x,
          times-append x (all_stakes seats) holds.roots,
          times-append x (all_stakes (slice_set seats actor after)) holds.roots,
        )

    -- what the seat has all have
    has_all : (wanted : List Stake) → HasStakes seat.stakes wanted → HasStakes held wanted
    has_all wanted has x =
        omega (
          arith,
          has x,
          exchanges-set seats actor seat (record seat { stakes = [] }) there x,
          times-append x (all_stakes seats) holds.roots,
        )

    -- a stake of the seat is one of all
    pub seat_held : (x : Stake) → Contains seat.stakes x → Contains held x
    seat_held x among = among_held held seat.stakes x (has_all seat.stakes (λ y. omega arith)) among

    -- each stake of the seat stands for its tree
    pub seat_stands : (x : Stake) → Contains seat.stakes x → Stands (key_in rooms) x.number x.tree
    seat_stands x among = holds.store.counted.stands x (seat_held x among)

    -- so does each of the registry's
    root_stands : (x : Stake) → Contains holds.roots x → Stands (key_in rooms) x.number x.tree
    root_stands x among =
        holds.store.counted.stands x (Contains-append_right (all_stakes seats) holds.roots x among)

    -- stakes that stand and have one number are one
    pub one_stake : (x y : Stake) → Stands (key_in rooms) x.number x.tree → Stands (key_in rooms) y.number y.tree
        → y.number ≡ x.number → y ≡ x
    one_stake x y stands stands' number =
        let tree = one_tree (key_in rooms) x.number y.tree x.tree
        (subst (λ (n : ℕ). Stands (key_in rooms) n y.tree) number stands') stands in
        λ i. record { number = number i; tree = tree i }

    -- so are the seat's
    pub seat_one : OneTreeEach seat.stakes
    seat_one x y at_x at_y number = one_stake y x (seat_stands y at_y) (seat_stands x at_x) number

    -- ---- stakes and roots

    -- the seat's stakes and the registry's roots stay
    pub same_nodes : (r : RegistryValue) → Exchanges seat.stakes after.stakes [] []
        → ((n : ℕ) → times_root n (roots_kept r.traces) ≡ times_root n (roots_kept registry.traces))
        → HoldsNodes rooms (slice_set seats actor after) r
    same_nodes r swap same = record {
      roots = holds.roots;
      of_registry = λ n. holds.of_registry n ∙ sym (same n);
      store = store_exchanged rooms held left holds.store (swap_all [] [] swap);
    }

    -- a stake of the seat becomes one of the registry's
    pub published_nodes : (r : RegistryValue) (root : ℕ) (t : Tree)
        → Exchanges seat.stakes after.stakes (stake root t ∷ []) []
        → ExchangesRoots (roots_kept registry.traces) (roots_kept r.traces) [] (root ∷ [])
        → HoldsNodes rooms (slice_set seats actor after) r
    published_nodes r root t swap gains = record {
      roots = stake root t ∷ holds.roots;
      of_registry = λ n. omega (
        arith,
        gains n,
        holds.of_registry n,
        on_cons n (stake root t) holds.roots,
        sum_by-cons (λ m. one_if (eqb m n)) root [],
      );
      store = store_exchanged rooms held (all_stakes (slice_set seats actor after) ++ stake root t ∷ holds.roots)
          holds.store (λ x. omega (
            arith,
            swap x,
            exchanges-set seats actor seat after there x,
            times-append x (all_stakes seats) holds.roots,
            times-append x (all_stakes (slice_set seats actor after)) (stake root t ∷ holds.roots),
            times-cons x (stake root t) holds.roots,
            times-one x (stake root t),
          ));
    }

    -- roots of the registry become stakes of the seat
    pub freed_nodes : (r : RegistryValue) (numbers : List ℕ) (freed : List Stake)
        → ExchangesRoots (roots_kept registry.traces) (roots_kept r.traces) numbers []
        → map (λ (x : Stake). x.number) freed ≡ numbers
        → ((x : Stake) → Contains freed x → Stands (key_in rooms) x.number x.tree)
        → Exchanges seat.stakes after.stakes [] freed → HoldsNodes rooms (slice_set seats actor after) r
    freed_nodes r numbers freed loses are stand swap =
        let on = λ (n : ℕ). sym (on_numbers n freed) ∙ ap (times_root n) are in
        let has = taken_by_number holds.roots freed
        (λ x y at_x at_y number. one_stake x y (stand x at_x) (root_stands y at_y) number)
        (λ x y at_x at_y number. one_stake x y (stand x at_x) (stand y at_y) number)
        (λ n. omega (arith, on n, loses n, holds.of_registry n)) in
        let (roots, taken) = taken_out holds.roots freed has in
        record {
          roots = roots;
          of_registry = λ n. omega (
            arith,
            loses n,
            holds.of_registry n,
            on n,
            stakes_exchanged n holds.roots roots freed [] taken,
          );
          store = store_exchanged rooms held (all_stakes (slice_set seats actor after) ++ roots)
              holds.store (λ x. omega (
                arith,
                swap x,
                taken x,
                exchanges-set seats actor seat after there x,
                times-append x (all_stakes seats) holds.roots,
                times-append x (all_stakes (slice_set seats actor after)) roots,
              ));
        }

    -- ---- keys and counts

    -- a key is interned
    pub interned_store : (key : NodeKey) (i : Interned) (t : Tree) (kids : List Stake) (before now : Room)
        → slice_get rooms (room key) ≡ Some before → Interns before key (Ok i) now
        → IsStakedTree seat.stakes key t kids
        → Exchanges seat.stakes after.stakes (handed_over i kids) (stake (number_told i) t ∷ [])
        → IsStore (slice_set rooms (room key) now) (all_stakes (slice_set seats actor after) ++ holds.roots)
    interned_store key (Known n) t kids before now at answered staked swap =
        interned_known rooms held left kids t key before now n holds.store at staked.over
        (has_all kids staked.has) answered (swap_all [] (stake n t ∷ []) swap)
    interned_store key (New n) t kids before now at answered staked swap =
        interned_new rooms held left kids t key before now n holds.store at staked.over
        (has_all kids staked.has) answered (swap_all kids (stake n t ∷ []) swap)

    -- a stake that the seat has is had once at least
    one_had : (y x : Stake) → Contains seat.stakes x → times y (x ∷ []) ≤ times y seat.stakes
    one_had y x among = omega (arith, has_one seat.stakes [] x among y, times-append y seat.stakes [])

    -- a stake is given back
    pub dropped_store : (d : Dropped) (x : Stake) (kids : List Stake) (before now : Room)
        → slice_get rooms (x.number % STORE_ROOMS) ≡ Some before → Drops before x.number d now
        → Contains seat.stakes x → AreFreed x.tree d kids
        → Exchanges seat.stakes after.stakes (x ∷ []) kids
        → IsStore (slice_set rooms (x.number % STORE_ROOMS) now) (all_stakes (slice_set seats actor after) ++ holds.roots)
    dropped_store d x kids before now at answered among freed swap =
        drops d rooms held left x kids before now holds.store at
        (λ z. has_all (x ∷ []) (λ y. one_had y x among) z) answered freed (swap_all (x ∷ []) kids swap)

    -- after a step of the store the roots that the registry keeps stand for the trees that they stood for
    pub roots_stand : (now : Store) → IsStoreStep rooms now → IsStore now left → (n : ℕ) (t : Tree)
        → Contains (roots_kept registry.traces) n → Stands (key_in rooms) n t → Stands (key_in now) n t
    roots_stand now step store n t among stands =
        let some : 1 ≤ times_root n (roots_kept registry.traces) =
        omega (
          arith,
          part-le-sum_by (λ m. one_if (eqb m n)) (roots_kept registry.traces) n
              (IsAmong-from_Contains (roots_kept registry.traces) n among),
          ap one_if (eq-eqb n n refl),
        ) in
        let (x, in_roots, same) = one_that_passes (λ (y : Stake). eqb y.number n) holds.roots
        (omega (arith, some, holds.of_registry n)) in
        let number = eqb-true x.number n same in
        let has = Contains-from_IsAmong holds.roots x in_roots in
        let kept = led-kept rooms now held left x holds.store store step
        (Contains-append_right (all_stakes seats) holds.roots x has)
        (Contains-append_right (all_stakes (slice_set seats actor after)) holds.roots x has) in
        subst (λ (m : ℕ). Stands (key_in now) m t) number
        ((kept.trees x.number t here).0 (subst (λ (m : ℕ). Stands (key_in rooms) m t) (sym number) stands))
