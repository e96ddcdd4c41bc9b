-- What follows from a key that was stored, once its kids' stakes are given for it.
use Rattle.std.proofs.Common.{◌≡◌, ℕ, ◌+◌, ◌≤◌, List, [], ◌∷◌, ◌++◌, None, Some, Ok, Err, sym}
use Rattle.std.proofs.Common.{ap, ◌∙◌, arith, subst, slice_get}
use Rattle.node_key.specs.Rooms.{room}
use Rattle.node_key.specs.Stakes.{Exchanges, HasStakes, IsOverStakes, stake, times}
use Rattle.node_key.specs.declared.stake.Stake.{Stake}
use Rattle.node_key.specs.Stands.{KeyAt, Stands}
use Rattle.node_key.specs.Tree.{Tree}
use Rattle.node_key.specs.declared.key.NodeKey.{NodeKey}
use Rattle.node_key.proofs.StakeLaws.{has_before}
use Rattle.shard_core.specs.Interning.{Interns}
use Rattle.shard_core.specs.Room.{Room}
use Rattle.shard_core.specs.declared.answers.Interned.{Interned}
use Rattle.shard_core.specs.declared.answers.Interned.TheVariants.{Known, New}
use Rattle.shard_core.specs.declared.answers.ShardFault.{ShardFault}
use Rattle.shard_core.specs.declared.answers.ShardFault.TheVariants.{Memory, Spent}
use Rattle.store_laws.specs.Counted.{IsStore}
use Rattle.store_laws.specs.Store.{Store}
use Rattle.store_laws.proofs.StepsAnswered.{interned_known, interned_new}
use Rattle.store_laws.proofs.StepsOfKids.{KidsStand-staked, numbers}
use Rattle.store_laws.proofs.SumsOfStakes.{times_from_there}
use Rattle.node_store.specs.Answering.{AnswersKey, IsFirstGiven, StoresIn, StoresKey, GivesStake, HasKids}
use Rattle.node_store.specs.Answering.{given_after, answered_number}
use Rattle.node_store.specs.Changes.{with_last, with_staked}
use Rattle.node_store.specs.Given.{Given, ever, staked_at, stakes_of}
use Rattle.node_store.specs.Kept.{AreKept, KeepsFor, KeepsNumbers, NextNeverFalls, NodesKept}
use Rattle.node_store.specs.TreeUnder.{kid_stakes, tree_under}
use Rattle.node_store.proofs.Dropping.{next_kept}
use Rattle.node_store.proofs.Storing.{first_of, known_entry, known_key, list, list_there, new_stands, number}
use Rattle.node_store.proofs.Storing.{staked_stands, within}
use Rattle.node_store.proofs.Exchanging.{exchanged_before}
use Rattle.node_store.proofs.Keeping.{kept, number_is}
use Rattle.node_store.proofs.KidLoops.{same_next}
use Rattle.node_store.proofs.Staking.{ever-with_staked, key_of_new, keys_kept, one_more, restaked_given}
use Rattle.node_store.proofs.Staking.{restaked_new}
use Rattle.node_store.proofs.Staking.{never_given, staked_now, staked_once}
use Rattle.node_store.proofs.TreesUnder.{kid_stakes_are, stands_still, tree_is}

-- what is told of the numbers that were given, by the answer
pub record IsAnswered (old : NodesKept) (key : NodeKey) (n : ℕ) (g : Given) : Type 0 where
  pub keys : (m : ℕ) (k : NodeKey) → ever old.given m ≡ Some k → ever g m ≡ Some k
  pub key_is : ever g n ≡ Some key
  pub more : (t : Tree) (kids : List Stake) → IsOverStakes t kids key → HasStakes (stakes_of old.given) kids
      → Exchanges (stakes_of old.given) (stakes_of g) [] (stake n t ∷ [])

module _ (old : NodesKept) (key : NodeKey) (r q : Room) (is_kept : AreKept old)
    (there : slice_get old.rooms (room key) ≡ Some r) (others : List Stake) (keeps : KeepsFor old others)
  where
    -- what the stakes are over stands where the key is
    known_stands : (n : ℕ) (t : Tree) (kids : List Stake) → ever old.given n ≡ Some key
        → IsOverStakes t kids key
        → HasStakes (stakes_of old.given) kids → Stands (ever old.given) n t
    known_stands n t kids at over has = (
      key,
      numbers kids,
      at,
      over.key_of,
      KidsStand-staked (ever old.given) t.kids kids over.kids
          (λ x among. staked_stands old x is_kept (omega (arith, has x, times_from_there x kids among))),
    )

    known_answered : (n : ℕ) → Interns r key (Ok (Known n)) q
        → IsAnswered old key n (with_staked old.given n (staked_at old.given n + 1))
    known_answered n interns =
        let g = old.given in
        let c = staked_at g n + 1 in
        let entry = known_entry old key r is_kept there n q others keeps interns in
        let at = known_key old key r is_kept there n q others keeps interns in
        let same = ever-with_staked g n entry.0 c entry.1 in
        record {
          keys = λ m k is. ap (λ (at : KeyAt). at m) same ∙ is;
          key_is = ap (λ (at : KeyAt). at n) same ∙ at;
          more = λ t kids over has.
              subst (λ (u : Tree). Exchanges (stakes_of g) (stakes_of (with_staked g n c)) []
              (stake n u ∷ []))
              (tree_is (ever g) n t (known_stands n t kids at over has))
              (one_more g (with_staked g n c) n (tree_under (ever g) n) (restaked_given g n entry.0 c entry.1)
              (staked_now g n entry.0 c entry.1));
        }

    new_number_is : (n : ℕ) → Interns r key (Ok (New n)) q → number old key r is_kept there ≡ n
    new_number_is n (absent, below, is_number, is) =
        sym (number_is old.rooms old.given key r (list old key r is_kept there) (record {
          func = 0;
          dur = 0;
          kids = Rattle.node_key.specs.Tree.no_kids;
        }) is_kept keeps.canonic there (list_there old key r is_kept there)
        absent below) ∙ sym is_number

    new_answered : (n : ℕ) → Interns r key (Ok (New n)) q
        → IsAnswered old key n (with_last old.given (room key) (first_of key))
    new_answered n interns =
        let g = old.given in
        let low = within old key r is_kept there in
        let es = list old key r is_kept there in
        let at = list_there old key r is_kept there in
        let after = with_last g (room key) (first_of key) in
        subst (λ (m : ℕ). IsAnswered old key m after) (new_number_is n interns) (record {
          keys = keys_kept g (room key) es key low at;
          key_is = key_of_new g (room key) es key low at;
          more = λ t kids over has.
              one_more g after (number old key r is_kept there) t
              (restaked_new g (room key) es key low at t is_kept.stand
              (new_stands old key r is_kept there t kids over has))
              (staked_once g (room key) es key low at);
        })

answered_by : (old : NodesKept) (key : NodeKey) (answer : Interned) (r q : Room) → AreKept old
    → slice_get old.rooms (room key) ≡ Some r → (others : List Stake) → KeepsFor old others
    → Interns r key (Ok answer) q → IsAnswered old key (answered_number answer) (given_after old.given key
    answer)
answered_by old key (Known n) r q is_kept there others keeps interns =
    known_answered old key r q is_kept there others keeps n interns
answered_by old key (New n) r q is_kept there others keeps interns =
    new_answered old key r q is_kept there others keeps n interns

pub answered : (old new : NodesKept) (key : NodeKey) (answer : Interned) → AreKept old
    → ((others : List Stake) × KeepsFor old others) → StoresIn old key answer new
    → IsAnswered old key (answered_number answer) new.given
answered old new key answer is_kept (others, keeps) stored =
    subst (IsAnswered old key (answered_number answer)) (sym stored.given)
    (answered_by old key answer stored.before stored.after is_kept stored.there others keeps
    stored.interns)

-- ---- the stakes on the kids

module _ (old new : NodesKept) (key : NodeKey) (n : ℕ) (is_kept : AreKept old)
    (is : IsAnswered old key n new.given) (t : Tree) (kids : List Stake) (over : IsOverStakes t kids key)
    (has : HasStakes (stakes_of old.given) kids) where
  pub kids_after : kid_stakes (ever new.given) key ≡ kids
  kids_after = kid_stakes_are (ever new.given) t kids key over (λ x among.
      tree_is (ever new.given) x.number x.tree (stands_still (ever old.given) (ever new.given) is.keys
      x.number
      x.tree (staked_stands old x is_kept (omega (arith, has x, times_from_there x kids among)))))

  pub has_after : HasStakes (stakes_of new.given) (kid_stakes (ever new.given) key)
  has_after = subst (HasStakes (stakes_of new.given)) (sym kids_after)
      (λ x. omega (arith, has x, is.more t kids over has x))

  pub gives_stake : (last : Given)
      → Exchanges (stakes_of new.given) (stakes_of last) (kid_stakes (ever new.given) key) []
      → Exchanges (stakes_of old.given) (stakes_of last) kids (stake n t ∷ [])
  gives_stake last taken x =
      let same = ap (times x) kids_after in
      omega (arith, taken x, same, is.more t kids over has x)

pub has_kids_after : (old new : NodesKept) (key : NodeKey) (n : ℕ) → AreKept old → IsAnswered old key n
    new.given
    → HasKids old key → HasStakes (stakes_of new.given) (kid_stakes (ever new.given) key)
has_kids_after old new key n is_kept is (t, kids, over, has) =
    has_after old new key n is_kept is t kids over has

-- ---- the nodes

-- a known key is counted once more
pub known_keeps : (old new : NodesKept) (key : NodeKey) (n : ℕ) → IsAnswered old key n new.given
    → HasKids old key
    → StoresIn old key (Known n) new → (others : List Stake) → KeepsFor old others → KeepsFor new others
known_keeps old new key n is (t, kids, over, has) stored others keeps =
    let held = stakes_of old.given ++ others in
    let left = stakes_of new.given ++ others in
    subst (λ (rooms : Store). IsStore rooms left) (sym stored.rooms)
    (interned_known old.rooms held left kids t key stored.before stored.after n keeps stored.there over
    (has_before (stakes_of old.given) others kids has) stored.interns
    (exchanged_before (stakes_of old.given) (stakes_of new.given) others [] (stake n t ∷ [])
    (is.more t kids over has)))

-- a new one has the stakes on its kids
pub new_keeps : (old new last : NodesKept) (key : NodeKey) (n : ℕ) → AreKept old → IsAnswered old key n
    new.given
    → HasKids old key → StoresIn old key (New n) new → last.rooms ≡ new.rooms
    → Exchanges (stakes_of new.given) (stakes_of last.given) (kid_stakes (ever new.given) key) []
    → (others : List Stake) → KeepsFor old others → KeepsFor last others
new_keeps old new last key n is_kept is (t, kids, over, has) stored same taken others keeps =
    let held = stakes_of old.given ++ others in
    let left = stakes_of last.given ++ others in
    subst (λ (rooms : Store). IsStore rooms left) (sym (same ∙ stored.rooms))
    (interned_new old.rooms held left kids t key stored.before stored.after n keeps stored.there over
    (has_before (stakes_of old.given) others kids has) stored.interns
    (exchanged_before (stakes_of old.given) (stakes_of last.given) others kids (stake n t ∷ [])
    (gives_stake old new key n is_kept is t kids over has last.given taken)))

rises : (r q : Room) (key : NodeKey) (answer : Interned) → Interns r key (Ok answer) q → r.next ≤ q.next
rises r q key (Known n) (c, has, below, is) = let next = ap (λ (x : Room). x.next) is in omega (arith, next)
rises r q key (New n) (absent, below, number, is) = let next = ap (λ (x : Room). x.next) is in
    omega (arith, next)

pub stored_next : (old new : NodesKept) (key : NodeKey) (answer : Interned) → StoresIn old key answer new
    → NextNeverFalls old new
stored_next old new key answer stored =
    subst (λ (rooms : Store). NextNeverFalls old (kept rooms new.given)) (sym stored.rooms)
    (next_kept old.rooms (room key) stored.before stored.after stored.there
    (rises stored.before stored.after key answer stored.interns) old.given new.given)

pub refused_next : (old new : NodesKept) (key : NodeKey) (fault : ShardFault)
    → StoresKey old key (Err fault) new
    → NextNeverFalls old new
refused_next old new key Memory is = same_next old new (ap (λ (s : NodesKept). s.rooms) is)
refused_next old new key (Spent v) (spent, is) = same_next old new (ap (λ (s : NodesKept). s.rooms) is)

-- ---- the clauses

-- a new number was never given
fresh_by : (old : NodesKept) (key : NodeKey) (answer : Interned) (r q : Room) → AreKept old
    → slice_get old.rooms (room key) ≡ Some r → (others : List Stake) → KeepsFor old others
    → Interns r key (Ok answer) q → IsFirstGiven old.given answer
fresh_by old key (Known n) r q is_kept there others keeps interns = tt
fresh_by old key (New n) r q is_kept there others keeps interns =
    subst (λ (m : ℕ). ever old.given m ≡ None) (new_number_is old key r q is_kept there others keeps n
    interns)
    (never_given old.given (room key) (list old key r is_kept there) key (within old key r is_kept there)
    (list_there old key r is_kept there))

pub answers_key : (old new last : NodesKept) (key : NodeKey) (answer : Interned) → AreKept old
    → ((others : List Stake) × KeepsFor old others) → StoresIn old key answer new
    → IsAnswered old key (answered_number answer) new.given → ever last.given ≡ ever new.given
    → AnswersKey old key (Ok answer) last
answers_key old new last key answer is_kept (others, keeps) stored is same = record {
  before = stored.before;
  after = stored.after;
  there = stored.there;
  interns = stored.interns;
  key_is = ap (λ (at : KeyAt). at (answered_number answer)) same ∙ is.key_is;
  fresh = fresh_by old key answer stored.before stored.after is_kept stored.there others keeps
      stored.interns;
}

pub keeps_numbers : (old new last : NodesKept) (key : NodeKey) (n : ℕ) → IsAnswered old key n new.given
    → ever last.given ≡ ever new.given → KeepsNumbers old last
keeps_numbers old new last key n is same m k at = ap (λ (at : KeyAt). at m) same ∙ is.keys m k at

pub gives : (old new last : NodesKept) (key : NodeKey) (answer : Interned) → AreKept old
    → IsAnswered old key (answered_number answer) new.given
    → Exchanges (stakes_of new.given) (stakes_of last.given) (kid_stakes (ever new.given) key) []
    → GivesStake old key answer last
gives old new last key answer is_kept is taken t kids over has =
    gives_stake old new key (answered_number answer) is_kept is t kids over has last.given taken
