-- What a stake leads to stays, as long as the stake does.
use Rattle.std.proofs.Common.{◌≡◌, inl, inr, ℕ, ◌+◌, ◌-◌, ◌≤◌, ◌%◌, Contains, List, Option, Some, None, Ok, sym, ap}
use Rattle.std.proofs.Common.{◌∙◌, arith, subst, slice_get, slice_set}
use Rattle.std.proofs.lemmas.Bool.{cases_eq}
use Rattle.std.proofs.lemmas.Option.{none-some, same_Some}
use Rattle.list_lemmas.proofs.Members.{IsAmong, IsAmong-from_Contains}
use Rattle.node_key.specs.Keys.{numbered}
use Rattle.node_key.specs.Leads.{KeepsLed, Leads, here, below}
use Rattle.node_key.specs.Rooms.{room}
use Rattle.node_key.specs.Stands.{KeyAt, Stands}
use Rattle.node_key.specs.Tree.{Tree}
use Rattle.node_key.specs.declared.key.Kid.{Kid}
use Rattle.node_key.specs.declared.key.NodeKey.{NodeKey}
use Rattle.node_key.specs.declared.limits.TheConstants.{STORE_ROOMS}
use Rattle.node_key.specs.declared.stake.Stake.{Stake}
use Rattle.node_key.proofs.Leading.{leads-back, leads-same}
use Rattle.shard_core.specs.declared.limits.TheConstants.{MAX_COUNT}
use Rattle.shard_core.specs.Interning.{Drops, Interns}
use Rattle.shard_core.specs.Room.{HasNode, Room, Stored, next_number, with_new, with_node, without}
use Rattle.shard_core.specs.declared.answers.Dropped.{Dropped}
use Rattle.shard_core.specs.declared.answers.Dropped.TheVariants.{Kept, Removed}
use Rattle.shard_core.specs.declared.answers.Interned.{Interned}
use Rattle.shard_core.specs.declared.answers.Interned.TheVariants.{Known, New}
use Rattle.store_laws.specs.Counted.{IsStore}
use Rattle.store_laws.specs.Reached.{IsReached, staked, below as reached_below}
use Rattle.store_laws.specs.Store.{IsCanonic, Store, key_in, kids_in, node_in}
use Rattle.store_laws.specs.StoreSteps.{IsStoreStep, interned, dropped}
use Rattle.store_laws.proofs.CanonicKeys.{key_of_node, node_of_key}
use Rattle.store_laws.proofs.StepsInRooms.{IsChanged, changed_with_new, changed_with_node, changed_without}
use Rattle.store_laws.proofs.StepsInRooms.{next_is_fresh, next_is_here, node, node_in_room}
use Rattle.store_laws.proofs.StepsOfKids.{Stands-carried}
use Rattle.store_laws.proofs.SubtreesStand.{kid_tree}

-- ---- wherever keys are found

-- no number has one key before and another after
abbrev pub OneKeyEach : KeyAt → KeyAt → Type 0
OneKeyEach before after = (n : ℕ) (a b : NodeKey) → before n ≡ Some a → after n ≡ Some b → a ≡ b

-- the kids of a number that stands for a tree stand for trees
kid_of_stands : (at : KeyAt) (n : ℕ) (key : NodeKey) (k : Kid) (t : Tree) → Stands at n t → at n ≡ Some key
    → Contains (kids_in key) k → (u : Tree) × Stands at k.node u
kid_of_stands at n key k t (own, ns, is, of, stand) at_n has =
    let kids : kids_in key ≡ numbered t.kids ns = ap kids_in (same_Some key own (sym at_n ∙ is)) ∙ of.kids in
    let among = subst (λ (l : List Kid). IsAmong l k) kids (IsAmong-from_Contains (kids_in key) k has) in
    let (u, under, stands) = kid_tree at t.kids ns k stand among in (u, stands)

-- all that a number leads to that stands for a tree stands for one
pub led_stands : (at : KeyAt) (from : ℕ) (t : Tree) → Stands at from t → (n : ℕ) → Leads at from n
    → (u : Tree) × Stands at n u
led_stands at from t stands n here = (t, stands)
led_stands at from t stands n (below m key k up is has) =
    let (u, above) = led_stands at from t stands m up in kid_of_stands at m key k u above is has

module _ (before after : KeyAt) (from : ℕ) (t u : Tree) (one : OneKeyEach before after)
    (was : Stands before from t) (is_now : Stands after from u) where
  stands_after : (n : ℕ) → Leads before from n → (v : Tree) × Stands after n v
  stands_after n here = (u, is_now)
  stands_after n (below m key k up is has) =
      let (v, above) = stands_after m up in
      let same : above.0 ≡ key = sym (one m key above.0 is above.2) in
      kid_of_stands after m key k v above (above.2 ∙ ap (λ (x : NodeKey). Some x) same) has

  key_led : (n : ℕ) → Leads before from n → (key : NodeKey) × (before n ≡ Some key) × (after n ≡ Some key)
  key_led n leads =
      let (v, old) = led_stands before from t was n leads in
      let (w, new) = stands_after n leads in
      (old.0, old.2, new.2 ∙ ap (λ (x : NodeKey). Some x) (sym (one n old.0 new.0 old.2 new.2)))

  same_led : (n : ℕ) → Leads before from n → after n ≡ before n
  same_led n leads = let (key, old, new) = key_led n leads in new ∙ sym old

  trees_still : (n : ℕ) (v : Tree) → Leads before from n → Stands before n v → Stands after n v
  trees_still n v leads stands = Stands-carried before after (Leads before from) (record {
    keeps = λ m key led is. same_led m led ∙ is;
    below = λ m key c led is has. below m key c led is has;
  }) n v leads stands

  trees_before : (n : ℕ) (v : Tree) → Leads before from n → Stands after n v → Stands before n v
  trees_before n v leads stands = Stands-carried after before (Leads before from) (record {
    keeps = λ m key led is. sym (same_led m led) ∙ is;
    below = λ m key c led is has. below m key c led (sym (same_led m led) ∙ is) has;
  }) n v leads stands

  -- a number that stands before and after leads to the same
  pub keeps_led : KeepsLed before after from
  keeps_led = record {
    led = λ n. (leads-same before after from same_led n, leads-back before after from same_led n);
    keys = key_led;
    trees = λ n v leads. (trees_still n v leads, trees_before n v leads);
  }

-- ---- one step of a store

-- under one number there is another count, or another node where there was none, or none
one_key_changed : (rooms after : Store) (n : ℕ) (o : Option Stored) → IsChanged rooms after n o
    → ((s u : Stored) → node_in rooms n ≡ Some s → o ≡ Some u → s.key ≡ u.key)
    → OneKeyEach (key_in rooms) (key_in after)
one_key_changed rooms after n o changed same m a b old new = elim (cases_eq m n) [
  | inl is ↦ (
      let (s, at_s, is_s) = node_of_key rooms m a old in
      let (u, at_u, is_u) = node_of_key after m b new in
      sym is_s ∙ same s u (ap (node_in rooms) (sym is) ∙ at_s)
      (sym changed.here ∙ ap (node_in after) (sym is) ∙ at_u) ∙ is_u)
  | inr other ↦ (
      let (s, at_s, is_s) = node_of_key rooms m a old in
      let (u, at_u, is_u) = node_of_key after m b new in
      let one = same_Some s u (sym at_s ∙ sym (changed.others m other) ∙ at_u) in
      sym is_s ∙ ap (λ (x : Stored). x.key) one ∙ is_u)
]

-- another count of a node
one_key_recounted : (rooms : Store) (i n : ℕ) (key : NodeKey) (old : Room) (b c : ℕ) → IsCanonic rooms
    → slice_get rooms i ≡ Some old → HasNode old n key b → 1 ≤ c → c ≤ MAX_COUNT
    → OneKeyEach (key_in rooms) (key_in (slice_set rooms i (with_node old n key c)))
one_key_recounted rooms i n key old b c canonic at has least most =
    let own = canonic.sound i old at in
    let here_is : n % STORE_ROOMS ≡ i = (own.1.placed n key b has).number ∙ own.0 in
    let found = node_in_room rooms i n old at here_is ∙ has in
    one_key_changed rooms (slice_set rooms i (with_node old n key c)) n (Some (node key c))
    (changed_with_node rooms i n key old b c canonic at here_is has least most)
    (λ s u was is. ap (λ (x : Stored). x.key) (sym (same_Some (node key b) s (sym found ∙ was)))
    ∙ ap (λ (x : Stored). x.key) (same_Some (node key c) u is))

one_key_interned : (rooms : Store) (key : NodeKey) (answer : Interned) (old r : Room) → IsCanonic rooms
    → slice_get rooms (room key) ≡ Some old → Interns old key (Ok answer) r
    → OneKeyEach (key_in rooms) (key_in (slice_set rooms (room key) r))
one_key_interned rooms key (Known n) old r canonic at (c, has, few, after) =
    subst (λ (q : Room). OneKeyEach (key_in rooms) (key_in (slice_set rooms (room key) q))) (sym after)
    (one_key_recounted rooms (room key) n key old c (c + 1) canonic at has (omega arith) (omega (arith, few)))
one_key_interned rooms key (New n) old r canonic at (absent, few, number, after) =
    let own = canonic.sound (room key) old at in
    let none : node_in rooms (next_number old) ≡ None =
    node_in_room rooms (room key) (next_number old) old at (next_is_here old own.1 ∙ own.0)
    ∙ next_is_fresh old own.1 in
    subst (λ (q : Room). OneKeyEach (key_in rooms) (key_in (slice_set rooms (room key) q))) (sym after)
    (one_key_changed rooms (slice_set rooms (room key) (with_new old key)) (next_number old)
    (Some (node key 1)) (changed_with_new rooms key old canonic at absent few)
    (λ s u was is. absurd (none-some s (sym none ∙ was))))

one_key_dropped : (rooms : Store) (n : ℕ) (answer : Dropped) (old r : Room) → IsCanonic rooms
    → slice_get rooms (n % STORE_ROOMS) ≡ Some old → Drops old n answer r
    → OneKeyEach (key_in rooms) (key_in (slice_set rooms (n % STORE_ROOMS) r))
one_key_dropped rooms n Kept old r canonic at (key, c, has, many, after) =
    let own = canonic.sound (n % STORE_ROOMS) old at in
    let placed = own.1.placed n key c has in
    subst (λ (q : Room). OneKeyEach (key_in rooms) (key_in (slice_set rooms (n % STORE_ROOMS) q))) (sym after)
    (one_key_recounted rooms (n % STORE_ROOMS) n key old c (c - 1) canonic at has (omega (arith, many))
    (omega (arith, placed.most)))
one_key_dropped rooms n (Removed key) old r canonic at (has, after) =
    subst (λ (q : Room). OneKeyEach (key_in rooms) (key_in (slice_set rooms (n % STORE_ROOMS) q))) (sym after)
    (one_key_changed rooms (slice_set rooms (n % STORE_ROOMS) (without old n)) n None
    (changed_without rooms n old canonic at) (λ s u was is. absurd (none-some u is)))

one_key_stepped : (rooms after : Store) → IsCanonic rooms → IsStoreStep rooms after
    → OneKeyEach (key_in rooms) (key_in after)
one_key_stepped rooms after canonic (interned key answer old r at interns) =
    one_key_interned rooms key answer old r canonic at interns
one_key_stepped rooms after canonic (dropped n answer old r at drops) =
    one_key_dropped rooms n answer old r canonic at drops

-- what a stake leads to stays where the stake does
pub led-kept : (rooms after : Store) (held left : List Stake) (x : Stake) → IsStore rooms held
    → IsStore after left → IsStoreStep rooms after → Contains held x → Contains left x
    → KeepsLed (key_in rooms) (key_in after) x.number
led-kept rooms after held left x store store' step was is =
    keeps_led (key_in rooms) (key_in after) x.number x.tree x.tree
    (one_key_stepped rooms after store.canonic step) (store.counted.stands x was)
    (store'.counted.stands x is)

-- ... with its keys and its trees
pub stands-kept : (rooms after : Store) (held left : List Stake) (x : Stake) (n : ℕ) (s : Stored) (t : Tree)
    → IsStore rooms held → IsStore after left → IsStoreStep rooms after → Contains held x → Contains left x
    → Leads (key_in rooms) x.number n → node_in rooms n ≡ Some s → Stands (key_in rooms) n t
    → (key_in after n ≡ Some s.key) × Stands (key_in after) n t
stands-kept rooms after held left x n s t store store' step was is leads found stands =
    let kept = led-kept rooms after held left x store store' step was is in
    let (key, old, new) = kept.keys n leads in
    let same = sym old ∙ key_of_node rooms n s found in
    (new ∙ same, (kept.trees n t leads).0 stands)

-- ---- what stakes reach

pub reached-leads : (rooms : Store) (held : List Stake) (n : ℕ) → IsReached rooms held n
    → (x : Stake) × Contains held x × Leads (key_in rooms) x.number n
reached-leads rooms held n (staked x has) = (x, has, here)
reached-leads rooms held n (reached_below m s k up is has) =
    let (x, among, leads) = reached-leads rooms held m up in
    (x, among, below m s.key k leads (key_of_node rooms m s is) has)

pub leads-reached : (rooms : Store) (held : List Stake) (x : Stake) (n : ℕ) → Contains held x
    → Leads (key_in rooms) x.number n → IsReached rooms held n
leads-reached rooms held x n among here = staked x among
leads-reached rooms held x n among (below m key k up is has) =
    let (s, found, same) = node_of_key rooms m key is in
    reached_below m s k (leads-reached rooms held x m among up) found
    (subst (λ (a : NodeKey). Contains (kids_in a) k) (sym same) has)
