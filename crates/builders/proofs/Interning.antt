-- What interning and releasing does to stakes on items.
use Rattle.std.proofs.Common.{◌≡◌, ℕ, ◌+◌, ◌-◌, ◌<◌, ◌⊎◌, inl, inr, List, [], ◌∷◌, map, All, drop}
use Rattle.std.proofs.Common.{Ok, Err, refl, sym, ap, subst, get_or, length, ◌∙◌}
use Rattle.std.proofs.lemmas.List.Elements.{All-cons, All-head, All-nil, All-tail}
use Rattle.list_lemmas.proofs.Maps.{map_next}
use Rattle.node_key.specs.Items.{node}
use Rattle.hall_history.specs.Seat.{ExchangesStakes, Seat}
use Rattle.node_key.specs.Stakes.{HasStakes, IsOverStakes, stake}
use Rattle.node_key.specs.declared.stake.Stake.{Stake}
use Rattle.node_key.specs.Tree.{Tree, height}
use Rattle.node_key.specs.declared.item.Item.{Item}
use Rattle.node_key.specs.declared.key.NodeKey.{NodeKey}
use Rattle.node_key.specs.declared.limits.TheConstants.{HEIGHT_BOUND}
use Rattle.shard_core.specs.declared.answers.Interned.{Interned}
use Rattle.shard_core.specs.declared.answers.Interned.TheVariants.{Known, New}
use Rattle.hall_trait.specs.Nodes.{StakesNode}
use Rattle.hall_trait.specs.declared.answers.HallFault.{HallFault}
use Rattle.hall_trait.specs.declared.answers.HallFault.TheVariants as fault
use Rattle.builders.specs.Built.{BuiltFitBetween, StoredItem, built, items_in, stake_on, stakes_held}
use Rattle.builders.specs.Builds.{BuildsItem, Holds, HoldsBetween}
use Rattle.builders.specs.declared.built.BuiltItem.{BuiltItem}
use Rattle.builders.proofs.Bags.{exchanges-among, exchanges-none, exchanges-then, has-among, has-given}
use Rattle.builders.proofs.Placed.{fit-stored}

low-stored : (stored : List StoredItem) → All (λ (i : Item). height i.tree < HEIGHT_BOUND) (items_in stored)
    → All (λ (b : BuiltItem). b.height < HEIGHT_BOUND) (map built stored)
low-stored [] low = All-nil (λ (b : BuiltItem). b.height < HEIGHT_BOUND)
low-stored (s ∷ ss) low =
    All-cons (λ (b : BuiltItem). b.height < HEIGHT_BOUND) (built s) (map built ss)
    (All-head (λ (i : Item). height i.tree < HEIGHT_BOUND) s.item (items_in ss) low)
    (low-stored ss (All-tail (λ (i : Item). height i.tree < HEIGHT_BOUND) s.item (items_in ss) low))

-- what the key over items that are held needs
pub held-within : (seat : Seat) (start end : ℕ) (items : List BuiltItem) (stored : List StoredItem)
    → HoldsBetween seat start end items stored → BuiltFitBetween start end items
held-within seat start end items stored h =
    subst (λ (bs : List BuiltItem). BuiltFitBetween start end bs) (sym h.are)
    (fit-stored start end stored h.placed)

pub held-low : (seat : Seat) (start end : ℕ) (items : List BuiltItem) (stored : List StoredItem)
    → HoldsBetween seat start end items stored → All (λ (b : BuiltItem). b.height < HEIGHT_BOUND) items
held-low seat start end items stored h =
    subst (λ (bs : List BuiltItem). All (λ (b : BuiltItem). b.height < HEIGHT_BOUND) bs) (sym h.are)
    (low-stored stored h.low)

-- the stake on the number that was interned
interned-stake : (old new : Seat) (t : Tree) (kids : List Stake) (interned : Interned) (n : ℕ)
    → (interned ≡ Known n) ⊎ (interned ≡ New n) → StakesNode old new t kids (Ok interned)
    → ExchangesStakes old new kids (stake n t ∷ [])
interned-stake old new t kids interned n (inl e) h =
    subst (λ (i : Interned). StakesNode old new t kids (Ok i)) e h
interned-stake old new t kids interned n (inr e) h =
    subst (λ (i : Interned). StakesNode old new t kids (Ok i)) e h

pub node-built : (old new : Seat) (func start end : ℕ) (items : List BuiltItem) (stored : List StoredItem)
    (key : NodeKey) (interned : Interned) (n : ℕ)
    → IsOverStakes (node func start end (items_in stored)) (stakes_held stored) key
    → (interned ≡ Known n) ⊎ (interned ≡ New n)
    → StakesNode old new (node func start end (items_in stored)) (stakes_held stored) (Ok interned)
    → BuildsItem old new (stakes_held stored) (record
    { at = start; tree = node func start end (items_in stored) })
    (stakes_held stored) (Ok (record { at = start; dur = end - start; height = key.height; number = n }))
node-built old new func start end items stored key interned n over is h = (
  n,
  ap (λ (k : ℕ). let b : BuiltItem = record { at = start; dur = end - start; height = k; number = n } in b)
      over.key_of.height,
  interned-stake old new (node func start end (items_in stored)) (stakes_held stored) interned n is h,
)

pub node-refused : (old new : Seat) (t : Tree) (kids : List Stake) (e : HallFault)
    → StakesNode old new t kids (Err e) → ExchangesStakes old new kids kids
node-refused old new t kids (fault.Spent v) h = exchanges-none old new kids h
node-refused old new t kids fault.Memory h = exchanges-none old new kids h
node-refused old new t kids (fault.Full place) h = absurd h

-- Stakes are given back from the front on: those that are left.
abbrev pub Releasing : Seat → Seat → List BuiltItem → ℕ → Type 0
Releasing old now items i = (stored : List StoredItem) → Holds old items stored
    → ExchangesStakes old now (stakes_held stored) (stakes_held (drop i stored))

-- the stake on the next item is there
pub Releasing-next : (old now : Seat) (items : List BuiltItem) (i : ℕ) (d : BuiltItem) → Releasing old now
    items i
    → i < length items → (stored : List StoredItem) → Holds old items stored
    → (t : Tree) × HasStakes now.stakes (stake (get_or items i d).number t ∷ [])
    × ((new : Seat) → ExchangesStakes now new (stake (get_or items i d).number t ∷ []) []
    → ExchangesStakes old new (stakes_held stored) (stakes_held (drop (i + 1) stored)))
Releasing-next old now items i d r within stored h =
    let here = map_next built stored i d (subst (λ (bs : List BuiltItem). i < length bs) h.are within) in
    let number : (get_or items i d).number ≡ here.0.number =
    ap (λ (bs : List BuiltItem). (get_or bs i d).number) h.are ∙ ap (λ (b : BuiltItem). b.number) here.2 in
    let so_far = subst (λ (ss : List StoredItem). ExchangesStakes old now (stakes_held stored)
    (stakes_held ss))
    here.1 (r stored h) in
    let has = has-given old now (stakes_held stored) (stake_on here.0 ∷ stakes_held (drop (i + 1) stored))
    h.stakes
    so_far in (
      here.0.item.tree,
      subst (λ (n : ℕ). HasStakes now.stakes (stake n here.0.item.tree ∷ [])) (sym number)
          (has-among now.stakes [] (stake_on here.0 ∷ []) (stakes_held (drop (i + 1) stored)) has),
      λ new gone. exchanges-then old now new (stakes_held stored)
          (stake_on here.0 ∷ stakes_held (drop (i + 1) stored)) (stakes_held (drop (i + 1) stored)) so_far
          (exchanges-among now new [] (stake_on here.0 ∷ []) [] (stakes_held (drop (i + 1) stored))
          (subst (λ (n : ℕ). ExchangesStakes now new (stake n here.0.item.tree ∷ []) []) number gone)),
    )
