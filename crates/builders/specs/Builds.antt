-- What a builder does to the stakes of a seat.
use Rattle.std.specs.Prelude.{◌≡◌, ◌≤◌, ◌<◌, ℕ, ◌+◌, ◌-◌, List, [], ◌∷◌, map, All, Option, Result, Ok, Err}
use Rattle.std.specs.Prelude.{sum_by}
use Rattle.trace_base.specs.Outside.{Told}
use Rattle.trace_base.specs.declared.limits.TheConstants.{MAX_TIME}
use Rattle.node_key.specs.Items.{FitBetween}
use Rattle.hall_history.specs.Seat.{ExchangesStakes, Seat}
use Rattle.node_key.specs.Stakes.{HasStakes, stake}
use Rattle.node_key.specs.declared.stake.Stake.{Stake}
use Rattle.node_key.specs.Tree.{Tree, height, nodes}
use Rattle.node_key.specs.declared.item.Item.{Item}
use Rattle.node_key.specs.declared.limits.TheConstants.{HEIGHT_BOUND, MAX_HEIGHT, MAX_KIDS}
use Rattle.hall_trait.specs.declared.answers.HallFault.{HallFault}
use Rattle.builders.specs.Built.{StoredItem, built, items_in, stakes_held}
use Rattle.builders.specs.declared.built.BuiltItem.{BuiltItem}

-- the items are these, and the seat has the stakes on them
pub record Holds (seat : Seat) (items : List BuiltItem) (stored : List StoredItem) : Type 0 where
  pub are : items ≡ map built stored
  pub stakes : HasStakes seat.stakes (stakes_held stored)

-- and they may be put into a node between two times
pub record HoldsBetween (seat : Seat) (start end : ℕ) (items : List BuiltItem) (stored : List StoredItem)
    : Type 0 where
  pub are : items ≡ map built stored
  pub stakes : HasStakes seat.stakes (stakes_held stored)
  pub placed : FitBetween start end (items_in stored)
  pub low : All (λ i. height i.tree < HEIGHT_BOUND) (items_in stored)

-- and they may be put into groups and these into groups again, as often as it takes
pub record MayBeBound (seat : Seat) (items : List BuiltItem) (stored : List StoredItem) : Type 0 where
  pub are : items ≡ map built stored
  pub stakes : HasStakes seat.stakes (stakes_held stored)
  pub placed : FitBetween 0 MAX_TIME (items_in stored)
  pub low : All (λ i. height i.tree ≤ MAX_HEIGHT - MAX_KIDS) (items_in stored)

-- On Ok the item is built, for the stakes that were held. On a fault these are left.
abbrev pub BuildsItem : Seat → Seat → List Stake → Item → List Stake → Result BuiltItem HallFault → Type 0
BuildsItem old new held item left (Ok b) = (n : ℕ) × (b ≡ built (record { item = item; number = n }))
    × ExchangesStakes old new held (stake n item.tree ∷ [])
BuildsItem old new held item left (Err e) = ExchangesStakes old new held left

-- On Ok the items are built, for the stakes that were held. On a fault these are left.
abbrev pub BuildsItems : Seat → Seat → List Stake → List Item → List Stake → Result (List BuiltItem) HallFault
    → Type 0
BuildsItems old new held items left (Ok bs) = (stored : List StoredItem) × (bs ≡ map built stored)
    × (items_in stored ≡ items) × ExchangesStakes old new held (stakes_held stored)
BuildsItems old new held items left (Err e) = ExchangesStakes old new held left

-- where the hall counts what this seat did, so much was added, or nothing
abbrev pub AddsWork : Option ℕ → Option ℕ → ℕ → Type 0
AddsWork old new n = Told old new (λ was now. now ≡ was + n)

abbrev pub AddsNoWork : Option ℕ → Option ℕ → Type 0
AddsNoWork old new = new ≡ old

-- the nodes of the trees of these items, each as often as it stands in them
abbrev pub nodes_in : List Item → ℕ
nodes_in items = sum_by (λ i. nodes i.tree) items

-- Trees with so many nodes are made of trees that had so many at first. Where the hall counts what this seat
-- did, each further node was interned once; on a fault at most these were.
abbrev pub WorkOfNodes : {X : Type 0} → Option ℕ → Option ℕ → (first made : ℕ) → Result X HallFault → Type 0
WorkOfNodes old new first made (Ok x) = Told old new (λ was now. now + first ≡ was + made)
WorkOfNodes old new first made (Err e) = Told old new (λ was now. now + first ≤ was + made)

-- Where the hall counts what this seat did, each node of the tree was interned as often as it stands there.
-- On a fault at most these were.
abbrev pub WorkOfTree : Option ℕ → Option ℕ → Tree → Result ℕ HallFault → Type 0
WorkOfTree old new t (Ok n) = AddsWork old new (nodes t)
WorkOfTree old new t (Err e) = Told old new (λ was now. now ≤ was + nodes t)
