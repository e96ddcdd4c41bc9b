-- Open calls whose items are built in a hall, and what a builder does to them.
use Rattle.std.specs.Prelude.{◌≡◌, ℕ, ◌+◌, List, [], ◌∷◌, ◌++◌, map, sum_by, Option, Result, Ok, Err}
use Rattle.std.specs.List.{flat_map}
use Rattle.trace_base.specs.declared.stream.Event.{Event}
use Rattle.hall_history.specs.Seat.{ExchangesStakes, Seat}
use Rattle.node_key.specs.Stakes.{HasStakes, stake}
use Rattle.node_key.specs.declared.stake.Stake.{Stake}
use Rattle.node_key.specs.Tree.{Tree}
use Rattle.call_tree.specs.Passing.{CanClose, MayCome, PassesEvent}
use Rattle.call_tree.specs.declared.pass.Open.{Open}
use Rattle.hall_trait.specs.declared.answers.HallFault.{HallFault}
use Rattle.builders.specs.Built.{StoredItem, built, items_in, stakes_held}
use Rattle.builders.specs.Builds.{WorkOfNodes, nodes_in}
use Rattle.builders.specs.declared.built.BuiltItem.{BuiltItem}
use Rattle.builders.specs.declared.built.OpenCall.{OpenCall}

-- an open call, or the stream itself, with the items in it
pub record StoredCall : Type 0 where
  pub func : ℕ
  pub start : ℕ
  pub stored : List StoredItem

-- what the builder has of it
abbrev pub open_call : StoredCall → OpenCall
open_call c = record { func = c.func; start = c.start; items = map built c.stored }

-- the call as it is in a pass over the events that makes the trees
abbrev pub passed : StoredCall → Open
passed c = record { func = c.func; start = c.start; items = items_in c.stored }

-- the stakes on the items of these calls
abbrev pub calls_stakes : List StoredCall → List Stake
calls_stakes calls = flat_map (λ c. stakes_held c.stored) calls

-- the call is this one, may be closed at this time, and the seat has the stakes on its items
pub record HoldsCall (seat : Seat) (innermost : OpenCall) (stop : ℕ) (call : StoredCall) : Type 0 where
  pub are : innermost ≡ open_call call
  pub can : CanClose (passed call) stop
  pub stakes : HasStakes seat.stakes (stakes_held call.stored)

-- the call is this one, and the seat has the stakes on its items and on one item more
pub record HoldsWith (seat : Seat) (innermost : OpenCall) (item : BuiltItem) (call : StoredCall)
    (one : StoredItem)
    : Type 0 where
  pub are : innermost ≡ open_call call
  pub is : item ≡ built one
  pub stakes : HasStakes seat.stakes (stakes_held (call.stored ++ one ∷ []))

-- the call with one item more
abbrev pub with_stored : StoredCall → StoredItem → StoredCall
with_stored c s = record { func = c.func; start = c.start; stored = c.stored ++ s ∷ [] }

-- On Ok it is the call with the item. On a fault the stakes on all of them are given back.
abbrev pub AddsItem : Seat → Seat → StoredCall → StoredItem → Result OpenCall HallFault → Type 0
AddsItem old new call one (Ok now) = (now ≡ open_call (with_stored call one)) × (new ≡ old)
AddsItem old new call one (Err e) = ExchangesStakes old new (stakes_held (call.stored ++ one ∷ [])) []

-- the open calls are these, of which the innermost stands by itself, the event may come, and the seat has the
-- stakes on all items
pub record HoldsCalls (seat : Seat) (around : List OpenCall) (innermost : OpenCall) (event : Event)
    (calls : List StoredCall) (call : StoredCall) : Type 0 where
  pub around_are : around ≡ map open_call calls
  pub are : innermost ≡ open_call call
  pub may : MayCome event (map passed calls) (passed call)
  pub stakes : HasStakes seat.stakes (calls_stakes calls ++ stakes_held call.stored)

-- On Ok the event is passed, and the stakes are those on the items that are there now. On a fault those on
-- the items of the calls round the innermost one are left.
abbrev pub PassesOn : Seat → Seat → List StoredCall → StoredCall → Event → List OpenCall
    → Result OpenCall HallFault → Type 0
PassesOn old new calls call event around (Ok now) = (calls' : List StoredCall) × (call' : StoredCall)
    × (around ≡ map open_call calls') × (now ≡ open_call call')
    × PassesEvent (map passed calls) (passed call) event (map passed calls') (passed call')
    × ExchangesStakes old new (calls_stakes calls ++ stakes_held call.stored)
    (calls_stakes calls' ++ stakes_held call'.stored)
PassesOn old new calls call event around (Err e) = (calls' : List StoredCall)
    × (around ≡ map open_call calls')
    × ExchangesStakes old new (calls_stakes calls ++ stakes_held call.stored) (calls_stakes calls')

-- the nodes of the trees that lie in open calls, of which the innermost stands by itself
abbrev pub nodes_open : List Open → Open → ℕ
nodes_open around innermost = sum_by (λ c. nodes_in c.items) around + nodes_in innermost.items

-- where the hall counts what this seat did, what lies in the open calls after the event and didn't before was
-- interned, node by node
abbrev pub WorkOfEvent : Option ℕ → Option ℕ → List Open → Open → Event → Result OpenCall HallFault → Type 0
WorkOfEvent old new around innermost event answer = (around' : List Open) (innermost' : Open)
    → PassesEvent around innermost event around' innermost'
    → WorkOfNodes old new (nodes_open around innermost) (nodes_open around' innermost') answer

-- On Ok there is a new stake on the node of this number, which stands for the tree. On a fault all stakes are
-- as before.
abbrev pub BuildsTree : Seat → Seat → Tree → Result ℕ HallFault → Type 0
BuildsTree old new t (Ok n) = ExchangesStakes old new [] (stake n t ∷ [])
BuildsTree old new t (Err e) = ExchangesStakes old new [] []
