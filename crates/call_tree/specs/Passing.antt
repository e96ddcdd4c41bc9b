-- One event more, with the calls that are open and what lies in each so far.
use Rattle.std.specs.Prelude.{◌≡◌, ℕ, ◌-◌, ◌<◌, ◌≤◌, List, [], ◌∷◌, ◌++◌, length, All}
use Rattle.trace_base.specs.declared.stream.Event.{Event}
use Rattle.trace_base.specs.declared.stream.Event.TheVariants.{Enter, Leave}
use Rattle.trace_base.specs.declared.limits.TheConstants.{MAX_TIME, MAX_STATE_EVENTS}
use Rattle.node_key.specs.Tree.{height}
use Rattle.node_key.specs.Items.{FitBetween, node}
use Rattle.node_key.specs.declared.item.Item.{Item}
use Rattle.node_key.specs.declared.limits.TheConstants.{MAX_HEIGHT, MAX_KIDS}
use Rattle.node_key.specs.Bound.{bound}
use Rattle.call_tree.specs.declared.pass.Open.{Open}

-- what lies in an open call can be closed at this time
pub record CanClose (innermost : Open) (stop : ℕ) : Type 0 where
  pub placed : FitBetween innermost.start stop innermost.items
  pub in_time : stop ≤ MAX_TIME
  pub low : All (λ i. height i.tree ≤ MAX_HEIGHT - MAX_KIDS) innermost.items
  pub few : length innermost.items ≤ MAX_STATE_EVENTS

-- an open call that ends at this time
abbrev pub closed_item : Open → ℕ → Item
closed_item innermost stop = record {
  at = innermost.start;
  tree = node innermost.func innermost.start stop
      (bound innermost.items);
}

-- the event may come: a Leave closes the innermost call, of which there is one
abbrev pub MayCome : Event → List Open → Open → Type 0
MayCome (Enter f t) around innermost = Unit {0}
MayCome (Leave t) around innermost = (0 < length around) × CanClose innermost t

-- the calls that are open after the event, of which the innermost stands by itself, and what lies in them
abbrev pub PassesEvent : List Open → Open → Event → List Open → Open → Type 0
PassesEvent around innermost (Enter f t) around' now =
    (around' ≡ around ++ innermost ∷ []) × (now ≡ record { func = f; start = t; items = [] })
PassesEvent around innermost (Leave t) around' now =
    (outer : Open) × (around ≡ around' ++ outer ∷ [])
    × (now ≡ record {
      func = outer.func;
      start = outer.start;
      items = outer.items ++ closed_item innermost t
          ∷ [];
    })
