-- What the seat of a plain hall reaches: what its stakes lead to in the store, and what the roots lead to that
-- its pin is told of.
use Rattle.std.specs.Prelude.{◌≡◌, ℕ, List, Some}
use Rattle.std.specs.List.{Contains}
use Rattle.hall_history.specs.declared.published.Published.TheVariants.{Root}
use Rattle.hall_history.specs.declared.seat.PinView.{PinView}
use Rattle.hall_trait.specs.Reach.{FromPin, FromStake, Source}
use Rattle.node_key.specs.Leads.{Leads}
use Rattle.node_key.specs.Stands.{KeyAt, Stands}
use Rattle.node_key.specs.Tree.{Tree}
use Rattle.node_key.specs.declared.stake.Stake.{Stake}
use Rattle.node_store.specs.Given.{ever, stakes_of}
use Rattle.node_store.specs.Kept.{NodesKept}
use Rattle.registry_core.specs.Asking.{asked_ids}
use Rattle.registry_core.specs.Registry.{RegistryValue, kept_trace}
use Rattle.registry_core.specs.Trace.{Trace, published_by}

-- the number lies under this one, and stands for this tree
pub record LeadsTo (key_at : KeyAt) (from n : ℕ) (t : Tree) : Type 0 where
  pub led : Leads key_at from n
  pub stands : Stands key_at n t

-- a track of one of the pin's traces has this root, as the pin is told
pub record SeesRoot (r : RegistryValue) (pin : PinView) (root : ℕ) : Type 0 where
  pub id : ℕ
  pub asked : Contains (asked_ids pin.ids) id
  pub trace : Trace
  pub kept : kept_trace r.traces id ≡ Some trace
  pub track : ℕ
  pub start : ℕ
  pub told : published_by trace pin.place track ≡ Root start root

-- by a stake of the owner
pub record ReachesByStake (nodes : NodesKept) (x : Stake) (n : ℕ) (t : Tree) : Type 0 where
  pub has : Contains (stakes_of nodes.given) x
  pub leads : LeadsTo (ever nodes.given) x.number n t

-- by a root that the pin is told of
pub record ReachesByPin (nodes : NodesKept) (r : RegistryValue) (pins : List PinView) (pin : PinView) (n : ℕ)
    (t : Tree) : Type 0 where
  pub has : Contains pins pin
  pub root : ℕ
  pub sees : SeesRoot r pin root
  pub leads : LeadsTo (ever nodes.given) root n t

abbrev pub Reaches : NodesKept → RegistryValue → List PinView → Source → ℕ → Tree → Type 0
Reaches nodes r pins (FromStake x) n t = ReachesByStake nodes x n t
Reaches nodes r pins (FromPin p) n t = ReachesByPin nodes r pins p n t
