-- What holds of a plain hall at every moment.
use Rattle.std.specs.Prelude.{List}
use Rattle.std.proofs.Props.{props}
use Rattle.hall_history.specs.History.{EntryOf, Opened, Published, Sealed, Dropped, Closed, Asked}
use Rattle.hall_history.specs.History.{IsLegalHistory}
use Rattle.hall_history.specs.declared.asks.AskIds.{AskIds}
use Rattle.hall_trait.proofs.HistoryProps.{IsLegalHistory-prop}
use Rattle.node_key.specs.Stands.{KeyAt}
use Rattle.node_store.specs.Given.{ever}
use Rattle.node_store.specs.Kept.{AreKept, KeepsFor, NodesKept}
use Rattle.registry_core.specs.Registry.{RegistryValue}
use Rattle.registry_core.specs.Roots.{roots_kept}
use Rattle.registry_core.specs.Standing.{AreTrees, StandsFor, Start}
use Rattle.registry_core.specs.UsedBy.{AreUsedBy}
use Rattle.plain_hall.specs.Orderly.{IsOrderly}
use Rattle.plain_hall.specs.Rooted.{NameNodes, NamesNode, stakes_under, with_trees}
use Rattle.plain_hall.specs.StandsProps.{AreUsedBy-prop, StandsFor-prop}
use Rattle.plain_hall.specs.StoreProps.{AreKept-prop, KeepsFor-prop}
use Rattle.plain_hall.specs.declared.root.Root.{Root}

-- a hall begins without entries and without ids
abbrev pub at_first : Start
at_first = record { place = 0; id = 1 }

-- The history is legal with the trees that its roots stand for. The registry stands for it, and its users are
-- these queries. The store has just the nodes that the owner's stakes and the roots of the kept traces need.
pub record IsSoundHall (nodes : NodesKept) (r : RegistryValue) (entries : List (EntryOf Root))
    (queries : List AskIds) : Type 0 where
  pub legal : IsLegalHistory (with_trees (ever nodes.given) entries)
  pub orderly : IsOrderly (with_trees (ever nodes.given) entries)
  pub stands : StandsFor (AreTrees (ever nodes.given)) at_first r (with_trees (ever nodes.given) entries)
  pub used : AreUsedBy r.traces queries
  pub store : AreKept nodes
  pub roots : KeepsFor nodes (stakes_under (ever nodes.given) (roots_kept r.traces))
  pub numbered : NameNodes (ever nodes.given) entries

NamesNode-prop : (key_at : KeyAt) (e : EntryOf Root) → IsProp (NamesNode key_at e)
NamesNode-prop key_at (Published id track r) = hlevel props
NamesNode-prop key_at (Opened id info) = hlevel
NamesNode-prop key_at (Sealed id) = hlevel
NamesNode-prop key_at (Dropped id) = hlevel
NamesNode-prop key_at (Closed id) = hlevel
NamesNode-prop key_at Asked = hlevel

-- there is at most one proof of it, which a ghost field asks for, and imports from specs/ alone
pub IsSoundHall-prop : (nodes : NodesKept) (r : RegistryValue) (entries : List (EntryOf Root))
    (queries : List AskIds) → IsProp (IsSoundHall nodes r entries queries)
IsSoundHall-prop nodes r entries queries = hlevel (
  props,
  IsLegalHistory-prop,
  StandsFor-prop,
  AreUsedBy-prop,
  AreKept-prop,
  KeepsFor-prop,
  NamesNode-prop,
)
