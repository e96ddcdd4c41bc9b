use Rattle.std.specs.Option.{option_map_or}
use Rattle.node_key.specs.declared.key.NodeKey.{NodeKey}
use Rattle.node_store.specs.Given.{ever}
use Rattle.node_store.proofs.Dropping.{IsDropping}
use Rattle.node_store.proofs.store.NodeStore.+drop_other.Given as goal

abbrev pub decreases-drop_other : goal.decreases-drop_other
decreases-drop_other l = option_map_or (λ (k : NodeKey). k.height) (ever l.self.now.given l.n) 0

abbrev pub invariant-loop-kid : goal.invariant-loop-kid
invariant-loop-kid l = IsDropping l.fn.self l.self l.n l.kid-items l.kid-index
