-- Which numbers lie under a number, where keys are found by number.
use Rattle.std.specs.Prelude.{◌≡◌, ◌↔◌, ℕ, take, Some}
use Rattle.std.specs.List.{Contains}
use Rattle.node_key.specs.Stands.{KeyAt, Stands}
use Rattle.node_key.specs.Tree.{Tree}
use Rattle.node_key.specs.declared.key.Kid.{Kid}
use Rattle.node_key.specs.declared.key.NodeKey.{NodeKey}

-- the numbers that lie under a number: itself and, from each, the kids of its key
pub data Leads (key_at : KeyAt) (from : ℕ) : ℕ → Type 0 where
  here : Leads key_at from from
  below : (n : ℕ) (key : NodeKey) (k : Kid) → Leads key_at from n → key_at n ≡ Some key
      → Contains (take key.len key.kids) k → Leads key_at from k.node

-- The same numbers lie under a number after as before. Each of them has a key, and the same one after, and
-- stands for the trees that it stood for.
pub record KeepsLed (before after : KeyAt) (from : ℕ) : Type 0 where
  pub led : (n : ℕ) → Leads before from n ↔ Leads after from n
  pub keys : (n : ℕ) → Leads before from n
      → (key : NodeKey) × (before n ≡ Some key) × (after n ≡ Some key)
  pub trees : (n : ℕ) (t : Tree) → Leads before from n → Stands before n t ↔ Stands after n t
