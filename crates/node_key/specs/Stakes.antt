-- Counted references to nodes, which are owed by whoever holds them.
use Rattle.std.specs.Prelude.{◌≡◌, ◌≤◌, ℕ, ◌+◌, ◌==◌, ◌&&◌, Bool, List, count_by, map}
use Rattle.node_key.specs.Tree.{Kids, Tree, same_tree}
use Rattle.node_key.specs.Branches.{branches}
use Rattle.node_key.specs.Keys.{IsKeyOf}
use Rattle.node_key.specs.declared.key.NodeKey.{NodeKey}
use Rattle.node_key.specs.declared.stake.Stake.{Stake}

abbrev pub stake : ℕ → Tree → Stake
stake n t = record { number = n; tree = t }

abbrev pub same_stake : Stake → Stake → Bool
same_stake x y = x.number == y.number && same_tree x.tree y.tree

-- how many of the stakes are this one
abbrev pub times : Stake → List Stake → ℕ
times x stakes = count_by (same_stake x) stakes

-- each of these stakes is among the others, as often as it stands here
abbrev pub HasStakes : List Stake → List Stake → Type 0
HasStakes stakes wanted = (x : Stake) → times x wanted ≤ times x stakes

-- Some stakes are taken from the old ones and others are given; in which order they stand isn't said.
abbrev pub Exchanges : (old new taken given : List Stake) → Type 0
Exchanges old new taken given = (x : Stake) → times x new + times x taken ≡ times x old + times x given

-- the stakes are on the kids of a tree, one for each
abbrev pub AreOnKids : Kids → List Stake → Type 0
AreOnKids kids stakes = map (λ x. x.tree) stakes ≡ map (λ b. b.tree) (branches kids)

-- the key is that of the tree over the numbers of these stakes
pub record IsOverStakes (t : Tree) (stakes : List Stake) (key : NodeKey) : Type 0 where
  pub key_of : IsKeyOf t (map (λ x. x.number) stakes) key
  pub kids : AreOnKids t.kids stakes
