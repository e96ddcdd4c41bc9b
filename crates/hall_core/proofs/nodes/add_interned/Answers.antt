use Rattle.std.proofs.Common.{◌≡◌, ◌<◌, ℕ, List, [], ◌∷◌, Vec, Global, refl, sym, subst, arith}
use Rattle.std.specs.Vec.{vec_capacity, vec_len}
use Rattle.node_key.specs.Stakes.{Exchanges}
use Rattle.node_key.specs.declared.stake.Stake.{Stake as Staked}
use Rattle.shard_core.specs.declared.answers.Interned.{Interned}
use Rattle.hall_core.specs.Steps.{number_told, handed_over}
use Rattle.hall_core.proofs.StakeLists.{exchanges-append, length-exchanged}
use Rattle.hall_core.proofs.nodes.add_interned.Goals as goal
use Rattle.hall_core.proofs.nodes.add_interned.Goals.{in-Known, in-New}

-- where stakes were taken out, there is still space
space : (old new : Vec Staked Global) (taken : List Staked) → Exchanges old.items new.items taken []
    → vec_capacity new ≡ vec_capacity old → vec_len old < vec_capacity old → vec_len new < vec_capacity new
space old new taken swap same below =
    omega (arith, length-exchanged old.items new.items taken [] swap, old.ok.0, new.ok.0, same, below)

pub push_reserved-requires : goal.push_reserved-requires
push_reserved-requires c = elim c.match-interned.branch [
  | in-Known w ↦ subst (λ (v : Vec Staked Global). vec_len v < vec_capacity v) (sym w.stakes-is)
      c.requires.space
  | in-New w ↦ subst (λ (v : Vec Staked Global). vec_len v < vec_capacity v) (sym w.stakes-is)
      (space c.args.stakes.now w.take_kids.new.stakes c.requires.staked.0
      (w.take_kids.ensures.rest c.args.tree c.requires.staked.0 c.requires.staked.1)
      w.take_kids.ensures.space c.requires.space)
]

-- the number that a key has got or had, and the stakes that are left of the old ones
abbrev IsLeft : Interned → List Staked → List Staked → ℕ → List Staked → Type 0
IsLeft i kids old n left = (n ≡ number_told i) × Exchanges old left (handed_over i kids) []

pub returns : goal.returns
returns c kids staked =
    let old = c.args.stakes.now.items in
    let left : IsLeft c.args.interned kids old c.match-interned.number c.match-interned.stakes.items =
    elim c.match-interned.branch [
      | in-Known w ↦ subst
          (λ (i : Interned). IsLeft i kids old c.match-interned.number c.match-interned.stakes.items)
          (sym w.in-Known.is) (
            w.number-is,
            subst (λ (v : Vec Staked Global). Exchanges old v.items [] []) (sym w.stakes-is) (λ x. refl),
          )
      | in-New w ↦ subst
          (λ (i : Interned). IsLeft i kids old c.match-interned.number c.match-interned.stakes.items)
          (sym w.in-New.is) (
            w.number-is,
            subst (λ (v : Vec Staked Global). Exchanges old v.items kids []) (sym w.stakes-is)
                (w.take_kids.ensures.rest c.args.tree kids staked),
          )
    ] in
    subst
    (λ (n : ℕ). Exchanges old c.push_reserved.new.self.items (handed_over c.args.interned kids)
    (record { number = n; tree = c.args.tree } ∷ []))
    left.0
    (subst
    (λ (xs : List Staked). Exchanges old xs (handed_over c.args.interned kids)
    (record { number = c.match-interned.number; tree = c.args.tree } ∷ []))
    (sym c.push_reserved.ensures.items)
    (exchanges-append old c.match-interned.stakes.items (handed_over c.args.interned kids)
    (record { number = c.match-interned.number; tree = c.args.tree } ∷ []) left.1))
