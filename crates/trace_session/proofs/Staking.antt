-- The stakes of a seat that has none, or one.
use Rattle.std.proofs.Common.{◌≡◌, List, [], ◌∷◌, ap}
use Rattle.std.proofs.Common.{arith}
use Rattle.node_key.specs.Stakes.{Exchanges, HasStakes, times}
use Rattle.node_key.specs.declared.stake.Stake.{Stake}
use Rattle.node_key.proofs.StakeLaws.{no_stakes}

-- no stakes, and nothing exchanged
pub stakes_still : (old new : List Stake) → old ≡ [] → Exchanges old new [] [] → new ≡ []
stakes_still old new none e = no_stakes new (λ x. omega (arith, e x, ap (times x) none))

-- the one stake that was given is there
pub stake_given : (old new : List Stake) (x : Stake) → Exchanges old new [] (x ∷ []) → HasStakes new (x ∷ [])
stake_given old new x e y = omega (arith, e y)

-- and none is left where it was used up
pub stake_used : (old mid new : List Stake) (x : Stake) → old ≡ [] → Exchanges old mid [] (x ∷ [])
    → Exchanges mid new (x ∷ []) [] → new ≡ []
stake_used old mid new x none given used =
    no_stakes new (λ y. omega (arith, given y, used y, ap (times y) none))
