-- Stakes that are taken out of others, one after the other.
use Rattle.std.proofs.Common.{◌≡◌, ◌≢◌, inl, inr, ℕ, ◌+◌, ◌<◌, ◌≤◌, All, Contains, List, [], ◌∷◌, ◌++◌}
use Rattle.std.proofs.Common.{length, take, swap_remove, get_or, ap, sym, subst, ◌∙◌, arith}
use Rattle.std.proofs.lemmas.List.{take_all, take_more}
use Rattle.std.proofs.lemmas.List.Elements.{All-contains, All-same}
use Rattle.std.proofs.lemmas.List.Sums.{sum_by-append, sum_by-swap_remove, sum_by-take-le}
use Rattle.list_lemmas.proofs.Booleans.{one_if}
use Rattle.node_key.specs.Stakes.{Exchanges, same_stake, times}
use Rattle.node_key.specs.Tree.{Tree}
use Rattle.node_key.specs.declared.key.Kid.{Kid}
use Rattle.node_key.specs.declared.key.NodeKey.{NodeKey}
use Rattle.node_key.specs.declared.stake.Stake.{Stake}
use Rattle.node_key.proofs.StakeLaws.{same_stake-refl}
use Rattle.store_laws.specs.Store.{kids_in}
use Rattle.store_laws.proofs.SumsOfStakes.{from_either, there_from_times}
use Rattle.hall_core.specs.OneTree.{IsStakedTree, OneTreeEach}
use Rattle.hall_core.proofs.TreeOverStakes.{StakeAt, as_long, stake_at, tree_over}

-- the stake at an index is taken out, and the last one stands in its stead
pub one_taken : (old new : List Stake) (i : ℕ) (x : Stake) → i < length old → x ≡ get_or old i x
    → new ≡ swap_remove old i x → Exchanges old new (x ∷ []) []
one_taken old new i x below is less z =
    let f = λ (y : Stake). one_if (same_stake z y) in
    omega (arith, sum_by-swap_remove f old i x below, ap f is, ap (times z) less)

-- the first stakes are all of them, and none is on the number
pub nowhere : (xs : List Stake) (i n : ℕ) → All (λ x. x.number ≢ n) (take i xs) → length xs ≤ i
    → (x : Stake) → Contains xs x → x.number ≢ n
nowhere xs i n none all x =
    All-contains (λ (y : Stake). y.number ≢ n) xs x
    (All-same (λ (y : Stake). y.number ≢ n) xs (take i xs) (sym (take_all i xs all)) none)

-- ---- the stakes on the kids of a key

-- the stakes on the first kids are taken
abbrev pub KidsTaken : NodeKey → (old now : List Stake) → ℕ → Type 0
KidsTaken key old now i = (t : Tree) (kids : List Stake) → IsStakedTree old key t kids
    → Exchanges old now (take i kids) []

module _ (key : NodeKey) (old now : List Stake) (i : ℕ) (d : Kid) (below : i < length (kids_in key))
    (t : Tree) (kids : List Stake) (staked : IsStakedTree old key t kids) where
  -- the stake on the next kid
  abbrev next : StakeAt old (get_or (kids_in key) i d) kids i
  next = stake_at old (kids_in key) kids i d (tree_over old key t kids staked).on below

  -- the stakes so far with it
  so_far : take (i + 1) kids ≡ take i kids ++ next.stake ∷ []
  so_far = take_more kids i next.stake next.below
      ∙ ap (λ (x : Stake). take i kids ++ x ∷ []) next.here

  -- how often a stake is among them
  times-so_far : (x : Stake) → times x (take (i + 1) kids) ≡ times x (take i kids)
      + one_if (same_stake x next.stake)
  times-so_far x =
      let f = λ (y : Stake). one_if (same_stake x y) in
      omega (arith, ap (times x) so_far, sum_by-append f (take i kids) (next.stake ∷ []))

  -- it is still there
  pub next_there : Exchanges old now (take i kids) []
      → (x : Stake) × Contains now x × (x.number ≡ (get_or (kids_in key) i d).node)
  next_there swap =
      let x = next.stake in
      let f = λ (y : Stake). one_if (same_stake x y) in
      let some : 1 ≤ times x now = omega (
        arith,
        swap x,
        times-so_far x,
        ap one_if (same_stake-refl x),
        sum_by-take-le f kids (i + 1),
        staked.has x,
      ) in
      (x, there_from_times x now some, next.on.number)

  -- what is taken is that stake
  pub next_taken : (new : List Stake) (y : Stake) → OneTreeEach old → Exchanges old now (take i kids) []
      → y.number ≡ (get_or (kids_in key) i d).node → Contains now y → Exchanges now new (y ∷ []) []
      → Exchanges old new (take (i + 1) kids) []
  next_taken new y one swap number there taken x =
      let was : Contains old y = elim (from_either old now (take i kids) [] y swap there) [
        | inl before ↦ before
        | inr none ↦ absurd (omega (arith, none.1))
      ] in
      let same = one y next.stake was next.on.there (number ∙ sym next.on.number) in
      let here = ap (λ (z : Stake). one_if (same_stake x z)) same in
      omega (arith, swap x, taken x, times-so_far x, here)

-- all are taken
pub taken-end : (key : NodeKey) (old now : List Stake) (i : ℕ) → KidsTaken key old now i
    → length (kids_in key) ≤ i → (t : Tree) (kids : List Stake) → IsStakedTree old key t kids
    → Exchanges old now kids []
taken-end key old now i taken all t kids staked =
    let long = as_long old (kids_in key) kids (tree_over old key t kids staked).on in
    subst (λ (xs : List Stake). Exchanges old now xs []) (take_all i kids (omega (arith, long, all)))
    (taken t kids staked)
