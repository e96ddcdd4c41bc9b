-- The stakes on roots, where these are exchanged.
use Rattle.std.proofs.Common.{◌≡◌, ℕ, ◌+◌, ◌&&◌, Bool, true, false, cond, eqb, inl, inr, List, [], ◌∷◌, ◌++◌}
use Rattle.std.proofs.Common.{Some, refl, sym, ap, ap₂, ◌∙◌, arith, eq-eqb, map, Contains}
use Rattle.std.specs.Prelude.{slice_get}
use Rattle.std.specs.Option.{option_map}
use Rattle.std.proofs.lemmas.Bool.Decides.{eqb_tells, nat_tests}
use Rattle.std.proofs.lemmas.List.{map-append}
use Rattle.std.proofs.lemmas.List.Elements.{Contains-append_right}
use Rattle.std.proofs.lemmas.Option.{get_or_from_slice_get, slice_get-map, slice_get_within}
use Rattle.list_lemmas.proofs.Booleans.{one_if}
use Rattle.list_lemmas.proofs.Filters.{count_by-cons}
use Rattle.list_lemmas.proofs.Maps.{map_agree_at}
use Rattle.node_key.specs.Stakes.{Exchanges, same_stake, stake, times}
use Rattle.node_key.specs.Stands.{KeyAt}
use Rattle.node_key.specs.Tree.{same_tree}
use Rattle.node_key.specs.declared.stake.Stake.{Stake}
use Rattle.node_key.proofs.StakeLaws.{times-append, times-cons}
use Rattle.node_store.proofs.TreesUnder.{tree_still}
use Rattle.node_store.specs.Given.{ever, stakes_of}
use Rattle.node_store.specs.Kept.{AreKept, KeepsFor, KeepsNumbers, NodesKept}
use Rattle.node_store.specs.TreeUnder.{tree_under}
use Rattle.registry_core.specs.Roots.{ExchangesRoots, times_root}
use Rattle.plain_hall.specs.HallLaws.{held_stands}
use Rattle.plain_hall.specs.Rooted.{stakes_under}
use Rattle.plain_hall.proofs.Keeping.{keeps_same, times_first}

-- a stake stands among those on roots as often as its number among these, if it is on the tree of its number
times_under : (key_at : KeyAt) (x : Stake) (roots : List ℕ) → times x (stakes_under key_at roots)
    ≡ cond (same_tree x.tree (tree_under key_at x.number)) (times_root x.number roots) 0
times_under key_at x [] = elim (same_tree x.tree (tree_under key_at x.number)) as
    (λ b. ◌≡◌ {A = ℕ} 0 (cond b 0 0)) [ true ↦ refl | false ↦ refl ]
times_under key_at x (n ∷ roots) =
    let m = times_root x.number roots in
    let later = times_under key_at x roots in
    let first = times-cons x (stake n (tree_under key_at n)) (stakes_under key_at roots) in
    let counted = count_by-cons (λ root. eqb root x.number) n roots in
    elim (eqb_tells x.number n) [
      | inl same ↦
          let here : same_stake x (stake n (tree_under key_at n))
          ≡ same_tree x.tree (tree_under key_at x.number) =
          ap₂ (λ c k. c && same_tree x.tree (tree_under key_at k)) same.0 (sym same.1) in
          let one : one_if (eqb n x.number) ≡ 1 = ap one_if (eq-eqb n x.number (sym same.1)) in
          let both : cond (same_tree x.tree (tree_under key_at x.number)) 1 0
          + cond (same_tree x.tree (tree_under key_at x.number)) m 0
          ≡ cond (same_tree x.tree (tree_under key_at x.number)) (1 + m) 0 =
          elim (same_tree x.tree (tree_under key_at x.number)) as
          (λ b. ◌≡◌ {A = ℕ} (cond b 1 0 + cond b m 0) (cond b (1 + m) 0)) [ true ↦ refl | false ↦ refl ] in
          first ∙ ap₂ (λ (c : Bool) (k : ℕ). cond c 1 0 + k) here later ∙ both
          ∙ ap (λ k. cond (same_tree x.tree (tree_under key_at x.number)) k 0)
          (sym (counted ∙ ap (λ k. k + m) one))
      | inr other ↦
          let here : same_stake x (stake n (tree_under key_at n)) ≡ false =
          ap (λ c. c && same_tree x.tree (tree_under key_at n)) other.0 in
          let ne : eqb n x.number ≡ false = grind (arith, nat_tests, other.0) in
          let none : one_if (eqb n x.number) ≡ 0 = ap one_if ne in
          let zero_here : ◌≡◌ {A = ℕ} (cond (same_stake x (stake n (tree_under key_at n))) 1 0) 0 =
          ap (λ c. cond c 1 0) here in
          let same : times_root x.number (n ∷ roots) ≡ m = omega (arith, counted, none) in
          omega (
            arith,
            first,
            zero_here,
            later,
            ap (λ k. cond (same_tree x.tree (tree_under key_at x.number)) k 0) same,
          )
    ]

-- where roots are exchanged, the stakes on them are
pub roots_exchanged : (key_at : KeyAt) (old new taken added : List ℕ) → ExchangesRoots old new taken added
    → (x : Stake) → times x (stakes_under key_at new) + times x (stakes_under key_at taken)
    ≡ times x (stakes_under key_at old) + times x (stakes_under key_at added)
roots_exchanged key_at old new taken added swap x = omega (
  arith,
  by (same_tree x.tree (tree_under key_at x.number)),
  times_under key_at x old,
  times_under key_at x new,
  times_under key_at x taken,
  times_under key_at x added,
)
  where
    by : (b : Bool) → cond b (times_root x.number new) 0 + cond b (times_root x.number taken) 0
        ≡ cond b (times_root x.number old) 0 + cond b (times_root x.number added) 0
    by true = swap x.number
    by false = refl

-- one root is added
pub keeps_added : (s : NodesKept) (key_at : KeyAt) (old new : List ℕ) (root : ℕ)
    → ExchangesRoots old new [] (root ∷ [])
    → KeepsFor s (stake root (tree_under key_at root) ∷ stakes_under key_at old)
    → KeepsFor s (stakes_under key_at new)
keeps_added s key_at old new root swap = keeps_same s _ _ (λ x. omega (
  arith,
  times_first x (stake root (tree_under key_at root)) (stakes_under key_at old),
  roots_exchanged key_at old new [] (root ∷ []) swap x,
))

-- some are to be released
pub keeps_taken : (s : NodesKept) (key_at : KeyAt) (old new taken : List ℕ)
    → ExchangesRoots old new taken [] → KeepsFor s (stakes_under key_at old)
    → KeepsFor s (stakes_under key_at taken ++ stakes_under key_at new)
keeps_taken s key_at old new taken swap = keeps_same s _ _ (λ x. omega (
  arith,
  times-append x (stakes_under key_at taken) (stakes_under key_at new),
  roots_exchanged key_at old new taken [] swap x,
))

-- some are, and then others
pub keeps_both : (s : NodesKept) (key_at : KeyAt) (old new first second : List ℕ)
    → ExchangesRoots old new (first ++ second) [] → KeepsFor s (stakes_under key_at old)
    → KeepsFor s (stakes_under key_at first ++ (stakes_under key_at second ++ stakes_under key_at new))
keeps_both s key_at old new first second swap = keeps_same s _ _ (λ x. omega (
  arith,
  times-append x (stakes_under key_at first) (stakes_under key_at second ++ stakes_under key_at new),
  times-append x (stakes_under key_at second) (stakes_under key_at new),
  roots_exchanged key_at old new (first ++ second) [] swap x,
  ap (times x) (map-append (λ n. stake n (tree_under key_at n)) first second),
  times-append x (stakes_under key_at first) (stakes_under key_at second),
))

-- each root's stake is one that the store is kept for
root_held : (f : ℕ → Stake) (roots : List ℕ) (k n : ℕ) → slice_get roots k ≡ Some n
    → Contains (map f roots) (f n)
root_held f roots k n at =
    let here : slice_get (map f roots) k ≡ Some (f n) = slice_get-map f roots k ∙ ap (option_map f) at in (
      k,
      slice_get_within (map f roots) k (f n) here,
      get_or_from_slice_get (map f roots) k (f n) (f n) here,
    )

-- the stakes on roots are the same where numbers keep their keys
pub roots_still : (s t : NodesKept) (roots : List ℕ) → AreKept s → KeepsNumbers s t
    → KeepsFor s (stakes_under (ever s.given) roots)
    → stakes_under (ever t.given) roots ≡ stakes_under (ever s.given) roots
roots_still s t roots kept keeps for_roots = map_agree_at _ _ roots (λ k n at. ap (stake n)
    (tree_still (ever s.given) (ever t.given) keeps n (held_stands s _ (stake n (tree_under (ever s.given) n))
    kept for_roots (Contains-append_right (stakes_of s.given) _ _
    (root_held (λ m. stake m (tree_under (ever s.given) m)) roots k n at)))))

-- the last of some roots is taken
pub last_taken : (key_at : KeyAt) (all left : List ℕ) (n : ℕ) (rest : List Stake) → all ≡ left ++ n ∷ []
    → Exchanges (stakes_under key_at all ++ rest) (stakes_under key_at left ++ rest)
    (stake n (tree_under key_at n) ∷ []) []
last_taken key_at all left n rest is x = omega (
  arith,
  times-append x (stakes_under key_at all) rest,
  times-append x (stakes_under key_at left) rest,
  ap (λ ns. times x (stakes_under key_at ns)) is,
  ap (times x) (map-append (λ m. stake m (tree_under key_at m)) left (n ∷ [])),
  times-append x (stakes_under key_at left) (stake n (tree_under key_at n) ∷ []),
)
