-- A stake more or less on a number, and what becomes of the owner's stakes.
use Rattle.std.proofs.Common.{◌≡◌, ◌⊎◌, inl, inr, ℕ, ◌+◌, ◌*◌, ◌/◌, ◌%◌, ◌<◌, ◌≤◌, Bool, true, false}
use Rattle.std.proofs.Common.{cond, List, [], ◌∷◌, length, Option, Some, None, refl, sym, ap, ◌∙◌, arith}
use Rattle.std.proofs.Common.{slice_get, option_map}
use Rattle.std.specs.Option.{option_map_or}
use Rattle.std.proofs.lemmas.Bool.{cases_Bool, cases_eq}
use Rattle.std.proofs.lemmas.Option.{none-some, same_Some, slice_get_within}
use Rattle.list_lemmas.proofs.Booleans.{cond_zeros}
use Rattle.list_lemmas.proofs.Options.{some_or_none}
use Rattle.node_key.specs.Stakes.{Exchanges, HasStakes, IsOverStakes, same_stake, stake, times}
use Rattle.node_key.specs.declared.stake.Stake.{Stake}
use Rattle.node_key.specs.Stands.{Stands}
use Rattle.node_key.specs.Tree.{Tree}
use Rattle.node_key.specs.declared.key.NodeKey.{NodeKey}
use Rattle.node_key.specs.declared.limits.TheConstants.{STORE_ROOMS}
use Rattle.node_key.proofs.StakeLaws.{same_stake-refl, times-one}
use Rattle.store_laws.proofs.SumsOfStakes.{same_stake-true, times_from_there}
use Rattle.node_store.specs.Changes.{with_last, with_staked}
use Rattle.node_store.specs.Given.{Given, ever, given_entry, stake_at, staked_at, stakes_of}
use Rattle.node_store.specs.TreeUnder.{kid_stakes, tree_under}
use Rattle.node_store.specs.declared.numbered.Numbered.{Numbered}
use Rattle.node_store.proofs.GivenEntries.{IsEntered, entry_is, last_entered, staked_entered}
use Rattle.node_store.proofs.StakesCounted.{times-stakes_of}
use Rattle.node_store.proofs.TreesUnder.{kid_stakes_are, tree_is, tree_still}

-- only the count of stakes under one number is another
pub record IsRestaked (g after : Given) (n : ℕ) (t : Tree) : Type 0 where
  pub counts : (m : ℕ) → (m ≡ n → ⊥) → staked_at after m ≡ staked_at g m
  pub trees : (m : ℕ) → (m ≡ n → ⊥) → (stake_at after m ≡ stake_at g m) ⊎ (staked_at g m ≡ 0)
  pub before : (stake_at g n ≡ stake n t) ⊎ (staked_at g n ≡ 0)
  pub here : stake_at after n ≡ stake n t

module _ (g after : Given) (n : ℕ) (t : Tree) (is : IsRestaked g after n t) where
  abbrev own : Stake
  own = stake n t

  elsewhere : (x : Stake) → (x.number ≡ n → ⊥) → times x (stakes_of after) ≡ times x (stakes_of g)
  elsewhere x apart = times-stakes_of after x ∙ elim (is.trees x.number apart) [
    | inl same ↦ (
        ap (λ (y : Stake). cond (same_stake x y) (staked_at after x.number) 0) same
        ∙ ap (λ (m : ℕ). cond (same_stake x (stake_at g x.number)) m 0) (is.counts x.number apart))
    | inr none ↦ cond_zeros _ _ _ _ (is.counts x.number apart ∙ none) none
  ] ∙ sym (times-stakes_of g x)

  afterwards : (x : Stake) → x.number ≡ n → times x (stakes_of after) ≡ cond (same_stake x own)
      (staked_at after n) 0
  afterwards x same = times-stakes_of after x
      ∙ ap (λ (m : ℕ). cond (same_stake x (stake_at after m)) (staked_at after m) 0) same
      ∙ ap (λ (y : Stake). cond (same_stake x y) (staked_at after n) 0) is.here

  beforehand : (x : Stake) → x.number ≡ n → times x (stakes_of g) ≡ cond (same_stake x own) (staked_at g n) 0
  beforehand x same = times-stakes_of g x
      ∙ ap (λ (m : ℕ). cond (same_stake x (stake_at g m)) (staked_at g m) 0) same
      ∙ elim is.before [
        | inl tree ↦ ap (λ (y : Stake). cond (same_stake x y) (staked_at g n) 0) tree
        | inr none ↦ cond_zeros _ _ _ _ none none
      ]

  not_own : (x : Stake) → (x.number ≡ n → ⊥) → times x (own ∷ []) ≡ 0
  not_own x apart = times-one x own ∙ elim (cases_Bool (same_stake x own)) [
    | inl same ↦ absurd (apart (ap (λ (y : Stake). y.number) (same_stake-true x own same)))
    | inr differ ↦ ap (λ (b : Bool). cond {A = ℕ} b 1 0) differ
  ]

  sums : (b : Bool) (m : ℕ) → cond b (m + 1) 0 ≡ cond b m 0 + cond b 1 0
  sums true m = refl
  sums false m = refl

  pub one_more : staked_at after n ≡ staked_at g n + 1 → Exchanges (stakes_of g) (stakes_of after) []
      (own ∷ [])
  one_more more x = elim (cases_eq x.number n) [
    | inl same ↦ (
        let a = afterwards x same ∙ ap (λ (m : ℕ). cond (same_stake x own) m 0) more in
        omega (arith, a, beforehand x same, times-one x own, sums (same_stake x own) (staked_at g n)))
    | inr apart ↦ omega (arith, elsewhere x apart, not_own x apart)
  ]

  pub one_less : staked_at g n ≡ staked_at after n + 1 → Exchanges (stakes_of g)
      (stakes_of after) (own ∷ []) []
  one_less less x = elim (cases_eq x.number n) [
    | inl same ↦ (
        let b = beforehand x same ∙ ap (λ (m : ℕ). cond (same_stake x own) m 0) less in
        omega (arith, b, afterwards x same, times-one x own, sums (same_stake x own) (staked_at after n)))
    | inr apart ↦ omega (arith, elsewhere x apart, not_own x apart)
  ]

-- ---- a number that was given

key_of : Option Numbered → Option NodeKey
key_of o = option_map (λ (e : Numbered). e.key) o

count_of : Option Numbered → ℕ
count_of o = option_map_or (λ (e : Numbered). e.staked) o 0

module _ (g : Given) (n : ℕ) (e : Numbered) (c : ℕ) (is : given_entry g n ≡ Some e) where
  abbrev after : Given
  after = with_staked g n c

  abbrev entered : IsEntered g after n (record { key = e.key; staked = c })
  entered = staked_entered g n e c is

  same_key_at : (m : ℕ) → ever after m ≡ ever g m
  same_key_at m = elim (cases_eq m n) [
    | inl same ↦ (
        ap (ever after) same ∙ ap (option_map (λ (d : Numbered). d.key)) entered.here
        ∙ sym (ap (option_map (λ (d : Numbered). d.key)) is) ∙ sym (ap (ever g) same))
    | inr apart ↦ ap (option_map (λ (d : Numbered). d.key)) (entered.others m apart)
  ]

  -- numbers keep their keys
  pub ever-with_staked : ever after ≡ ever g
  ever-with_staked = λ i m. same_key_at m i

  pub staked_now : staked_at after n ≡ c
  staked_now = ap (λ (o : Option Numbered). option_map_or (λ (d : Numbered). d.staked) o 0) entered.here

  pub restaked_given : IsRestaked g after n (tree_under (ever g) n)
  restaked_given = record {
    counts = λ m apart. ap (λ (o : Option Numbered). option_map_or (λ (d : Numbered). d.staked) o 0)
        (entered.others m apart);
    trees = λ m apart. inl (ap (λ (at : ℕ → Option NodeKey). stake m (tree_under at m)) ever-with_staked);
    before = inl refl;
    here = ap (λ (at : ℕ → Option NodeKey). stake n (tree_under at n)) ever-with_staked;
  }

-- ---- a new number

module _ (g : Given) (i : ℕ) (es : List Numbered) (key : NodeKey) (room : i < STORE_ROOMS)
    (there : slice_get g.rooms i ≡ Some es) where
  abbrev first_of : Numbered
  first_of = record { key = key; staked = 1 }

  abbrev number : ℕ
  number = STORE_ROOMS * (g.first + length es) + i

  abbrev longer : Given
  longer = with_last g i first_of

  abbrev new_entered : IsEntered g longer number first_of
  new_entered = last_entered g i es first_of room there

  new_number : given_entry g number ≡ None
  new_number = elim (some_or_none (given_entry g number)) [
    | inl none ↦ none
    | inr some ↦ (
        let entry = entry_is g number some.0 some.1 in
        let own : number % STORE_ROOMS ≡ i = omega (arith, room) in
        let index : number / STORE_ROOMS ≡ g.first + length es = omega (arith, room) in
        let list = same_Some es entry.list (sym there ∙ ap (slice_get g.rooms) (sym own) ∙ entry.there) in
        let within = slice_get_within entry.list _ some.0 entry.at in
        let long = ap length list in
        absurd (omega (arith, within, index, long)))
  ]

  pub never_given : ever g number ≡ None
  never_given = ap (option_map (λ (d : Numbered). d.key)) new_number

  pub key_of_new : ever longer number ≡ Some key
  key_of_new = ap (option_map (λ (d : Numbered). d.key)) new_entered.here

  pub key_of_others : (m : ℕ) → (m ≡ number → ⊥) → ever longer m ≡ ever g m
  key_of_others m apart = ap (option_map (λ (d : Numbered). d.key)) (new_entered.others m apart)

  pub keys_kept : (m : ℕ) (k : NodeKey) → ever g m ≡ Some k → ever longer m ≡ Some k
  keys_kept m k is = elim (cases_eq m number) [
    | inl same ↦ absurd (none-some k (sym never_given ∙ ap (ever g) (sym same) ∙ is))
    | inr apart ↦ key_of_others m apart ∙ is
  ]

  staked_new : staked_at g number ≡ 0
  staked_new = ap (λ (o : Option Numbered). option_map_or (λ (d : Numbered). d.staked) o 0) new_number

  pub staked_once : staked_at longer number ≡ staked_at g number + 1
  staked_once =
      let now = ap (λ (o : Option Numbered). option_map_or (λ (d : Numbered). d.staked) o 0)
      new_entered.here in
      omega (arith, now, staked_new)

  tree_kept : ((m : ℕ) (k : NodeKey) → ever g m ≡ Some k → Stands (ever g) m (tree_under (ever g) m))
      → (m : ℕ)
      → (stake_at longer m ≡ stake_at g m) ⊎ (staked_at g m ≡ 0)
  tree_kept stand m = elim (some_or_none (given_entry g m)) [
    | inl none ↦ inr (ap (λ (o : Option Numbered). option_map_or (λ (d : Numbered). d.staked) o 0) none)
    | inr some ↦ (
        let at = ap (option_map (λ (d : Numbered). d.key)) some.1 in
        inl (ap (stake m) (tree_still (ever g) (ever longer) keys_kept m (stand m some.0.key at))))
  ]

  pub restaked_new : (t : Tree)
      → ((m : ℕ) (k : NodeKey) → ever g m ≡ Some k → Stands (ever g) m (tree_under (ever g) m))
      → Stands (ever longer) number t → IsRestaked g longer number t
  restaked_new t stand own = record {
    counts = λ m apart. ap (λ (o : Option Numbered). option_map_or (λ (d : Numbered). d.staked) o 0)
        (new_entered.others m apart);
    trees = λ m apart. tree_kept stand m;
    before = inr staked_new;
    here = ap (stake number) (tree_is (ever longer) number t own);
  }

-- ---- which stakes the owner has

-- a stake of the owner is on a number that is staked, and has its tree
pub staked_from_times : (g : Given) (x : Stake) → 1 ≤ times x (stakes_of g)
    → (1 ≤ staked_at g x.number) × (tree_under (ever g) x.number ≡ x.tree)
staked_from_times g x has = elim (cases_Bool (same_stake x (stake_at g x.number))) [
  | inl same ↦ (
      let count = times-stakes_of g x ∙ ap (λ (b : Bool). cond b (staked_at g x.number) 0) same in
      let tree = ap (λ (y : Stake). y.tree) (sym (same_stake-true x (stake_at g x.number) same)) in
      (omega (arith, has, count), tree))
  | inr differ ↦ (
      let count = times-stakes_of g x ∙ ap (λ (b : Bool). cond b (staked_at g x.number) 0) differ in
      absurd (omega (arith, has, count)))
]

pub staked_from_has : (g : Given) (n : ℕ) (t : Tree) → HasStakes (stakes_of g) (stake n t ∷ [])
    → (1 ≤ staked_at g n) × (tree_under (ever g) n ≡ t)
staked_from_has g n t has =
    let own = stake n t in
    let one = times-one own own ∙ ap (λ (b : Bool). cond {A = ℕ} b 1 0) (same_stake-refl own) in
    staked_from_times g own (omega (arith, has own, one))

-- what is staked was given
pub given_from_staked : (g : Given) (n : ℕ) → 1 ≤ staked_at g n → (e : Numbered) × (given_entry g n ≡ Some e)
given_from_staked g n staked = elim (some_or_none (given_entry g n)) [
  | inl none ↦ (
      let count = ap (λ (o : Option Numbered). option_map_or (λ (d : Numbered). d.staked) o 0) none in
      absurd (omega (arith, staked, count)))
  | inr some ↦ some
]
