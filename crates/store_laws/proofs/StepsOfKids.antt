-- Kids that stand, the stakes on them, and what stands where keys are found otherwise.
use Rattle.std.proofs.Common.{◌≡◌, ℕ, zero, suc, List, [], ◌∷◌, length, map, refl, sym, ap, arith, subst}
use Rattle.std.proofs.Common.{Contains, Some, zero-lt-suc}
use Rattle.std.proofs.lemmas.List.Elements.{Contains-append_right}
use Rattle.list_lemmas.proofs.Fronts.{behind_first, first_or, no_cons}
use Rattle.node_key.specs.Keys.{IsKeyOf, numbered}
use Rattle.node_key.specs.Stakes.{AreOnKids}
use Rattle.node_key.specs.declared.stake.Stake.{Stake}
use Rattle.node_key.specs.Stands.{KeyAt, KidsStand, Stands}
use Rattle.node_key.specs.Tree.{Kids, Tree, count, kid, no_kids}
use Rattle.node_key.specs.declared.key.Kid.{Kid}
use Rattle.node_key.specs.declared.key.NodeKey.{NodeKey}
use Rattle.store_laws.specs.Store.{kids_in}

abbrev pub numbers : List Stake → List ℕ
numbers xs = map (λ x. x.number) xs

abbrev tree_of : ℕ → ℕ → Kids → Tree
tree_of func dur inner = record { func = func; dur = dur; kids = inner }

-- ---- stakes on kids that stand

-- stakes on the kids stand for them
pub KidsStand-staked : (at : KeyAt) (k : Kids) (xs : List Stake) → AreOnKids k xs
    → ((x : Stake) → Contains xs x → Stands at x.number x.tree) → KidsStand at (numbers xs) k
KidsStand-staked at no_kids [] on each = refl
KidsStand-staked at no_kids (x ∷ xs) on each = absurd (no_cons _ _ on)
KidsStand-staked at (kid gap func dur inner more) [] on each = absurd (no_cons _ _ (sym on))
KidsStand-staked at (kid gap func dur inner more) (x ∷ xs) on each =
    let same : x.tree ≡ tree_of func dur inner = ap (first_or x.tree) on in
    let here : Stands at x.number (tree_of func dur inner) = subst (λ (t : Tree). Stands at x.number t) same
    (each x (0, zero-lt-suc (length xs), refl)) in
    let rest = λ (y : Stake) (there : Contains xs y). each y (Contains-append_right (x ∷ []) xs y there) in
    (here, KidsStand-staked at more xs (ap behind_first on) rest)

-- the stakes on kids, where numbers stand for them
pub stakes_of : List ℕ → Kids → List Stake
stakes_of (n ∷ ns) (kid gap func dur inner more) =
    record { number = n; tree = tree_of func dur inner } ∷ stakes_of ns more
stakes_of _ _ = []

pub numbers-stakes_of : (at : KeyAt) (ns : List ℕ) (k : Kids) → KidsStand at ns k
    → numbers (stakes_of ns k) ≡ ns
unfolding stakes_of
numbers-stakes_of at [] no_kids stand = refl
numbers-stakes_of at (n ∷ ns) no_kids stand = absurd (no_cons n ns stand)
numbers-stakes_of at [] (kid gap func dur inner more) stand = absurd stand
numbers-stakes_of at (n ∷ ns) (kid gap func dur inner more) stand =
    ap (λ (l : List ℕ). n ∷ l) (numbers-stakes_of at ns more stand.1)

pub AreOnKids-stakes_of : (at : KeyAt) (ns : List ℕ) (k : Kids) → KidsStand at ns k
    → AreOnKids k (stakes_of ns k)
unfolding stakes_of
AreOnKids-stakes_of at [] no_kids stand = refl
AreOnKids-stakes_of at (n ∷ ns) no_kids stand = absurd (no_cons n ns stand)
AreOnKids-stakes_of at [] (kid gap func dur inner more) stand = absurd stand
AreOnKids-stakes_of at (n ∷ ns) (kid gap func dur inner more) stand =
    ap (λ (l : List Tree). tree_of func dur inner ∷ l) (AreOnKids-stakes_of at ns more stand.1)

stands_or_later : (at : KeyAt) (y x : Stake) (xs : List Stake) → Stands at y.number y.tree
    → ((z : Stake) → Contains xs z → Stands at z.number z.tree) → Contains (y ∷ xs) x
    → Stands at x.number x.tree
stands_or_later at y x xs here rest (zero, below, is) =
    subst (λ (z : Stake). Stands at z.number z.tree) is here
stands_or_later at y x xs here rest (suc i, below, is) = rest x (i, omega (arith, below), is)

pub stakes_of-Stand : (at : KeyAt) (ns : List ℕ) (k : Kids) (x : Stake) → KidsStand at ns k
    → Contains (stakes_of ns k) x → Stands at x.number x.tree
unfolding stakes_of
stakes_of-Stand at [] no_kids x stand there = absurd (omega (arith, there.1))
stakes_of-Stand at (n ∷ ns) no_kids x stand there = absurd (no_cons n ns stand)
stakes_of-Stand at [] (kid gap func dur inner more) x stand there = absurd stand
stakes_of-Stand at (n ∷ ns) (kid gap func dur inner more) x stand there =
    stands_or_later at (record { number = n; tree = tree_of func dur inner }) x (stakes_of ns more) stand.0
    (λ z in_rest. stakes_of-Stand at ns more z stand.1 in_rest) there

-- ---- numbers in a key

-- each number is that of a kid
pub kid_of_number : (k : Kids) (ns : List ℕ) (n : ℕ) → length ns ≡ count k → Contains ns n
    → (c : Kid) × Contains (numbered k ns) c × (c.node ≡ n)
kid_of_number no_kids [] n long (i, below, is) = absurd (omega (arith, below))
kid_of_number no_kids (m ∷ ns) n long there = absurd (omega (arith, long))
kid_of_number (kid gap func dur inner more) [] n long (i, below, is) = absurd (omega (arith, below))
kid_of_number (kid gap func dur inner more) (m ∷ ns) n long (zero, below, is) =
    (record { gap = gap; span = dur; node = m }, (0, zero-lt-suc (length (numbered more ns)), refl), is)
kid_of_number (kid gap func dur inner more) (m ∷ ns) n long (suc i, below, is) =
    let rest = kid_of_number more ns n (omega (arith, long)) (i, omega (arith, below), is) in
    (rest.0, (suc rest.1.0, omega (arith, rest.1.1), rest.1.2), rest.2)

pub kid_of_key : (t : Tree) (ns : List ℕ) (key : NodeKey) (n : ℕ) → IsKeyOf t ns key → Contains ns n
    → (c : Kid) × Contains (kids_in key) c × (c.node ≡ n)
kid_of_key t ns key n is there =
    subst (λ (l : List Kid). (c : Kid) × Contains l c × (c.node ≡ n)) (sym is.kids)
    (kid_of_number t.kids ns n is.numbers there)

-- ---- keys that are found elsewhere too

-- Keys under these numbers are found after as they were before, and their kids have such numbers.
pub record Carries (before after : KeyAt) (Stays : ℕ → Type 0) : Type 0 where
  pub keeps : (n : ℕ) (key : NodeKey) → Stays n → before n ≡ Some key → after n ≡ Some key
  pub below : (n : ℕ) (key : NodeKey) (c : Kid) → Stays n → before n ≡ Some key → Contains (kids_in key) c
      → Stays c.node

module _ (before after : KeyAt) (Stays : ℕ → Type 0) (carries : Carries before after Stays) where
  kids_stay : (n : ℕ) (key : NodeKey) (t : Tree) (ms : List ℕ) → Stays n → before n ≡ Some key
      → IsKeyOf t ms key → (m : ℕ) → Contains ms m → Stays m
  kids_stay n key t ms here at is m there =
      let c = kid_of_key t ms key m is there in subst Stays c.2 (carries.below n key c.0 here at c.1)

  KidsStand-carried : (ns : List ℕ) (k : Kids) → ((n : ℕ) → Contains ns n → Stays n) → KidsStand before ns k
      → KidsStand after ns k
  KidsStand-carried ns no_kids stay stand = stand
  KidsStand-carried [] (kid gap func dur inner more) stay stand = stand
  KidsStand-carried (n ∷ ns) (kid gap func dur inner more) stay ((key, ms, at, is, kids), rest) =
      let here = stay n (0, zero-lt-suc (length ns), refl) in
      let below = kids_stay n key (tree_of func dur inner) ms here at is in
      let behind = λ (m : ℕ) (there : Contains ns m). stay m (Contains-append_right (n ∷ []) ns m there) in (
        (key, ms, carries.keeps n key here at, is, KidsStand-carried ms inner below kids),
        KidsStand-carried ns more behind rest,
      )

  pub Stands-carried : (n : ℕ) (t : Tree) → Stays n → Stands before n t → Stands after n t
  Stands-carried n t here (key, ns, at, is, kids) =
      let below = kids_stay n key t ns here at is in
      (key, ns, carries.keeps n key here at, is, KidsStand-carried ns t.kids below kids)
