-- The tree over stakes on the kids of a key. Where a number tells the stake, there is at most one.
use Rattle.std.proofs.Common.{◌≡◌, ℕ, ◌<◌, Contains, List, [], ◌∷◌, length, map}
use Rattle.std.proofs.Common.{refl, sym, ap, subst, ◌∙◌, arith, zero, suc, zero-lt-suc, get_or}
use Rattle.std.specs.List.{AllZip}
use Rattle.std.proofs.lemmas.List.Elements.{Contains-append_right, Contains-get_or}
use Rattle.std.proofs.lemmas.List.{get_or_default}
use Rattle.node_key.specs.Keys.{numbered}
use Rattle.node_key.specs.Stakes.{AreOnKids, HasStakes}
use Rattle.node_key.specs.Tree.{Kids, Tree, count, height_above, kid, no_kids}
use Rattle.node_key.specs.declared.key.Kid.{Kid}
use Rattle.node_key.specs.declared.key.NodeKey.{NodeKey}
use Rattle.node_key.specs.declared.stake.Stake.{Stake}
use Rattle.node_key.proofs.Numbering.{length-numbered}
use Rattle.store_laws.specs.Store.{kids_in}
use Rattle.store_laws.proofs.SumsOfStakes.{among_held}
use Rattle.hall_core.specs.OneTree.{IsStakedTree, OneTreeEach}

-- the stake is one of these, is on this kid and has its span
pub record IsKidStake (stakes : List Stake) (k : Kid) (x : Stake) : Type 0 where
  pub there : Contains stakes x
  pub number : x.number ≡ k.node
  pub span : x.tree.dur ≡ k.span

-- the kids of a tree over these stakes
abbrev pub kids_over : List Kid → List Stake → Kids
kids_over (k ∷ ks) (x ∷ xs) = kid k.gap x.tree.func x.tree.dur x.tree.kids (kids_over ks xs)
kids_over _ _ = no_kids

-- the numbers that the stakes are on
abbrev pub numbers : List Stake → List ℕ
numbers xs = map (λ x. x.number) xs

-- the stakes on the kids of a tree tell the kids
kids_told : (kids : Kids) (xs : List Stake) → AreOnKids kids xs
    → kids_over (numbered kids (numbers xs)) xs ≡ kids
kids_told no_kids [] on = refl
kids_told no_kids (x ∷ xs) on = refl
kids_told (kid gap func dur inner more) [] on = absurd cc
kids_told (kid gap func dur inner more) (x ∷ xs) on =
    let here : x.tree ≡ record { func = func; dur = dur; kids = inner } = cc in
    let rest = kids_told more xs (cc) in
    λ i. kid gap (here i).func (here i).dur (here i).kids (rest i)

-- each is on its kid
on_kids : (stakes : List Stake) (kids : Kids) (xs : List Stake) → AreOnKids kids xs
    → ((x : Stake) → Contains xs x → Contains stakes x)
    → AllZip (IsKidStake stakes) (numbered kids (numbers xs)) xs
on_kids stakes no_kids [] on there = tt
on_kids stakes no_kids (x ∷ xs) on there = absurd cc
on_kids stakes (kid gap func dur inner more) [] on there = absurd cc
on_kids stakes (kid gap func dur inner more) (x ∷ xs) on there =
    let here : x.tree ≡ record { func = func; dur = dur; kids = inner } = cc in (
      record {
        there = there x (0, zero-lt-suc (length xs), refl);
        number = refl;
        span = ap (λ (t : Tree). t.dur) here;
      },
      on_kids stakes more xs (cc) (λ y in'. there y (Contains-append_right (x ∷ []) xs y in')),
    )

-- what a key says of the tree over stakes on its kids
pub record IsTreeOver (stakes : List Stake) (key : NodeKey) (t : Tree) (kids : List Stake) : Type 0 where
  pub on : AllZip (IsKidStake stakes) (kids_in key) kids
  pub func : t.func ≡ key.func
  pub dur : t.dur ≡ key.dur
  pub kids_are : t.kids ≡ kids_over (kids_in key) kids
  pub len : length (kids_in key) ≡ key.len
  pub high : key.height ≡ height_above (kids_over (kids_in key) kids)

-- a staked tree is over the stakes on its kids
pub tree_over : (stakes : List Stake) (key : NodeKey) (t : Tree) (kids : List Stake)
    → IsStakedTree stakes key t kids → IsTreeOver stakes key t kids
tree_over stakes key t kids staked =
    let of = staked.over.key_of in
    let on = on_kids stakes t.kids kids staked.over.kids (λ x. among_held stakes kids x staked.has) in
    let told : t.kids ≡ kids_over (kids_in key) kids = sym (kids_told t.kids kids staked.over.kids)
    ∙ ap (λ (ks : List Kid). kids_over ks kids) (sym of.kids) in
    record {
      on = subst (λ (ks : List Kid). AllZip (IsKidStake stakes) ks kids) (sym of.kids) on;
      func = sym of.func;
      dur = sym of.dur;
      kids_are = told;
      len = ap length of.kids ∙ length-numbered t.kids (numbers kids) of.numbers ∙ sym of.len;
      high = of.height ∙ ap height_above told;
    }

-- the stakes on kids are told by the kids
pub same_stakes : (stakes : List Stake) (ks : List Kid) (xs ys : List Stake) → OneTreeEach stakes
    → AllZip (IsKidStake stakes) ks xs → AllZip (IsKidStake stakes) ks ys → xs ≡ ys
same_stakes stakes [] [] [] one on also = refl
same_stakes stakes [] [] (y ∷ ys) one on also = absurd also
same_stakes stakes [] (x ∷ xs) ys one on also = absurd on
same_stakes stakes (k ∷ ks) [] ys one on also = absurd on
same_stakes stakes (k ∷ ks) (x ∷ xs) [] one on also = absurd also
same_stakes stakes (k ∷ ks) (x ∷ xs) (y ∷ ys) one on also =
    let here = one x y on.0.there also.0.there (on.0.number ∙ sym also.0.number) in
    let rest = same_stakes stakes ks xs ys one on.1 also.1 in
    λ i. here i ∷ rest i

-- a stake at an index, which is on this kid
pub record StakeAt (stakes : List Stake) (k : Kid) (xs : List Stake) (i : ℕ) : Type 0 where
  pub stake : Stake
  pub below : i < length xs
  pub here : get_or xs i stake ≡ stake
  pub on : IsKidStake stakes k stake

-- the stake on the kid at an index
pub stake_at : (stakes : List Stake) (ks : List Kid) (xs : List Stake) (i : ℕ) (d : Kid)
    → AllZip (IsKidStake stakes) ks xs → i < length ks → StakeAt stakes (get_or ks i d) xs i
stake_at stakes [] xs i d on below = absurd (omega (arith, below))
stake_at stakes (k ∷ ks) [] i d on below = absurd on
stake_at stakes (k ∷ ks) (x ∷ xs) zero d on below = record {
  stake = x;
  below = zero-lt-suc (length xs);
  here = refl;
  on = on.0;
}
stake_at stakes (k ∷ ks) (x ∷ xs) (suc i) d on below =
    let next = stake_at stakes ks xs i d on.1 (omega (arith, below)) in
    record { stake = next.stake; below = omega (arith, next.below); here = next.here; on = next.on }

-- there are as many stakes as kids
pub as_long : (stakes : List Stake) (ks : List Kid) (xs : List Stake) → AllZip (IsKidStake stakes) ks xs
    → length xs ≡ length ks
as_long stakes [] [] on = refl
as_long stakes [] (x ∷ xs) on = absurd on
as_long stakes (k ∷ ks) [] on = absurd on
as_long stakes (k ∷ ks) (x ∷ xs) on = ap suc (as_long stakes ks xs on.1)

-- each of the kids has a stake
pub stake_on : (stakes : List Stake) (ks : List Kid) (xs : List Stake) (k : Kid)
    → AllZip (IsKidStake stakes) ks xs → Contains ks k → (x : Stake) × Contains xs x × IsKidStake stakes k x
stake_on stakes ks xs k on (i, below, is) =
    let at = stake_at stakes ks xs i k on below in (
      at.stake,
      (i, at.below, at.here),
      subst (λ (j : Kid). IsKidStake stakes j at.stake) is at.on,
    )

-- a kid for places past the last
abbrev no_kid : Kid
no_kid = record { gap = 0; span = 0; node = 0 }

-- each of the stakes has a kid
pub kid_of : (stakes : List Stake) (ks : List Kid) (xs : List Stake) (x : Stake)
    → AllZip (IsKidStake stakes) ks xs → Contains xs x → (k : Kid) × Contains ks k × IsKidStake stakes k x
kid_of stakes ks xs x on (i, below, is) =
    let within : i < length ks = omega (arith, below, as_long stakes ks xs on) in
    let at = stake_at stakes ks xs i no_kid on within in
    let same : at.stake ≡ x = sym at.here ∙ get_or_default xs i at.stake x below ∙ is in (
      get_or ks i no_kid,
      Contains-get_or ks i no_kid within,
      subst (λ (y : Stake). IsKidStake stakes (get_or ks i no_kid) y) same at.on,
    )

-- ---- the other way round

-- the kids of a key are those of the tree, numbered
numbered-over : (stakes : List Stake) (ks : List Kid) (xs : List Stake) → AllZip (IsKidStake stakes) ks xs
    → numbered (kids_over ks xs) (numbers xs) ≡ ks
numbered-over stakes [] [] on = refl
numbered-over stakes [] (x ∷ xs) on = absurd on
numbered-over stakes (k ∷ ks) [] on = absurd on
numbered-over stakes (k ∷ ks) (x ∷ xs) on =
    let rest = numbered-over stakes ks xs on.1 in
    λ i. record { gap = k.gap; span = on.0.span i; node = on.0.number i } ∷ rest i

-- the tree has as many kids as there are stakes
count-over : (stakes : List Stake) (ks : List Kid) (xs : List Stake) → AllZip (IsKidStake stakes) ks xs
    → (count (kids_over ks xs) ≡ length ks) × (length (numbers xs) ≡ length ks)
count-over stakes [] [] on = (refl, refl)
count-over stakes [] (x ∷ xs) on = absurd on
count-over stakes (k ∷ ks) [] on = absurd on
count-over stakes (k ∷ ks) (x ∷ xs) on =
    let rest = count-over stakes ks xs on.1 in (omega (arith, rest.0), ap suc rest.1)

-- each stake is on the tree of its kid
trees-over : (stakes : List Stake) (ks : List Kid) (xs : List Stake) → AllZip (IsKidStake stakes) ks xs
    → AreOnKids (kids_over ks xs) xs
trees-over stakes [] [] on = refl
trees-over stakes [] (x ∷ xs) on = absurd on
trees-over stakes (k ∷ ks) [] on = absurd on
trees-over stakes (k ∷ ks) (x ∷ xs) on =
    ap (λ (ts : List Tree). x.tree ∷ ts) (trees-over stakes ks xs on.1)

-- the tree of a key over stakes on its kids
abbrev pub tree_of : NodeKey → List Stake → Tree
tree_of key kids = record { func = key.func; dur = key.dur; kids = kids_over (kids_in key) kids }

-- stakes that are there, on the kids of a key that is as high as it says, are those under its tree
pub staked_over : (stakes : List Stake) (key : NodeKey) (kids : List Stake)
    → AllZip (IsKidStake stakes) (kids_in key) kids → HasStakes stakes kids → length (kids_in key) ≡ key.len
    → key.height ≡ height_above (kids_over (kids_in key) kids)
    → IsStakedTree stakes key (tree_of key kids) kids
staked_over stakes key kids on has len high =
    let counted = count-over stakes (kids_in key) kids on in
    record {
      over = record {
        key_of = record {
          func = refl;
          dur = refl;
          height = high;
          len = sym len ∙ sym counted.0;
          numbers = counted.1 ∙ sym counted.0;
          kids = sym (numbered-over stakes (kids_in key) kids on);
        };
        kids = trees-over stakes (kids_in key) kids on;
      };
      has = has;
    }
