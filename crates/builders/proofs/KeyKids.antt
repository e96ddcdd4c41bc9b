-- The kids of a key under way.
use Rattle.std.proofs.Common.{◌≡◌, ℕ, ◌+◌, ◌-◌, ◌<◌, ◌≤◌, max, List, [], ◌∷◌, ◌++◌, length, map, take, drop}
use Rattle.std.proofs.Common.{refl, sym, ap, subst, ◌∙◌, arith, All, set, append_assoc, append-nil}
use Rattle.std.proofs.Common.{sum_by, replicate, take-append-drop, suc, ◌↔◌}
use Rattle.std.proofs.lemmas.List.{drop-set-lt, take_more_set, drop_all, drop-drop, drop-replicate}
use Rattle.std.proofs.lemmas.List.Sums.{sum_by-append, sum_by-cons}
use Rattle.std.proofs.lemmas.List.Folds.{sum_by-replicate}
use Rattle.std.proofs.lemmas.List.Elements.{All-head, All-tail}
use Rattle.node_key.specs.Tree.{Tree, count, height, height_above}
use Rattle.node_key.specs.Branches.{kids_of}
use Rattle.node_key.specs.Items.{branches_from, end_of, node}
use Rattle.node_key.specs.Keys.{numbered}
use Rattle.node_key.specs.Stakes.{IsOverStakes}
use Rattle.node_key.specs.declared.key.Kid.{Kid}
use Rattle.node_key.specs.declared.key.NodeKey.{NodeKey}
use Rattle.node_key.specs.declared.limits.TheConstants.{HEIGHT_BOUND}
use Rattle.node_key.proofs.Kids.{branches-kids_of, count-kids_of}
use Rattle.builders.specs.declared.built.BuiltItem.{BuiltItem}
use Rattle.builders.specs.Built.{BuiltFitBetween, StoredItem, built, items_in, stakes_held}

abbrev pub no_kid : Kid
no_kid = record { gap = 0; span = 0; node = 0 }

-- the kids of a key over these items, where the time before the first begins at `from`
abbrev pub kids_from : ℕ → List BuiltItem → List Kid
kids_from from [] = []
kids_from from (b ∷ bs) = record { gap = b.at - from; span = b.dur; node = b.number } ∷ kids_from
    (b.at + b.dur) bs

-- the height of a node over them
abbrev pub height_over : List BuiltItem → ℕ
height_over [] = 0
height_over (b ∷ bs) = max (b.height + 1) (height_over bs)

pub BuiltFitBetween-le : (start end : ℕ) (bs : List BuiltItem) → BuiltFitBetween start end bs → start ≤ end
BuiltFitBetween-le start end [] fit = fit
BuiltFitBetween-le start end (b ∷ bs) fit = omega (
  arith,
  fit.0,
  BuiltFitBetween-le (b.at + b.dur) end bs
      fit.1,
)

-- the first kids are those of the items so far, and those behind them are still none
pub record Filling (start end : ℕ) (all : List BuiltItem) (kids : List Kid) (from highest i : ℕ) : Type 0
  where
    pub so_far : take i kids ++ kids_from from (drop i all) ≡ kids_from start all
    pub later : drop i kids ≡ replicate (8 - i) no_kid
    pub fit : BuiltFitBetween from end (drop i all)
    pub low : All (λ (b : BuiltItem). b.height < HEIGHT_BOUND) (drop i all)
    pub high : max highest (height_over (drop i all)) ≡ height_over all
    pub bounded : highest ≤ HEIGHT_BOUND

-- where the next item lies
pub Filling-next : (start end : ℕ) (all : List BuiltItem) (kids : List Kid) (from highest i : ℕ)
    (b : BuiltItem)
    → drop i all ≡ b ∷ drop (i + 1) all → Filling start end all kids from highest i
    → (from ≤ b.at) × (b.at + b.dur ≤ end) × (b.height < HEIGHT_BOUND)
Filling-next start end all kids from highest i b e f =
    let fit = subst (λ (bs : List BuiltItem). BuiltFitBetween from end bs) e f.fit in (
      fit.0,
      BuiltFitBetween-le (b.at + b.dur) end (drop (i + 1) all) fit.1,
      All-head (λ (b : BuiltItem). b.height < HEIGHT_BOUND) b (drop (i + 1) all)
          (subst (λ (bs : List BuiltItem). All (λ (b : BuiltItem). b.height < HEIGHT_BOUND) bs) e f.low),
    )

pub Filling-step : (start end : ℕ) (all : List BuiltItem) (kids kids' : List Kid)
    (from from' highest highest' i : ℕ) (b : BuiltItem)
    → drop i all ≡ b ∷ drop (i + 1) all → Filling start end all kids from highest i → i < length kids
    → kids' ≡ set kids i (record { gap = b.at - from; span = b.dur; node = b.number })
    → from' ≡ b.at + b.dur → highest' ≡ max highest (b.height + 1)
    → Filling start end all kids' from' highest' (i + 1)
Filling-step start end all kids kids' from from' highest highest' i b e f within is is-from is-high =
    let k : Kid = record { gap = b.at - from; span = b.dur; node = b.number } in
    let rest = drop (i + 1) all in
    let next = Filling-next start end all kids from highest i b e f in
    let high = ap height_over e in
    let here : Filling start end all (set kids i k) (b.at + b.dur) (max highest (b.height + 1)) (i + 1) =
    record {
      so_far = ap (λ (l : List Kid). l ++ kids_from (b.at + b.dur) rest) (take_more_set kids i k within)
          ∙ append_assoc (take i kids) (k ∷ []) (kids_from (b.at + b.dur) rest)
          ∙ ap (λ (bs : List BuiltItem). take i kids ++ kids_from from bs) (sym e) ∙ f.so_far;
      later = drop-set-lt (i + 1) kids i k (omega arith) ∙ sym (drop-drop 1 i kids)
          ∙ ap (λ (l : List Kid). drop 1 l) f.later ∙ drop-replicate 1 (8 - i) no_kid
          ∙ ap (λ (n : ℕ). replicate n no_kid) (let n : 8 - i - 1 ≡ 8 - (i + 1) = omega arith in n);
      fit = (subst (λ (bs : List BuiltItem). BuiltFitBetween from end bs) e f.fit).1;
      low = All-tail (λ (b : BuiltItem). b.height < HEIGHT_BOUND) b rest
          (subst (λ (bs : List BuiltItem). All (λ (b : BuiltItem). b.height < HEIGHT_BOUND) bs) e f.low);
      high = omega (arith, f.high, high);
      bounded = omega (arith, f.bounded, next.2);
    } in
    subst (λ (l : List Kid). Filling start end all l from' highest' (i + 1)) (sym is)
    (subst (λ (n : ℕ). Filling start end all (set kids i k) n highest' (i + 1)) (sym is-from)
    (subst (λ (n : ℕ). Filling start end all (set kids i k) (b.at + b.dur) n (i + 1)) (sym is-high) here))

-- all items are done
pub record Filled (start end : ℕ) (all : List BuiltItem) (kids : List Kid) (highest : ℕ) : Type 0 where
  pub kids_are : take (length all) kids ≡ kids_from start all
  pub later : drop (length all) kids ≡ replicate (8 - length all) no_kid
  pub high : highest ≡ height_over all

pub Filling-end : (start end : ℕ) (all : List BuiltItem) (kids : List Kid) (from highest i : ℕ)
    → i ≡ length all → Filling start end all kids from highest i → Filled start end all kids highest
Filling-end start end all kids from highest i e f =
    let here = subst (λ (n : ℕ). Filling start end all kids from highest n) e f in
    let none : drop (length all) all ≡ [] = drop_all (length all) all (omega arith) in record {
      kids_are = sym (append-nil (take (length all) kids))
          ∙ ap (λ (bs : List BuiltItem). take (length all) kids ++ kids_from from bs) (sym none) ∙
          here.so_far;
      later = here.later;
      high = omega (arith, here.high, ap height_over none);
    }

-- the items are so high that the node over them is as high as it says
pub height_over-leaf : (all : List BuiltItem) → (height_over all ≡ 0) ↔ (length all ≡ 0)
height_over-leaf [] = (λ e. refl, λ e. refl)
height_over-leaf (b ∷ bs) = (λ e. absurd (omega arith), λ e. absurd (omega arith))

-- the gaps and durations add up to at most the time that there is
sum-kids_from : (start end : ℕ) (all : List BuiltItem) → BuiltFitBetween start end all
    → start + sum_by (λ (k : Kid). k.gap + k.span) (kids_from start all) ≤ end
sum-kids_from start end [] fit = omega (arith, fit)
sum-kids_from start end (b ∷ bs) fit =
    let k : Kid = record { gap = b.at - start; span = b.dur; node = b.number } in
    omega (
      arith,
      fit.0,
      sum_by-cons (λ (k : Kid). k.gap + k.span) k (kids_from (b.at + b.dur) bs),
      sum-kids_from (b.at + b.dur) end bs fit.1,
    )

pub Filled-within : (start end : ℕ) (all : List BuiltItem) (kids : List Kid) (highest : ℕ)
    → BuiltFitBetween start end all → Filled start end all kids highest
    → sum_by (λ (k : Kid). k.gap + k.span) kids ≤ end - start
Filled-within start end all kids highest fit f =
    let whole : kids ≡ kids_from start all ++ replicate (8 - length all) no_kid =
    sym (take-append-drop (length all) kids)
    ∙ ap (λ (l : List Kid). l ++ drop (length all) kids) f.kids_are
    ∙ ap (λ (l : List Kid). kids_from start all ++ l) f.later in
    let parts = sum_by-append (λ (k : Kid). k.gap + k.span) (kids_from start all)
    (replicate (8 - length all) no_kid) in
    let none = sum_by-replicate (λ (k : Kid). k.gap + k.span) (8 - length all) no_kid in
    omega (
      arith,
      ap (λ (l : List Kid). sum_by (λ (k : Kid). k.gap + k.span) l) whole,
      parts,
      none,
      sum-kids_from start end all fit,
    )

-- what the key says of the trees that were built
length-stored : (from : ℕ) (stored : List StoredItem)
    → length (map built stored) ≡ length (branches_from from (items_in stored))
length-stored from [] = refl
length-stored from (s ∷ ss) = ap suc (length-stored (end_of s.item) ss)

numbers-stored : (stored : List StoredItem)
    → length (map (λ x. x.number) (stakes_held stored)) ≡ length (map built stored)
numbers-stored [] = refl
numbers-stored (s ∷ ss) = ap suc (numbers-stored ss)

high-stored : (from : ℕ) (stored : List StoredItem)
    → height_over (map built stored) ≡ height_above (kids_of (branches_from from (items_in stored)))
high-stored from [] = refl
high-stored from (s ∷ ss) = ap (λ (n : ℕ). max (height s.item.tree + 1) n) (high-stored (end_of s.item) ss)

kids-stored : (from : ℕ) (stored : List StoredItem)
    → kids_from from (map built stored)
    ≡ numbered (kids_of (branches_from from (items_in stored))) (map (λ x. x.number) (stakes_held stored))
kids-stored from [] = refl
kids-stored from (s ∷ ss) =
    ap (λ (l : List Kid). record { gap = s.item.at - from; span = s.item.tree.dur; node = s.number } ∷ l)
    (kids-stored (end_of s.item) ss)

trees-stored : (from : ℕ) (stored : List StoredItem)
    → map (λ x. x.tree) (stakes_held stored) ≡ map (λ b. b.tree) (branches_from from (items_in stored))
trees-stored from [] = refl
trees-stored from (s ∷ ss) = ap (λ (l : List Tree). s.item.tree ∷ l) (trees-stored (end_of s.item) ss)

pub key-stored : (func start end : ℕ) (all : List BuiltItem) (stored : List StoredItem) (key : NodeKey)
    → key.func ≡ func → key.dur ≡ end - start → key.len ≡ length all
    → Filled start end all key.kids key.height
    → all ≡ map built stored → IsOverStakes (node func start end (items_in stored)) (stakes_held stored) key
key-stored func start end all stored key is-func is-dur is-len f e =
    let bs = branches_from start (items_in stored) in
    let number : length all ≡ count (kids_of bs) = ap length e ∙ length-stored start stored ∙ sym
    (count-kids_of bs) in record {
      key_of = record {
        func = is-func;
        dur = is-dur;
        height = f.high ∙ ap height_over e ∙ high-stored start stored;
        len = is-len ∙ number;
        numbers = numbers-stored stored ∙ ap length (sym e) ∙ number;
        kids = ap (λ (n : ℕ). take n key.kids) is-len ∙ f.kids_are ∙ ap (kids_from start) e
            ∙ kids-stored start stored;
      };
      kids = trees-stored start stored ∙ ap (map (λ b. b.tree)) (sym (branches-kids_of bs));
    }
