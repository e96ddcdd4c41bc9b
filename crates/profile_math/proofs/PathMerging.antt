-- Rows of call-tree profiles merged by their depths and functions are their paths merged in order.
use Rattle.std.proofs.Common.{◌≡◌, ℕ, ◌+◌, ◌-◌, ◌<◌, ◌≤◌, zero, suc, List, [], ◌∷◌, ◌++◌, length, take, refl}
use Rattle.std.proofs.Common.{ap}
use Rattle.std.proofs.Common.{sym, subst, ◌∙◌, inl, inr, arith, length-append}
use Rattle.std.specs.Cmp.Lexicographic.{slice_cmp}
use Rattle.std.specs.FinMap.{nat_cmp-IsAntisymmetric, slice_cmp-IsAntisymmetric}
use Rattle.std.specs.Ordering.{nat_cmp, ordering_then}
use Rattle.std.specs.declared.cmp.Ordering.{Ordering}
use Rattle.std.specs.declared.cmp.Ordering.TheVariants.{Less, Equal, Greater}
use Rattle.std.proofs.lemmas.Cmp.{ranked, nat_cmp_total, tied_itself, nat_list_cmp_total}
use Rattle.std.proofs.lemmas.List.{length-take, take-take, take-append-le}
use Rattle.list_lemmas.proofs.Orderings.{ordering_cases, then-to_Equal, turned, turned_back}
use Rattle.trace_base.specs.declared.profile.PathRow.{PathRow}
use Rattle.profile_math.specs.Merging.{pick, merged}
use Rattle.profile_math.specs.PathSum.{PathNumbers, path_after, numbers_after, path_row_place, path_row_plus}
use Rattle.profile_math.proofs.Keyed.{by_key, picked}

abbrev pub lex : List ℕ → List ℕ → Ordering
lex p q = slice_cmp nat_cmp p q

abbrev pub path_of : PathNumbers → List ℕ
path_of n = n.path

-- two of one path, added
abbrev pub numbers_plus : PathNumbers → PathNumbers → PathNumbers
numbers_plus m n = record m { calls = m.calls + n.calls; incl = m.incl + n.incl; excl = m.excl + n.excl }

-- The row may follow the path p where a row with the path a was: both have as many functions of one path as
-- its depth leaves, and its path comes behind p.
pub record Follows (a p : List ℕ) (r : PathRow) : Type 0 where
  pub deep : 1 ≤ r.depth
  pub within : r.depth ≤ length p + 1
  pub shared : take (r.depth - 1) p ≡ take (r.depth - 1) a
  pub behind : lex p (path_after a r) ≡ Less

-- the rows follow the path a, and each other
abbrev pub Chain : List ℕ → List PathRow → Type 0
Chain a [] = Unit {0}
Chain a (r ∷ rs) = Follows a a r × Chain (path_after a r) rs

-- the first of the rows, if there is one, may follow p
abbrev pub MayFollow : List ℕ → List ℕ → List PathRow → Type 0
MayFollow a p [] = Unit {0}
MayFollow a p (r ∷ rs) = Follows a p r

-- the path is the same from either
after-same : (a p : List ℕ) (r : PathRow) → Follows a p r → path_after p r ≡ path_after a r
after-same a p r f = ap (λ q. q ++ r.func ∷ []) f.shared

-- where it goes on from a front that two paths share
lex-same : (q s t : List ℕ) → lex (q ++ s) (q ++ t) ≡ lex s t
lex-same [] s t = refl
lex-same (x ∷ q) s t = ap (λ o. ordering_then o (lex (q ++ s) (q ++ t))) (tied_itself nat_cmp_total x) ∙
    lex-same q s t

lex-nil : (q : List ℕ) → lex q [] ≡ Less → ⊥
lex-nil [] e = cc
lex-nil (x ∷ q) e = cc

-- what stands before a number alone begins with a lower one
first-less : (o : Ordering) (rest : List ℕ) → ordering_then o (lex rest []) ≡ Less → o ≡ Less
first-less Less rest e = refl
first-less Equal rest e = absurd (lex-nil rest e)
first-less Greater rest e = e

-- of two paths that branch off one path, the one that stays on it longer comes first
deeper : (k j f g : ℕ) (p : List ℕ) → k < j → j ≤ length p → lex p (take k p ++ g ∷ []) ≡ Less
    → lex (take j p ++ f ∷ []) (take k p ++ g ∷ []) ≡ Less
deeper k j f g [] l m e = absurd (omega arith)
deeper k zero f g (x ∷ p) l m e = absurd (omega arith)
deeper zero (suc j) f g (x ∷ p) l m e = ap (λ o. ordering_then o (lex (take j p ++ f ∷ []) []))
    (first-less (nat_cmp x g) p e)
deeper (suc k) (suc j) f g (x ∷ p) l m e =
    ap (λ o. ordering_then o (lex (take j p ++ f ∷ []) (take k p ++ g ∷ []))) (tied_itself nat_cmp_total x)
    ∙ deeper k j f g p (omega arith) (omega arith)
    (sym (ap (λ o. ordering_then o (lex p (take k p ++ g ∷ []))) (tied_itself nat_cmp_total x)) ∙ e)

-- the deeper of two rows that may follow a path comes first
deeper-first : (a b p : List ℕ) (r s : PathRow) → Follows a p r → Follows b p s → s.depth < r.depth
    → lex (path_after a r) (path_after b s) ≡ Less
deeper-first a b p r s f g l =
    ap (λ q. lex q (path_after b s)) (sym (after-same a p r f))
    ∙ ap (lex (path_after p r)) (sym (after-same b p s g))
    ∙ deeper (s.depth - 1) (r.depth - 1) r.func s.func p (omega (arith, g.deep)) (omega (arith, f.within))
    (ap (lex p) (after-same b p s g) ∙ g.behind)

-- rows that may follow one path stand in the order of their paths
place-is : (a b p : List ℕ) (r s : PathRow) → Follows a p r → Follows b p s
    → lex (path_after a r) (path_after b s) ≡ path_row_place r s
place-is a b p r s f g =
    elim (ordering_cases (nat_cmp s.depth r.depth)) [
      | inl e ↦ deeper-first a b p r s f g (ranked s.depth r.depth Less (sym e))
          ∙ sym (ap (λ o. ordering_then o (nat_cmp r.func s.func)) e)
      | inr h ↦
          elim h [
            | inl e ↦
                (let same : s.depth ≡ r.depth = ranked s.depth r.depth Equal (sym e) in
                ap (λ q. lex q (path_after b s)) (sym (after-same a p r f))
                ∙ ap (lex (path_after p r))
                (sym (after-same b p s g) ∙ ap (λ n. take (n - 1) p ++ s.func ∷ []) same)
                ∙ lex-same (take (r.depth - 1) p) (r.func ∷ []) (s.func ∷ [])
                ∙ then-to_Equal (nat_cmp r.func s.func)
                ∙ sym (ap (λ o. ordering_then o (nat_cmp r.func s.func)) e))
            | inr e ↦ turned lex nat_list_cmp_total (path_after b s) (path_after a r)
                (deeper-first b a p s r g f (ranked s.depth r.depth Greater (sym e)))
                ∙ sym (ap (λ o. ordering_then o (nat_cmp r.func s.func)) e)
          ]
    ]

pub length-after : (p : List ℕ) (r : PathRow) → 1 ≤ r.depth → r.depth ≤ length p + 1
    → length (path_after p r) ≡ r.depth
length-after p r l h = omega (
  arith,
  length-append (take (r.depth - 1) p) (r.func ∷ []),
  length-take (r.depth - 1) p,
)

-- a row that comes behind another, no deeper one, may follow it
then-follows : (a b p : List ℕ) (r s : PathRow) → Follows a p r → Follows b p s → s.depth ≤ r.depth
    → lex (path_after a r) (path_after b s) ≡ Less → Follows b (path_after a r) s
then-follows a b p r s f g l e = record {
  deep = g.deep;
  within = omega (arith, ap length (after-same a p r f), length-after p r f.deep f.within);
  shared =
      ap (take (s.depth - 1)) (sym (after-same a p r f))
      ∙ take-append-le (s.depth - 1) (take (r.depth - 1) p) (r.func ∷ [])
      (omega (arith, length-take (r.depth - 1) p, f.within, f.deep))
      ∙ take-take (s.depth - 1) (r.depth - 1) p (omega arith)
      ∙ g.shared;
  behind = e;
}

not_deeper : (r s : PathRow) → path_row_place r s ≡ Less → s.depth ≤ r.depth
not_deeper r s e =
    elim (ordering_cases (nat_cmp s.depth r.depth)) [
      | inl h ↦ omega (arith, ranked s.depth r.depth Less (sym h))
      | inr k ↦
          elim k [
            | inl h ↦ omega (arith, ranked s.depth r.depth Equal (sym h))
            | inr h ↦ (let no : Greater ≡ Less = sym (ap (λ o. ordering_then o (nat_cmp r.func s.func)) h) ∙ e
                in cc)
          ]
    ]

not_higher : (r s : PathRow) → path_row_place r s ≡ Greater → r.depth ≤ s.depth
not_higher r s e =
    elim (ordering_cases (nat_cmp s.depth r.depth)) [
      | inl h ↦ (let no : Less ≡ Greater = sym (ap (λ o. ordering_then o (nat_cmp r.func s.func)) h) ∙ e
          in cc)
      | inr k ↦
          elim k [
            | inl h ↦ omega (arith, ranked s.depth r.depth Equal (sym h))
            | inr h ↦ omega (arith, ranked s.depth r.depth Greater (sym h))
          ]
    ]

-- the depths of the rows are those of their paths
abbrev pub Deep : List ℕ → List PathRow → Type 0
Deep p [] = Unit {0}
Deep p (r ∷ rs) = (1 ≤ r.depth) × (r.depth ≤ length p + 1) × Deep (path_after p r) rs

pub chain-deep : (a : List ℕ) (xs : List PathRow) → Chain a xs → Deep a xs
chain-deep a [] h = tt
chain-deep a (x ∷ xs) h = (h.0.deep, h.0.within, chain-deep (path_after a x) xs h.1)

numbers : List ℕ → PathRow → PathNumbers
numbers p r = record { path = p; calls = r.calls; incl = r.incl; excl = r.excl }

abbrev M : List PathRow → List PathRow → List PathRow
M xs ys = merged path_row_place path_row_plus xs ys

abbrev N : List PathNumbers → List PathNumbers → List PathNumbers
N xs ys = merged (by_key lex path_of) numbers_plus xs ys

pub record Merges (a b p : List ℕ) (xs ys zs : List PathRow) : Type 0 where
  pub same : numbers_after p zs ≡ merged (by_key lex path_of) numbers_plus (numbers_after a xs)
      (numbers_after b ys)
  pub deep : Deep p zs

-- rows that may follow p have their paths from there too
from-there : (b p : List ℕ) (ys : List PathRow) → Chain b ys → MayFollow b p ys
    → (numbers_after p ys ≡ numbers_after b ys) × Deep p ys
unfolding numbers
from-there b p [] h g = (refl, tt)
from-there b p (y ∷ ys) h g =
    let same = after-same b p y g in (
      ap (λ (q : List ℕ). numbers q y ∷ numbers_after q ys) same,
      (g.deep, g.within, subst (λ (q : List ℕ). Deep q ys) (sym same) (chain-deep (path_after b y) ys h.1)),
    )

pub first-follows : (a : List ℕ) (xs : List PathRow) → Chain a xs → MayFollow a a xs
first-follows a [] h = tt
first-follows a (x ∷ xs) h = h.0

numbers-cons : (p : List ℕ) (r : PathRow) (rs : List PathRow) → numbers_after p (r ∷ rs) ≡ numbers
    (path_after p r) r
    ∷ numbers_after (path_after p r) rs
unfolding numbers
numbers-cons p r rs = refl

numbers-at : (p q : List ℕ) (r : PathRow) (rs : List PathRow) → path_after p r ≡ q → numbers_after p (r ∷ rs)
    ≡ numbers q r ∷ numbers_after q rs
numbers-at p q r rs e = numbers-cons p r rs ∙ ap (λ (s : List ℕ). numbers s r ∷ numbers_after s rs) e

pair-key : (p q : List ℕ) (r s : PathRow) → by_key lex path_of (numbers p r) (numbers q s) ≡ lex p q
unfolding numbers
pair-key p q r s = refl

plus-key : (p q : List ℕ) (r s : PathRow) → numbers_plus (numbers p r) (numbers q s) ≡ numbers p
    (path_row_plus r s)
unfolding numbers
plus-key p q r s = refl

merged-cons : {R : Type 0} (place : R → R → Ordering) (plus : R → R → R) (x y : R) (xs ys : List R)
    (o : Ordering)
    → place x y ≡ o → merged place plus (x ∷ xs) (y ∷ ys) ≡ pick o (x ∷ merged place plus xs (y ∷ ys))
    (plus x y ∷ merged place plus xs ys) (y ∷ merged place plus (x ∷ xs) ys)
unfolding merged
merged-cons place plus x y xs ys o e = picked (place x y) o (x ∷ merged place plus xs (y ∷ ys))
    (plus x y ∷ merged place plus xs ys) (y ∷ merged place plus (x ∷ xs) ys) e

merged-nil : {R : Type 0} (place : R → R → Ordering) (plus : R → R → R) (ys : List R)
    → merged place plus [] ys ≡ ys
unfolding merged
merged-nil place plus ys = refl

merged-one : {R : Type 0} (place : R → R → Ordering) (plus : R → R → R) (x : R) (xs : List R)
    → merged place plus (x ∷ xs) [] ≡ x ∷ xs
unfolding merged
merged-one place plus x xs = refl

-- the next row of the merged ones
next : (a b p q : List ℕ) (xs ys : List PathRow) (z : PathRow) (zs : List PathRow) (ns : List PathNumbers)
    → path_after p z ≡ q → 1 ≤ z.depth → z.depth ≤ length p + 1
    → M xs ys ≡ z ∷ zs → N (numbers_after a xs) (numbers_after b ys) ≡ numbers q z ∷ ns
    → numbers_after q zs ≡ ns → Deep q zs → Merges a b p xs ys (M xs ys)
next a b p q xs ys z zs ns e l m is same rest deep = record {
  same = ap (numbers_after p) is ∙ numbers-at p q z zs e ∙ ap (λ (us : List PathNumbers). numbers q z ∷ us)
      rest
      ∙ sym same;
  deep = subst (Deep p) (sym is) (l, m, subst (λ (s : List ℕ). Deep s zs) (sym e) deep);
}

-- the rows merged are their paths merged
pub merged-numbers : (xs ys : List PathRow) (a b p : List ℕ) → Chain a xs → Chain b ys → MayFollow a p xs
    → MayFollow b p ys → Merges a b p xs ys (M xs ys)
merged-numbers [] ys a b p h g f k =
    let there = from-there b p ys g k in
    record {
      same = ap (numbers_after p) (merged-nil path_row_place path_row_plus ys) ∙ there.0
          ∙ sym (merged-nil (by_key lex path_of) numbers_plus (numbers_after b ys));
      deep = subst (Deep p) (sym (merged-nil path_row_place path_row_plus ys)) there.1;
    }
merged-numbers (x ∷ xs) ys a b p h g f k = go ys b p g f k
    (λ zs c q l m n. merged-numbers xs zs (path_after a x) c q h.1 l m n)
  where
    go : (zs : List PathRow) (c q : List ℕ) → Chain c zs → Follows a q x → MayFollow c q zs
        → ((ws : List PathRow) (d r : List ℕ) → Chain d ws → MayFollow (path_after a x) r xs
        → MayFollow d r ws
        → Merges (path_after a x) d r xs ws (M xs ws))
        → Merges a c q (x ∷ xs) zs (M (x ∷ xs) zs)
    go [] c q l m n rest =
        let there = from-there a q (x ∷ xs) h m in
        record {
          same = ap (numbers_after q) (merged-one path_row_place path_row_plus x xs) ∙ there.0
              ∙ sym (merged-one (by_key lex path_of) numbers_plus (numbers (path_after a x) x)
              (numbers_after (path_after a x) xs)
              ∙ sym (numbers-cons a x xs))
              ∙ ap (λ (us : List PathNumbers). N us []) (sym (numbers-cons a x xs));
          deep = subst (Deep q) (sym (merged-one path_row_place path_row_plus x xs)) there.1;
        }
    go (y ∷ ws) c q l m n rest =
        let px : List ℕ = path_after a x in
        let py : List ℕ = path_after c y in
        let agree : by_key lex path_of (numbers px x) (numbers py y) ≡ path_row_place x y =
        pair-key px py x y ∙ place-is a c q x y m n in
        let front : N (numbers_after a (x ∷ xs)) (numbers_after c (y ∷ ws)) ≡ N
        (numbers px x ∷ numbers_after px xs)
        (numbers py y ∷ numbers_after py ws) =
        ap (λ (us : List PathNumbers). N us (numbers_after c (y ∷ ws))) (numbers-cons a x xs)
        ∙ ap (N (numbers px x ∷ numbers_after px xs)) (numbers-cons c y ws) in
        elim (ordering_cases (path_row_place x y)) [
          | inl e ↦
              (let behind = rest (y ∷ ws) c px l (first-follows px xs h.1)
              (then-follows a c q x y m n (not_deeper x y e) (place-is a c q x y m n ∙ e)) in
              next a c q px (x ∷ xs) (y ∷ ws) x (M xs (y ∷ ws))
              (N (numbers_after px xs) (numbers_after c (y ∷ ws)))
              (after-same a q x m) m.deep m.within
              (merged-cons path_row_place path_row_plus x y xs ws Less e)
              (front ∙ merged-cons (by_key lex path_of) numbers_plus (numbers px x) (numbers py y)
              (numbers_after px xs)
              (numbers_after py ws) Less (agree ∙ e)
              ∙ ap (λ (us : List PathNumbers). numbers px x ∷ N (numbers_after px xs) us)
              (sym (numbers-cons c y ws)))
              behind.same behind.deep)
          | inr o ↦
              elim o [
                | inl e ↦
                    (let one : py ≡ px = sym (slice_cmp-IsAntisymmetric nat_cmp-IsAntisymmetric px py
                    (place-is a c q x y m n ∙ e)) in
                    let behind = rest ws py px l.1 (first-follows px xs h.1)
                    (subst (λ (s : List ℕ). MayFollow py s ws) one (first-follows py ws l.1)) in
                    next a c q px (x ∷ xs) (y ∷ ws) (path_row_plus x y) (M xs ws)
                    (N (numbers_after px xs) (numbers_after py ws))
                    (after-same a q x m) m.deep m.within
                    (merged-cons path_row_place path_row_plus x y xs ws Equal e)
                    (front ∙ merged-cons (by_key lex path_of) numbers_plus (numbers px x) (numbers py y)
                    (numbers_after px xs) (numbers_after py ws) Equal (agree ∙ e)
                    ∙ ap (λ (z : PathNumbers). z ∷ N (numbers_after px xs) (numbers_after py ws))
                    (plus-key px py x y))
                    behind.same behind.deep)
                | inr e ↦
                    (let before : lex py px ≡ Less = turned_back lex nat_list_cmp_total px py
                    (place-is a c q x y m n ∙ e) in
                    let behind = go ws py py l.1 (then-follows c a q y x n m (not_higher x y e) before)
                    (first-follows py ws l.1) rest in
                    next a c q py (x ∷ xs) (y ∷ ws) y (M (x ∷ xs) ws)
                    (N (numbers_after a (x ∷ xs)) (numbers_after py ws))
                    (after-same c q y n) n.deep n.within
                    (merged-cons path_row_place path_row_plus x y xs ws Greater e)
                    (front ∙ merged-cons (by_key lex path_of) numbers_plus (numbers px x) (numbers py y)
                    (numbers_after px xs) (numbers_after py ws) Greater (agree ∙ e)
                    ∙ ap (λ (us : List PathNumbers). numbers py y ∷ N us (numbers_after py ws))
                    (sym (numbers-cons a x xs)))
                    behind.same behind.deep)
              ]
        ]
