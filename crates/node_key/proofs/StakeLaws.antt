-- Equal trees and stakes, and how often a stake stands in a list.
use Rattle.std.proofs.Common.{Bool, List, [], ap, arith, cond, refl, sym, true, true≢false, ◌++◌, ◌+◌, ◌==◌}
use Rattle.std.proofs.Common.{◌∙◌, ◌∷◌, ◌≡◌}
use Rattle.std.proofs.lemmas.Bool.{and_from, and_parts, eq-eqb, eqb-true}
use Rattle.std.proofs.lemmas.List.Sums.{sum_by-append, sum_by-cons}
use Rattle.node_key.specs.Stakes.{Exchanges, HasStakes, same_stake, times}
use Rattle.node_key.specs.Tree.{Kids, kid, no_kids, same_kids}
use Rattle.node_key.specs.declared.stake.Stake.{Stake}

pub same_kids-true : (k l : Kids) → same_kids k l ≡ true → k ≡ l
same_kids-true no_kids no_kids is = refl
same_kids-true no_kids (kid gap func dur inner more) is = absurd (true≢false (sym is))
same_kids-true (kid gap func dur inner more) no_kids is = absurd (true≢false (sym is))
same_kids-true (kid gap func dur inner more) (kid gap' func' dur' inner' more') is =
    let four = and_parts _ (same_kids more more') is in
    let three = and_parts _ (same_kids inner inner') four.0 in
    let two = and_parts _ (dur == dur') three.0 in
    let one = and_parts (gap == gap') (func == func') two.0 in
    let gaps = eqb-true gap gap' one.0 in
    let funcs = eqb-true func func' one.1 in
    let durs = eqb-true dur dur' two.1 in
    let inners = same_kids-true inner inner' three.1 in
    let mores = same_kids-true more more' four.1 in
    λ i. kid (gaps i) (funcs i) (durs i) (inners i) (mores i)

pub same_kids-refl : (k : Kids) → same_kids k k ≡ true
same_kids-refl no_kids = refl
same_kids-refl (kid gap func dur inner more) =
    and_from _ _ (and_from _ _ (and_from _ _ (and_from _ _ (eq-eqb gap gap refl) (eq-eqb func func refl))
    (eq-eqb dur dur refl)) (same_kids-refl inner)) (same_kids-refl more)

pub same_stake-refl : (x : Stake) → same_stake x x ≡ true
same_stake-refl x = and_from _ _ (eq-eqb x.number x.number refl)
    (and_from _ _ (and_from _ _ (eq-eqb x.tree.func x.tree.func refl) (eq-eqb x.tree.dur x.tree.dur refl))
    (same_kids-refl x.tree.kids))

pub times-append : (x : Stake) (xs ys : List Stake) → times x (xs ++ ys) ≡ times x xs + times x ys
times-append x xs ys = sum_by-append (λ (y : Stake). cond (same_stake x y) 1 0) xs ys

pub times-cons : (x y : Stake) (ys : List Stake) → times x (y ∷ ys) ≡ cond (same_stake x y) 1 0 + times x ys
times-cons x y ys = sum_by-cons (λ (z : Stake). cond (same_stake x z) 1 0) y ys

pub times-one : (x y : Stake) → times x (y ∷ []) ≡ cond (same_stake x y) 1 0
times-one x y = times-cons x y [] ∙ omega arith

-- a list in which nothing stands once is empty
pub no_stakes : (xs : List Stake) → ((x : Stake) → times x xs ≡ 0) → xs ≡ []
no_stakes [] none = refl
no_stakes (x ∷ xs) none =
    let one : times x (x ∷ xs) ≡ times x (x ∷ []) + times x xs =
    sum_by-append (λ (y : Stake). cond (same_stake x y) 1 0) (x ∷ []) xs in
    let is : times x (x ∷ []) ≡ 1 = ap (λ (b : Bool). 0 + cond b 1 0) (same_stake-refl x) in
    absurd (omega (arith, none x, one, is))

pub has_before : (held rest wanted : List Stake) → HasStakes held wanted → HasStakes (held ++ rest) wanted
has_before held rest wanted has x = omega (arith, has x, times-append x held rest)

-- the first of some stakes is taken
pub first_taken : (x : Stake) (xs : List Stake) → Exchanges (x ∷ xs) xs (x ∷ []) []
first_taken x xs y = omega (arith, times-cons y x xs, times-one y x)
