-- Trees that are the same, told kid by kid.
use Rattle.std.proofs.Common.{◌≡◌, ◌∙◌, inl, inr, ℕ, ◌+◌, ◌<◌, ◌≤◌, ap, arith, option_map, refl, slice_get}
use Rattle.std.proofs.Common.{Some, subst, sym}
use Rattle.std.proofs.lemmas.Bool.{cases_lt}
use Rattle.std.proofs.lemmas.Option.{same_Some, slice_get_past}
use Rattle.list_lemmas.proofs.Positions.{lists_same}
use Rattle.node_key.specs.Branches.{branches, kids_of}
use Rattle.node_key.specs.Tree.{Kids, Tree, count, kid, no_kids}
use Rattle.node_key.specs.declared.tree.Branch.{Branch}
use Rattle.call_tree.proofs.Below.{branch_is, count-branches}

kids_of-branches : (ks : Kids) → kids_of (branches ks) ≡ ks
kids_of-branches no_kids = refl
kids_of-branches (kid gap func dur inner more) = ap (λ (l : Kids). kid gap func dur inner l)
    (kids_of-branches more)

-- the kids before an index are the same
abbrev pub SameBelow : Kids → Kids → ℕ → Type 0
SameBelow ks ls i = (k : ℕ) → k < i → slice_get (branches ks) k ≡ slice_get (branches ls) k

pub same_none : (ks ls : Kids) → SameBelow ks ls 0
same_none ks ls k low = absurd (omega (arith, low))

-- one kid more
pub same_more : (ks ls : Kids) (i gap gap' : ℕ) (t u : Tree) → SameBelow ks ls i
    → option_map (λ (b : Branch). b.gap) (slice_get (branches ks) i) ≡ Some gap
    → option_map (λ (b : Branch). b.tree) (slice_get (branches ks) i) ≡ Some t
    → option_map (λ (b : Branch). b.gap) (slice_get (branches ls) i) ≡ Some gap'
    → option_map (λ (b : Branch). b.tree) (slice_get (branches ls) i) ≡ Some u → gap ≡ gap' → t ≡ u
    → SameBelow ks ls (i + 1)
same_more ks ls i gap gap' t u before g a h b gaps trees k low =
    elim (cases_lt k i) [
      | inl below ↦ before k below
      | inr past ↦
          let at : i ≡ k = omega arith in
          let here : slice_get (branches ks) i ≡ slice_get (branches ls) i =
          branch_is (slice_get (branches ks) i) gap t g a
          ∙ sym (branch_is (slice_get (branches ls) i) gap t (h ∙ ap (λ (x : ℕ). Some x) (sym gaps))
          (b ∙ ap (λ (x : Tree). Some x) (sym trees))) in
          subst (λ (j : ℕ). slice_get (branches ks) j ≡ slice_get (branches ls) j) at here
    ]

-- all kids
same_kids : (ks ls : Kids) (i : ℕ) → count ks ≡ count ls → count ks ≤ i → SameBelow ks ls i → ks ≡ ls
same_kids ks ls i many all same =
    sym (kids_of-branches ks)
    ∙ ap kids_of (lists_same (branches ks) (branches ls) (λ k. elim (cases_lt k i) [
      | inl below ↦ same k below
      | inr past ↦ slice_get_past (branches ks) k (omega (arith, count-branches ks, all, past))
          ∙ sym (slice_get_past (branches ls) k (omega (arith, count-branches ls, many, all, past)))
    ]))
    ∙ kids_of-branches ls

pub same_trees : (a b : Tree) (i : ℕ) → a.func ≡ b.func → a.dur ≡ b.dur → count a.kids ≡ count b.kids
    → count a.kids ≤ i → SameBelow a.kids b.kids i → a ≡ b
same_trees a b i func dur many all same =
    ap (λ (x : ℕ). record { func = x; dur = a.dur; kids = a.kids }) func
    ∙ ap (λ (x : ℕ). record { func = b.func; dur = x; kids = a.kids }) dur
    ∙ ap (λ (x : Kids). record { func = b.func; dur = b.dur; kids = x })
    (same_kids a.kids b.kids i many all same)

-- one part of the kids at an index of the same trees
pub same_part : {X : Type 0} (part : Branch → X) (a b : Tree) (i : ℕ) (x y : X)
    → option_map part (slice_get (branches a.kids) i) ≡ Some x
    → option_map part (slice_get (branches b.kids) i) ≡ Some y → a ≡ b → x ≡ y
same_part part a b i x y is here same =
    same_Some x y (sym is
    ∙ ap (λ (t : Tree). option_map part (slice_get (branches t.kids) i)) same ∙ here)
