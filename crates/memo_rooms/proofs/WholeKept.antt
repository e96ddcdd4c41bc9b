-- A memo stays whole when it is used, and when numbers get trees.
use Rattle.std.proofs.Common.{◌≡◌, ℕ, Option, Some, None, IsSome, is_some, true≢false, unwrap_or}
use Rattle.std.proofs.Common.{inl, inr, refl, sym, ap, subst, ◌∙◌, ◌⊎◌}
use Rattle.std.proofs.lemmas.Bool.{cases_eq}
use Rattle.node_key.specs.Tree.{Tree}
use Rattle.memo_core.specs.Memo.{same_kind}
use Rattle.memo_rooms.specs.Rooms.{Kept, IsKeptAfter}
use Rattle.memo_rooms.specs.Whole.{AreOfTrees, AreWhole, HaveOneTree}
use Rattle.whole_profiles.specs.Whole.{whole_profile}
use Rattle.whole_profiles.specs.declared.entry.Entry.{Entry}
use Rattle.whole_profiles.specs.declared.memo_kind.MemoKind.{MemoKind}
use Rattle.whole_profiles.specs.declared.memo_kind.MemoKind.TheVariants.{Flat, Paths}

not_there : {A : Type 0} (o : Option Entry) (e : Entry) → o ≡ None → o ≡ Some e → A
not_there o e none there = absurd (true≢false (ap is_some (sym there ∙ none)))

cases_kind : (a b : MemoKind) → (a ≡ b) ⊎ (a ≡ b → ⊥)
cases_kind Flat Flat = inl refl
cases_kind Paths Paths = inl refl
cases_kind Flat Paths = inr (λ same. true≢false (ap (same_kind Flat) same))
cases_kind Paths Flat = inr (λ same. true≢false (ap (same_kind Paths) same))

-- Entries of which something holds (`P n kind e`), one by one, when an entry is filled in of which it holds.
each_filled : (P : ℕ → MemoKind → Entry → Type 0) (old new : Kept) (n : ℕ) (kind : MemoKind) (e : Entry)
    → P n kind e → IsKeptAfter old n kind e new
    → ((m : ℕ) (other : MemoKind) (d : Entry) → old m other ≡ Some d → P m other d)
    → (m : ℕ) (other : MemoKind) (d : Entry) → new m other ≡ Some d → P m other d
each_filled P old new n kind e holds (inr (why, same)) all m other d there =
    all m other d (subst (λ (k : Kept). k m other ≡ Some d) same there)
each_filled P old new n kind e holds (inl keeps) all m other d there =
    let elsewhere : (m ≡ n → other ≡ kind → ⊥) → P m other d = λ apart.
    elim (keeps.others m other apart) [
      | inl stays ↦ all m other d (sym stays ∙ there)
      | inr gone ↦ not_there (new m other) d gone there
    ] in
    elim (cases_eq m n) [
      | inl same_number ↦ elim (cases_kind other kind) [
        | inl same ↦
            let is : e ≡ d = ap (λ o. unwrap_or o e) (sym keeps.there ∙ ap (new n) (sym same)
            ∙ ap (λ (k : ℕ). new k other) (sym same_number) ∙ there) in
            subst (λ k. P k other d) (sym same_number)
            (subst (λ k. P n k d) (sym same) (subst (P n kind) is holds))
        | inr differs ↦ elsewhere (λ same_number' same. differs same)
      ]
      | inr differs ↦ elsewhere (λ same_number same. differs same_number)
    ]

module _ (has : ℕ → Tree → Type 0) where
  -- where nothing is kept
  pub whole_empty : (kept : Kept) → ((n : ℕ) (kind : MemoKind) → kept n kind ≡ None) → AreWhole has kept
  whole_empty kept none n kind e t there stands = not_there (kept n kind) e (none n kind) there

  pub of_trees_empty : (kept : Kept) → ((n : ℕ) (kind : MemoKind) → kept n kind ≡ None) → AreOfTrees has kept
  of_trees_empty kept none n kind e there = not_there (kept n kind) e (none n kind) there

  -- after a look
  pub whole_looked : (old new : Kept) → new ≡ old → AreWhole has old → AreWhole has new
  whole_looked old new same whole = subst (AreWhole has) (sym same) whole

  pub of_trees_looked : (old new : Kept) → new ≡ old → AreOfTrees has old → AreOfTrees has new
  of_trees_looked old new same whole = subst (AreOfTrees has) (sym same) whole

  -- after a fill of the whole profile of the number's tree
  pub whole_filled : HaveOneTree has → (old new : Kept) (n : ℕ) (kind : MemoKind) (t : Tree) → has n t
      → IsKeptAfter old n kind (whole_profile kind t) new → AreWhole has old → AreWhole has new
  whole_filled one old new n kind t stands after whole m other e u there stands' =
      each_filled (λ m other e. (u : Tree) → has m u → e ≡ whole_profile other u) old new n kind
      (whole_profile kind t) (λ u also. ap (whole_profile kind) (one n t u stands also)) after
      (λ m other e there u also. whole m other e u there also) m other e there u stands'

  pub of_trees_filled : (old new : Kept) (n : ℕ) (kind : MemoKind) (t : Tree) → has n t
      → IsKeptAfter old n kind (whole_profile kind t) new → AreOfTrees has old → AreOfTrees has new
  of_trees_filled old new n kind t stands after whole =
      each_filled (λ m other e. (u : Tree) × has m u × (e ≡ whole_profile other u)) old new n kind
      (whole_profile kind t) (t, stands, refl) after whole

  -- where numbers get trees, and a number under which something is kept had its tree before
  pub whole_grown : (has' : ℕ → Tree → Type 0) (kept : Kept)
      → ((n : ℕ) (kind : MemoKind) (t : Tree) → IsSome (kept n kind) → has' n t → has n t)
      → AreWhole has kept → AreWhole has' kept
  whole_grown has' kept before whole n kind e t there stands =
      whole n kind e t there (before n kind t (ap is_some there) stands)

  -- where numbers get trees, and none loses its own
  pub of_trees_grown : (has' : ℕ → Tree → Type 0) (kept : Kept)
      → ((n : ℕ) (t : Tree) → has n t → has' n t) → AreOfTrees has kept → AreOfTrees has' kept
  of_trees_grown has' kept still whole n kind e there =
      let (t, stands, is) = whole n kind e there in (t, still n t stands, is)

  -- entries of trees are whole profiles where no number has two trees
  pub whole_of_trees : HaveOneTree has → (kept : Kept) → AreOfTrees has kept → AreWhole has kept
  whole_of_trees one kept whole n kind e t there stands =
      let (u, also, is) = whole n kind e there in is ∙ ap (whole_profile kind) (one n u t also stands)
