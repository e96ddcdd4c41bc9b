-- Numbers told by their paths, in depth-first order: the rows' places tell the paths, and two such lists add
-- up to one where each path's numbers do.
use Rattle.std.proofs.Common.{◌≡◌, ◌≢◌, ℕ, ◌+◌, ◌-◌, zero, suc, Bool, true, false, cond, ◌||◌, List, [], ◌∷◌}
use Rattle.std.proofs.Common.{◌++◌, length, take, get_or, map, filter, slice_index, refl, ap, sym, subst, ◌∙◌}
use Rattle.std.proofs.Common.{◌⊎◌, inl, inr, arith, add-zero, zero-add}
use Rattle.std.specs.List.{AllByRecursion, Contains}
use Rattle.std.specs.List.Sorted.{IsStrictlySortedBy}
use Rattle.std.specs.Ordering.{nat_cmp, is_eq, ordering_then, ordering_reverse}
use Rattle.std.specs.declared.cmp.Ordering.TheVariants.{Less, Equal, Greater}
use Rattle.std.proofs.lemmas.Bool.{cases_Bool, true≢false}
use Rattle.std.proofs.lemmas.Cmp.{nat_cmp_total, nat_list_cmp_total, ranked, tied_itself}
use Rattle.std.proofs.lemmas.List.{nil_from_length}
use Rattle.std.proofs.lemmas.List.Elements.{filter_agree, filter-append}
use Rattle.std.proofs.lemmas.Simd.{map-map}
use Rattle.list_lemmas.proofs.Each.{all_filter, all_from, all_has}
use Rattle.list_lemmas.proofs.Filters.{filter-map, filter_filter_none, filter_filter_same, filter_none}
use Rattle.list_lemmas.proofs.Fronts.{length_behind, nil_or}
use Rattle.list_lemmas.proofs.Members.{filter-has, filter-keeps, has_cons, has_here, has_there}
use Rattle.list_lemmas.proofs.Orderings.{Equal-from_is_eq, ordering_cases, turned, turned_back}
use Rattle.trace_base.specs.declared.profile.PathRow.{PathRow}
use Rattle.profile_math.specs.PathSum.{PathNumbers, numbers_after, numbers_of, path_after, path_total}
use Rattle.profile_math.specs.PathSum.{by_path}
use Rattle.profile_math.specs.PathSum.{row_of_path, IsDepthFirst}
use Rattle.profile_math.proofs.Keyed.{at, whole, Climbs, at-yes, at-no, none-tied, climbs-filter}
use Rattle.profile_math.proofs.Keyed.{climbs-map}
use Rattle.profile_math.proofs.Keyed.{sorted-from, sums-is}
use Rattle.profile_math.proofs.PathMerging.{lex, path_of, numbers_plus}
use Rattle.profile_math.proofs.PathSums.{path_totals, by_path-is}

-- ---- paths

abbrev pub parent : List ℕ → List ℕ
parent path = take (length path - 1) path

pub same_path : (p q : List ℕ) → is_eq (lex p q) ≡ true → p ≡ q
same_path p q e = path_totals.same p q (Equal-from_is_eq (lex p q) e)

not_itself : (p : List ℕ) → lex p p ≡ Less → ⊥
not_itself p e = let tie : lex p p ≡ Equal = tied_itself nat_list_cmp_total p in cc

nil-less : (q : List ℕ) → q ≢ [] → lex [] q ≡ Less
nil-less [] n = absurd (n refl)
nil-less (x ∷ q) n = refl

-- a path comes behind a front of it
front-less : (n : ℕ) (q : List ℕ) → length q ≡ suc n → lex (take n q) q ≡ Less
front-less n [] e = absurd (omega arith)
front-less zero (x ∷ q) e = refl
front-less (suc n) (x ∷ q) e = ap (λ o. ordering_then o (lex (take n q) q)) (tied_itself nat_cmp_total x)
    ∙ front-less n q (omega arith)

parent-less : (q : List ℕ) → q ≢ [] → lex (parent q) q ≡ Less
parent-less q n = front-less (length q - 1) q (length_behind q n)

-- a path behind another one that doesn't come before its parent goes on from the parent
path-again : (m : ℕ) (p q : List ℕ) → length q ≡ suc m → lex p q ≡ Less → (lex (take m q) p ≡ Greater → ⊥)
    → take m p ++ get_or q m 0 ∷ [] ≡ q
path-again m p [] e l g = absurd (omega arith)
path-again zero p (x ∷ q) e l g =
    let none : q ≡ [] = nil_from_length q (omega arith) in
    ap (λ (r : List ℕ). x ∷ r) (sym none)
path-again (suc m) [] (x ∷ q) e l g = absurd (g refl)
path-again (suc m) (z ∷ p) (x ∷ q) e l g =
    elim (ordering_cases (nat_cmp z x)) [
      | inl h ↦ absurd (g (ap (λ o. ordering_then o (lex (take m q) p)) (turned nat_cmp nat_cmp_total z x h)))
      | inr k ↦
          elim k [
            | inl h ↦
                (let one : z ≡ x = ranked z x Equal (sym h) in
                let back : nat_cmp x z ≡ Equal = nat_cmp_total.antisymm x z ∙ ap ordering_reverse h in
                ap (λ n. n ∷ (take m p ++ get_or q m 0 ∷ [])) one
                ∙ ap (λ (r : List ℕ). x ∷ r) (path-again m p q (omega arith)
                (sym (ap (λ o. ordering_then o (lex p q)) h) ∙ l)
                (λ i. g (ap (λ o. ordering_then o (lex (take m q) p)) back ∙ i))))
            | inr h ↦ (let no : Greater ≡ Less = sym (ap (λ o. ordering_then o (lex p q)) h) ∙ l in cc)
          ]
    ]

-- Each path may come next after the one before it: it comes behind that one, which doesn't come before its
-- parent.
abbrev Next : List ℕ → List (List ℕ) → Type 0
Next p [] = Unit {0}
Next p (k ∷ ks) = (k ≢ []) × (lex p k ≡ Less) × (lex (parent k) p ≡ Greater → ⊥) × Next k ks

-- the numbers of the paths are what their rows' places tell
next-numbers : (num : List ℕ → PathNumbers) → ((k : List ℕ) → (num k).path ≡ k) → (p : List ℕ)
    (ks : List (List ℕ)) → Next p ks → numbers_after p (map row_of_path (map num ks)) ≡ map num ks
next-numbers num own p [] h = refl
next-numbers num own p (k ∷ ks) h =
    let r : PathRow = row_of_path (num k) in
    let rs : List PathRow = map row_of_path (map num ks) in
    let is : path_after p r ≡ k =
    ap (λ (q : List ℕ). take (length q - 1) p ++ slice_index q (length q - 1) ∷ []) (own k)
    ∙ path-again (length k - 1) p k (length_behind k h.0) h.1 h.2 in
    ap (λ (q : List ℕ). let n : PathNumbers = record {
      path = q;
      calls = r.calls;
      incl = r.incl;
      excl = r.excl;
    } in n ∷ numbers_after q rs) is
    ∙ ap (λ (q : List ℕ). let n : PathNumbers = record {
      path = q;
      calls = r.calls;
      incl = r.incl;
      excl = r.excl;
    } in n ∷ numbers_after k rs) (sym (own k))
    ∙ ap (λ (ns : List PathNumbers). num k ∷ ns) (next-numbers num own k ks h.3)

-- paths in order, each with its parent unless that comes before all of them
closed-next : (ks : List (List ℕ)) (p : List ℕ) → Climbs lex (λ k. k) ks
    → AllByRecursion (λ k. lex p k ≡ Less) ks → ((k : List ℕ) → Contains ks k → k ≢ [])
    → ((k : List ℕ) → Contains ks k → (lex (parent k) p ≡ Greater → ⊥) ⊎ Contains ks (parent k)) → Next p ks
closed-next [] p up above some fronts = tt
closed-next (k ∷ ks) p up above some fronts =
    let mine : k ≢ [] = some k (has_here k ks) in
    let less : lex (parent k) k ≡ Less = parent-less k mine in (
      mine,
      above.0,
      first mine less (fronts k (has_here k ks)),
      closed-next ks k up.1 up.0 (λ j c. some j (has_there k j ks c))
          (λ j c. later j (fronts j (has_there k j ks c))),
    )
  where
    first : k ≢ [] → lex (parent k) k ≡ Less
        → (lex (parent k) p ≡ Greater → ⊥) ⊎ Contains (k ∷ ks) (parent k) → lex (parent k) p ≡ Greater → ⊥
    first mine less (inl never) e = never e
    first mine less (inr c) e = elim (has_cons k (parent k) ks c) [
      | inl same ↦ not_itself k (subst (λ (q : List ℕ). lex q k ≡ Less) (sym same) less)
      | inr behind ↦ not_itself k (nat_list_cmp_total.trans k (parent k) k
          (all_has (λ j. lex k j ≡ Less) ks (parent k) up.0 behind) less)
    ]

    later : (j : List ℕ) → (lex (parent j) p ≡ Greater → ⊥) ⊎ Contains (k ∷ ks) (parent j)
        → (lex (parent j) k ≡ Greater → ⊥) ⊎ Contains ks (parent j)
    later j (inl never) = inl (λ e. never (turned lex nat_list_cmp_total p (parent j)
        (nat_list_cmp_total.trans p k (parent j) above.0
        (turned_back lex nat_list_cmp_total (parent j) k e))))
    later j (inr c) = elim (has_cons k (parent j) ks c) [
      | inl same ↦ inl (λ e. (
          let tie : lex k k ≡ Equal = tied_itself nat_list_cmp_total k in
          let more : lex k k ≡ Greater = subst (λ (q : List ℕ). lex q k ≡ Greater) (sym same) e in
          cc))
      | inr behind ↦ inr behind
    ]

-- ---- numbers told by paths

abbrev pub no_numbers : List ℕ → PathNumbers
no_numbers path = record { path = path; calls = 0; incl = 0; excl = 0 }

abbrev pub kept : Bool → PathNumbers → List PathNumbers
kept b n = cond b (n ∷ []) []

-- Each path in order that stands, and only those: what else there is has no numbers, and a path's parent
-- stands too.
pub record Tells (num : List ℕ → PathNumbers) (has : List ℕ → Bool) (ks : List (List ℕ)) : Type 0 where
  pub own : (k : List ℕ) → (num k).path ≡ k
  pub rising : Climbs lex (λ k. k) ks
  pub some : (k : List ℕ) → Contains ks k → k ≢ []
  pub known : (k : List ℕ) → k ≢ [] → has k ≡ true → Contains ks k
  pub none : (k : List ℕ) → has k ≡ false → num k ≡ no_numbers k
  pub front : (k : List ℕ) → has k ≡ true → has (parent k) ≡ true

unfoldable pub told : (List ℕ → PathNumbers) → (List ℕ → Bool) → List (List ℕ) → List PathNumbers
told num has ks = map num (filter has ks)

pub told-is : (num : List ℕ → PathNumbers) (has : List ℕ → Bool) (ks : List (List ℕ))
    → told num has ks ≡ map num (filter has ks)
unfolding told
told-is num has ks = refl

-- an item of a list in order stands there once
once : (k : List ℕ) (ks : List (List ℕ)) → Climbs lex (λ j. j) ks → Contains ks k
    → at lex (λ j. j) k ks ≡ k ∷ []
once k [] up c = absurd (omega (arith, c.1))
once k (j ∷ js) up c =
    elim (cases_Bool (is_eq (lex j k))) [
      | inl e ↦ at-yes lex (λ i. i) k j js e
          ∙ ap (λ (us : List (List ℕ)). j ∷ us)
          (none-tied lex nat_list_cmp_total (λ i. i) j k js (Equal-from_is_eq (lex j k) e) up.0)
          ∙ ap (λ (i : List ℕ). i ∷ []) (same_path j k e)
      | inr e ↦ at-no lex (λ i. i) k j js e
          ∙ once k js up.1 (elim (has_cons j k js c) [
            | inl same ↦ absurd (true≢false (sym (ap is_eq (tied_itself nat_list_cmp_total k))
                ∙ ap (λ (i : List ℕ). is_eq (lex i k)) (sym same) ∙ e))
            | inr later ↦ later
          ])
    ]

told-filter : (num : List ℕ → PathNumbers) (has : List ℕ → Bool) (ks : List (List ℕ)) → Tells num has ks
    → (k : List ℕ)
    → at lex path_of k (told num has ks) ≡ map num (filter (λ j. is_eq (lex j k)) (filter has ks))
unfolding told
told-filter num has ks t k = filter-map (λ n. is_eq (lex (path_of n) k)) num (filter has ks)
    ∙ ap (map num) (filter_agree (λ j. is_eq (lex (path_of (num j)) k)) (λ j. is_eq (lex j k))
    (λ j. ap (λ (q : List ℕ). is_eq (lex q k)) (t.own j)) (filter has ks))

-- a path has its numbers, where it stands
pub told-at : (num : List ℕ → PathNumbers) (has : List ℕ → Bool) (ks : List (List ℕ)) → Tells num has ks
    → (k : List ℕ) → k ≢ [] → at lex path_of k (told num has ks) ≡ kept (has k) (num k)
told-at num has ks t k n =
    elim (cases_Bool (has k)) [
      | inl e ↦ told-filter num has ks t k
          ∙ ap (map num) (filter_filter_same (λ j. is_eq (lex j k)) has
          (λ j h. ap has (same_path j k h) ∙ e) ks
          ∙ once k ks t.rising (t.known k n e))
          ∙ ap (λ b. kept b (num k)) (sym e)
      | inr e ↦ told-filter num has ks t k
          ∙ ap (map num) (filter_filter_none (λ j. is_eq (lex j k)) has
          (λ j h. ap has (same_path j k h) ∙ e) ks)
          ∙ ap (λ b. kept b (num k)) (sym e)
    ]

pub told-nil : (num : List ℕ → PathNumbers) (has : List ℕ → Bool) (ks : List (List ℕ)) → Tells num has ks
    → at lex path_of [] (told num has ks) ≡ []
told-nil num has ks t = told-filter num has ks t []
    ∙ ap (map num) (filter_none (λ j. is_eq (lex j [])) (filter has ks)
    (all_filter (λ j. is_eq (lex j []) ≡ false) has ks (all_from (λ j. is_eq (lex j []) ≡ false) ks
    (λ j c. no_nil j (t.some j c)))))
  where
    no_nil : (j : List ℕ) → j ≢ [] → is_eq (lex j []) ≡ false
    no_nil [] n = absurd (n refl)
    no_nil (x ∷ j) n = refl

pub told-climbs : (num : List ℕ → PathNumbers) (has : List ℕ → Bool) (ks : List (List ℕ)) → Tells num has ks
    → Climbs lex path_of (told num has ks)
unfolding told
told-climbs num has ks t = climbs-map lex path_of num t.own (filter has ks)
    (climbs-filter lex (λ k. k) has ks t.rising)

-- the rows' places tell the paths
pub told-numbers : (num : List ℕ → PathNumbers) (has : List ℕ → Bool) (ks : List (List ℕ)) → Tells num has ks
    → numbers_of (map row_of_path (told num has ks)) ≡ told num has ks
unfolding told numbers_of
told-numbers num has ks t = next-numbers num t.own [] (filter has ks)
    (closed-next (filter has ks) [] (climbs-filter lex (λ k. k) has ks t.rising)
    (all_from (λ k. lex [] k ≡ Less) (filter has ks) (λ k c. nil-less k (t.some k (filter-has has ks k c).0)))
    (λ k c. t.some k (filter-has has ks k c).0)
    (λ k c. fronts k (filter-has has ks k c).1 (nil_or (parent k))))
  where
    fronts : (k : List ℕ) → has k ≡ true → (parent k ≡ []) ⊎ (parent k ≢ [])
        → (lex (parent k) [] ≡ Greater → ⊥) ⊎ Contains (filter has ks) (parent k)
    fronts k e (inl none) = inl (λ g. (
        let less : lex (parent k) [] ≡ Equal = ap (λ (q : List ℕ). lex q []) none in cc))
    fronts k e (inr more) = inr (filter-keeps has ks (parent k) (t.known (parent k) more (t.front k e))
        (t.front k e))

pub told-depth-first : (num : List ℕ → PathNumbers) (has : List ℕ → Bool) (ks : List (List ℕ))
    → Tells num has ks → IsDepthFirst (map row_of_path (told num has ks))
told-depth-first num has ks t = record {
  depths = map-map (λ r. r.depth) row_of_path (told num has ks)
      ∙ ap (map (λ n. length n.path)) (sym (told-numbers num has ks t));
  rising = subst (λ (ns : List PathNumbers). IsStrictlySortedBy lex (map path_of ns))
      (sym (told-numbers num has ks t))
      (sorted-from lex path_of (told num has ks) (told-climbs num has ks t));
}

plus-none : (x : PathNumbers) (k : List ℕ) → numbers_plus x (no_numbers k) ≡ x
plus-none x k = rw (add-zero x.calls, add-zero x.incl, add-zero x.excl) refl

none-plus : (x : PathNumbers) (k : List ℕ) → x.path ≡ k → numbers_plus (no_numbers k) x ≡ x
none-plus x k e = ap (λ (q : List ℕ). let n : PathNumbers = record {
  path = q;
  calls = 0 + x.calls;
  incl = 0 + x.incl;
  excl = 0 + x.excl;
} in n) (sym e) ∙ rw (zero-add x.calls, zero-add x.incl, zero-add x.excl) refl

-- the sum of a path's numbers stands where either does, and adds what stands
kept-plus : (b c : Bool) (x y : PathNumbers) (k : List ℕ) → x.path ≡ k → y.path ≡ k
    → (b ≡ false → x ≡ no_numbers k) → (c ≡ false → y ≡ no_numbers k)
    → kept (b || c) (numbers_plus x y) ≡ whole path_total k (kept b x ++ kept c y)
kept-plus true true x y k ex ey nx ny = ap (λ (n : PathNumbers). n ∷ [])
    (sym (path_totals.two x y) ∙ ap (λ (q : List ℕ). path_total q (x ∷ y ∷ [])) ex)
kept-plus true false x y k ex ey nx ny = ap (λ (n : PathNumbers). n ∷ [])
    (ap (numbers_plus x) (ny refl) ∙ plus-none x k ∙ sym (path_totals.one x)
    ∙ ap (λ (q : List ℕ). path_total q (x ∷ [])) ex)
kept-plus false true x y k ex ey nx ny = ap (λ (n : PathNumbers). n ∷ [])
    (ap (λ m. numbers_plus m y) (nx refl) ∙ none-plus y k ey ∙ sym (path_totals.one y)
    ∙ ap (λ (q : List ℕ). path_total q (y ∷ [])) ey)
kept-plus false false x y k ex ey nx ny = refl

-- Where each path's numbers are the sum of two others', and it stands where one of them does, so is the list.
pub told-sum : (num n1 n2 : List ℕ → PathNumbers) (has h1 h2 : List ℕ → Bool) (ks ks1 ks2 : List (List ℕ))
    → Tells num has ks → Tells n1 h1 ks1 → Tells n2 h2 ks2
    → ((k : List ℕ) → num k ≡ numbers_plus (n1 k) (n2 k)) → ((k : List ℕ) → has k ≡ (h1 k || h2 k))
    → told num has ks ≡ by_path (told n1 h1 ks1 ++ told n2 h2 ks2)
told-sum num n1 n2 has h1 h2 ks ks1 ks2 t t1 t2 adds either =
    sums-is lex path_of path_total numbers_plus path_totals (told num has ks)
    (told n1 h1 ks1 ++ told n2 h2 ks2) (told-climbs num has ks t) at-each
    ∙ sym (by_path-is (told n1 h1 ks1 ++ told n2 h2 ks2))
  where
    both : (k : List ℕ) → at lex path_of k (told n1 h1 ks1 ++ told n2 h2 ks2)
        ≡ at lex path_of k (told n1 h1 ks1) ++ at lex path_of k (told n2 h2 ks2)
    both k = filter-append (λ n. is_eq (lex (path_of n) k)) (told n1 h1 ks1) (told n2 h2 ks2)

    at-each : (k : List ℕ) → at lex path_of k (told num has ks) ≡ whole path_total k
        (at lex path_of k (told n1 h1 ks1 ++ told n2 h2 ks2))
    at-each [] = told-nil num has ks t ∙ sym (ap (whole path_total []) (both []
        ∙ ap (λ (us : List PathNumbers). us ++ at lex path_of [] (told n2 h2 ks2)) (told-nil n1 h1 ks1 t1)
        ∙ told-nil n2 h2 ks2 t2))
    at-each (x ∷ xs) =
        let k : List ℕ = x ∷ xs in
        let some : k ≢ [] = λ e. cc in
        told-at num has ks t k some
        ∙ ap (λ b. kept b (num k)) (either k)
        ∙ ap (kept (h1 k || h2 k)) (adds k)
        ∙ kept-plus (h1 k) (h2 k) (n1 k) (n2 k) k (t1.own k) (t2.own k) (t1.none k) (t2.none k)
        ∙ sym (ap (whole path_total k) (both k
        ∙ ap (λ (us : List PathNumbers). us ++ at lex path_of k (told n2 h2 ks2))
        (told-at n1 h1 ks1 t1 k some)
        ∙ ap (λ (us : List PathNumbers). kept (h1 k) (n1 k) ++ us) (told-at n2 h2 ks2 t2 k some)))
