-- The rows with a call over them, by whether its function has a row.
use Rattle.std.proofs.Common.{◌≡◌, ℕ, ◌+◌, ◌<◌, ◌≤◌, ◌==◌, zero, suc, Bool, true, false, cond, ◌||◌}
use Rattle.std.proofs.Common.{List, [], ◌∷◌, ◌++◌, Some, None, All, length, get_or, set, map, filter}
use Rattle.std.proofs.Common.{sum_by}
use Rattle.std.proofs.Common.{nat_lt, position, refl, ap, sym, subst, ◌∙◌, inl, inr, arith, zero-add, eq-eqb}
use Rattle.std.specs.List.{AllByRecursion, list_any, position_or_len}
use Rattle.std.specs.Ordering.{nat_cmp}
use Rattle.std.specs.declared.cmp.Ordering.{Ordering}
use Rattle.std.specs.declared.cmp.Ordering.TheVariants.{Less}
use Rattle.std.proofs.lemmas.Bool.{cases_Bool, cond-true, cond-false, lt-ltb, le-ltb, ne_eqb, false≢true}
use Rattle.std.proofs.lemmas.Bool.{eqb-true}
use Rattle.std.proofs.lemmas.List.Elements.{All-from_recursion, recursion_from_All}
use Rattle.std.proofs.lemmas.List.Folds.{list_any_none, list_any_at}
use Rattle.std.proofs.lemmas.List.Sums.{fails_before_first}
use Rattle.list_lemmas.proofs.Each.{all_mapped}
use Rattle.list_lemmas.proofs.Filters.{filter_every, filter_none}
use Rattle.list_lemmas.proofs.Numbers.{eq-from_Equal, gt-from_Greater, lt-from_Less}
use Rattle.list_lemmas.proofs.Orderings.{ordering_cases}
use Rattle.trace_base.specs.declared.profile.Profile.{Profile}
use Rattle.trace_base.specs.declared.profile.Row.{Row}
use Rattle.profile_math.specs.Closing.{call_row, closed, closed_row, closed_rows, own_rows}
use Rattle.profile_math.specs.Merging.{pick, merged}
use Rattle.profile_math.specs.Sum.{row_total, rows_for, row_place, row_plus, RowFits, RisesByFunction}
use Rattle.profile_math.proofs.Keyed.{Climbs, climbs-from, sorted-from, merged-climbs}
use Rattle.profile_math.proofs.RowSums.{func_of, row_totals}
use Rattle.std.proofs.Common.{length-set, get_or-set_same, length-append, ◌^◌}
use Rattle.std.proofs.lemmas.Bool.{ltb-false, true≢false}
use Rattle.std.proofs.lemmas.List.{map-set, set-get_or, get_or-map, get_or_at}
use Rattle.std.proofs.lemmas.List.Elements.{All-get_or}
use Rattle.std.proofs.lemmas.List.Quantifiers.{position-Some}
use Rattle.std.specs.List.Sorted.{IsStrictlySortedBy}
use Rattle.trace_base.specs.Flat.{stands}

-- all rows behind the row of the function are above it, and none of them below
tail-below : (f : ℕ) (x : Row) (xs : List Row) → f ≤ x.func
    → AllByRecursion (λ y. nat_cmp x.func y.func ≡ Less) xs
    → filter (λ r. nat_lt r.func f) xs ≡ []
tail-below f x xs h all = filter_none (λ r. nat_lt r.func f) xs
    (all_mapped (λ (y : Row). nat_cmp x.func y.func ≡ Less)
    (λ y. nat_lt y.func f ≡ false) (λ y e. le-ltb y.func f (omega (arith, lt-from_Less x.func y.func e))) xs
    all)

tail-above : (f : ℕ) (x : Row) (xs : List Row) → f ≤ x.func
    → AllByRecursion (λ y. nat_cmp x.func y.func ≡ Less) xs
    → filter (λ r. nat_lt f r.func) xs ≡ xs
tail-above f x xs h all = filter_every (λ r. nat_lt f r.func) xs
    (all_mapped (λ (y : Row). nat_cmp x.func y.func ≡ Less)
    (λ y. nat_lt f y.func ≡ true) (λ y e. lt-ltb f y.func (omega (arith, lt-from_Less x.func y.func e))) xs
    all)

tail-for : (f : ℕ) (x : Row) (xs : List Row) → f ≤ x.func → AllByRecursion (λ y. nat_cmp x.func y.func ≡ Less)
    xs
    → rows_for f xs ≡ []
tail-for f x xs h all = filter_none (λ r. r.func == f) xs
    (all_mapped (λ (y : Row). nat_cmp x.func y.func ≡ Less)
    (λ y. (y.func == f) ≡ false) (λ y e. ne_eqb y.func f (λ k. omega (
      arith,
      lt-from_Less x.func y.func e,
      k,
    ))) xs
    all)

-- the rows with the row at an index changed, where that is the row of the function
set_between : (f : ℕ) (rows : List Row) → Climbs nat_cmp func_of rows → (at : ℕ) (d r : Row)
    → at < length rows
    → (get_or rows at d).func ≡ f
    → (set rows at r ≡ filter (λ s. nat_lt s.func f) rows ++ (r ∷ filter (λ s. nat_lt f s.func) rows))
    × (rows_for f rows ≡ get_or rows at d ∷ [])
set_between f [] h at d r l e = absurd (omega arith)
set_between f (x ∷ xs) h zero d r l e =
    let front : filter (λ s. nat_lt s.func f) (x ∷ xs) ≡ [] =
    cond-false (nat_lt x.func f) (x ∷ filter (λ s. nat_lt s.func f) xs) (filter (λ s. nat_lt s.func f) xs)
    (le-ltb x.func f (omega (arith, e))) ∙ tail-below f x xs (omega (arith, e)) h.0 in
    let back : filter (λ s. nat_lt f s.func) (x ∷ xs) ≡ xs =
    cond-false (nat_lt f x.func) (x ∷ filter (λ s. nat_lt f s.func) xs) (filter (λ s. nat_lt f s.func) xs)
    (le-ltb f x.func (omega (arith, e))) ∙ tail-above f x xs (omega (arith, e)) h.0 in (
      rw (front, back) refl,
      cond-true (x.func == f) (x ∷ rows_for f xs) (rows_for f xs) (eq-eqb x.func f e)
          ∙ ap (λ (ys : List Row). x ∷ ys) (tail-for f x xs (omega (arith, e)) h.0),
    )
set_between f (x ∷ xs) h (suc at) d r l e =
    let lower : x.func < f = subst (λ n. x.func < n) e (lt-from_Less x.func (get_or xs at d).func
    (All-from_recursion (λ y. nat_cmp x.func y.func ≡ Less) xs h.0 at d (omega arith))) in
    let rest = set_between f xs h.1 at d r (omega arith) e in
    let front : filter (λ s. nat_lt s.func f) (x ∷ xs) ≡ x ∷ filter (λ s. nat_lt s.func f) xs =
    cond-true (nat_lt x.func f) (x ∷ filter (λ s. nat_lt s.func f) xs) (filter (λ s. nat_lt s.func f) xs)
    (lt-ltb x.func f lower) in
    let back : filter (λ s. nat_lt f s.func) (x ∷ xs) ≡ filter (λ s. nat_lt f s.func) xs =
    cond-false (nat_lt f x.func) (x ∷ filter (λ s. nat_lt f s.func) xs) (filter (λ s. nat_lt f s.func) xs)
    (le-ltb f x.func (omega arith)) in (
      rw (front, back) (ap (λ (ys : List Row). x ∷ ys) rest.0),
      cond-false (x.func == f) (x ∷ rows_for f xs) (rows_for f xs) (ne_eqb x.func f (λ k. omega (arith, k))) ∙
          rest.1,
    )

-- where the function has no row: none of its rows, and the call's row merged stands between the others
merged_between : (rows : List Row) → Climbs nat_cmp func_of rows → (call : Row)
    → AllByRecursion (λ r. (r.func == call.func) ≡ false) rows
    → (merged row_place row_plus rows (call ∷ []) ≡ filter (λ s. nat_lt s.func call.func) rows
    ++ (call ∷ filter (λ s. nat_lt call.func s.func) rows))
    × (rows ≡ filter (λ s. nat_lt s.func call.func) rows
    ++ ([] ++ filter (λ s. nat_lt call.func s.func) rows))
unfolding merged
merged_between [] h call none = (refl, refl)
merged_between (x ∷ xs) h call none =
    elim (ordering_cases (nat_cmp x.func call.func)) [
      | inl e ↦
          (let lower = lt-from_Less x.func call.func e in
          let front : filter (λ s. nat_lt s.func call.func) (x ∷ xs) ≡ x
          ∷ filter (λ s. nat_lt s.func call.func) xs =
          cond-true (nat_lt x.func call.func) (x ∷ filter (λ s. nat_lt s.func call.func) xs)
          (filter (λ s. nat_lt s.func call.func) xs) (lt-ltb x.func call.func lower) in
          let back : filter (λ s. nat_lt call.func s.func) (x ∷ xs) ≡ filter (λ s. nat_lt call.func s.func)
          xs =
          cond-false (nat_lt call.func x.func) (x ∷ filter (λ s. nat_lt call.func s.func) xs)
          (filter (λ s. nat_lt call.func s.func) xs) (le-ltb call.func x.func (omega arith)) in
          let rest = merged_between xs h.1 call none.1 in (
            ap (λ (o : Ordering). pick o (x ∷ merged row_place row_plus xs (call ∷ []))
                (row_plus x call ∷ merged row_place row_plus xs []) (call ∷ x ∷ xs)) e
                ∙ ap (λ (ys : List Row). x ∷ ys) rest.0 ∙ sym (ap (λ (ys : List Row). ys
                ++ (call ∷ filter (λ s. nat_lt call.func s.func) (x ∷ xs))) front ∙ ap (λ (ys : List Row). x
                ∷ (filter (λ s. nat_lt s.func call.func) xs ++ (call ∷ ys))) back),
            ap (λ (ys : List Row). x ∷ ys) rest.1 ∙ sym (ap (λ (ys : List Row). ys
                ++ ([] ++ filter (λ s. nat_lt call.func s.func) (x ∷ xs))) front ∙ ap (λ (ys : List Row). x
                ∷ (filter (λ s. nat_lt s.func call.func) xs ++ ([] ++ ys))) back),
          ))
      | inr g ↦
          elim g [
            | inl e ↦ absurd (false≢true (sym none.0 ∙ eq-eqb x.func call.func (eq-from_Equal x.func call.func
                e)))
            | inr e ↦
                (let higher = gt-from_Greater x.func call.func e in
                let front : filter (λ s. nat_lt s.func call.func) (x ∷ xs) ≡ [] =
                cond-false (nat_lt x.func call.func) (x ∷ filter (λ s. nat_lt s.func call.func) xs)
                (filter (λ s. nat_lt s.func call.func) xs) (le-ltb x.func call.func (omega arith))
                ∙ tail-below call.func x xs (omega arith) h.0 in
                let back : filter (λ s. nat_lt call.func s.func) (x ∷ xs) ≡ x ∷ xs =
                cond-true (nat_lt call.func x.func) (x ∷ filter (λ s. nat_lt call.func s.func) xs)
                (filter (λ s. nat_lt call.func s.func) xs) (lt-ltb call.func x.func higher)
                ∙ ap (λ (ys : List Row). x ∷ ys) (tail-above call.func x xs (omega arith) h.0) in (
                  ap (λ (o : Ordering). pick o (x ∷ merged row_place row_plus xs (call ∷ []))
                      (row_plus x call ∷ merged row_place row_plus xs []) (call ∷ x ∷ xs)) e
                      ∙ sym (ap (λ (ys : List Row). ys
                      ++ (call ∷ filter (λ s. nat_lt call.func s.func) (x ∷ xs)))
                      front
                      ∙ ap (λ (ys : List Row). call ∷ ys) back),
                  sym (ap (λ (ys : List Row). ys ++ ([] ++ filter (λ s. nat_lt call.func s.func) (x ∷ xs)))
                      front
                      ∙ back),
                ))
          ]
    ]

-- the numbers of the function's row
closed_row-found : (rows : List Row) (call own : Row) → rows_for call.func rows ≡ own ∷ []
    → closed_row rows call
    ≡ record call { calls = own.calls + call.calls; excl = own.excl + call.excl }
closed_row-found rows call own e = ap (λ (us : List Row). record call {
  calls = (row_total call.func us).calls + call.calls;
  excl = (row_total call.func us).excl + call.excl;
}) e ∙ rw (zero-add own.calls, zero-add own.excl) refl

closed_row-none : (rows : List Row) (call : Row) → rows_for call.func rows ≡ [] → closed_row rows call ≡ call
closed_row-none rows call e = ap (λ (us : List Row). record call {
  calls = (row_total call.func us).calls + call.calls;
  excl = (row_total call.func us).excl + call.excl;
}) e ∙ rw (zero-add call.calls, zero-add call.excl) refl

-- what the change of the function's row gives
pub record Changed (rows : List Row) (call : Row) (at : ℕ) (new : Row) : Type 0 where
  pub inside : at < length rows
  pub fits : RowFits new
  pub is : set rows at new ≡ closed_rows rows call
  pub rises : RisesByFunction (set rows at new)

found-here : (rows : List Row) (call : Row) (at : ℕ) (d : Row) → RisesByFunction rows
    → All RowFits (closed_rows rows call) → Some at ≡ position (λ r. r.func == call.func) rows
    → Changed rows call at (record call {
      calls = (get_or rows at d).calls + call.calls;
      excl = (get_or rows at d).excl + call.excl;
    })
unfolding closed_rows
found-here rows call at d h fits e =
    let found = position-Some (λ (r : Row). r.func == call.func) rows at d (sym e) in
    let of_call : (get_or rows at d).func ≡ call.func = eqb-true (get_or rows at d).func call.func found.1 in
    let new : Row = record call {
      calls = (get_or rows at d).calls + call.calls;
      excl = (get_or rows at d).excl + call.excl;
    } in
    let between = set_between call.func rows (climbs-from nat_cmp func_of rows h) at d new found.0 of_call in
    let has : list_any (λ (r : Row). r.func == call.func) rows ≡ true =
    list_any_at (λ (r : Row). r.func == call.func) rows at d found.0 found.1 in
    let own : own_rows rows call ≡ new ∷ [] =
    ap (λ b. cond (b || stands call) (closed_row rows call ∷ []) []) has
    ∙ ap (λ (r : Row). r ∷ []) (closed_row-found rows call (get_or rows at d) between.1) in
    let is : set rows at new ≡ closed_rows rows call =
    between.0 ∙ ap (λ (us : List Row). filter (λ s. nat_lt s.func call.func) rows
    ++ (us ++ filter (λ s. nat_lt call.func s.func) rows)) (sym own) in
    record {
      inside = found.0;
      fits = subst RowFits (ap (λ (us : List Row). get_or us at d) (sym is) ∙ get_or-set_same rows at new d
          found.0)
          (All-get_or RowFits (closed_rows rows call) at d
          (subst (λ (us : List Row). at < length us) is (omega (arith, length-set rows at new, found.0)))
          fits);
      is = is;
      rises = subst (IsStrictlySortedBy nat_cmp) (sym (map-set func_of rows at new
          ∙ ap (λ n. set (map func_of rows) at n) (sym of_call ∙ sym (get_or-map func_of rows at d 0 found.0))
          ∙ set-get_or (map func_of rows) at 0)) h;
    }

pub found : (rows ws vs : List Row) (call : Row) (at : ℕ) (d : Row) → RisesByFunction rows
    → All RowFits (closed_rows rows call) → ws ≡ rows → vs ≡ rows
    → Some at ≡ position (λ r. r.func == call.func) ws
    → Changed rows call at (record call {
      calls = (get_or vs at d).calls + call.calls;
      excl = (get_or vs at d).excl + call.excl;
    })
found rows ws vs call at d h fits ew ev e =
    subst (λ (us : List Row). Changed rows call at (record call {
      calls = (get_or us at d).calls + call.calls;
      excl = (get_or us at d).excl + call.excl;
    })) (sym ev)
    (found-here rows call at d h fits (e ∙ ap (position (λ (r : Row). r.func == call.func)) ew))

-- none has the function
none_has : (p : Row → Bool) (rows : List Row) → None ≡ position p rows → All (λ r. p r ≡ false) rows
none_has p rows e =
    elim (cases_Bool (nat_lt (position_or_len p rows) (length rows))) [
      | inl h ↦ (let found : None ≡ Some (position_or_len p rows) = e
          ∙ cond-true (nat_lt (position_or_len p rows) (length rows)) (Some (position_or_len p rows)) None h
          in cc)
      | inr h ↦ λ k d l. fails_before_first p rows k d (omega (
        arith,
        ltb-false (position_or_len p rows) (length rows) h,
        l,
      ))
    ]

pub missing : (rows ws : List Row) (call : Row) → RisesByFunction rows → ws ≡ rows
    → None ≡ position (λ r. r.func == call.func) ws
    → (stands call ≡ true → merged row_place row_plus rows (call ∷ []) ≡ closed_rows rows call)
    × (stands call ≡ false → rows ≡ closed_rows rows call)
unfolding closed_rows
missing rows ws call h ew e =
    let none : All (λ (r : Row). (r.func == call.func) ≡ false) rows =
    none_has (λ (r : Row). r.func == call.func) rows (e ∙ ap (position (λ (r : Row). r.func == call.func)) ew)
    in
    let none_of : AllByRecursion (λ (r : Row). (r.func == call.func) ≡ false) rows =
    recursion_from_All (λ (r : Row). (r.func == call.func) ≡ false) rows none in
    let between = merged_between rows (climbs-from nat_cmp func_of rows h) call none_of in
    let is : closed_row rows call ≡ call = closed_row-none rows call
    (filter_none (λ (r : Row). r.func == call.func) rows none_of) in
    let has_none : list_any (λ (r : Row). r.func == call.func) rows ≡ false =
    list_any_none (λ (r : Row). r.func == call.func) rows none in (
      λ s. between.0 ∙ ap (λ (us : List Row). filter (λ t. nat_lt t.func call.func) rows
          ++ (us ++ filter (λ t. nat_lt call.func t.func) rows))
          (sym (ap (λ b. cond (b || stands call) (closed_row rows call ∷ []) []) has_none
          ∙ ap (λ b. cond b (closed_row rows call ∷ []) []) s ∙ ap (λ (r : Row). r ∷ []) is)),
      λ s. between.1 ∙ ap (λ (us : List Row). filter (λ t. nat_lt t.func call.func) rows
          ++ (us ++ filter (λ t. nat_lt call.func t.func) rows))
          (sym (ap (λ b. cond (b || stands call) (closed_row rows call ∷ []) []) has_none
          ∙ ap (λ b. cond b (closed_row rows call ∷ []) []) s)),
    )

pub rises_with : (rows : List Row) (call : Row) → RisesByFunction rows
    → RisesByFunction (merged row_place row_plus rows (call ∷ []))
rises_with rows call h = sorted-from nat_cmp func_of (merged row_place row_plus rows (call ∷ []))
    (merged-climbs nat_cmp func_of row_total row_plus row_totals rows (call ∷ [])
    (climbs-from nat_cmp func_of rows h)
    (tt, tt))

or_false : (a b : Bool) → (a || b) ≡ false → b ≡ false
or_false true b e = absurd (true≢false e)
or_false false b e = e

-- the call's time fits its type
pub call-incl : (rows : List Row) (call : Row) → All RowFits (closed_rows rows call) → call.incl < 2 ^ 128
unfolding closed_rows
call-incl rows call fits =
    elim (cases_Bool (list_any (λ (r : Row). r.func == call.func) rows || stands call)) [
      | inl e ↦
          (let front : List Row = filter (λ s. nat_lt s.func call.func) rows in
          let back : List Row = filter (λ s. nat_lt call.func s.func) rows in
          let own : own_rows rows call ≡ closed_row rows call ∷ [] =
          cond-true (list_any (λ (r : Row). r.func == call.func) rows || stands call) (closed_row rows call
          ∷ []) [] e in
          let all : All RowFits (front ++ (closed_row rows call ∷ back)) =
          subst (λ (us : List Row). All RowFits (front ++ (us ++ back))) own fits in
          let here : get_or (front ++ (closed_row rows call ∷ back)) (length front) call ≡ closed_row rows
          call =
          get_or_at front (closed_row rows call) back call (length front) refl in
          let fit : RowFits (closed_row rows call) = subst RowFits here
          (All-get_or RowFits (front ++ (closed_row rows call ∷ back)) (length front) call
          (omega (arith, length-append front (closed_row rows call ∷ back))) all) in
          fit.1)
      | inr e ↦
          (let none : nat_lt 0 call.incl ≡ false = or_false (nat_lt 0 call.calls) (nat_lt 0 call.incl)
          (or_false (list_any (λ (r : Row). r.func == call.func) rows) (stands call) e) in
          omega (arith, ltb-false 0 call.incl none))
    ]

pub call_is : (p : Profile) (f : ℕ) (begun : Bool) (calls time : ℕ) → calls ≡ cond begun 1 0
    → time ≡ sum_by (λ r. r.excl) p.rows
    → record { func = f; calls = calls; incl = p.bare + time; excl = p.bare } ≡ call_row f begun p
call_is p f begun calls time e t = ap (λ n. let r : Row = record {
  func = f;
  calls = n;
  incl = p.bare + time;
  excl = p.bare;
} in r) e ∙ ap (λ n. let r : Row = record {
  func = f;
  calls = cond begun 1 0;
  incl = p.bare
      + n;
  excl = p.bare;
} in r) t

pub closed-rows : (f : ℕ) (begun : Bool) (p : Profile) → (closed f begun p).rows ≡ closed_rows p.rows
    (call_row f begun p)
unfolding closed
closed-rows f begun p = refl

pub closed_is : (f : ℕ) (begun : Bool) (p : Profile) (rows : List Row)
    → rows ≡ closed_rows p.rows (call_row f begun p)
    → record { bare = 0; rows = rows } ≡ closed f begun p
unfolding closed
closed_is f begun p rows e = ap (λ (us : List Row). let s : Profile = record { bare = 0; rows = us } in s) e
