-- The rows of flat profiles: what there is for each function, and when the rows of one are the sums of two
-- others'.
use Rattle.std.proofs.Common.{◌≡◌, ◌≢◌, ℕ, ◌+◌, ◌<◌, ◌≤◌, zero, suc, Bool, true, false, ◌||◌}
use Rattle.std.proofs.Common.{List, [], ◌∷◌}
use Rattle.std.proofs.Common.{◌++◌, map, filter, nat_lt, refl, ap, sym, subst, ◌∙◌, ◌⊎◌, inl, inr, arith}
use Rattle.std.proofs.Common.{zero-add}
use Rattle.std.proofs.Common.{add-zero, add-one, append-nil}
use Rattle.std.specs.List.{AllByRecursion, range_with_len}
use Rattle.std.specs.Ordering.{nat_cmp, is_eq}
use Rattle.std.specs.declared.cmp.Ordering.TheVariants.{Less}
use Rattle.std.specs.Cmp.{unsigned_ties}
use Rattle.std.proofs.lemmas.Bool.{cases_Bool, cases_eq, cases_lt, cond-true, cond-false, lt-ltb, le-ltb}
use Rattle.std.proofs.lemmas.Bool.{ltb-true}
use Rattle.std.proofs.lemmas.Bool.{ltb-false, ne_eqb, eq-eqb, cond_both}
use Rattle.std.proofs.lemmas.List.Elements.{filter-append}
use Rattle.std.proofs.lemmas.List.FromFn.{filter_of_map_range_with_len_more}
use Rattle.std.proofs.lemmas.Bool.{or_cases, or_left, or_parts, or_right}
use Rattle.list_lemmas.proofs.Each.{all_append, all_mapped}
use Rattle.list_lemmas.proofs.Numbers.{Less-from_lt}
use Rattle.trace_base.specs.Flat.{stands}
use Rattle.trace_base.specs.declared.profile.Row.{Row}
use Rattle.profile_math.specs.Sum.{row_total, row_plus, by_function, RisesByFunction}
use Rattle.profile_math.proofs.Keyed.{at, whole, Climbs, climbs-append, sorted-from, sums-is}
use Rattle.profile_math.proofs.RowSums.{func_of, row_totals, by_function-is}

-- the rows of the first n functions that stand
pub standing : (ℕ → Row) → ℕ → List Row
standing row n = filter stands (map row (range_with_len 1 n))

-- the row, where it stands
abbrev pub kept : Row → List Row
kept r = filter stands (r ∷ [])

pub standing-is : (row : ℕ → Row) (n : ℕ) → standing row n ≡ filter stands (map row (range_with_len 1 n))
unfolding standing
standing-is row n = refl

pub standing-zero : (row : ℕ → Row) → standing row 0 ≡ []
unfolding standing
standing-zero row = refl

pub standing-suc : (row : ℕ → Row) (n : ℕ) → standing row (suc n) ≡ standing row n ++ kept (row (n + 1))
unfolding standing
standing-suc row n = subst (λ m. filter stands (map row (range_with_len 1 m)) ≡ standing row n
    ++ kept (row (n + 1)))
    (add-one n) (filter_of_map_range_with_len_more stands row 1 n (n + 1) (omega arith))

other-at : (f : ℕ) (r : Row) → r.func ≢ f → at nat_cmp func_of f (kept r) ≡ []
other-at f r n =
    let no : is_eq (nat_cmp r.func f) ≡ false = sym (unsigned_ties r.func f) ∙ ne_eqb r.func f n in
    cond_both (stands r) (r ∷ []) [] (λ us. at nat_cmp func_of f us ≡ [])
    (λ e. cond-false (is_eq (nat_cmp r.func f)) (r ∷ []) [] no) (λ e. refl)

own-at : (f : ℕ) (r : Row) → r.func ≡ f → at nat_cmp func_of f (kept r) ≡ kept r
own-at f r n =
    let yes : is_eq (nat_cmp r.func f) ≡ true = sym (unsigned_ties r.func f) ∙ eq-eqb r.func f n in
    cond_both (stands r) (r ∷ []) [] (λ us. at nat_cmp func_of f us ≡ us)
    (λ e. cond-true (is_eq (nat_cmp r.func f)) (r ∷ []) [] yes) (λ e. refl)

pub at-append : (f : ℕ) (xs ys : List Row) → at nat_cmp func_of f (xs ++ ys) ≡ at nat_cmp func_of f xs
    ++ at nat_cmp func_of f ys
at-append f xs ys = filter-append (λ r. is_eq (nat_cmp r.func f)) xs ys

-- a function that isn't one of the first n, counted from 1, has no row
pub standing-out : (row : ℕ → Row) → ((k : ℕ) → (row k).func ≡ k) → (n f : ℕ) → (f ≡ 0) ⊎ (n < f)
    → at nat_cmp func_of f (standing row n) ≡ []
standing-out row own zero f h = ap (at nat_cmp func_of f) (standing-zero row)
standing-out row own (suc n) f h =
    let less : (f ≡ 0) ⊎ (n < f) = elim h [ inl e ↦ inl e | inr l ↦ inr (omega arith) ] in
    let ne : (row (n + 1)).func ≢ f =
    λ e. elim h [ inl z ↦ (omega (arith, own (n + 1), e, z)) | inr l ↦ (omega (arith, own (n + 1), e, l)) ] in
    ap (at nat_cmp func_of f) (standing-suc row n) ∙ at-append f (standing row n) (kept (row (n + 1)))
    ∙ ap (λ (us : List Row). us ++ at nat_cmp func_of f (kept (row (n + 1)))) (standing-out row own n f less)
    ∙ other-at f (row (n + 1)) ne

-- one of them has its row, where it stands
pub standing-in : (row : ℕ → Row) → ((k : ℕ) → (row k).func ≡ k) → (n f : ℕ) → 0 < f → f ≤ n
    → at nat_cmp func_of f (standing row n) ≡ kept (row f)
standing-in row own zero f h l = absurd (omega arith)
standing-in row own (suc n) f h l =
    let split : at nat_cmp func_of f (standing row (suc n)) ≡ at nat_cmp func_of f (standing row n)
    ++ at nat_cmp func_of f (kept (row (n + 1))) =
    ap (at nat_cmp func_of f) (standing-suc row n) ∙ at-append f (standing row n) (kept (row (n + 1))) in
    elim (cases_eq f (n + 1)) [
      | inl e ↦ split
          ∙ ap (λ (us : List Row). us ++ at nat_cmp func_of f (kept (row (n + 1))))
          (standing-out row own n f (inr (omega arith)))
          ∙ own-at f (row (n + 1)) (own (n + 1) ∙ sym e)
          ∙ ap (λ k. kept (row k)) (sym e)
      | inr ne ↦ split
          ∙ ap (λ (us : List Row). us ++ at nat_cmp func_of f (kept (row (n + 1))))
          (standing-in row own n f h (omega (arith, ne)))
          ∙ ap (λ (us : List Row). kept (row f) ++ us)
          (other-at f (row (n + 1)) (λ e. ne (sym e ∙ own (n + 1))))
          ∙ append-nil (kept (row f))
    ]

all_kept : (P : Row → Type 0) (r : Row) → P r → AllByRecursion P (kept r)
all_kept P r h = cond_both (stands r) (r ∷ []) [] (AllByRecursion P) (λ e. (h, tt)) (λ e. tt)

climbs_kept : (r : Row) → Climbs nat_cmp func_of (kept r)
climbs_kept r = cond_both (stands r) (r ∷ []) [] (Climbs nat_cmp func_of) (λ e. (tt, tt)) (λ e. tt)

climbing : (row : ℕ → Row) → ((k : ℕ) → (row k).func ≡ k) → (n : ℕ) → Climbs nat_cmp func_of (standing row n)
    × AllByRecursion (λ r. r.func ≤ n) (standing row n)
climbing row own zero = rw standing-zero (tt, tt)
climbing row own (suc n) =
    let before = climbing row own n in
    let last : (row (n + 1)).func ≡ n + 1 = own (n + 1) in (
      subst (Climbs nat_cmp func_of) (sym (standing-suc row n))
          (climbs-append nat_cmp func_of (standing row n) (kept (row (n + 1))) before.0
          (climbs_kept (row (n + 1)))
          (all_mapped (λ (r : Row). r.func ≤ n) (λ r. AllByRecursion (λ s. nat_cmp r.func s.func ≡ Less)
          (kept (row (n + 1))))
          (λ r l. all_kept (λ s. nat_cmp r.func s.func ≡ Less) (row (n + 1))
          (Less-from_lt r.func (row (n + 1)).func (omega arith))) (standing row n) before.1)),
      subst (AllByRecursion (λ (r : Row). r.func ≤ suc n)) (sym (standing-suc row n))
          (all_append (λ r. r.func ≤ suc n) (standing row n) (kept (row (n + 1)))
          (all_mapped (λ (r : Row). r.func ≤ n) (λ r. r.func ≤ suc n) (λ r l. omega arith) (standing row n)
          before.1)
          (all_kept (λ r. r.func ≤ suc n) (row (n + 1)) (omega arith))),
    )

pub standing-climbs : (row : ℕ → Row) → ((k : ℕ) → (row k).func ≡ k) → (n : ℕ)
    → Climbs nat_cmp func_of (standing row n)
standing-climbs row own n = (climbing row own n).0

pub standing-rises : (row : ℕ → Row) → ((k : ℕ) → (row k).func ≡ k) → (n : ℕ)
    → RisesByFunction (standing row n)
standing-rises row own n = sorted-from nat_cmp func_of (standing row n) (standing-climbs row own n)

-- a row without calls and time
abbrev pub no_row : ℕ → Row
no_row f = record { func = f; calls = 0; incl = 0; excl = 0 }

-- a row stands where it has a call or time
pub stands-from : (r : Row) → (0 < r.calls) ⊎ (0 < r.incl) → stands r ≡ true
stands-from r h =
    elim h [
      | inl l ↦ or_left (nat_lt 0 r.calls) (nat_lt 0 r.incl) (lt-ltb 0 r.calls l)
      | inr l ↦ or_right (nat_lt 0 r.calls) (nat_lt 0 r.incl) (lt-ltb 0 r.incl l)
    ]

pub stands-into : (r : Row) → stands r ≡ true → (0 < r.calls) ⊎ (0 < r.incl)
stands-into r e =
    elim (or_cases (nat_lt 0 r.calls) (nat_lt 0 r.incl) e) [
      | inl l ↦ inl (ltb-true 0 r.calls l)
      | inr l ↦ inr (ltb-true 0 r.incl l)
    ]

pub stands-not : (r : Row) → stands r ≡ false → (r.calls ≡ 0) × (r.incl ≡ 0)
stands-not r e =
    let none = or_parts (nat_lt 0 r.calls) (nat_lt 0 r.incl) e in
    (omega (arith, ltb-false 0 r.calls none.0), omega (arith, ltb-false 0 r.incl none.1))

pub no-stands : (r : Row) → r.calls ≡ 0 → r.incl ≡ 0 → stands r ≡ false
no-stands r e g = rw (e, g) refl

-- no time is a function's own that isn't time of its calls
abbrev pub IsWithin : Row → Type 0
IsWithin r = r.excl ≤ r.incl

-- a row that doesn't stand is empty
pub empty-row : (r : Row) (f : ℕ) → r.func ≡ f → IsWithin r → stands r ≡ false → r ≡ no_row f
empty-row r f e w s =
    let none = stands-not r s in
    let e1 : r.calls ≡ 0 = none.0 in
    let e2 : r.incl ≡ 0 = none.1 in
    let e3 : r.excl ≡ 0 = omega arith in
    ap (λ n. let x : Row = record { func = n; calls = r.calls; incl = r.incl; excl = r.excl } in x) e
    ∙ ap (λ n. let x : Row = record { func = f; calls = n; incl = r.incl; excl = r.excl } in x) e1
    ∙ ap (λ n. let x : Row = record { func = f; calls = 0; incl = n; excl = r.excl } in x) e2
    ∙ ap (λ n. let x : Row = record { func = f; calls = 0; incl = 0; excl = n } in x) e3

pub kept-yes : (r : Row) → stands r ≡ true → kept r ≡ r ∷ []
kept-yes r e = cond-true (stands r) (r ∷ []) [] e

pub kept-no : (r : Row) → stands r ≡ false → kept r ≡ []
kept-no r e = cond-false (stands r) (r ∷ []) [] e

plus-zero : (y : Row) (f : ℕ) → y.func ≡ f → row_plus (no_row f) y ≡ y
plus-zero y f e = ap (λ k. let z : Row = record {
  func = k;
  calls = 0 + y.calls;
  incl = 0 + y.incl;
  excl = 0 + y.excl;
} in z) (sym e) ∙ rw (zero-add y.calls, zero-add y.incl, zero-add y.excl) refl

-- the sum of two rows stands where either does, and adds what stands
kept-plus : (x y : Row) (f : ℕ) → x.func ≡ f → y.func ≡ f → IsWithin x → IsWithin y
    → kept (row_plus x y) ≡ whole row_total f (kept x ++ kept y)
kept-plus x y f ex ey wx wy =
    elim (cases_Bool (stands x)) [
      | inl sx ↦
          (let sum : kept (row_plus x y) ≡ row_plus x y
          ∷ [] = kept-yes (row_plus x y) (stands-from (row_plus x y)
          (elim (stands-into x sx) [ inl l ↦ inl (omega arith) | inr l ↦ inr (omega arith) ])) in
          elim (cases_Bool (stands y)) [
            | inl sy ↦ sum ∙ ap (λ r. r ∷ []) (sym (row_totals.two x y) ∙ ap (λ k. row_total k (x ∷ y ∷ []))
                ex)
                ∙ sym (ap (λ (us : List Row). whole row_total f (us ++ kept y)) (kept-yes x sx)
                ∙ ap (λ (us : List Row). whole row_total f (x ∷ us)) (kept-yes y sy))
            | inr sy ↦ sum ∙ ap (λ r. r ∷ []) (ap (row_plus x) (empty-row y f ey wy sy)
                ∙ rw (add-zero x.calls, add-zero x.incl, add-zero x.excl) (sym (row_totals.one x)
                ∙ ap (λ k. row_total k (x ∷ [])) ex))
                ∙ sym (ap (λ (us : List Row). whole row_total f (us ++ kept y)) (kept-yes x sx)
                ∙ ap (λ (us : List Row). whole row_total f (x ∷ us)) (kept-no y sy))
          ])
      | inr sx ↦
          (let zero_x = stands-not x sx in
          elim (cases_Bool (stands y)) [
            | inl sy ↦ kept-yes (row_plus x y) (stands-from (row_plus x y)
                (elim (stands-into y sy) [ inl l ↦ inl (omega arith) | inr l ↦ inr (omega arith) ]))
                ∙ ap (λ r. r ∷ []) (ap (λ r. row_plus r y) (empty-row x f ex wx sx)
                ∙ plus-zero y f ey ∙ sym (row_totals.one y) ∙ ap (λ k. row_total k (y ∷ [])) ey)
                ∙ sym (ap (λ (us : List Row). whole row_total f (us ++ kept y)) (kept-no x sx)
                ∙ ap (whole row_total f) (kept-yes y sy))
            | inr sy ↦
                (let zero_y = stands-not y sy in
                kept-no (row_plus x y) (or_both (nat_lt 0 (x.calls + y.calls)) (nat_lt 0 (x.incl + y.incl))
                (le-ltb 0 (x.calls + y.calls) (omega arith)) (le-ltb 0 (x.incl + y.incl) (omega arith)))
                ∙ sym (ap (λ (us : List Row). whole row_total f (us ++ kept y)) (kept-no x sx)
                ∙ ap (whole row_total f) (kept-no y sy)))
          ])
    ]
  where
    or_both : (a b : Bool) → a ≡ false → b ≡ false → (a || b) ≡ false
    or_both a b e g = ap (λ c. c || b) e ∙ g

-- the row of the function, where it stands, whether or not it is one of the first n
pub at-any : (row : ℕ → Row) → ((k : ℕ) → (row k).func ≡ k) → (n f : ℕ) → 0 < f
    → (n < f → stands (row f) ≡ false)
    → at nat_cmp func_of f (standing row n) ≡ kept (row f)
at-any row own n f h past =
    elim (cases_lt n f) [
      | inl l ↦ standing-out row own n f (inr l) ∙ sym (kept-no (row f) (past l))
      | inr l ↦ standing-in row own n f h l
    ]

-- Where each row is the sum of two others', so is the profile.
pub standing-sum : (row r1 r2 : ℕ → Row) (n n1 n2 : ℕ) → ((k : ℕ) → (r1 k).func ≡ k)
    → ((k : ℕ) → (r2 k).func ≡ k)
    → ((k : ℕ) → row k ≡ row_plus (r1 k) (r2 k)) → ((k : ℕ) → IsWithin (r1 k)) → ((k : ℕ) → IsWithin (r2 k))
    → ((k : ℕ) → n1 < k → stands (r1 k) ≡ false) → ((k : ℕ) → n2 < k → stands (r2 k) ≡ false) → n1 ≤ n
    → n2 ≤ n
    → standing row n ≡ by_function (standing r1 n1 ++ standing r2 n2)
standing-sum row r1 r2 n n1 n2 own1 own2 adds w1 w2 past1 past2 l1 l2 =
    sums-is nat_cmp func_of row_total row_plus row_totals (standing row n) (standing r1 n1 ++ standing r2 n2)
    (standing-climbs row own n) at-each ∙ sym (by_function-is (standing r1 n1 ++ standing r2 n2))
  where
    own : (k : ℕ) → (row k).func ≡ k
    own k = ap func_of (adds k) ∙ own1 k

    past : (f : ℕ) → n < f → stands (row f) ≡ false
    past f l =
        let s1 = stands-not (r1 f) (past1 f (omega arith)) in
        let s2 = stands-not (r2 f) (past2 f (omega arith)) in
        ap stands (adds f) ∙ no-stands (row_plus (r1 f) (r2 f)) (omega arith) (omega arith)

    at-each : (f : ℕ) → at nat_cmp func_of f (standing row n) ≡ whole row_total f
        (at nat_cmp func_of f (standing r1 n1 ++ standing r2 n2))
    at-each zero = standing-out row own n 0 (inl refl)
        ∙ sym (ap (whole row_total 0) (at-append 0 (standing r1 n1) (standing r2 n2)
        ∙ ap (λ (us : List Row). us ++ at nat_cmp func_of 0 (standing r2 n2))
        (standing-out r1 own1 n1 0 (inl refl))
        ∙ standing-out r2 own2 n2 0 (inl refl)))
    at-each (suc g) = at-any row own n (suc g) (omega arith) (past (suc g))
        ∙ ap kept (adds (suc g))
        ∙ kept-plus (r1 (suc g)) (r2 (suc g)) (suc g) (own1 (suc g)) (own2 (suc g)) (w1 (suc g)) (w2 (suc g))
        ∙ sym (ap (whole row_total (suc g)) (at-append (suc g) (standing r1 n1) (standing r2 n2)
        ∙ ap (λ (us : List Row). us ++ at nat_cmp func_of (suc g) (standing r2 n2))
        (at-any r1 own1 n1 (suc g) (omega arith) (past1 (suc g)))
        ∙ ap (λ (us : List Row). kept (r1 (suc g)) ++ us)
        (at-any r2 own2 n2 (suc g) (omega arith) (past2 (suc g)))))
