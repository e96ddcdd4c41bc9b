-- The flat profile of a call is the closing of the profile of what it encloses.
use Rattle.std.proofs.Common.{◌≡◌, ◌≢◌, ℕ, ◌+◌, ◌<◌, ◌≤◌, ◌==◌, zero, suc, Bool, true, false, cond, ◌&&◌}
use Rattle.std.proofs.Common.{◌||◌, List}
use Rattle.std.proofs.Common.{[], ◌∷◌, ◌++◌, length, take, filter, sum_by, nat_lt, refl, ap, sym, subst, ◌∙◌}
use Rattle.std.proofs.Common.{inl, inr}
use Rattle.std.proofs.Common.{arith, zero-add, add-zero, append-nil, eq-eqb}
use Rattle.std.specs.List.{AllByRecursion, list_any}
use Rattle.std.specs.Ordering.{nat_cmp, is_eq}
use Rattle.std.specs.declared.cmp.Ordering.TheVariants.{Less}
use Rattle.std.specs.Cmp.{unsigned_ties}
use Rattle.std.proofs.lemmas.Bool.{cases_Bool, cases_eq, cases_lt, cond-true, cond-false, lt-ltb, le-ltb}
use Rattle.std.proofs.lemmas.Bool.{ltb-true}
use Rattle.std.proofs.lemmas.Bool.{ne_eqb, eqb-true}
use Rattle.std.proofs.lemmas.List.Sums.{sum_by-append}
use Rattle.list_lemmas.proofs.Each.{all_append, all_mapped, all_passed}
use Rattle.list_lemmas.proofs.Filters.{filter_filter_none, filter_filter_same}
use Rattle.list_lemmas.proofs.Numbers.{Less-from_ltb}
use Rattle.trace_base.specs.Flat.{stands, is_bare, is_open_in, is_innermost_in, is_within, time_with}
use Rattle.trace_base.specs.Flat.{calls_in, row_of}
use Rattle.trace_base.specs.Flat.{greatest_function, flat}
use Rattle.trace_base.specs.Stream.{stack_after}
use Rattle.profile_math.specs.Laws.{IsComplete}
use Rattle.trace_base.specs.declared.profile.Profile.{Profile}
use Rattle.trace_base.specs.declared.profile.Row.{Row}
use Rattle.trace_base.specs.declared.stream.TrackStream.{TrackStream}
use Rattle.profile_math.specs.Closing.{call_row, closed, closed_row, closed_rows, own_rows}
use Rattle.profile_math.specs.Laws.{call_of}
use Rattle.profile_math.specs.Sum.{row_total, rows_for}
use Rattle.profile_math.proofs.CallTimes.{time-call, calls-call}
use Rattle.profile_math.proofs.FlatLaws.{flat-rows, flat-bare, row-func, row-within, row-past}
use Rattle.profile_math.proofs.FlatRows.{standing, kept, standing-zero, standing-suc, standing-out}
use Rattle.profile_math.proofs.FlatRows.{standing-climbs}
use Rattle.profile_math.proofs.FlatRows.{at-any, at-append, IsWithin, stands-from, stands-into, stands-not}
use Rattle.profile_math.proofs.FlatRows.{no-stands}
use Rattle.profile_math.proofs.FlatRows.{empty-row, kept-yes, kept-no}
use Rattle.profile_math.proofs.Keyed.{at, Climbs, one_list, climbs-filter, climbs-append}
use Rattle.profile_math.proofs.RowSums.{func_of, rows_for-at, row_totals}
use Rattle.profile_math.proofs.Shares.{time-split, time-same, all-time, own_time, own_time-zero, own_time-suc}
use Rattle.profile_math.proofs.Shares.{innermost-is, last-under}
use Rattle.profile_math.proofs.Times.{greatest-all, time-none, time-le}
use Rattle.std.proofs.lemmas.Cmp.{nat_cmp_total}

-- the rows with a call between: what they have at each function
same_func : (r : Row) (g : ℕ) → is_eq (nat_cmp r.func g) ≡ true → r.func ≡ g
same_func r g e = eqb-true r.func g (unsigned_ties r.func g ∙ e)

at-below : (g f : ℕ) (xs : List Row) → g < f → at nat_cmp func_of g (filter (λ r. nat_lt r.func f) xs)
    ≡ at nat_cmp func_of g xs
at-below g f xs l = filter_filter_same (λ r. is_eq (nat_cmp r.func g)) (λ r. nat_lt r.func f)
    (λ r e. lt-ltb r.func f (omega (arith, same_func r g e))) xs

not-below : (g f : ℕ) (xs : List Row) → f ≤ g → at nat_cmp func_of g (filter (λ r. nat_lt r.func f) xs) ≡ []
not-below g f xs l = filter_filter_none (λ r. is_eq (nat_cmp r.func g)) (λ r. nat_lt r.func f)
    (λ r e. le-ltb r.func f (omega (arith, same_func r g e))) xs

at-above : (g f : ℕ) (xs : List Row) → f < g → at nat_cmp func_of g (filter (λ r. nat_lt f r.func) xs)
    ≡ at nat_cmp func_of g xs
at-above g f xs l = filter_filter_same (λ r. is_eq (nat_cmp r.func g)) (λ r. nat_lt f r.func)
    (λ r e. lt-ltb f r.func (omega (arith, same_func r g e))) xs

not-above : (g f : ℕ) (xs : List Row) → g ≤ f → at nat_cmp func_of g (filter (λ r. nat_lt f r.func) xs) ≡ []
not-above g f xs l = filter_filter_none (λ r. is_eq (nat_cmp r.func g)) (λ r. nat_lt f r.func)
    (λ r e. le-ltb f r.func (omega (arith, same_func r g e))) xs

own-other : (g : ℕ) (b : Bool) (r : Row) → r.func ≢ g → at nat_cmp func_of g (cond b (r ∷ []) []) ≡ []
own-other g true r n = cond-false (is_eq (nat_cmp r.func g)) (r ∷ []) [] (sym (unsigned_ties r.func g)
    ∙ ne_eqb r.func g n)
own-other g false r n = refl

own-same : (g : ℕ) (b : Bool) (r : Row) → r.func ≡ g → at nat_cmp func_of g (cond b (r ∷ []) []) ≡ cond b
    (r ∷ []) []
own-same g true r e = cond-true (is_eq (nat_cmp r.func g)) (r ∷ []) [] (sym (unsigned_ties r.func g)
    ∙ eq-eqb r.func g e)
own-same g false r e = refl

closed-split : (g : ℕ) (xs : List Row) (call : Row) → at nat_cmp func_of g (closed_rows xs call)
    ≡ at nat_cmp func_of g (filter (λ r. nat_lt r.func call.func) xs)
    ++ (at nat_cmp func_of g (own_rows xs call)
    ++ at nat_cmp func_of g (filter (λ r. nat_lt call.func r.func) xs))
unfolding closed_rows
closed-split g xs call = at-append g (filter (λ r. nat_lt r.func call.func) xs)
    (own_rows xs call ++ filter (λ r. nat_lt call.func r.func) xs)
    ∙ ap (λ (us : List Row). at nat_cmp func_of g (filter (λ r. nat_lt r.func call.func) xs) ++ us)
    (at-append g (own_rows xs call) (filter (λ r. nat_lt call.func r.func) xs))

closed-at-other : (g : ℕ) (xs : List Row) (call : Row) → g ≢ call.func
    → at nat_cmp func_of g (closed_rows xs call)
    ≡ at nat_cmp func_of g xs
closed-at-other g xs call n =
    let f : ℕ = call.func in
    let back : List Row = at nat_cmp func_of g (filter (λ r. nat_lt f r.func) xs) in
    let none : at nat_cmp func_of g (own_rows xs call) ≡ [] =
    own-other g (list_any (λ r. r.func == f) xs || stands call) (closed_row xs call) (λ e. n (sym e)) in
    closed-split g xs call
    ∙ ap (λ (us : List Row). at nat_cmp func_of g (filter (λ r. nat_lt r.func f) xs) ++ (us ++ back)) none
    ∙ elim (cases_lt g f) [
      | inl l ↦ ap (λ (us : List Row). us ++ ([] ++ back)) (at-below g f xs l)
          ∙ ap (λ (us : List Row). at nat_cmp func_of g xs ++ ([] ++ us)) (not-above g f xs (omega arith))
          ∙ append-nil (at nat_cmp func_of g xs)
      | inr l ↦ ap (λ (us : List Row). us ++ ([] ++ back)) (not-below g f xs l)
          ∙ at-above g f xs (omega (arith, n))
    ]

closed-at-own : (xs : List Row) (call : Row) → at nat_cmp func_of call.func (closed_rows xs call) ≡ own_rows
    xs call
closed-at-own xs call =
    let f : ℕ = call.func in
    closed-split f xs call
    ∙ ap (λ (us : List Row). us ++ (at nat_cmp func_of f (own_rows xs call)
    ++ at nat_cmp func_of f (filter (λ r. nat_lt f r.func) xs))) (not-below f f xs (omega arith))
    ∙ ap (λ (us : List Row). at nat_cmp func_of f (own_rows xs call) ++ us) (not-above f f xs (omega arith))
    ∙ append-nil (at nat_cmp func_of f (own_rows xs call))
    ∙ own-same f (list_any (λ r. r.func == f) xs || stands call) (closed_row xs call) refl

all_cond : (P : Row → Type 0) (b : Bool) (r : Row) → P r → AllByRecursion P (cond b (r ∷ []) [])
all_cond P true r h = (h, tt)
all_cond P false r h = tt

climbs_cond : (b : Bool) (r : Row) → Climbs nat_cmp func_of (cond b (r ∷ []) [])
climbs_cond true r = (tt, tt)
climbs_cond false r = tt

closed-climbs : (xs : List Row) (call : Row) → Climbs nat_cmp func_of xs
    → Climbs nat_cmp func_of (closed_rows xs call)
unfolding closed_rows
closed-climbs xs call h =
    let f : ℕ = call.func in
    let b : Bool = list_any (λ r. r.func == f) xs || stands call in
    let front : List Row = filter (λ r. nat_lt r.func f) xs in
    let back : List Row = filter (λ r. nat_lt f r.func) xs in
    let own : List Row = own_rows xs call in
    let above : AllByRecursion (λ r. nat_lt f r.func ≡ true) back = all_passed (λ r. nat_lt f r.func) xs in
    climbs-append nat_cmp func_of front (own ++ back)
    (climbs-filter nat_cmp func_of (λ r. nat_lt r.func f) xs h)
    (climbs-append nat_cmp func_of own back (climbs_cond b (closed_row xs call))
    (climbs-filter nat_cmp func_of (λ r. nat_lt f r.func) xs h)
    (all_cond (λ (r : Row). AllByRecursion (λ s. nat_cmp r.func s.func ≡ Less) back) b (closed_row xs call)
    (all_mapped (λ (s : Row). nat_lt f s.func ≡ true) (λ s. nat_cmp f s.func ≡ Less)
    (λ s e. Less-from_ltb f s.func e)
    back above)))
    (all_mapped (λ (r : Row). nat_lt r.func f ≡ true) (λ r. AllByRecursion (λ s. nat_cmp r.func s.func ≡ Less)
    (own ++ back)) (λ r e. all_append (λ s. nat_cmp r.func s.func ≡ Less) own back
    (all_cond (λ (s : Row). nat_cmp r.func s.func ≡ Less) b (closed_row xs call) (Less-from_ltb r.func f e))
    (all_mapped (λ (s : Row). nat_lt f s.func ≡ true) (λ s. nat_cmp r.func s.func ≡ Less)
    (λ s g. Less-from_ltb r.func s.func (lt-ltb r.func s.func
    (omega (arith, ltb-true r.func f e, ltb-true f s.func g))))
    back above)) front (all_passed (λ r. nat_lt r.func f) xs))

-- the sums over one stream
pub one_sum : (f : TrackStream → ℕ) (s : TrackStream) → sum_by f (s ∷ []) ≡ f s
one_sum f s = zero-add (f s)

row_made : (r : Row) (f c i e : ℕ) → r.func ≡ f → r.calls ≡ c → r.incl ≡ i → r.excl ≡ e
    → (let s : Row = record { func = f; calls = c; incl = i; excl = e } in r ≡ s)
row_made r f c i e ef ec ei ee =
    ap (λ n. let x : Row = record { func = n; calls = r.calls; incl = r.incl; excl = r.excl } in x) ef
    ∙ ap (λ n. let x : Row = record { func = f; calls = n; incl = r.incl; excl = r.excl } in x) ec
    ∙ ap (λ n. let x : Row = record { func = f; calls = c; incl = n; excl = r.excl } in x) ei
    ∙ ap (λ n. let x : Row = record { func = f; calls = c; incl = i; excl = n } in x) ee

row-calls : (s : TrackStream) (a b k : ℕ) → (row_of (s ∷ []) a b k).calls ≡ calls_in k a b s
unfolding row_of
row-calls s a b k = one_sum (calls_in k a b) s

row-incl : (s : TrackStream) (a b k : ℕ) → (row_of (s ∷ []) a b k).incl ≡ time_with (is_open_in k) a b s
unfolding row_of
row-incl s a b k = one_sum (time_with (is_open_in k) a b) s

row-excl : (s : TrackStream) (a b k : ℕ) → (row_of (s ∷ []) a b k).excl ≡ time_with (is_innermost_in k) a b s
unfolding row_of
row-excl s a b k = one_sum (time_with (is_innermost_in k) a b) s

pub is_bare-cons : (x : ℕ) (xs : List ℕ) → is_bare (x ∷ xs) ≡ false
is_bare-cons x xs = ne_eqb (length (x ∷ xs)) 0 (λ e. omega (arith, e))

-- how the call changes the test of the innermost and of the open functions
innermost-other : (k f : ℕ) → k ≢ f → (q : List ℕ) → is_innermost_in k (f ∷ q) ≡ is_innermost_in k q
innermost-other k f n [] = ne_eqb f k (λ e. n (sym e))
innermost-other k f n (x ∷ xs) = innermost-is k f (x ∷ xs) ∙ ap (λ l. l == k) (last-under f x xs)
    ∙ sym (innermost-is k x xs)

innermost-own : (f : ℕ) (q : List ℕ) (c : ℕ) → cond (is_innermost_in f (f ∷ q)) c 0 ≡ cond
    (is_innermost_in f q) c 0
    + cond (is_bare q) c 0
innermost-own f [] c = ap {B = ℕ} (λ (t : Bool). cond t c 0) (eq-eqb f f refl) ∙ sym (zero-add c)
innermost-own f (x ∷ xs) c = ap {B = ℕ} (λ (t : Bool). cond t c 0) (innermost-is f f (x ∷ xs)
    ∙ ap (λ l. l == f) (last-under f x xs) ∙ sym (innermost-is f x xs))
    ∙ sym (add-zero (cond (is_innermost_in f (x ∷ xs)) c 0))
    ∙ ap {B = ℕ} (λ (t : Bool). cond (is_innermost_in f (x ∷ xs)) c 0 + cond t c 0) (sym (is_bare-cons x xs))

open-other : (k f : ℕ) → k ≢ f → (q : List ℕ) → is_open_in k (f ∷ q) ≡ is_open_in k q
open-other k f n q = ap (λ t. t || is_open_in k q) (ne_eqb f k (λ e. n (sym e)))

open-own : (f : ℕ) (q : List ℕ) → is_open_in f (f ∷ q) ≡ true
open-own f q = ap (λ t. t || is_open_in f q) (eq-eqb f f refl)

-- the row of another function stays
row-other : (s : TrackStream) (f a b k : ℕ) → IsComplete s → k ≢ f → row_of (call_of f s ∷ []) a b k ≡ row_of
    (s ∷ []) a b k
row-other s f a b k complete n =
    row_made (row_of (call_of f s ∷ []) a b k) k (calls_in k a b s) (time_with (is_open_in k) a b s)
    (time_with (is_innermost_in k) a b s) (row-func (call_of f s ∷ []) a b k)
    (row-calls (call_of f s) a b k ∙ calls-call k f a b s
    ∙ ap {B = ℕ} (λ (t : Bool). cond (t && is_within a b s.start) 1 0 + calls_in k a b s)
    (ne_eqb f k (λ e. n (sym e))) ∙ zero-add (calls_in k a b s))
    (row-incl (call_of f s) a b k ∙ time-call (is_open_in k) f a b s complete
    ∙ time-same (λ q. is_open_in k (f ∷ q)) (is_open_in k) a b s
    (λ i. open-other k f n (stack_after (take i s.events))))
    (row-excl (call_of f s) a b k ∙ time-call (is_innermost_in k) f a b s complete
    ∙ time-same (λ q. is_innermost_in k (f ∷ q)) (is_innermost_in k) a b s
    (λ i. innermost-other k f n (stack_after (take i s.events))))
    ∙ sym (row_made (row_of (s ∷ []) a b k) k (calls_in k a b s) (time_with (is_open_in k) a b s)
    (time_with (is_innermost_in k) a b s) (row-func (s ∷ []) a b k) (row-calls s a b k) (row-incl s a b k)
    (row-excl s a b k))

-- the exclusive times of the rows are the functions' own time
kept-excl : (r : Row) → IsWithin r → sum_by (λ x. x.excl) (kept r) ≡ r.excl
kept-excl r w =
    elim (cases_Bool (stands r)) [
      | inl e ↦ ap (λ (us : List Row). sum_by (λ x. x.excl) us) (kept-yes r e) ∙ zero-add r.excl
      | inr e ↦ ap (λ (us : List Row). sum_by (λ x. x.excl) us) (kept-no r e)
          ∙ omega (arith, (stands-not r e).1, w)
    ]

own-excl : (s : TrackStream) (a b n : ℕ) → sum_by (λ r. r.excl) (standing (row_of (s ∷ []) a b) n) ≡ own_time
    a b s n
own-excl s a b zero = ap (λ (us : List Row). sum_by (λ r. r.excl) us) (standing-zero (row_of (s ∷ []) a b))
    ∙ sym (own_time-zero a b s)
own-excl s a b (suc n) = ap (λ (us : List Row). sum_by (λ r. r.excl) us)
    (standing-suc (row_of (s ∷ []) a b) n)
    ∙ sum_by-append (λ (r : Row). r.excl) (standing (row_of (s ∷ []) a b) n)
    (kept (row_of (s ∷ []) a b (n + 1)))
    ∙ ap (λ m. m + sum_by (λ r. r.excl) (kept (row_of (s ∷ []) a b (n + 1)))) (own-excl s a b n)
    ∙ ap (λ m. own_time a b s n + m) (kept-excl (row_of (s ∷ []) a b (n + 1))
    (row-within (s ∷ []) a b (n + 1))
    ∙ row-excl s a b (n + 1))
    ∙ sym (own_time-suc a b s n)

-- all time of the content, by its profile
pub profile-time : (s : TrackStream) (a b : ℕ) → IsComplete s
    → time_with (λ q. true) a b s ≡ (flat (s ∷ []) a b).bare
    + sum_by (λ r. r.excl) ((flat (s ∷ []) a b).rows)
profile-time s a b complete =
    all-time a b s (greatest_function (s ∷ [])) complete (greatest-all (s ∷ [])).0
    ∙ sym (ap (λ m. m + sum_by (λ r. r.excl) ((flat (s ∷ []) a b).rows)) (flat-bare (s ∷ []) a b
    ∙ one_sum (time_with is_bare a b) s)
    ∙ ap (λ (us : List Row). time_with is_bare a b s + sum_by (λ r. r.excl) us) (flat-rows (s ∷ []) a b)
    ∙ ap (λ m. time_with is_bare a b s + m) (own-excl s a b (greatest_function (s ∷ []))))

-- the row of the call's function
row-own : (s : TrackStream) (f a b : ℕ) → IsComplete s → row_of (call_of f s ∷ []) a b f ≡ record {
  func = f;
  calls = (row_of (s ∷ []) a b f).calls + cond (is_within a b s.start) 1 0;
  incl = (flat (s ∷ []) a b).bare + sum_by (λ r. r.excl) ((flat (s ∷ []) a b).rows);
  excl = (row_of (s ∷ []) a b f).excl + (flat (s ∷ []) a b).bare;
}
row-own s f a b complete =
    let flat-bare-one : (flat (s ∷ []) a b).bare ≡ time_with is_bare a b s = flat-bare (s ∷ []) a b
    ∙ one_sum (time_with is_bare a b) s in
    row_made (row_of (call_of f s ∷ []) a b f) f ((row_of (s ∷ []) a b f).calls
    + cond (is_within a b s.start) 1 0)
    ((flat (s ∷ []) a b).bare + sum_by (λ r. r.excl) ((flat (s ∷ []) a b).rows))
    ((row_of (s ∷ []) a b f).excl + (flat (s ∷ []) a b).bare) (row-func (call_of f s ∷ []) a b f)
    (row-calls (call_of f s) a b f ∙ calls-call f f a b s
    ∙ ap {B = ℕ} (λ (t : Bool). cond (t && is_within a b s.start) 1 0 + calls_in f a b s) (eq-eqb f f refl)
    ∙ omega (arith, row-calls s a b f))
    (row-incl (call_of f s) a b f ∙ time-call (is_open_in f) f a b s complete
    ∙ time-same (λ q. is_open_in f (f ∷ q)) (λ q. true) a b s
    (λ i. open-own f (stack_after (take i s.events)))
    ∙ profile-time s a b complete)
    (row-excl (call_of f s) a b f ∙ time-call (is_innermost_in f) f a b s complete
    ∙ time-split (λ q. is_innermost_in f (f ∷ q)) (is_innermost_in f) is_bare a b s
    (λ i c. innermost-own f (stack_after (take i s.events)) c)
    ∙ omega (arith, row-excl s a b f, flat-bare-one))

-- what the row of a function has, whether it stands or not
total-kept : (r : Row) (f : ℕ) → r.func ≡ f → IsWithin r → row_total f (kept r) ≡ r
total-kept r f e w =
    elim (cases_Bool (stands r)) [
      | inl s ↦ ap (row_total f) (kept-yes r s) ∙ ap (λ k. row_total k (r ∷ [])) (sym e) ∙ row_totals.one r
      | inr s ↦ ap (row_total f) (kept-no r s) ∙ sym (empty-row r f e w s)
    ]

has_items : List Row → Bool
has_items [] = false
has_items (x ∷ xs) = true

any-filter : (p : Row → Bool) (xs : List Row) → list_any p xs ≡ has_items (filter p xs)
unfolding has_items
any-filter p [] = refl
any-filter p (x ∷ xs) =
    elim (cases_Bool (p x)) [
      | inl e ↦ ap (λ t. t || list_any p xs) e ∙ ap has_items
          (sym (cond-true (p x) (x ∷ filter p xs) (filter p xs) e))
      | inr e ↦ ap (λ t. t || list_any p xs) e ∙ any-filter p xs
          ∙ ap has_items (sym (cond-false (p x) (x ∷ filter p xs) (filter p xs) e))
    ]

kept-items : (r : Row) → has_items (kept r) ≡ stands r
unfolding has_items
kept-items r =
    elim (cases_Bool (stands r)) [
      | inl e ↦ ap has_items (kept-yes r e) ∙ sym e
      | inr e ↦ ap has_items (kept-no r e) ∙ sym e
    ]

-- the call's row stands where its function's row did, or the call itself has a call or time
stands-own : (r call new : Row) → new.calls ≡ r.calls + call.calls → new.incl ≡ call.incl → r.incl ≤ new.incl
    → (stands r || stands call) ≡ stands new
stands-own r call new ec ei w =
    elim (cases_Bool (stands r)) [
      | inl s ↦ ap (λ t. t || stands call) s ∙ sym (stands-from new
          (elim (stands-into r s) [ inl l ↦ inl (omega arith) | inr l ↦ inr (omega arith) ]))
      | inr s ↦
          (let none = stands-not r s in
          elim (cases_Bool (stands call)) [
            | inl t ↦ ap (λ u. u || stands call) s ∙ t ∙ sym (stands-from new
                (elim (stands-into call t) [ inl l ↦ inl (omega arith) | inr l ↦ inr (omega arith) ]))
            | inr t ↦ (let empty = stands-not call t in
                ap (λ u. u || stands call) s ∙ t ∙ sym (no-stands new (omega arith) (omega arith)))
          ])
    ]

flat-at : (ss : List TrackStream) (a b g : ℕ) → 0 < g → at nat_cmp func_of g ((flat ss a b).rows)
    ≡ kept (row_of ss a b g)
flat-at ss a b g h = ap (at nat_cmp func_of g) (flat-rows ss a b) ∙ at-any (row_of ss a b) (row-func ss a b)
    (greatest_function ss) g h (row-past ss a b g)

flat-at-zero : (ss : List TrackStream) (a b : ℕ) → at nat_cmp func_of 0 ((flat ss a b).rows) ≡ []
flat-at-zero ss a b = ap (at nat_cmp func_of 0) (flat-rows ss a b) ∙ standing-out (row_of ss a b)
    (row-func ss a b)
    (greatest_function ss) 0 (inl refl)

flat-climbs : (ss : List TrackStream) (a b : ℕ) → Climbs nat_cmp func_of ((flat ss a b).rows)
flat-climbs ss a b = subst (Climbs nat_cmp func_of) (sym (flat-rows ss a b))
    (standing-climbs (row_of ss a b) (row-func ss a b) (greatest_function ss))

own-rows : (s : TrackStream) (f a b : ℕ) → IsComplete s → 0 < f → kept (row_of (call_of f s ∷ []) a b f) ≡
    own_rows
    ((flat (s ∷ []) a b).rows) (call_row f (is_within a b s.start) (flat (s ∷ []) a b))
own-rows s f a b complete h =
    let p : Profile = flat (s ∷ []) a b in
    let call : Row = call_row f (is_within a b s.start) p in
    let r : Row = row_of (s ∷ []) a b f in
    let new : Row = row_of (call_of f s ∷ []) a b f in
    let is = row-own s f a b complete in
    let of_f : rows_for f p.rows ≡ kept r = rows_for-at f p.rows ∙ flat-at (s ∷ []) a b f h in
    let total : row_total f (rows_for f p.rows) ≡ r = ap (row_total f) of_f
    ∙ total-kept r f (row-func (s ∷ []) a b f) (row-within (s ∷ []) a b f) in
    let row : closed_row p.rows call ≡ new = ap (λ (x : Row). record call {
      calls = x.calls + call.calls;
      excl = x.excl + call.excl;
    }) total ∙ sym is in
    let most : r.incl ≤ new.incl = omega (
      arith,
      ap (λ (x : Row). x.incl) is,
      row-incl s a b f,
      profile-time s a b complete,
      time-le (is_open_in f) (λ q. true) (λ q e. refl) a b s,
    ) in
    let test : (list_any (λ x. x.func == f) p.rows || stands call) ≡ stands new =
    ap (λ t. t || stands call) (any-filter (λ x. x.func == f) p.rows ∙ ap has_items of_f ∙ kept-items r)
    ∙ stands-own r call new (ap (λ (x : Row). x.calls) is) (ap (λ (x : Row). x.incl) is) most in
    sym (ap (λ (x : Row). cond (list_any (λ y. y.func == f) p.rows || stands call) (x ∷ []) []) row
    ∙ ap (λ t. cond t (new ∷ []) []) test)

call-at : (s : TrackStream) (f a b : ℕ) → IsComplete s → 0 < f → (g : ℕ)
    → at nat_cmp func_of g ((flat (call_of f s ∷ []) a b).rows) ≡ at nat_cmp func_of g
    (closed_rows ((flat (s ∷ []) a b).rows) (call_row f (is_within a b s.start) (flat (s ∷ []) a b)))
call-at s f a b complete h g =
    let p : Profile = flat (s ∷ []) a b in
    let call : Row = call_row f (is_within a b s.start) p in
    elim (cases_eq g f) [
      | inl e ↦ subst (λ k. at nat_cmp func_of k ((flat (call_of f s ∷ []) a b).rows) ≡ at nat_cmp func_of k
          (closed_rows p.rows call)) (sym e)
          (flat-at (call_of f s ∷ []) a b f h ∙ own-rows s f a b complete h ∙ sym (closed-at-own p.rows call))
      | inr n ↦
          elim (cases_eq g 0) [
            | inl z ↦ ap (λ k. at nat_cmp func_of k ((flat (call_of f s ∷ []) a b).rows)) z
                ∙ flat-at-zero (call_of f s ∷ []) a b ∙ sym (closed-at-other g p.rows call n
                ∙ ap (λ k. at nat_cmp func_of k p.rows) z ∙ flat-at-zero (s ∷ []) a b)
            | inr z ↦ flat-at (call_of f s ∷ []) a b g (omega (arith, z)) ∙ ap kept
                (row-other s f a b g complete n)
                ∙ sym (closed-at-other g p.rows call n ∙ flat-at (s ∷ []) a b g (omega (arith, z)))
          ]
    ]

profile_made : (p : Profile) (rows : List Row) → p.bare ≡ 0 → p.rows ≡ rows
    → (let q : Profile = record { bare = 0; rows = rows } in p ≡ q)
profile_made p rows e g = ap (λ n. let x : Profile = record { bare = n; rows = p.rows } in x) e
    ∙ ap (λ us. let x : Profile = record { bare = 0; rows = us } in x) g

pub flat_call : (s : TrackStream) (f a b : ℕ) → IsComplete s → 1 ≤ f → flat (call_of f s ∷ []) a b ≡ closed f
    (is_within a b s.start) (flat (s ∷ []) a b)
unfolding closed
flat_call s f a b complete h =
    let p : Profile = flat (s ∷ []) a b in
    let call : Row = call_row f (is_within a b s.start) p in
    profile_made (flat (call_of f s ∷ []) a b) (closed_rows p.rows call)
    (flat-bare (call_of f s ∷ []) a b ∙ one_sum (time_with is_bare a b) (call_of f s)
    ∙ time-call is_bare f a b s complete
    ∙ time-none (λ q. is_bare (f ∷ q)) a b s (λ i. is_bare-cons f (stack_after (take i s.events))))
    (one_list nat_cmp nat_cmp_total func_of ((flat (call_of f s ∷ []) a b).rows) (closed_rows p.rows call)
    (flat-climbs (call_of f s ∷ []) a b) (closed-climbs p.rows call (flat-climbs (s ∷ []) a b))
    (call-at s f a b complete (omega arith)))
