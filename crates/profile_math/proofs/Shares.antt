-- All time of a stream is bare, or has one innermost function.
use Rattle.std.proofs.Common.{◌≡◌, ℕ, ◌+◌, ◌-◌, ◌≤◌, ◌==◌, zero, suc, Bool, true, false, cond}
use Rattle.std.proofs.Common.{List, [], ◌∷◌}
use Rattle.std.proofs.Common.{◌++◌, length, take, get_or, map, filter, fold, sum_by, nat_le, refl, ap}
use Rattle.std.proofs.Common.{sym, ◌∙◌}
use Rattle.std.proofs.Common.{arith, add-zero, slice_get, Some, subst}
use Rattle.std.proofs.Common.{add-one}
use Rattle.std.specs.List.{AllByRecursion, range_with_len}
use Rattle.std.specs.Option.{option_map_or}
use Rattle.std.proofs.lemmas.Bool.Decides.{nat_tests}
use Rattle.std.proofs.lemmas.List.Sums.{sum_by-cons}
use Rattle.std.proofs.lemmas.Option.{slice_get-get_or}
use Rattle.list_lemmas.proofs.Each.{all_by_place, all_push, all_take}
use Rattle.list_lemmas.proofs.Sums.{sum_by-filter}
use Rattle.trace_base.specs.Flat.{clip, time_with, is_bare, is_innermost_in}
use Rattle.trace_base.specs.Stream.{piece, pieces, stack_step, stack_after}
use Rattle.profile_math.specs.Laws.{IsComplete}
use Rattle.trace_base.specs.declared.stream.Event.{Event}
use Rattle.trace_base.specs.declared.stream.Event.TheVariants.{Enter, Leave}
use Rattle.trace_base.specs.declared.stream.TrackStream.{TrackStream}
use Rattle.profile_math.proofs.Times.{AllFunctions, stacks-all}

-- a property that is one of two others, which exclude each other, wherever the stream's call stack is
pub time-split : (has h1 h2 : List ℕ → Bool) (a b : ℕ) (s : TrackStream)
    → ((i : ℕ) (c : ℕ) → cond (has (stack_after (take i s.events))) c 0 ≡ cond
    (h1 (stack_after (take i s.events))) c 0
    + cond (h2 (stack_after (take i s.events))) c 0)
    → time_with has a b s ≡ time_with h1 a b s + time_with h2 a b s
unfolding time_with pieces
time-split has h1 h2 a b s h =
    sum_by-filter (clip a b) (λ p. has p.stack) (map (piece s) (range_with_len 0 (length s.events + 1)))
    ∙ go (range_with_len 0 (length s.events + 1))
    ∙ sym (ap (λ n. n + sum_by (clip a b) (filter (λ p. h2 p.stack) (map (piece s)
    (range_with_len 0 (length s.events + 1)))))
    (sum_by-filter (clip a b) (λ p. h1 p.stack) (map (piece s) (range_with_len 0 (length s.events + 1))))
    ∙ ap (λ n. sum_by (λ p. cond (h1 p.stack) (clip a b p) 0)
    (map (piece s) (range_with_len 0 (length s.events + 1)))
    + n) (sum_by-filter (clip a b) (λ p. h2 p.stack)
    (map (piece s) (range_with_len 0 (length s.events + 1)))))
  where
    go : (is : List ℕ) → sum_by (λ p. cond (has p.stack) (clip a b p) 0) (map (piece s) is)
        ≡ sum_by (λ p. cond (h1 p.stack) (clip a b p) 0) (map (piece s) is)
        + sum_by (λ p. cond (h2 p.stack) (clip a b p) 0) (map (piece s) is)
    go [] = refl
    go (i ∷ is) = omega (
      arith,
      go is,
      h i (clip a b (piece s i)),
      sum_by-cons (λ p. cond (has p.stack) (clip a b p) 0) (piece s i) (map (piece s) is),
      sum_by-cons (λ p. cond (h1 p.stack) (clip a b p) 0) (piece s i) (map (piece s) is),
      sum_by-cons (λ p. cond (h2 p.stack) (clip a b p) 0) (piece s i) (map (piece s) is),
    )

-- two properties that the stream's call stacks have alike
pub time-same : (has more : List ℕ → Bool) (a b : ℕ) (s : TrackStream)
    → ((i : ℕ) → has (stack_after (take i s.events)) ≡ more (stack_after (take i s.events)))
    → time_with has a b s ≡ time_with more a b s
unfolding time_with pieces
time-same has more a b s h =
    sum_by-filter (clip a b) (λ p. has p.stack) (map (piece s) (range_with_len 0 (length s.events + 1)))
    ∙ go (range_with_len 0 (length s.events + 1))
    ∙ sym (sum_by-filter (clip a b) (λ p. more p.stack)
    (map (piece s) (range_with_len 0 (length s.events + 1))))
  where
    go : (is : List ℕ) → sum_by (λ p. cond (has p.stack) (clip a b p) 0) (map (piece s) is)
        ≡ sum_by (λ p. cond (more p.stack) (clip a b p) 0) (map (piece s) is)
    go [] = refl
    go (i ∷ is) = omega (
      arith,
      go is,
      ap (λ (t : Bool). cond t (clip a b (piece s i)) 0) (h i),
      sum_by-cons (λ p. cond (has p.stack) (clip a b p) 0) (piece s i) (map (piece s) is),
      sum_by-cons (λ p. cond (more p.stack) (clip a b p) 0) (piece s i) (map (piece s) is),
    )

-- the innermost function, 0 where no call is open
pub last_of : List ℕ → ℕ
last_of q = get_or q (length q - 1) 0

pub last-nil : last_of [] ≡ 0
unfolding last_of
last-nil = refl

pub innermost-is : (k x : ℕ) (xs : List ℕ) → is_innermost_in k (x ∷ xs) ≡ (last_of (x ∷ xs) == k)
unfolding last_of
innermost-is k x xs = ap (λ o. option_map_or (λ g. g == k) o false)
    (slice_get-get_or (x ∷ xs) (length (x ∷ xs) - 1) 0 (omega arith))

pub last-under : (f x : ℕ) (xs : List ℕ) → last_of (f ∷ x ∷ xs) ≡ last_of (x ∷ xs)
unfolding last_of
last-under f x xs =
    let more : length (f ∷ x ∷ xs) - 1 ≡ suc (length (x ∷ xs) - 1) = omega arith in
    ap (λ n. get_or (f ∷ x ∷ xs) n 0) more

all-last : (P : ℕ → Type 0) (x : ℕ) (xs : List ℕ) → AllByRecursion P (x ∷ xs) → P (last_of (x ∷ xs))
unfolding last_of
all-last P x [] h = h.0
all-last P x (y ∷ ys) h = subst P (sym (last-under x y ys)) (all-last P y ys h.1)

abbrev last_upto : ℕ → List ℕ → Bool
last_upto n q = nat_le (last_of q) n

-- one function more
upto-more : (n : ℕ) (q : List ℕ) (c : ℕ) → cond (last_upto (n + 1) q) c 0 ≡ cond (last_upto n q) c 0
    + cond (is_innermost_in (n + 1) q) c 0
upto-more n [] c = rw last-nil (grind (arith, nat_tests))
upto-more n (x ∷ xs) c = step (last_of (x ∷ xs)) n c ∙ ap {B = ℕ}
    (λ (t : Bool). cond (last_upto n (x ∷ xs)) c 0 + cond t c 0) (sym (innermost-is (n + 1) x xs))
  where
    step : (l n c : ℕ) → cond (nat_le l (n + 1)) c 0 ≡ cond (nat_le l n) c 0 + cond (l == n + 1) c 0
    step l n c = grind (arith, nat_tests)

-- the time of the first n functions' own
pub own_time : ℕ → ℕ → TrackStream → ℕ → ℕ
own_time a b s zero = 0
own_time a b s (suc n) = own_time a b s n + time_with (is_innermost_in (n + 1)) a b s

pub own_time-zero : (a b : ℕ) (s : TrackStream) → own_time a b s 0 ≡ 0
unfolding own_time
own_time-zero a b s = refl

pub own_time-suc : (a b : ℕ) (s : TrackStream) (n : ℕ) → own_time a b s (suc n) ≡ own_time a b s n
    + time_with (is_innermost_in (n + 1)) a b s
unfolding own_time
own_time-suc a b s n = refl

upto-time : (a b : ℕ) (s : TrackStream) (n : ℕ) → time_with (last_upto n) a b s ≡ time_with (last_upto 0) a b
    s
    + own_time a b s n
unfolding own_time
upto-time a b s zero = sym (add-zero (time_with (last_upto 0) a b s))
upto-time a b s (suc n) =
    let step = time-split (last_upto (n + 1)) (last_upto n) (is_innermost_in (n + 1)) a b s
    (λ i c. upto-more n (stack_after (take i s.events)) c) in
    subst (λ m. time_with (last_upto m) a b s ≡ time_with (last_upto 0) a b s + (own_time a b s n
    + time_with (is_innermost_in (n + 1)) a b s)) (add-one n) (omega (arith, step, upto-time a b s n))

abbrev positive : Event → Type 0
positive (Enter f t) = 1 ≤ f
positive (Leave t) = Unit {0}

complete-positive : (s : TrackStream) → IsComplete s → AllByRecursion positive s.events
complete-positive s complete = all_by_place positive s.events one
  where
    one : (i : ℕ) (e : Event) → slice_get s.events i ≡ Some e → positive e
    one i (Enter f t) e = complete.functions i f t e
    one i (Leave t) e = tt

stack-positive : (es : List Event) (q : List ℕ) → AllByRecursion (λ f. 1 ≤ f) q → AllByRecursion positive es
    → AllByRecursion (λ f. 1 ≤ f) (fold stack_step q es)
stack-positive [] q h g = h
stack-positive (Enter f t ∷ es) q h g = stack-positive es (q ++ f ∷ []) (all_push (λ k. 1 ≤ k) q f h g.0) g.1
stack-positive (Leave t ∷ es) q h g = stack-positive es (take (length q - 1) q)
    (all_take (λ k. 1 ≤ k) (length q - 1) q h) g.1

stacks-positive : (s : TrackStream) → IsComplete s → (i : ℕ)
    → AllByRecursion (λ f. 1 ≤ f) (stack_after (take i s.events))
unfolding stack_after
stacks-positive s complete i = stack-positive (take i s.events) [] tt (all_take positive i s.events
    (complete-positive s complete))

bare-last : (q : List ℕ) → AllByRecursion (λ f. 1 ≤ f) q → last_upto 0 q ≡ is_bare q
bare-last [] h = rw last-nil refl
bare-last (x ∷ xs) h = let low : 1 ≤ last_of (x ∷ xs) = all-last (λ f. 1 ≤ f) x xs h
    in grind (arith, nat_tests)

all-upto : (n : ℕ) (q : List ℕ) → AllByRecursion (λ f. f ≤ n) q → last_upto n q ≡ true
all-upto n [] h = rw last-nil (grind (arith, nat_tests))
all-upto n (x ∷ xs) h = let low : last_of (x ∷ xs) ≤ n = all-last (λ f. f ≤ n) x xs h
    in grind (arith, nat_tests)

-- all time is bare or some function's own
pub all-time : (a b : ℕ) (s : TrackStream) (n : ℕ) → IsComplete s → AllFunctions n s
    → time_with (λ q. true) a b s ≡ time_with is_bare a b s + own_time a b s n
all-time a b s n complete few =
    time-same (λ q. true) (last_upto n) a b s (λ i. sym (all-upto n (stack_after (take i s.events))
    (stacks-all n i s few)))
    ∙ upto-time a b s n
    ∙ ap (λ m. m + own_time a b s n) (time-same (last_upto 0) is_bare a b s
    (λ i. bare-last (stack_after (take i s.events)) (stacks-positive s complete i)))
