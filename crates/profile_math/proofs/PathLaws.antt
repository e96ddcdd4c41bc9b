-- The call-tree profile of several streams, and of two intervals one after the other.
use Rattle.std.proofs.Common.{◌≡◌, ◌≢◌, ℕ, ◌+◌, ◌-◌, ◌<◌, ◌≤◌, Bool, true, false, cond, ◌&&◌, ◌||◌, List, []}
use Rattle.std.proofs.Common.{◌∷◌, ◌++◌, length, take, map, filter, sum_by, nat_lt, Option, None}
use Rattle.std.proofs.Common.{Some, refl}
use Rattle.std.proofs.Common.{ap, sym, subst, ◌∙◌, ◌⊎◌, inl, inr, arith, slice_get, zero-add}
use Rattle.std.specs.Cmp.Lexicographic.{texts_ties}
use Rattle.std.specs.List.{Contains, range_with_len}
use Rattle.std.specs.Option.{option_map_or}
use Rattle.std.specs.Ordering.{is_eq}
use Rattle.std.proofs.lemmas.Bool.{cases_lt, ltb-false, lt-ltb, ltb-true}
use Rattle.std.proofs.lemmas.Cmp.{nat_list_cmp_total, tied_itself}
use Rattle.std.proofs.lemmas.List.{length-take, take-take, take_all}
use Rattle.std.proofs.lemmas.List.Sums.{sum_by-append}
use Rattle.std.proofs.lemmas.Bool.{or_cases, or_left, or_parts, or_right}
use Rattle.std.proofs.lemmas.List.Sums.{sum_by-le-sum_by}
use Rattle.std.proofs.lemmas.Simd.{map-map}
use Rattle.std.specs.Cmp.{second_so}
use Rattle.list_lemmas.proofs.Booleans.{count_and-le, count_and-plus, true_from_pos}
use Rattle.list_lemmas.proofs.Numbers.{either_pos-plus, within-plus}
use Rattle.list_lemmas.proofs.Sums.{sum_by-plus, sum_by-some}
use Rattle.trace_base.proofs.CallPaths.{call_paths-rising}
use Rattle.trace_base.specs.Flat.{is_bare, is_within, time_with}
use Rattle.trace_base.specs.Paths.{call_paths, calls_making, is_path, is_under, makes, path_row, path_stands}
use Rattle.trace_base.specs.Paths.{paths, IsPathOf}
use Rattle.trace_base.specs.Stream.{is_enter, stack_after, time_of}
use Rattle.trace_base.specs.declared.profile.PathProfile.{PathProfile}
use Rattle.trace_base.specs.declared.stream.Event.{Event}
use Rattle.trace_base.specs.declared.stream.TrackStream.{TrackStream}
use Rattle.profile_math.specs.PathSum.{PathNumbers, by_path, numbers_of, row_of_path, sum_of_paths}
use Rattle.profile_math.specs.PathSum.{IsDepthFirst}
use Rattle.profile_math.proofs.CallTimes.{part, time-parts}
use Rattle.profile_math.proofs.Keyed.{climbs-sorted}
use Rattle.profile_math.proofs.PathMerging.{lex, numbers_plus}
use Rattle.profile_math.proofs.Times.{time-le, time-plus}
use Rattle.profile_math.proofs.Told.{Tells, no_numbers, parent, same_path, told, told-depth-first}
use Rattle.profile_math.proofs.Told.{told-numbers, told-sum}

-- ---- what makes a sum positive

-- where time has a property, a call stack does
pub time-some : (has : List ℕ → Bool) (a b : ℕ) (s : TrackStream) → 0 < time_with has a b s
    → (i : ℕ) × (has (stack_after (take i s.events)) ≡ true)
unfolding part
time-some has a b s h =
    let place = sum_by-some (part has a b s) (range_with_len 0 (length s.events + 1))
    (subst (λ n. 0 < n) (time-parts has a b s) h) in
    (place.0, true_from_pos (has (stack_after (take place.0 s.events))) _ place.2)

-- where a call makes a stack with a property, a call stack has it
pub calls-some : (has : List ℕ → Bool) (a b : ℕ) (s : TrackStream) → 0 < calls_making has a b s
    → (i : ℕ) × (has (stack_after (take i s.events)) ≡ true)
unfolding calls_making
calls-some has a b s h =
    let place = sum_by-some (λ i. cond (makes has a b s i) 1 0) (range_with_len 0 (length s.events)) h in (
      place.0 + 1,
      second_so _ (has (stack_after (take (place.0 + 1) s.events)))
          (true_from_pos (makes has a b s place.0) 1 place.2),
    )

-- ---- calls that make a stack with a property

-- the calls of a property are at most those of one that it implies
pub making-le : (has more : List ℕ → Bool) → ((q : List ℕ) → has q ≡ true → more q ≡ true)
    → (a b : ℕ) (s : TrackStream) → calls_making has a b s ≤ calls_making more a b s
unfolding calls_making
making-le has more h a b s = sum_by-le-sum_by (λ i. cond (makes has a b s i) 1 0) (λ i. cond (makes more a b s
    i) 1 0) (range_with_len 0 (length s.events)) (λ i. count_and-le
    (option_map_or (λ e. is_enter e && is_within a b (time_of e)) (slice_get s.events i) false)
    (has (stack_after (take (i + 1) s.events))) (more (stack_after (take (i + 1) s.events)))
    (h (stack_after (take (i + 1) s.events))))

-- an interval in two parts
pub making-plus : (has : List ℕ → Bool) (a b c : ℕ) → a ≤ b → b ≤ c → (s : TrackStream)
    → calls_making has a c s ≡ calls_making has a b s + calls_making has b c s
unfolding calls_making
making-plus has a b c h g s = sum_by-plus (λ i. cond (makes has a c s i) 1 0)
    (λ i. cond (makes has a b s i) 1 0)
    (λ i. cond (makes has b c s i) 1 0)
    (λ i. each (slice_get s.events i) (has (stack_after (take (i + 1) s.events))))
    (range_with_len 0 (length s.events))
  where
    each : (o : Option Event) (t : Bool)
        → cond (option_map_or (λ e. is_enter e && is_within a c (time_of e)) o false && t) 1 0
        ≡ cond (option_map_or (λ e. is_enter e && is_within a b (time_of e)) o false && t) 1 0
        + cond (option_map_or (λ e. is_enter e && is_within b c (time_of e)) o false && t) 1 0
    each None t = refl
    each (Some e) t = count_and-plus (is_enter e) (is_within a c (time_of e)) (is_within a b (time_of e))
        (is_within b c (time_of e)) t (within-plus a b c (time_of e) h g)

-- ---- paths that a call stack begins with

pub same_is : (p q : List ℕ) → p ≡ q → is_eq (lex p q) ≡ true
same_is p q e = ap (λ (r : List ℕ). is_eq (lex p r)) (sym e) ∙ ap is_eq (tied_itself nat_list_cmp_total p)

pub under-take : (k q : List ℕ) → is_under k q ≡ true → k ≡ take (length k) q
under-take k q e = same_path k (take (length k) q) (sym (texts_ties k (take (length k) q)) ∙ e)

pub take-under : (k q : List ℕ) → k ≡ take (length k) q → is_under k q ≡ true
take-under k q e = texts_ties k (take (length k) q) ∙ same_is k (take (length k) q) e

pub path-same : (k q : List ℕ) → is_path k q ≡ true → q ≡ k
path-same k q e = same_path q k (sym (texts_ties q k) ∙ e)

pub same-path : (k q : List ℕ) → q ≡ k → is_path k q ≡ true
same-path k q e = texts_ties q k ∙ same_is q k e

pub path-under : (k q : List ℕ) → is_path k q ≡ true → is_under k q ≡ true
path-under k q e = take-under k q (sym (ap (take (length k)) (path-same k q e) ∙ take_all (length k) k
    (omega arith)))

pub under-parent : (k q : List ℕ) → is_under k q ≡ true → is_under (parent k) q ≡ true
under-parent k q e =
    let short : length (parent k) ≡ length k - 1 = omega (arith, length-take (length k - 1) k) in
    take-under (parent k) q (ap (take (length k - 1)) (under-take k q e)
    ∙ take-take (length k - 1) (length k) q (omega arith)
    ∙ ap (λ n. take n q) (sym short))

-- some number of the events, as one that is at most their number
bounded : (i : ℕ) (es : List Event) → (j : ℕ) × (j ≤ length es) × (take i es ≡ take j es)
bounded i es = elim (cases_lt (length es) i) [
  | inl l ↦ (
    length es,
    omega arith,
    take_all i es (omega (arith, l)) ∙ sym (take_all (length es) es (omega arith)),
  )
  | inr l ↦ (i, l, refl)
]

pub path-of : (ss : List TrackStream) (s : TrackStream) (k : List ℕ) (i : ℕ) → Contains ss s → k ≢ []
    → is_under k (stack_after (take i s.events)) ≡ true → IsPathOf ss k
path-of ss s k i c n e =
    let near = bounded i s.events in
    record {
      some = n;
      stream = s;
      has = c;
      events = near.0;
      within = near.1;
      calls = length k;
      begins = under-take k (stack_after (take i s.events)) e
          ∙ ap (λ (es : List Event). take (length k) (stack_after es)) near.2;
    }

-- ---- what each path has

-- what the path took in the interval, over all the streams
pub path_numbers : List TrackStream → ℕ → ℕ → List ℕ → PathNumbers
path_numbers ss a b k = record {
  path = k;
  calls = sum_by (calls_making (is_path k) a b) ss;
  incl = sum_by (time_with (is_under k) a b) ss;
  excl = sum_by (time_with (is_path k) a b) ss;
}

pub paths-rows : (ss : List TrackStream) (a b : ℕ) → (paths ss a b).rows
    ≡ map row_of_path (told (path_numbers ss a b) (path_stands ss a b) (call_paths ss))
unfolding paths told path_row path_numbers
paths-rows ss a b = sym (map-map row_of_path (path_numbers ss a b)
    (filter (path_stands ss a b) (call_paths ss)))

pub paths-bare : (ss : List TrackStream) (a b : ℕ) → (paths ss a b).bare ≡ sum_by (time_with is_bare a b) ss
unfolding paths
paths-bare ss a b = refl

pub stands-cases : (ss : List TrackStream) (a b : ℕ) (k : List ℕ) → path_stands ss a b k ≡ true
    → (0 < sum_by (calls_making (is_under k) a b) ss) ⊎ (0 < sum_by (time_with (is_under k) a b) ss)
unfolding path_stands
stands-cases ss a b k e =
    elim (or_cases (nat_lt 0 (sum_by (calls_making (is_under k) a b) ss))
    (nat_lt 0 (sum_by (time_with (is_under k) a b) ss)) e) [
      | inl l ↦ inl (ltb-true 0 (sum_by (calls_making (is_under k) a b) ss) l)
      | inr l ↦ inr (ltb-true 0 (sum_by (time_with (is_under k) a b) ss) l)
    ]

pub stands-by : (ss : List TrackStream) (a b : ℕ) (k : List ℕ)
    → (0 < sum_by (calls_making (is_under k) a b) ss) ⊎ (0 < sum_by (time_with (is_under k) a b) ss)
    → path_stands ss a b k ≡ true
unfolding path_stands
stands-by ss a b k h =
    let calls : ℕ = sum_by (calls_making (is_under k) a b) ss in
    let time : ℕ = sum_by (time_with (is_under k) a b) ss in
    elim h [
      | inl l ↦ or_left (nat_lt 0 calls) (nat_lt 0 time) (lt-ltb 0 calls l)
      | inr l ↦ or_right (nat_lt 0 calls) (nat_lt 0 time) (lt-ltb 0 time l)
    ]

pub stands-none : (ss : List TrackStream) (a b : ℕ) (k : List ℕ) → path_stands ss a b k ≡ false
    → (sum_by (calls_making (is_under k) a b) ss ≡ 0) × (sum_by (time_with (is_under k) a b) ss ≡ 0)
unfolding path_stands
stands-none ss a b k e =
    let calls : ℕ = sum_by (calls_making (is_under k) a b) ss in
    let time : ℕ = sum_by (time_with (is_under k) a b) ss in
    let none = or_parts (nat_lt 0 calls) (nat_lt 0 time) e in
    (omega (arith, ltb-false 0 calls none.0), omega (arith, ltb-false 0 time none.1))

-- a path stands where one that it implies does
stands-le : (ss : List TrackStream) (a b : ℕ) (k j : List ℕ)
    → ((q : List ℕ) → is_under k q ≡ true → is_under j q ≡ true) → path_stands ss a b k ≡ true
    → path_stands ss a b j ≡ true
stands-le ss a b k j h e = stands-by ss a b j (elim (stands-cases ss a b k e) [
  | inl l ↦ inl (omega (
    arith,
    l,
    sum_by-le-sum_by (calls_making (is_under k) a b) (calls_making (is_under j) a b) ss (making-le (is_under
        k) (is_under j) h a b),
  ))
  | inr l ↦ inr (omega (
    arith,
    l,
    sum_by-le-sum_by (time_with (is_under k) a b) (time_with (is_under j) a b) ss (time-le (is_under k)
        (is_under j) h a b),
  ))
])

stands-path : (ss : List TrackStream) (a b : ℕ) (k : List ℕ) → k ≢ [] → path_stands ss a b k ≡ true
    → IsPathOf ss k
stands-path ss a b k n e =
    elim (stands-cases ss a b k e) [
      | inl l ↦
          (let s = sum_by-some (calls_making (is_under k) a b) ss l in
          let i = calls-some (is_under k) a b s.0 s.2 in path-of ss s.0 k i.0 s.1 n i.1)
      | inr l ↦
          (let s = sum_by-some (time_with (is_under k) a b) ss l in
          let i = time-some (is_under k) a b s.0 s.2 in path-of ss s.0 k i.0 s.1 n i.1)
    ]

none_made : (k : List ℕ) (c i x : ℕ) → c ≡ 0 → i ≡ 0 → x ≡ 0
    → (let n : PathNumbers = record { path = k; calls = c; incl = i; excl = x } in n ≡ no_numbers k)
none_made k c i x ec ei ex = rw (ec, ei, ex) refl

path-none : (ss : List TrackStream) (a b : ℕ) (k : List ℕ) → path_stands ss a b k ≡ false
    → path_numbers ss a b k ≡ no_numbers k
unfolding path_numbers
path-none ss a b k e =
    let none = stands-none ss a b k e in
    none_made k (sum_by (calls_making (is_path k) a b) ss) (sum_by (time_with (is_under k) a b) ss)
    (sum_by (time_with (is_path k) a b) ss)
    (omega (
      arith,
      none.0,
      sum_by-le-sum_by (calls_making (is_path k) a b) (calls_making (is_under k) a b) ss (making-le (is_path
          k) (is_under k) (path-under k) a b),
    ))
    none.1
    (omega (
      arith,
      none.1,
      sum_by-le-sum_by (time_with (is_path k) a b) (time_with (is_under k) a b) ss (time-le (is_path k)
          (is_under k) (path-under k) a b),
    ))

path-own : (ss : List TrackStream) (a b : ℕ) (k : List ℕ) → (path_numbers ss a b k).path ≡ k
unfolding path_numbers
path-own ss a b k = refl

-- what the path has in one stream
pub path-one : (s : TrackStream) (a b : ℕ) (k : List ℕ) → path_numbers (s ∷ []) a b k ≡ record {
  path = k;
  calls = calls_making (is_path k) a b s;
  incl = time_with (is_under k) a b s;
  excl = time_with (is_path k) a b s;
}
unfolding path_numbers
path-one s a b k = rw (
  zero-add (calls_making (is_path k) a b s),
  zero-add (time_with (is_under k) a b s),
  zero-add (time_with (is_path k) a b s),
) refl

pub one-excl : (s : TrackStream) (a b : ℕ) (k : List ℕ) → (path_numbers (s ∷ []) a b k).excl
    ≡ time_with (is_path k) a b s
one-excl s a b k = ap (λ n. n.excl) (path-one s a b k)

pub stands-one : (s : TrackStream) (a b : ℕ) (k : List ℕ) → path_stands (s ∷ []) a b k
    ≡ (nat_lt 0 (calls_making (is_under k) a b s) || nat_lt 0 (time_with (is_under k) a b s))
unfolding path_stands
stands-one s a b k = rw (
  zero-add (calls_making (is_under k) a b s),
  zero-add (time_with (is_under k) a b s),
) refl

-- the numbers are told by the paths
pub paths-told : (ss : List TrackStream) (a b : ℕ)
    → Tells (path_numbers ss a b) (path_stands ss a b) (call_paths ss)
paths-told ss a b =
    let rising = call_paths-rising ss in
    record {
      own = path-own ss a b;
      rising = climbs-sorted lex (call_paths ss) rising.rises;
      some = λ k c. ((rising.exact k).0 c).some;
      known = λ k n e. (rising.exact k).1 (stands-path ss a b k n e);
      none = path-none ss a b;
      front = λ k e. stands-le ss a b k (parent k) (under-parent k) e;
    }

pub paths-numbers : (ss : List TrackStream) (a b : ℕ) → numbers_of ((paths ss a b).rows)
    ≡ told (path_numbers ss a b) (path_stands ss a b) (call_paths ss)
paths-numbers ss a b = ap numbers_of (paths-rows ss a b)
    ∙ told-numbers (path_numbers ss a b) (path_stands ss a b) (call_paths ss) (paths-told ss a b)

pub paths-depth-first : (ss : List TrackStream) (a b : ℕ) → IsDepthFirst (paths ss a b).rows
paths-depth-first ss a b = subst IsDepthFirst (sym (paths-rows ss a b))
    (told-depth-first (path_numbers ss a b) (path_stands ss a b) (call_paths ss) (paths-told ss a b))

-- ---- sums

pub numbers_same : (k : List ℕ) (c1 c2 i1 i2 e1 e2 : ℕ) → c1 ≡ c2 → i1 ≡ i2 → e1 ≡ e2
    → (let m : PathNumbers = record { path = k; calls = c1; incl = i1; excl = e1 } in
    let n : PathNumbers = record { path = k; calls = c2; incl = i2; excl = e2 } in m ≡ n)
numbers_same k c1 c2 i1 i2 e1 e2 ec ei ee = rw (ec, ei, ee) refl

numbers-streams : (ss ts : List TrackStream) (a b : ℕ) (k : List ℕ)
    → path_numbers (ss ++ ts) a b k ≡ numbers_plus (path_numbers ss a b k) (path_numbers ts a b k)
unfolding path_numbers
numbers-streams ss ts a b k = numbers_same k (sum_by (calls_making (is_path k) a b) (ss ++ ts))
    (sum_by (calls_making (is_path k) a b) ss + sum_by (calls_making (is_path k) a b) ts)
    (sum_by (time_with (is_under k) a b) (ss ++ ts))
    (sum_by (time_with (is_under k) a b) ss + sum_by (time_with (is_under k) a b) ts)
    (sum_by (time_with (is_path k) a b) (ss ++ ts))
    (sum_by (time_with (is_path k) a b) ss + sum_by (time_with (is_path k) a b) ts)
    (sum_by-append (calls_making (is_path k) a b) ss ts)
    (sum_by-append (time_with (is_under k) a b) ss ts)
    (sum_by-append (time_with (is_path k) a b) ss ts)

numbers-times : (ss : List TrackStream) (a b c : ℕ) (k : List ℕ) → a ≤ b → b ≤ c
    → path_numbers ss a c k ≡ numbers_plus (path_numbers ss a b k) (path_numbers ss b c k)
unfolding path_numbers
numbers-times ss a b c k h g = numbers_same k (sum_by (calls_making (is_path k) a c) ss)
    (sum_by (calls_making (is_path k) a b) ss + sum_by (calls_making (is_path k) b c) ss)
    (sum_by (time_with (is_under k) a c) ss)
    (sum_by (time_with (is_under k) a b) ss + sum_by (time_with (is_under k) b c) ss)
    (sum_by (time_with (is_path k) a c) ss)
    (sum_by (time_with (is_path k) a b) ss + sum_by (time_with (is_path k) b c) ss)
    (sum_by-plus (calls_making (is_path k) a c) (calls_making (is_path k) a b) (calls_making (is_path k) b c)
    (making-plus (is_path k) a b c h g) ss)
    (sum_by-plus (time_with (is_under k) a c) (time_with (is_under k) a b) (time_with (is_under k) b c)
    (time-plus (is_under k) a b c h g) ss)
    (sum_by-plus (time_with (is_path k) a c) (time_with (is_path k) a b) (time_with (is_path k) b c)
    (time-plus (is_path k) a b c h g) ss)

stands-streams : (ss ts : List TrackStream) (a b : ℕ) (k : List ℕ)
    → path_stands (ss ++ ts) a b k ≡ (path_stands ss a b k || path_stands ts a b k)
unfolding path_stands
stands-streams ss ts a b k = either_pos-plus (sum_by (calls_making (is_under k) a b) (ss ++ ts))
    (sum_by (calls_making (is_under k) a b) ss) (sum_by (calls_making (is_under k) a b) ts)
    (sum_by (time_with (is_under k) a b) (ss ++ ts)) (sum_by (time_with (is_under k) a b) ss)
    (sum_by (time_with (is_under k) a b) ts)
    (sum_by-append (calls_making (is_under k) a b) ss ts)
    (sum_by-append (time_with (is_under k) a b) ss ts)

stands-times : (ss : List TrackStream) (a b c : ℕ) (k : List ℕ) → a ≤ b → b ≤ c
    → path_stands ss a c k ≡ (path_stands ss a b k || path_stands ss b c k)
unfolding path_stands
stands-times ss a b c k h g = either_pos-plus (sum_by (calls_making (is_under k) a c) ss)
    (sum_by (calls_making (is_under k) a b) ss) (sum_by (calls_making (is_under k) b c) ss)
    (sum_by (time_with (is_under k) a c) ss) (sum_by (time_with (is_under k) a b) ss)
    (sum_by (time_with (is_under k) b c) ss)
    (sum_by-plus (calls_making (is_under k) a c) (calls_making (is_under k) a b)
    (calls_making (is_under k) b c) (making-plus (is_under k) a b c h g) ss)
    (sum_by-plus (time_with (is_under k) a c) (time_with (is_under k) a b) (time_with (is_under k) b c)
    (time-plus (is_under k) a b c h g) ss)

path_profile_same : (p q s : PathProfile) → p.bare ≡ q.bare + s.bare
    → p.rows ≡ map row_of_path (by_path (numbers_of q.rows ++ numbers_of s.rows)) → p ≡ sum_of_paths q s
unfolding sum_of_paths
path_profile_same p q s e g = ap (λ n. let x : PathProfile = record { bare = n; rows = p.rows } in x) e
    ∙ ap (λ us. let x : PathProfile = record { bare = q.bare + s.bare; rows = us } in x) g

-- where each path's numbers and bare time are the sum of two others', so is the profile
paths-sum : (ss s1 s2 : List TrackStream) (a b a1 b1 a2 b2 : ℕ)
    → sum_by (time_with is_bare a b) ss ≡ sum_by (time_with is_bare a1 b1) s1
    + sum_by (time_with is_bare a2 b2) s2
    → ((k : List ℕ) → path_numbers ss a b k ≡ numbers_plus (path_numbers s1 a1 b1 k)
    (path_numbers s2 a2 b2 k))
    → ((k : List ℕ) → path_stands ss a b k ≡ (path_stands s1 a1 b1 k || path_stands s2 a2 b2 k))
    → paths ss a b ≡ sum_of_paths (paths s1 a1 b1) (paths s2 a2 b2)
paths-sum ss s1 s2 a b a1 b1 a2 b2 bare adds either =
    let p : PathProfile = paths ss a b in
    let q : PathProfile = paths s1 a1 b1 in
    let s : PathProfile = paths s2 a2 b2 in
    path_profile_same p q s
    (paths-bare ss a b ∙ bare ∙ sym (ap (λ n. n + s.bare) (paths-bare s1 a1 b1)
    ∙ ap (λ n. sum_by (time_with is_bare a1 b1) s1 + n) (paths-bare s2 a2 b2)))
    (paths-rows ss a b ∙ ap (map row_of_path)
    (told-sum (path_numbers ss a b) (path_numbers s1 a1 b1) (path_numbers s2 a2 b2)
    (path_stands ss a b) (path_stands s1 a1 b1) (path_stands s2 a2 b2)
    (call_paths ss) (call_paths s1) (call_paths s2)
    (paths-told ss a b) (paths-told s1 a1 b1) (paths-told s2 a2 b2) adds either
    ∙ sym (ap (λ (us : List PathNumbers). by_path (us ++ numbers_of s.rows)) (paths-numbers s1 a1 b1)
    ∙ ap (λ (us : List PathNumbers). by_path (told (path_numbers s1 a1 b1) (path_stands s1 a1 b1)
    (call_paths s1) ++ us)) (paths-numbers s2 a2 b2))))

-- the profile of several streams is the sum of each one's
pub paths-streams : (ss ts : List TrackStream) (a b : ℕ)
    → paths (ss ++ ts) a b ≡ sum_of_paths (paths ss a b) (paths ts a b)
paths-streams ss ts a b = paths-sum (ss ++ ts) ss ts a b a b a b (sum_by-append (time_with is_bare a b) ss ts)
    (numbers-streams ss ts a b) (stands-streams ss ts a b)

-- the profile of two intervals one after the other is the sum of theirs
pub paths-times : (ss : List TrackStream) (a b c : ℕ) → a ≤ b → b ≤ c
    → paths ss a c ≡ sum_of_paths (paths ss a b) (paths ss b c)
paths-times ss a b c h g = paths-sum ss ss ss a c a b b c
    (sum_by-plus (time_with is_bare a c) (time_with is_bare a b) (time_with is_bare b c)
    (time-plus is_bare a b c h g) ss)
    (λ k. numbers-times ss a b c k h g) (λ k. stands-times ss a b c k h g)

pub ruleset laws = (paths-streams, paths-times)
