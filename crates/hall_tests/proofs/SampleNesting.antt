-- What the tests need of calls that lie in one another: their keys, stakes and whole flat profile.
use Rattle.std.proofs.Common.{◌≡◌, ℕ, ◌+◌, ◌-◌, ◌≤◌, ◌<◌, zero, suc, max, List, [], ◌∷◌, ◌++◌, length, take}
use Rattle.std.proofs.Common.{map, filter, fold, Bool, true, ◌&&◌, cond, eqb, refl, ap, sym, subst, ◌∙◌, arith}
use Rattle.std.proofs.Common.{append-nil, inl, inr, suc-ne-zero}
use Rattle.std.specs.Prelude.{count_by, slice_index, sum_by}
use Rattle.std.specs.List.{AllByRecursion, range_with_len}
use Rattle.std.proofs.lemmas.Bool.{cases_eq, cond-false, eq-eqb, ne_eqb}
use Rattle.std.proofs.lemmas.List.Sums.{fold-append, sum_by-cons}
use Rattle.list_lemmas.proofs.Booleans.{one_if}
use Rattle.list_lemmas.proofs.Each.{all_append, all_filter, all_map, any_made}
use Rattle.list_lemmas.proofs.Filters.{count-kept, count_by-cons}
use Rattle.list_lemmas.proofs.Ranges.{map_of_range-more}
use Rattle.list_lemmas.proofs.Sums.{sum_by-none}
use Rattle.trace_base.specs.Flat.{calls_in, clip, enters_in, flat, function_of, greatest_function, is_bare}
use Rattle.trace_base.specs.Flat.{is_innermost_in, is_open_in, row_of, stands, time_with}
use Rattle.trace_base.specs.Stream.{Piece, moments, piece, pieces, time_of}
use Rattle.trace_base.specs.declared.profile.Row.{Row}
use Rattle.trace_base.specs.declared.stream.Event.{Event}
use Rattle.trace_base.specs.declared.stream.Event.TheVariants.{Enter, Leave}
use Rattle.trace_base.specs.declared.stream.TrackStream.{TrackStream}
use Rattle.hall_history.specs.Seat.{ExchangesStakes, Seat}
use Rattle.node_key.specs.Events.{enclosed, events, events_below, stream_from}
use Rattle.node_key.specs.Stakes.{IsOverStakes, stake}
use Rattle.node_key.specs.Tree.{height_above}
use Rattle.node_key.specs.declared.key.NodeKey.{NodeKey}
use Rattle.whole_profiles.specs.Whole.{whole_profile}
use Rattle.node_key.specs.Whole.{whole_flat}
use Rattle.whole_profiles.specs.declared.entry.Entry.TheVariants as entry
use Rattle.whole_profiles.specs.declared.memo_kind.MemoKind.TheVariants as kind
use Rattle.hall_tests.specs.Nested.{nested, one_call_of, outermost}
use Rattle.hall_tests.proofs.SampleStakes.{climbs}

-- ---- the key of a call over the next one

nested_height : (n : ℕ) → height_above (nested n) ≡ n
unfolding nested
nested_height zero = refl
nested_height (suc n) = omega (arith, nested_height n)

pub innermost_is : (k : NodeKey) → k.func ≡ 1 → k.dur ≡ 0 → k.height ≡ 0 → k.len ≡ 0
    → IsOverStakes (outermost 1) [] k
unfolding nested outermost
innermost_is k func dur height len = record {
  key_of = record {
    func = func;
    dur = dur;
    height = height;
    len = len;
    numbers = refl;
    kids = ap (λ m. take m k.kids) len;
  };
  kids = refl;
}

over_suc : (n i : ℕ) (k : NodeKey) → k.func ≡ suc (suc n) → k.dur ≡ 0 → k.height ≡ suc n → k.len ≡ 1
    → take 1 k.kids ≡ record { gap = 0; span = 0; node = i } ∷ []
    → IsOverStakes (outermost (suc (suc n))) (stake i (outermost (suc n)) ∷ []) k
unfolding nested outermost
over_suc n i k func dur height len kids = record {
  key_of = record {
    func = func;
    dur = dur;
    height = height ∙ sym (nested_height (suc n));
    len = len;
    numbers = refl;
    kids = ap (λ m. take m k.kids) len ∙ kids;
  };
  kids = refl;
}

pub over_next : (f i : ℕ) (k : NodeKey) → 2 ≤ f → k.func ≡ f → k.dur ≡ 0 → k.height ≡ f - 1 → k.len ≡ 1
    → take 1 k.kids ≡ record { gap = 0; span = 0; node = i } ∷ []
    → IsOverStakes (outermost f) (stake i (outermost (f - 1)) ∷ []) k
over_next zero i k two func dur height len kids = absurd (omega arith)
over_next (suc zero) i k two func dur height len kids = absurd (omega arith)
over_next (suc (suc n)) i k two func dur height len kids =
    let before : suc n ≡ suc (suc n) - 1 = omega arith in
    subst (λ m. IsOverStakes (outermost (suc (suc n))) (stake i (outermost m) ∷ []) k) before
    (over_suc n i k func dur (height ∙ sym before) len kids)

-- ---- its stakes

pub climbs_next : (a b c : Seat) (n i f : ℕ) → ExchangesStakes a b [] (stake i (outermost (f - 1)) ∷ [])
    → ExchangesStakes b c (stake i (outermost (f - 1)) ∷ []) (stake n (outermost f) ∷ [])
    → ExchangesStakes a c [] (stake n (outermost (f + 1 - 1)) ∷ [])
climbs_next a b c n i f one two =
    subst (λ m. ExchangesStakes a c [] (stake n (outermost m) ∷ [])) (omega arith) (climbs a b c _ _ one two)

-- ---- its events

-- those of the call of the function after n
around : ℕ → List Event
around n = Enter (suc n) 0 ∷ events_below 0 (nested n) ++ Leave 0 ∷ []

enclosed_is : (n : ℕ) → enclosed (suc n) 0 0 (events_below 0 (nested n)) ≡ around n
unfolding around
enclosed_is n = cond-false (eqb (suc n) 0) (events_below 0 (nested n)) _ (ne_eqb (suc n) 0 (suc-ne-zero n))

below_is : (n : ℕ) → events_below 0 (nested (suc n)) ≡ around n
unfolding nested
below_is n = append-nil (enclosed (suc n) 0 0 (events_below 0 (nested n))) ∙ enclosed_is n

events_are : (n : ℕ) → events (outermost (suc n)) 0 ≡ around n
unfolding events outermost
events_are n = enclosed_is n

-- none takes time
abbrev AtZero : Event → Type 0
AtZero e = time_of e ≡ 0

around_at_zero : (n : ℕ) → AllByRecursion AtZero (events_below 0 (nested n))
    → AllByRecursion AtZero (around n)
unfolding around
around_at_zero n inner =
    (refl, all_append AtZero (events_below 0 (nested n)) (Leave 0 ∷ []) inner (refl, tt))

below_at_zero : (n : ℕ) → AllByRecursion AtZero (events_below 0 (nested n))
unfolding nested
below_at_zero zero = tt
below_at_zero (suc n) =
    subst (AllByRecursion AtZero) (sym (below_is n)) (around_at_zero n (below_at_zero n))

-- the calls of a function among them
calls_around : (f n : ℕ) → count_by (enters_in f 0 1) (around n)
    ≡ one_if (eqb (suc n) f && true) + count_by (enters_in f 0 1) (events_below 0 (nested n))
unfolding around
calls_around f n =
    count_by-cons (enters_in f 0 1) (Enter (suc n) 0) (events_below 0 (nested n) ++ Leave 0 ∷ [])
    ∙ ap (λ k. one_if (eqb (suc n) f && true) + k)
    (count-kept (enters_in f 0 1) (events_below 0 (nested n)) (Leave 0) refl)

-- a function is called by the function itself, or below
own_call : (f n : ℕ) → suc n ≡ f → one_if (eqb (suc n) f && true) ≡ 1
own_call f n same = ap (λ b. one_if (b && true)) (eq-eqb (suc n) f same)

no_own_call : (f n : ℕ) → (suc n ≡ f → ⊥) → one_if (eqb (suc n) f && true) ≡ 0
no_own_call f n other = ap (λ b. one_if (b && true)) (ne_eqb (suc n) f other)

none_called : (f n : ℕ) → n < f → count_by (enters_in f 0 1) (events_below 0 (nested n)) ≡ 0
unfolding nested
none_called f zero high = refl
none_called f (suc n) high = omega (
  arith,
  ap (count_by (enters_in f 0 1)) (below_is n),
  calls_around f n,
  no_own_call f n (λ same. omega (arith, high, same)),
  none_called f n (omega (arith, high)),
)

one_called : (f n : ℕ) → 1 ≤ f → f ≤ n → count_by (enters_in f 0 1) (events_below 0 (nested n)) ≡ 1
one_called f zero some low = absurd (omega arith)
one_called f (suc n) some low =
    ap (count_by (enters_in f 0 1)) (below_is n) ∙ calls_around f n
    ∙ elim (cases_eq (suc n) f) [
      | inl same ↦ omega (arith, own_call f n same, none_called f n (omega (arith, same)))
      | inr other ↦ omega (arith, no_own_call f n other, one_called f n some (omega (arith, low, other)))
    ]

-- the greatest function among them
abbrev greater : ℕ → Event → ℕ
greater m e = max m (function_of e)

greatest_around : (m n : ℕ) → fold greater (max m (suc n)) (events_below 0 (nested n)) ≡ max m (suc n)
    → fold greater m (around n) ≡ max m (suc n)
unfolding around
greatest_around m n below =
    fold-append greater (max m (suc n)) (events_below 0 (nested n)) (Leave 0 ∷ [])
    ∙ ap (λ k. max k 0) below ∙ omega arith

greatest_below : (m n : ℕ) → fold greater m (events_below 0 (nested n)) ≡ max m n
unfolding nested
greatest_below m zero = omega arith
greatest_below m (suc n) = ap (fold greater m) (below_is n) ∙ greatest_around m n
    (greatest_below (max m (suc n)) n ∙ omega arith)

-- ---- their whole flat profile

abbrev nested_stream : ℕ → TrackStream
nested_stream n = stream_from (outermost (suc n)) 0

at_index : (xs : List ℕ) → AllByRecursion (λ t. t ≡ 0) xs → (i : ℕ) → slice_index xs i ≡ 0
at_index [] zeros i = refl
at_index (x ∷ xs) zeros zero = zeros.0
at_index (x ∷ xs) zeros (suc i) = at_index xs zeros.1 i

abbrev EndsAtZero : Piece → Type 0
EndsAtZero p = p.to ≡ 0

-- a stream whose moments are all 0 takes no time
no_time : (has : List ℕ → Bool) (s : TrackStream) → AllByRecursion (λ t. t ≡ 0) (moments s)
    → time_with has 0 1 s ≡ 0
unfolding time_with pieces
no_time has s zeros =
    let is = range_with_len 0 (length s.events + 1) in
    let ps = map (piece s) is in
    sum_by-none (clip 0 1) EndsAtZero (λ p to. omega (arith, to)) (filter (λ p. has p.stack) ps)
    (all_filter EndsAtZero (λ p. has p.stack) ps
    (any_made EndsAtZero (piece s) (λ i. at_index (moments s) zeros (i + 1)) is))

nested_zeros : (n : ℕ) → AllByRecursion (λ t. t ≡ 0) (moments (nested_stream n))
unfolding outermost
nested_zeros n =
    let es = events (outermost (suc n)) 0 in (
      refl,
      all_append (λ t. t ≡ 0) (map time_of es) (0 ∷ [])
          (all_map (λ t. t ≡ 0) time_of es (subst (AllByRecursion AtZero) (sym (events_are n))
          (around_at_zero n (below_at_zero n)))) (refl, tt),
    )

alone : {X : Type 0} (g : X → ℕ) (x : X) → sum_by g (x ∷ []) ≡ g x
alone g x = omega (arith, sum_by-cons g x [])

row_same : (f calls incl excl : ℕ) → calls ≡ 1 → incl ≡ 0 → excl ≡ 0
    → record { func = f; calls = calls; incl = incl; excl = excl } ≡ one_call_of f
row_same f calls incl excl one outer inner = cc

nested_row : (n f : ℕ) → 1 ≤ f → f ≤ suc n → row_of (nested_stream n ∷ []) 0 1 f ≡ one_call_of f
unfolding row_of calls_in
nested_row n f some low =
    let s = nested_stream n in
    row_same f _ _ _
    (alone (calls_in f 0 1) s ∙ ap (count_by (enters_in f 0 1)) (events_are n ∙ sym (below_is n))
    ∙ one_called f (suc n) some low)
    (alone (time_with (is_open_in f) 0 1) s ∙ no_time (is_open_in f) s (nested_zeros n))
    (alone (time_with (is_innermost_in f) 0 1) s ∙ no_time (is_innermost_in f) s (nested_zeros n))

rows_stand : (row : ℕ → Row) (a n : ℕ) → ((f : ℕ) → a ≤ f → f < a + n → row f ≡ one_call_of f)
    → filter stands (map row (range_with_len a n)) ≡ map one_call_of (range_with_len a n)
rows_stand row a zero are = refl
rows_stand row a (suc n) are =
    let more = filter stands (map row (range_with_len (a + 1) n)) in
    ap (λ (r : Row). cond (stands r) (r ∷ more) more) (are a (omega arith) (omega arith))
    ∙ ap (λ rs. one_call_of a ∷ rs)
    (rows_stand row (a + 1) n (λ f low high. are f (omega (arith, low)) (omega (arith, high))))

nested_flat : (n : ℕ) → whole_flat (outermost (suc n))
    ≡ record { bare = 0; rows = map one_call_of (range_with_len 1 (suc n)) }
unfolding flat greatest_function outermost
nested_flat n =
    let s = nested_stream n in
    let top : greatest_function (s ∷ []) ≡ suc n =
    ap (fold greater 0) (events_are n ∙ sym (below_is n)) ∙ greatest_below 0 (suc n) ∙ omega arith in
    let bare : sum_by (time_with is_bare 0 1) (s ∷ []) ≡ 0 =
    alone (time_with is_bare 0 1) s ∙ no_time is_bare s (nested_zeros n) in
    let rows = ap (λ k. filter stands (map (row_of (s ∷ []) 0 1) (range_with_len 1 k))) top
    ∙ rows_stand (row_of (s ∷ []) 0 1) 1 (suc n)
    (λ f some low. nested_row n f some (omega (arith, low))) in
    cc

pub profile_of_nested : (count : ℕ) (rows : List Row) → 1 ≤ count
    → rows ≡ map one_call_of (range_with_len 1 count)
    → entry.Flat (record { bare = 0; rows = rows }) ≡ whole_profile kind.Flat (outermost count)
profile_of_nested zero rows some are = absurd (omega arith)
profile_of_nested (suc n) rows some are =
    ap (λ (rs : List Row). entry.Flat (record { bare = 0; rows = rs })) are
    ∙ sym (ap entry.Flat (nested_flat n))

-- one more row
pub rows_more : (f : ℕ) (old new : List Row) → 1 ≤ f → old ≡ map one_call_of (range_with_len 1 (f - 1))
    → new ≡ old ++ one_call_of f ∷ [] → new ≡ map one_call_of (range_with_len 1 (f + 1 - 1))
rows_more f old new some was push =
    subst (λ k. new ≡ map one_call_of (range_with_len 1 k)) (omega (arith, some))
    (map_of_range-more one_call_of 1 (f - 1) f (one_call_of f) old new (omega (arith, some)) was refl push)
