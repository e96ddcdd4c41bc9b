-- The kernels, the bundles and the times of the generated trace.
use Rattle.std.proofs.Common.{◌≡◌, ℕ, ◌+◌, ◌*◌, ◌^◌, ◌<◌, ◌≤◌, zero, suc, List, [], ◌∷◌, ◌++◌, length}
use Rattle.std.proofs.Common.{cond, eqb, filter, fold, map, max, get_or, refl, ap, sym, subst, ◌∙◌, inl, inr}
use Rattle.std.proofs.Common.{arith, add-one}
use Rattle.std.specs.List.{range_with_len, sum_by}
use Rattle.std.proofs.lemmas.Bool.{cases_eq, cases_lt, eq-eqb, ne_eqb}
use Rattle.std.proofs.lemmas.List.{append-nil, length_push}
use Rattle.std.proofs.lemmas.List.Elements.{filter-append, All-from_recursion}
use Rattle.std.proofs.lemmas.List.Sums.{sum_by_push, sum_by-le}
use Rattle.std.proofs.lemmas.List.FromFn.{get_or-map-range_with_len, length-map-range_with_len}
use Rattle.std.proofs.lemmas.Nat.{div_below, mod_below, pow_pos}
use Rattle.list_lemmas.proofs.Each.{all_map}
use Rattle.list_lemmas.proofs.Ranges.{all_range, range_with_len-push}
use Rattle.list_lemmas.proofs.Sums.{each_below, greatest_within}
use Rattle.paje_print.specs.Generated.{random_after, kernel_of, track_of_bundle, bundles_on, kernel_time}
use Rattle.paje_print.specs.Generated.{bundle_time, clock_behind, bundle_end, generated_end}

-- ---- kernels

random-below : (seed steps : ℕ) → random_after seed (suc steps) < 2 ^ 64
random-below seed steps =
    mod_below (6364136223846793005 * random_after seed steps + 1442695040888963407) (2 ^ 64) (pow_pos 64)

pub kernel-below : (seed bundle : ℕ) → kernel_of seed bundle < 8
kernel-below seed bundle = div_below (random_after seed (bundle + 1)) (2 ^ 61) 8 (pow_pos 61)
    (rw add-one (random-below seed bundle))

pub kernel_time-within : (seed bundle : ℕ) → kernel_time seed bundle ≤ 8000
kernel_time-within seed bundle = omega (arith, kernel-below seed bundle)

-- ---- the bundles of a track, one bundle more

bundles-push : (track n : ℕ) → bundles_on track (suc n)
    ≡ bundles_on track n ++ cond (eqb (track_of_bundle n) track) (n ∷ []) []
bundles-push track n = ap (filter (λ bundle. eqb (track_of_bundle bundle) track)) (range_with_len-push n)
    ∙ filter-append (λ bundle. eqb (track_of_bundle bundle) track) (range_with_len 0 n) (n ∷ [])

pub bundles-push_on : (track n : ℕ) → track_of_bundle n ≡ track → bundles_on track (suc n)
    ≡ bundles_on track n ++ n ∷ []
bundles-push_on track n on = bundles-push track n
    ∙ ap (λ b. bundles_on track n ++ cond b (n ∷ []) []) (eq-eqb (track_of_bundle n) track on)

pub bundles-push_off : (track n : ℕ) → (track_of_bundle n ≡ track → ⊥) → bundles_on track (suc n)
    ≡ bundles_on track n
bundles-push_off track n off = bundles-push track n
    ∙ (ap (λ b. bundles_on track n ++ cond b (n ∷ []) []) (ne_eqb (track_of_bundle n) track off)
    ∙ append-nil (bundles_on track n))

-- what no bundle has, and each bundle more keeps, whether it is on the track or not
pub each_bundle : (track : ℕ) (P : ℕ → List ℕ → Type 0) → P 0 []
    → ((n : ℕ) → track_of_bundle n ≡ track → P n (bundles_on track n)
    → P (suc n) (bundles_on track n ++ n ∷ []))
    → ((n : ℕ) → P n (bundles_on track n) → P (suc n) (bundles_on track n))
    → (n : ℕ) → P n (bundles_on track n)
each_bundle track P none on off zero = none
each_bundle track P none on off (suc n) =
    let before : P n (bundles_on track n) = each_bundle track P none on off n in
    elim (cases_eq (track_of_bundle n) track) [
      | inl is ↦ subst (P (suc n)) (sym (bundles-push_on track n is)) (on n is before)
      | inr other ↦ subst (P (suc n)) (sym (bundles-push_off track n other)) (off n before)
    ]

bundle-more : (track n count : ℕ) → track_of_bundle n ≡ track → 128 * count + track ≤ n + 127
    → 128 * (count + 1) + track ≤ suc n + 127
bundle-more track n count on few = omega (arith, on, few)

-- at most one in 128 is on the track, and one more
pub bundles-few : (track n : ℕ) → track < 128 → 128 * length (bundles_on track n) + track ≤ n + 127
bundles-few track n small =
    each_bundle track (λ n bs. 128 * length bs + track ≤ n + 127) (omega (arith, small))
    (λ n on few. rw length_push (bundle-more track n (length (bundles_on track n)) on few))
    (λ n few. omega (arith, few)) n

-- ---- clocks

clock-push_on : (seed track n : ℕ) → track_of_bundle n ≡ track
    → clock_behind seed track (suc n) ≡ clock_behind seed track n + bundle_time seed n
clock-push_on seed track n on = ap (sum_by (bundle_time seed)) (bundles-push_on track n on)
    ∙ sum_by_push (bundle_time seed) (bundles_on track n) n

clock-push_off : (seed track n : ℕ) → (track_of_bundle n ≡ track → ⊥)
    → clock_behind seed track (suc n) ≡ clock_behind seed track n
clock-push_off seed track n off = ap (sum_by (bundle_time seed)) (bundles-push_off track n off)

-- where the bundle ends
pub clock-push : (seed n : ℕ) → clock_behind seed (track_of_bundle n) (suc n) ≡ bundle_end seed n
clock-push seed n = clock-push_on seed (track_of_bundle n) n refl ∙ omega arith

clock-step : (seed track n : ℕ) → clock_behind seed track n ≤ clock_behind seed track (suc n)
clock-step seed track n =
    elim (cases_eq (track_of_bundle n) track) [
      | inl on ↦ omega (arith, clock-push_on seed track n on)
      | inr off ↦ omega (arith, clock-push_off seed track n off)
    ]

pub clock-rises : (seed track m n : ℕ) → m ≤ n → clock_behind seed track m ≤ clock_behind seed track n
clock-rises seed track m zero few = let same : m ≡ 0 = omega (arith, few) in
    subst (λ (k : ℕ). clock_behind seed track m ≤ clock_behind seed track k) same (omega arith)
clock-rises seed track m (suc n) few =
    elim (cases_lt n m) [
      | inl past ↦ (let same : m ≡ suc n = omega (arith, few, past) in
          subst (λ (k : ℕ). clock_behind seed track m ≤ clock_behind seed track k) same (omega arith))
      | inr below ↦ omega (arith, clock-rises seed track m n below, clock-step seed track n)
    ]

bundle_time-within : (seed bundle : ℕ) → bundle_time seed bundle ≤ 9200
bundle_time-within seed bundle = omega (arith, kernel_time-within seed bundle)

-- a track's bundles take at most 9200 nanoseconds each
clock-within : (seed track n : ℕ) → clock_behind seed track n ≤ length (bundles_on track n) * 9200
clock-within seed track n = sum_by-le (bundle_time seed) 9200 (bundles_on track n)
    (λ k d l. bundle_time-within seed (get_or (bundles_on track n) k d))

-- with at most 250,000 bundles
pub bundles-within : (track n : ℕ) → track < 128 → n ≤ 250000 → length (bundles_on track n) ≤ 1954
bundles-within track n small few = omega (arith, bundles-few track n small, few)

pub clock-limit : (seed track n : ℕ) → track < 128 → n ≤ 250000 → clock_behind seed track n ≤ 1954 * 9200
clock-limit seed track n small few =
    omega (arith, clock-within seed track n, bundles-within track n small few)

-- ---- the end

abbrev pub greatest_clock : ℕ → ℕ → ℕ → ℕ
greatest_clock seed count tracks = fold max 0 (map (λ track. clock_behind seed track count)
    (range_with_len 0 tracks))

-- none of the tracks' clocks is greater
clock-below : (seed count tracks track : ℕ) → track < tracks
    → clock_behind seed track count ≤ greatest_clock seed count tracks
clock-below seed count tracks track small =
    let clock : ℕ → ℕ = λ track. clock_behind seed track count in
    let clocks : List ℕ = map clock (range_with_len 0 tracks) in
    subst (λ (time : ℕ). time ≤ fold max 0 clocks)
    (get_or-map-range_with_len clock 0 tracks track track 0 small (omega arith))
    (All-from_recursion (λ time. time ≤ fold max 0 clocks) clocks (each_below 0 clocks) track 0
    (omega (arith, small, length-map-range_with_len clock 0 tracks)))

pub clock-in_time : (seed count track : ℕ) → track < 128
    → clock_behind seed track count + 1000 ≤ generated_end seed count
clock-in_time seed count track small = omega (arith, clock-below seed count 128 track small)

pub track-below : (bundle : ℕ) → track_of_bundle bundle < 128
track-below bundle = omega arith

-- each of the bundles ends in time
pub bundle_end-in_time : (seed count bundle : ℕ) → bundle < count
    → bundle_end seed bundle ≤ generated_end seed count
bundle_end-in_time seed count bundle few =
    let track : ℕ = track_of_bundle bundle in
    let rises : clock_behind seed track (suc bundle) ≤ clock_behind seed track count =
    clock-rises seed track (suc bundle) count few in
    omega (arith, rises, clock-push seed bundle, clock-in_time seed count track (track-below bundle))

clocks-limit : (seed count : ℕ) → count ≤ 250000 → greatest_clock seed count 128 ≤ 1954 * 9200
clocks-limit seed count few =
    let clock : ℕ → ℕ = λ track. clock_behind seed track count in
    greatest_within 0 (1954 * 9200) (map clock (range_with_len 0 128)) (omega arith)
    (all_map (λ time. time ≤ 1954 * 9200) clock (range_with_len 0 128)
    (all_range (λ track. clock track ≤ 1954 * 9200) 128 (λ track small. clock-limit seed track count small
    few)))

-- the end is in the first second
pub end-within : (seed count : ℕ) → count ≤ 250000 → generated_end seed count ≤ 20000000
end-within seed count few = omega (arith, clocks-limit seed count few)
