-- What is kept of the first bundles, with one bundle more.
use native.Mathlib.Omega.{arith}
use Rattle.std.proofs.Common.{◌≡◌, ℕ, ◌+◌, ◌*◌, ◌/◌, ◌%◌, ◌^◌, ◌<◌, ◌≤◌, suc, List, [], ◌∷◌, ◌++◌, ◌∙◌}
use Rattle.std.proofs.Common.{add-one, ap, map, replicate, refl, slice_index_or, slice_set}
use Rattle.std.proofs.Common.{subst, sym, true, false, eqb}
use Rattle.std.specs.List.{range_with_len, sum_by}
use Rattle.std.proofs.lemmas.Bool.{cond-true, cond-false, eq-eqb, ne_eqb}
use Rattle.std.proofs.lemmas.List.{append-nil}
use Rattle.std.proofs.lemmas.List.FromFn.{get_or-map-range_with_len}
use Rattle.std.proofs.lemmas.List.FromFn.{map-range_with_len_more}
use Rattle.list_lemmas.proofs.Ranges.{flat_range_more, range_changed}
use Rattle.paje_print.specs.Bundles.{AreBundles}
use Rattle.paje_print.specs.Generated.{bundle_end, bundle_links, bundle_start, bundle_time, clock_behind}
use Rattle.paje_print.specs.Generated.{kernel_of, link_end, next_random, random_after, rank_of_bundle}
use Rattle.paje_print.specs.Generated.{track_of_bundle}
use Rattle.trace_base.specs.declared.messages.LinkEvent.{LinkEvent}
use Rattle.paje_print.specs.declared.bundles.Bundles.{Bundles}
use Rattle.paje_print.proofs.GeneratedTimes.{bundles-push_off, clock-limit, clock-push, track-below}

-- no track has a bundle
pub no_clocks : (seed : ℕ) → replicate 128 0 ≡ map (λ track. clock_behind seed track 0) (range_with_len 0 128)
no_clocks seed = refl

-- the clocks of so many tracks, of which one has one bundle more
clocks_changed : (seed n tracks track : ℕ) → track < tracks → track_of_bundle n ≡ track
    → slice_set (map (λ track. clock_behind seed track n) (range_with_len 0 tracks)) track (bundle_end seed n)
    ≡ map (λ track. clock_behind seed track (suc n)) (range_with_len 0 tracks)
clocks_changed seed n tracks track small on =
    let before : ℕ → ℕ = λ t. clock_behind seed t n in
    let behind : ℕ → ℕ = λ t. clock_behind seed t (suc n) in
    let first : 0 + track ≡ track = omega arith in
    let this : behind (0 + track) ≡ bundle_end seed n =
    ap behind (first ∙ sym on) ∙ clock-push seed n in
    ap (λ v. slice_set (map before (range_with_len 0 tracks)) track v) (sym this)
    ∙ range_changed before behind 0 tracks track small (λ t other. ap (sum_by (bundle_time seed))
    (sym (bundles-push_off t n (λ is. other (omega (arith, is, on))))))

clocks_more : (seed n : ℕ) → slice_set (map (λ track. clock_behind seed track n) (range_with_len 0 128))
    (track_of_bundle n) (bundle_end seed n)
    ≡ map (λ track. clock_behind seed track (suc n)) (range_with_len 0 128)
clocks_more seed n = clocks_changed seed n 128 (track_of_bundle n) (track-below n) refl

-- ---- what is known of the first bundles

clock_at : (seed n : ℕ) (b : Bundles) (clocks : List ℕ) → AreBundles seed n b → clocks ≡ b.clocks
    → slice_index_or clocks (n % 128) 0 ≡ clock_behind seed (track_of_bundle n) n
clock_at seed n b clocks are same =
    let track : ℕ = track_of_bundle n in
    ap (λ (cs : List ℕ). slice_index_or cs track 0) (same ∙ are.clocks)
    ∙ get_or-map-range_with_len (λ track. clock_behind seed track n) 0 128 track track 0 (track-below n)
    (omega arith)

pub clock_small : (seed n : ℕ) (b : Bundles) (clocks : List ℕ) → AreBundles seed n b → clocks ≡ b.clocks
    → n < 250000 → slice_index_or clocks (n % 128) 0 ≤ 17976800
clock_small seed n b clocks are same few = subst (λ (clock : ℕ). clock ≤ 17976800)
    (sym (clock_at seed n b clocks are same))
    (clock-limit seed (track_of_bundle n) n (track-below n) (omega (arith, few)))

-- ---- one bundle more

kernels_more : (seed n : ℕ) → map (kernel_of seed) (range_with_len 0 n) ++ kernel_of seed n ∷ []
    ≡ map (kernel_of seed) (range_with_len 0 (n + 1))
kernels_more seed n = sym (map-range_with_len_more (kernel_of seed) 0 n n (omega arith))

-- the kernel of the bundle, as the value behind one step more gives it
kernel_stepped : (seed n value kernel : ℕ) → value ≡ random_after seed (n + 1) → kernel ≡ value / 2 ^ 61
    → kernel ≡ kernel_of seed n
kernel_stepped seed n value kernel is gives = gives ∙ ap (λ v. v / 2 ^ 61) is

value_stepped : (seed n old new : ℕ) → old ≡ random_after seed n → new ≡ next_random old
    → new ≡ random_after seed (n + 1)
value_stepped seed n old new is steps = rw add-one (steps ∙ ap next_random is)

-- what was done with the first bundles, but for the messages: the next one's kernel, and its track's clock
pub record IsNext (n kernel : ℕ) (clocks : List ℕ) (b more : Bundles) : Type 0 where
  pub steps : more.random.value ≡ next_random b.random.value
  pub gives : kernel ≡ more.random.value / 2 ^ 61
  pub kept : more.kernels ≡ b.kernels ++ kernel ∷ []
  pub reads : clocks ≡ b.clocks
  pub writes : more.clocks ≡ slice_set b.clocks (n % 128)
      (slice_index_or clocks (n % 128) 0 + 1000 + 200 + 1000 * (kernel + 1))

next_value : (seed n kernel : ℕ) (clocks : List ℕ) (b more : Bundles) → AreBundles seed n b
    → IsNext n kernel clocks b more → more.random.value ≡ random_after seed (n + 1)
next_value seed n kernel clocks b more are is =
    value_stepped seed n b.random.value more.random.value are.random is.steps

next_kernel : (seed n kernel : ℕ) (clocks : List ℕ) (b more : Bundles) → AreBundles seed n b
    → IsNext n kernel clocks b more → kernel ≡ kernel_of seed n
next_kernel seed n kernel clocks b more are is =
    kernel_stepped seed n more.random.value kernel (next_value seed n kernel clocks b more are is) is.gives

next_end : (seed n kernel : ℕ) (clocks : List ℕ) (b more : Bundles) → AreBundles seed n b
    → IsNext n kernel clocks b more
    → slice_index_or clocks (n % 128) 0 + 1000 + 200 + 1000 * (kernel + 1) ≡ bundle_end seed n
next_end seed n kernel clocks b more are is =
    let kernel_is : kernel ≡ kernel_of seed n = next_kernel seed n kernel clocks b more are is in
    let at : slice_index_or clocks (n % 128) 0 ≡ clock_behind seed (track_of_bundle n) n =
    clock_at seed n b clocks are is.reads in
    omega (arith, kernel_is, at)

next_clocks : (seed n kernel : ℕ) (clocks : List ℕ) (b more : Bundles) → AreBundles seed n b
    → IsNext n kernel clocks b more
    → more.clocks ≡ map (λ track. clock_behind seed track (n + 1)) (range_with_len 0 128)
next_clocks seed n kernel clocks b more are is =
    let next : suc n ≡ n + 1 = omega arith in
    is.writes
    ∙ (ap (λ (t : ℕ). slice_set b.clocks (n % 128) t) (next_end seed n kernel clocks b more are is)
    ∙ (ap (λ (cs : List ℕ). slice_set cs (n % 128) (bundle_end seed n)) are.clocks
    ∙ (clocks_more seed n
    ∙ ap (λ m. map (λ track. clock_behind seed track m) (range_with_len 0 128)) next)))

next_kernels : (seed n kernel : ℕ) (clocks : List ℕ) (b more : Bundles) → AreBundles seed n b
    → IsNext n kernel clocks b more → more.kernels ≡ map (kernel_of seed) (range_with_len 0 (n + 1))
next_kernels seed n kernel clocks b more are is = is.kept
    ∙ (ap (λ (k : ℕ). b.kernels ++ k ∷ []) (next_kernel seed n kernel clocks b more are is)
    ∙ (ap (λ (ks : List ℕ). ks ++ kernel_of seed n ∷ []) are.kernels ∙ kernels_more seed n))

next_added : (seed n kernel : ℕ) (clocks : List ℕ) (b more : Bundles) → AreBundles seed n b
    → IsNext n kernel clocks b more → more.links ≡ b.links ++ bundle_links seed n
    → AreBundles seed (n + 1) more
next_added seed n kernel clocks b more are is links = record {
  random = next_value seed n kernel clocks b more are is;
  kernels = next_kernels seed n kernel clocks b more are is;
  clocks = next_clocks seed n kernel clocks b more are is;
  links = links ∙ (ap (λ (ls : List LinkEvent). ls ++ bundle_links seed n) are.links
      ∙ flat_range_more (bundle_links seed) n);
}

-- it is on an even track, and sends no message
pub added_even : (seed n kernel : ℕ) (clocks : List ℕ) (b more : Bundles) → AreBundles seed n b
    → IsNext n kernel clocks b more → n % 128 % 2 ≡ 0 → more.links ≡ b.links → AreBundles seed (n + 1) more
added_even seed n kernel clocks b more are is even same = next_added seed n kernel clocks b more are is
    (same ∙ (sym (append-nil b.links) ∙ ap (λ (ls : List LinkEvent). b.links ++ ls)
    (sym (cond-true (eqb (n % 128 % 2) 0) [] _ (eq-eqb (n % 128 % 2) 0 even)))))

-- it is on an odd track, and sends a message
pub added_odd : (seed n kernel start end size : ℕ) (clocks : List ℕ) (b more : Bundles) → AreBundles seed n b
    → IsNext n kernel clocks b more → n % 128 % 2 ≡ 1 → start ≡ slice_index_or clocks (n % 128) 0 + 1000
    → end ≡ start + 200 + 1000 * (kernel + 1) → size ≡ 8 * (kernel + 1)
    → more.links ≡ b.links ++ (link_end true n (rank_of_bundle n) start size
    ∷ link_end false n ((rank_of_bundle n + 1) % 64) end 0 ∷ [])
    → AreBundles seed (n + 1) more
added_odd seed n kernel start end size clocks b more are is odd starts ends sized sent =
    next_added seed n kernel clocks b more are is
    (sent ∙ (ap (λ (ls : List LinkEvent). b.links ++ ls) same
    ∙ ap (λ (ls : List LinkEvent). b.links ++ ls)
    (sym (cond-false (eqb (n % 128 % 2) 0) [] _ (ne_eqb (n % 128 % 2) 0 (λ e. omega (arith, e, odd)))))))
  where
    kernel_is : kernel ≡ kernel_of seed n
    kernel_is = next_kernel seed n kernel clocks b more are is

    starts_at : start ≡ bundle_start seed n
    starts_at = omega (arith, starts, clock_at seed n b clocks are is.reads)

    sized_as : size ≡ 8 * (kernel_of seed n + 1)
    sized_as = omega (arith, sized, kernel_is)

    ends_at : end ≡ bundle_end seed n
    ends_at = omega (arith, ends, starts_at, kernel_is)

    same : (link_end true n (rank_of_bundle n) start size
        ∷ link_end false n ((rank_of_bundle n + 1) % 64) end 0 ∷ [])
        ≡ (link_end true n (rank_of_bundle n) (bundle_start seed n) (8 * (kernel_of seed n + 1))
        ∷ link_end false n ((rank_of_bundle n + 1) % 64) (bundle_end seed n) 0 ∷ [])
    same = ap (λ (t : ℕ). link_end true n (rank_of_bundle n) t size
        ∷ link_end false n ((rank_of_bundle n + 1) % 64) end 0 ∷ []) starts_at
        ∙ (ap (λ (s : ℕ). link_end true n (rank_of_bundle n) (bundle_start seed n) s
        ∷ link_end false n ((rank_of_bundle n + 1) % 64) end 0 ∷ []) sized_as
        ∙ ap (λ (t : ℕ). link_end true n (rank_of_bundle n) (bundle_start seed n) (8 * (kernel_of seed n + 1))
        ∷ link_end false n ((rank_of_bundle n + 1) % 64) t 0 ∷ []) ends_at)
