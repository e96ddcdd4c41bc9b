-- The functions of the generated trace: they differ, and are numbered in the order of their first calls.
use Rattle.std.proofs.Common.{◌≡◌, ℕ, ◌<◌, ◌≤◌, zero, suc, List, [], ◌∷◌, ◌++◌, length, filter, map, Bool}
use Rattle.std.proofs.Common.{not, nat_eq, slice_get, get_or, Some, refl, ap, sym, ◌∙◌, arith, codes}
use Rattle.std.specs.Prelude.{decimal}
use Rattle.std.specs.List.{AllByRecursion, flat_map, filter_map, range_with_len}
use Rattle.std.proofs.lemmas.Bool.{ne_eqb, not_from_false, cond-true, cond-false}
use Rattle.std.proofs.lemmas.Bool.Decides.{Decides-eqb}
use Rattle.std.proofs.lemmas.Fmt.{decimal_injective}
use Rattle.std.proofs.lemmas.List.{append_cancel_left, length-map}
use Rattle.std.proofs.lemmas.List.Concat.{flat_map-append}
use Rattle.std.proofs.lemmas.List.Folds.{flat_map-map}
use Rattle.std.proofs.lemmas.Option.{none-some, same_Some}
use Rattle.list_lemmas.proofs.Distinct.{AreApart, one_place}
use Rattle.list_lemmas.proofs.Each.{all_append, all_at}
use Rattle.list_lemmas.proofs.Maps.{slice_get-mapped}
use Rattle.paje_lines.proofs.DistinctItems.{distinct_all, distinct_apart}
use Rattle.paje_print.specs.Canonical.{function_entered_by, functions_called}
use Rattle.paje_print.specs.Generated.{kernel_of, bundles_on, kernels_called, functions_generated}
use Rattle.paje_print.specs.Generated.{generated_stream, trace_of_bundles}
use Rattle.paje_print.proofs.GeneratedDistinct.{different, different-filter, different-few, number_in}
use Rattle.paje_print.proofs.GeneratedDistinct.{numbers-different}
use Rattle.paje_print.proofs.GeneratedStreams.{events_on}
use Rattle.paje_print.proofs.GeneratedTimes.{kernel-below}

-- ---- the kernels, over the tracks one after another

abbrev kernels_on : ℕ → ℕ → ℕ → List ℕ
kernels_on seed count track = map (kernel_of seed) (bundles_on track count)

abbrev kernels_of : ℕ → ℕ → List ℕ → List ℕ
kernels_of seed count tracks = flat_map (kernels_on seed count) tracks

abbrev IsKernel : ℕ → Type 0
IsKernel kernel = kernel < 8

each-kernel : (seed : ℕ) (bundles : List ℕ) → AllByRecursion IsKernel (map (kernel_of seed) bundles)
each-kernel seed [] = tt
each-kernel seed (n ∷ ns) = (kernel-below seed n, each-kernel seed ns)

all-kernels : (seed count : ℕ) (tracks : List ℕ) → AllByRecursion IsKernel (kernels_of seed count tracks)
all-kernels seed count [] = tt
all-kernels seed count (track ∷ tracks) = all_append IsKernel (kernels_on seed count track)
    (kernels_of seed count tracks) (each-kernel seed (bundles_on track count)) (all-kernels seed count tracks)

pub kernels-few : (seed count : ℕ) → length (kernels_called seed count) ≤ 8
kernels-few seed count = different-few 8 (kernels_of seed count (range_with_len 0 128))
    (all-kernels seed count (range_with_len 0 128))

pub kernels-below : (seed count : ℕ) → AllByRecursion IsKernel (kernels_called seed count)
kernels-below seed count = distinct_all nat_eq IsKernel (kernels_of seed count (range_with_len 0 128))
    (all-kernels seed count (range_with_len 0 128))

-- ---- their texts differ

abbrev pub kernel_text : ℕ → List ℕ
kernel_text kernel = codes "kernel " ++ decimal kernel

kernel_text-apart : (j k : ℕ) → IsKernel j → IsKernel k → kernel_text j ≡ kernel_text k → j ≡ k
kernel_text-apart j k small low same = decimal_injective j k (omega (arith, small)) (omega (arith, low))
    (append_cancel_left (codes "kernel ") (decimal j) (decimal k) same)

texts-apart : (kernels : List ℕ) → AllByRecursion IsKernel kernels → AreApart nat_eq kernels → (i j : ℕ)
    (text : List ℕ) → slice_get (map kernel_text kernels) i ≡ Some text
    → slice_get (map kernel_text kernels) j ≡ Some text → i ≡ j
texts-apart kernels small apart i j text at other =
    let here = slice_get-mapped kernel_text kernels i text at in
    let there = slice_get-mapped kernel_text kernels j text other in
    let same : here.0 ≡ there.0 = kernel_text-apart here.0 there.0
    (all_at IsKernel kernels i here.0 small here.1) (all_at IsKernel kernels j there.0 small there.1)
    (here.2 ∙ sym there.2) in
    one_place nat_eq Decides-eqb kernels apart i j here.0 here.1 (there.1 ∙ ap (λ k. Some k) (sym same))

not_work : (kernels : List ℕ) (k : ℕ) (text : List ℕ) → Some (codes "work") ≡ Some text
    → slice_get (map kernel_text kernels) k ≡ Some text → ⊥
not_work kernels k text is at =
    let there = slice_get-mapped kernel_text kernels k text at in
    let first : get_or (kernel_text there.0) 0 0 ≡ get_or (codes "work") 0 0 =
    ap (λ bytes. get_or bytes 0 0) (there.2 ∙ sym (same_Some (codes "work") text is)) in
    absurd (omega (arith, first))

functions-apart : (kernels : List ℕ) → AllByRecursion IsKernel kernels → AreApart nat_eq kernels → (i j : ℕ)
    (text : List ℕ) → slice_get (codes "work" ∷ map kernel_text kernels) i ≡ Some text
    → slice_get (codes "work" ∷ map kernel_text kernels) j ≡ Some text → i ≡ j
functions-apart kernels small apart zero zero text at other = refl
functions-apart kernels small apart zero (suc j) text at other = absurd (not_work kernels j text at other)
functions-apart kernels small apart (suc i) zero text at other = absurd (not_work kernels i text other at)
functions-apart kernels small apart (suc i) (suc j) text at other =
    ap suc (texts-apart kernels small apart i j text at other)

-- the functions of a trace with bundles
pub functions-are : (seed n : ℕ) → functions_generated seed (suc n)
    ≡ codes "work" ∷ map kernel_text (kernels_called seed (suc n))
functions-are seed n = cond-false (nat_eq (suc n) 0) []
    (codes "work" ∷ map kernel_text (kernels_called seed (suc n)))
    (ne_eqb (suc n) 0 (λ e. omega (arith, e)))

pub functions-different : (seed count i j : ℕ) (text : List ℕ)
    → slice_get (functions_generated seed count) i ≡ Some text
    → slice_get (functions_generated seed count) j ≡ Some text → i ≡ j
functions-different seed zero i j text at other = absurd (none-some text at)
functions-different seed (suc n) i j text at other =
    functions-apart (kernels_called seed (suc n)) (kernels-below seed (suc n))
    (distinct_apart nat_eq (kernels_of seed (suc n) (range_with_len 0 128))) i j text
    (ap (λ texts. slice_get texts i) (sym (functions-are seed n)) ∙ at)
    (ap (λ texts. slice_get texts j) (sym (functions-are seed n)) ∙ other)

-- ---- the numbers of the functions that are called

abbrev numbers_called : List ℕ → ℕ → List ℕ
numbers_called kernels kernel = 1 ∷ number_in kernels kernel ∷ []

abbrev called_on : ℕ → ℕ → List ℕ → ℕ → List ℕ
called_on seed count kernels track = filter_map function_entered_by
    (events_on seed kernels (bundles_on track count))

called-in_bundles : (seed : ℕ) (kernels bundles : List ℕ)
    → filter_map function_entered_by (events_on seed kernels bundles)
    ≡ flat_map (numbers_called kernels) (map (kernel_of seed) bundles)
called-in_bundles seed kernels [] = refl
called-in_bundles seed kernels (n ∷ ns) =
    ap (λ later. 1 ∷ number_in kernels (kernel_of seed n) ∷ later) (called-in_bundles seed kernels ns)

called-on_tracks : (seed count : ℕ) (kernels tracks : List ℕ) → flat_map (called_on seed count kernels) tracks
    ≡ flat_map (numbers_called kernels) (kernels_of seed count tracks)
called-on_tracks seed count kernels [] = refl
called-on_tracks seed count kernels (track ∷ tracks) =
    ap (λ here. here ++ flat_map (called_on seed count kernels) tracks)
    (called-in_bundles seed kernels (bundles_on track count))
    ∙ (ap (λ later. flat_map (numbers_called kernels) (kernels_on seed count track) ++ later)
    (called-on_tracks seed count kernels tracks)
    ∙ sym (flat_map-append (numbers_called kernels) (kernels_on seed count track)
    (kernels_of seed count tracks)))

functions-called : (seed count : ℕ) → functions_called (trace_of_bundles seed count)
    ≡ flat_map (numbers_called (kernels_called seed count)) (kernels_of seed count (range_with_len 0 128))
functions-called seed count =
    flat_map-map (λ s. filter_map function_entered_by s.events) (generated_stream seed count)
    (range_with_len 0 128)
    ∙ called-on_tracks seed count (kernels_called seed count) (range_with_len 0 128)

-- ---- each once, in order

abbrev isnt_work : ℕ → Bool
isnt_work f = not (nat_eq 1 f)

kernels-left : (kernels called : List ℕ) → filter isnt_work (flat_map (numbers_called kernels) called)
    ≡ map (number_in kernels) called
kernels-left kernels [] = refl
kernels-left kernels (k ∷ ks) =
    let first : ℕ = number_in kernels k in
    let others : List ℕ = filter isnt_work (flat_map (numbers_called kernels) ks) in
    cond-true (isnt_work first) (first ∷ others) others
    (not_from_false (nat_eq 1 first) (ne_eqb 1 first (λ e. omega (arith, e))))
    ∙ ap (λ later. first ∷ later) (kernels-left kernels ks)

-- `work` comes first, where something is called
numbered-from : (kernels called : List ℕ) → 0 < length called
    → different (flat_map (numbers_called kernels) called) ≡ 1 ∷ different (map (number_in kernels) called)
numbered-from kernels [] some = absurd (omega (arith, some))
numbered-from kernels (k ∷ ks) some =
    let later : List ℕ = number_in kernels k ∷ flat_map (numbers_called kernels) ks in
    ap (λ ns. 1 ∷ ns) (different-filter isnt_work later ∙ ap different (kernels-left kernels (k ∷ ks)))

called-in_order : (called : List ℕ) → 0 < length called
    → different (flat_map (numbers_called (different called)) called)
    ≡ range_with_len 1 (suc (length (different called)))
called-in_order called some = numbered-from (different called) called some
    ∙ ap (λ ns. 1 ∷ ns) (numbers-different called)

some-called : (seed n : ℕ) → 0 < length (kernels_of seed (suc n) (range_with_len 0 128))
some-called seed n = omega arith

pub functions-numbered : (seed count : ℕ) → different (functions_called (trace_of_bundles seed count))
    ≡ range_with_len 1 (length (functions_generated seed count))
functions-numbered seed zero = refl
functions-numbered seed (suc n) =
    let called : List ℕ = kernels_of seed (suc n) (range_with_len 0 128) in
    ap different (functions-called seed (suc n))
    ∙ (called-in_order called (some-called seed n)
    ∙ (ap (λ k. range_with_len 1 (suc k)) (sym (length-map (different called) kernel_text))
    ∙ ap (λ texts. range_with_len 1 (length texts)) (sym (functions-are seed n))))
