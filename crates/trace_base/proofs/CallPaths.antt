-- The call paths of streams are what a call stack of them begins with: the stack was each of its paths
-- itself, when that path's innermost call was entered.
use Rattle.std.proofs.Common.{◌≡◌, ◌≢◌, ℕ, ◌+◌, ◌-◌, ◌<◌, ◌≤◌, zero, suc, not, true}
use Rattle.std.proofs.Common.{List, [], ◌∷◌, ◌++◌, length, take, get_or, filter, refl, ap, sym, ◌∙◌}
use Rattle.std.proofs.Common.{◌⊎◌, inl, inr, arith, add-one, length-append}
use Rattle.std.specs.Cmp.Lexicographic.{slice_cmp}
use Rattle.std.specs.List.{Contains, flat_map}
use Rattle.std.specs.Ordering.{nat_cmp}
use Rattle.std.proofs.lemmas.Bool.{cases_lt, true≢false}
use Rattle.std.proofs.lemmas.Cmp.{nat_list_cmp_total}
use Rattle.std.proofs.lemmas.List.{length-take, take-append-le, take-take, take_all}
use Rattle.std.proofs.lemmas.List.FromFn.{get_or-map-range_with_len, length-map-range_with_len}
use Rattle.std.proofs.lemmas.List.Sums.{fold_more}
use Rattle.std.specs.FinMap.{nat_cmp-IsAntisymmetric, slice_cmp-IsAntisymmetric}
use Rattle.list_lemmas.proofs.Fronts.{take_none}
use Rattle.list_lemmas.proofs.InOrder.{rising-unique}
use Rattle.list_lemmas.proofs.Members.{filter-has, filter-keeps, flat_map-has, flat_map-keeps}
use Rattle.trace_base.proofs.InOrder.{distinct-rising}
use Rattle.trace_base.specs.Flat.{is_bare}
use Rattle.trace_base.specs.InOrder.{IsRisingListOf}
use Rattle.trace_base.specs.Paths.{call_paths, call_stacks, IsPathOf}
use Rattle.trace_base.specs.Stream.{stack_after, stack_step}
use Rattle.trace_base.specs.declared.stream.Event.{Event}
use Rattle.trace_base.specs.declared.stream.Event.TheVariants.{Enter, Leave}
use Rattle.trace_base.specs.declared.stream.TrackStream.{TrackStream}

-- the call stack was the path after so many events
record Reached (es : List Event) (path : List ℕ) : Type 0 where
  moment : ℕ
  first : 1 ≤ moment
  within : moment ≤ length es
  same : stack_after (take moment es) ≡ path

-- a part of a call stack after one more event is a part of the one before, or the whole new one
part_before : (path stack : List ℕ) (e : Event) (n : ℕ) → path ≡ take n (stack_step stack e)
    → ((k : ℕ) × (path ≡ take k stack)) ⊎ (path ≡ stack_step stack e)
part_before path stack (Enter f t) n h = elim (cases_lt (length stack) n) [
  | inl more ↦ inr (h ∙ take_all n (stack ++ f ∷ []) (omega (arith, more, length-append stack (f ∷ []))))
  | inr less ↦ inl (n, h ∙ take-append-le n stack (f ∷ []) less)
]
part_before path stack (Leave t) n h = elim (cases_lt (length stack - 1) n) [
  | inl more ↦ inr (h ∙ take_all n (take (length stack - 1) stack)
      (omega (arith, more, length-take (length stack - 1) stack)))
  | inr less ↦ inl (n, h ∙ take-take n (length stack - 1) stack less)
]

reached : (es : List Event) (path : List ℕ) → path ≢ [] → (i n : ℕ) → i ≤ length es
    → path ≡ take n (stack_after (take i es)) → Reached es path
unfolding stack_after
reached es path some zero n h e = absurd (some (e ∙ take_none n (stack_after (take zero es)) refl))
reached es path some (suc i) n h e =
    let step : stack_after (take (suc i) es) ≡ stack_step (stack_after (take i es)) (get_or es i (Leave 0)) =
    rw (← add-one) (fold_more stack_step [] es i (Leave 0) (omega arith)) in
    elim (part_before path (stack_after (take i es)) (get_or es i (Leave 0)) n
    (e ∙ ap (take n) step)) [
      | inl part ↦ reached es path some i part.0 (omega arith) part.1
      | inr whole ↦ record {
        moment = suc i;
        first = omega arith;
        within = h;
        same = step ∙ sym whole;
      }
    ]

-- ---- the paths

call_stacks-has : (s : TrackStream) (path : List ℕ) → Contains (call_stacks s) path
    → (i : ℕ) × (i ≤ length s.events) × (path ≡ stack_after (take i s.events))
call_stacks-has s path c =
    let stack : ℕ → List ℕ = λ i. stack_after (take i s.events) in
    let below : c.0 < length s.events =
    omega (arith, c.1, length-map-range_with_len stack 1 (length s.events)) in
    let place : 1 + c.0 ≡ c.0 + 1 = omega arith in (
      c.0 + 1,
      omega arith,
      sym c.2 ∙ get_or-map-range_with_len stack 1 (length s.events) c.0 (c.0 + 1) path below place,
    )

call_stacks-keeps : (s : TrackStream) (path : List ℕ) → Reached s.events path → Contains (call_stacks s) path
call_stacks-keeps s path r =
    let stack : ℕ → List ℕ = λ i. stack_after (take i s.events) in
    let place : 1 + (r.moment - 1) ≡ r.moment = omega (arith, r.first) in (
      r.moment - 1,
      omega (arith, r.first, r.within, length-map-range_with_len stack 1 (length s.events)),
      get_or-map-range_with_len stack 1 (length s.events) (r.moment - 1) r.moment path
          (omega (arith, r.first, r.within)) place ∙ r.same,
    )

not_bare : (path : List ℕ) → path ≢ [] → not (is_bare path) ≡ true
not_bare [] some = absurd (some refl)
not_bare (f ∷ path) some = search arith

bare_not : (path : List ℕ) → not (is_bare path) ≡ true → path ≢ []
bare_not path h e = true≢false (sym h ∙ ap (λ (p : List ℕ). not (is_bare p)) e)

path_from : (streams : List TrackStream) (path : List ℕ)
    → Contains (filter (λ stack. not (is_bare stack)) (flat_map call_stacks streams)) path
    → IsPathOf streams path
path_from streams path c =
    let kept = filter-has (λ stack. not (is_bare stack)) (flat_map call_stacks streams) path c in
    let made = flat_map-has call_stacks streams path kept.0 in
    let stack = call_stacks-has made.0 path made.2 in
    record {
      some = bare_not path kept.1;
      stream = made.0;
      has = made.1;
      events = stack.0;
      within = stack.1;
      calls = length path;
      begins = sym (take_all (length path) path (omega arith)) ∙ ap (take (length path)) stack.2;
    }

path_to : (streams : List TrackStream) (path : List ℕ) → IsPathOf streams path
    → Contains (filter (λ stack. not (is_bare stack)) (flat_map call_stacks streams)) path
path_to streams path h = filter-keeps (λ stack. not (is_bare stack)) (flat_map call_stacks streams) path
    (flat_map-keeps call_stacks streams h.stream path h.has
    (call_stacks-keeps h.stream path (reached h.stream.events path h.some h.events h.calls h.within
    h.begins)))
    (not_bare path h.some)

pub call_paths-rising : (streams : List TrackStream)
    → IsRisingListOf (slice_cmp nat_cmp) (IsPathOf streams) (call_paths streams)
unfolding call_paths
call_paths-rising streams = distinct-rising (slice_cmp nat_cmp) nat_list_cmp_total
    (slice_cmp-IsAntisymmetric nat_cmp-IsAntisymmetric) (IsPathOf streams)
    (filter (λ stack. not (is_bare stack)) (flat_map call_stacks streams))
    (λ path. (path_from streams path, path_to streams path))

pub call_paths-only : (streams : List TrackStream) (paths : List (List ℕ))
    → IsRisingListOf (slice_cmp nat_cmp) (IsPathOf streams) paths → paths ≡ call_paths streams
call_paths-only streams paths h =
    let known = call_paths-rising streams in
    rising-unique (slice_cmp nat_cmp) nat_list_cmp_total paths (call_paths streams) h.rises known.rises
    (λ path c. (known.exact path).1 ((h.exact path).0 c))
    (λ path c. (h.exact path).1 ((known.exact path).0 c))
