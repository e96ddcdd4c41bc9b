-- The different call paths of a stream, one event more.
use Rattle.std.proofs.Common.{◌≡◌, ℕ, ◌+◌, ◌≤◌, not, Bool, true, false, cond, List, [], ◌∷◌, ◌++◌}
use Rattle.std.proofs.Common.{length}
use Rattle.std.proofs.Common.{take, map, filter, refl, ap, subst, sym, ◌∙◌, arith, append-nil}
use Rattle.std.proofs.Common.{Vec, Global}
use Rattle.std.specs.BTreeSet.{insert_key}
use Rattle.std.specs.Cmp.Lexicographic.{slice_cmp}
use Rattle.std.specs.List.{All, range_with_len}
use Rattle.std.specs.Ordering.{nat_cmp}
use Rattle.std.specs.declared.cmp.Ordering.{Ordering}
use Rattle.std.proofs.lemmas.Bool.{cond-true, cond-false, eqb-false}
use Rattle.std.proofs.lemmas.List.Elements.{All-nil}
use Rattle.std.proofs.lemmas.Map.Views.{All-insert_key}
use Rattle.std.proofs.lemmas.List.FromFn.{filter_of_map_range_with_len_more}
use Rattle.std.proofs.lemmas.List.Sums.{fold_push}
use Rattle.list_lemmas.proofs.InOrder.{map-insert_key}
use Rattle.trace_base.specs.Flat.{is_bare}
use Rattle.trace_base.specs.InOrder.{distinct_in_order}
use Rattle.trace_base.specs.Paths.{call_paths, call_stacks}
use Rattle.trace_base.specs.Stream.{stack_after, IsLegal}
use Rattle.trace_base.specs.declared.limits.TheConstants.{MAX_OPEN_CALLS}
use Rattle.trace_base.specs.declared.stream.TrackStream.{TrackStream}
use Rattle.event_model.specs.PathRows.{IsOfOpenCalls}

abbrev stacks_upto : TrackStream → ℕ → List (List ℕ)
stacks_upto s n = filter (λ stack. not (is_bare stack))
    (map (λ i. stack_after (take i s.events)) (range_with_len 1 n))

-- the different paths after the first n events
pub paths_upto : TrackStream → ℕ → List (List ℕ)
paths_upto s n = distinct_in_order (slice_cmp nat_cmp) (stacks_upto s n)

pub paths_upto-zero : (s : TrackStream) → paths_upto s 0 ≡ []
unfolding paths_upto
paths_upto-zero s = refl

pub paths_upto-all : (s : TrackStream) → paths_upto s (length s.events) ≡ call_paths (s ∷ [])
unfolding paths_upto call_paths
paths_upto-all s = ap (λ (stacks : List (List ℕ)). distinct_in_order (slice_cmp nat_cmp)
    (filter (λ stack. not (is_bare stack)) stacks)) (sym (append-nil (call_stacks s)))

pub paths_upto-suc : (s : TrackStream) (n : ℕ) (stack : List ℕ) → stack ≡ stack_after (take (n + 1) s.events)
    → paths_upto s (n + 1) ≡ cond (is_bare stack) (paths_upto s n)
    (insert_key (slice_cmp nat_cmp) (paths_upto s n) stack)
unfolding paths_upto
paths_upto-suc s n stack e =
    let place : 1 + n ≡ n + 1 = omega arith in
    ap (distinct_in_order (slice_cmp nat_cmp))
    (filter_of_map_range_with_len_more (λ (calls : List ℕ). not (is_bare calls))
    (λ i. stack_after (take i s.events)) 1 n (n + 1) place)
    ∙ ap (λ (calls : List ℕ). distinct_in_order (slice_cmp nat_cmp)
    (stacks_upto s n ++ cond (not (is_bare calls)) (calls ∷ []) [])) (sym e)
    ∙ by (is_bare stack)
  where
    by : (bare : Bool)
        → distinct_in_order (slice_cmp nat_cmp) (stacks_upto s n ++ cond (not bare) (stack ∷ []) [])
        ≡ cond bare (distinct_in_order (slice_cmp nat_cmp) (stacks_upto s n))
        (insert_key (slice_cmp nat_cmp) (distinct_in_order (slice_cmp nat_cmp) (stacks_upto s n)) stack)
    by true = ap (distinct_in_order (slice_cmp nat_cmp)) (append-nil (stacks_upto s n))
    by false = fold_push (insert_key (slice_cmp nat_cmp)) [] (stacks_upto s n) stack

-- what is known after the first n events, with these calls open and this set of paths
pub record HasPaths (s : TrackStream) (n : ℕ) (calls : List ℕ) (keys : List (Vec ℕ Global)) : Type 0 where
  pub stack : calls ≡ stack_after (take n s.events)
  pub paths : map (λ path. path.items) keys ≡ paths_upto s n
  pub each : All (λ path. IsOfOpenCalls path.items) keys

pub HasPaths-none : (s : TrackStream) (calls : List ℕ) (keys : List (Vec ℕ Global)) → calls ≡ [] → keys ≡ []
    → HasPaths s 0 calls keys
unfolding stack_after
HasPaths-none s calls keys closed none =
    let P : List (Vec ℕ Global) → Type 0 = λ ks. All (λ path. IsOfOpenCalls path.items) ks in
    record {
      stack = closed;
      paths = ap (map (λ (path : Vec ℕ Global). path.items)) none ∙ sym (paths_upto-zero s);
      each = subst P (sym none) (All-nil (λ path. IsOfOpenCalls path.items));
    }

pub HasPaths-bare : (s : TrackStream) (n : ℕ) (calls new : List ℕ) (keys : List (Vec ℕ Global))
    → HasPaths s n calls keys → new ≡ stack_after (take (n + 1) s.events) → is_bare new ≡ true
    → HasPaths s (n + 1) new keys
HasPaths-bare s n calls new keys has e bare = record {
  stack = e;
  paths = has.paths ∙ sym (paths_upto-suc s n new e ∙ cond-true (is_bare new) (paths_upto s n)
      (insert_key (slice_cmp nat_cmp) (paths_upto s n) new) bare);
  each = has.each;
}

pub HasPaths-more : (s : TrackStream) (n : ℕ) (calls new : List ℕ) (keys more : List (Vec ℕ Global))
    (path : Vec ℕ Global) → IsLegal s → HasPaths s n calls keys → new ≡ stack_after (take (n + 1) s.events)
    → is_bare new ≡ false → path.items ≡ new
    → more ≡ insert_key (λ x y. slice_cmp nat_cmp x.items y.items) keys path → HasPaths s (n + 1) new more
HasPaths-more s n calls new keys more path legal has e open_ same put =
    let P : List (Vec ℕ Global) → Type 0 = λ ks. All (λ p. IsOfOpenCalls p.items) ks in
    let order : Vec ℕ Global → Vec ℕ Global → Ordering = λ x y. slice_cmp nat_cmp x.items y.items in
    let some : 1 ≤ length path.items = omega (arith, ap length same, eqb-false (length new) 0 open_) in
    let depth : length path.items ≤ MAX_OPEN_CALLS = subst (λ (calls : List ℕ). length calls ≤ MAX_OPEN_CALLS)
    (sym (same ∙ e)) (legal.depth (n + 1)) in
    record {
      stack = e;
      paths = ap (map (λ (p : Vec ℕ Global). p.items)) put
          ∙ map-insert_key (λ (p : Vec ℕ Global). p.items) (slice_cmp nat_cmp) keys path
          ∙ ap (λ (ps : List (List ℕ)). insert_key (slice_cmp nat_cmp) ps path.items) has.paths
          ∙ ap (insert_key (slice_cmp nat_cmp) (paths_upto s n)) same
          ∙ sym (paths_upto-suc s n new e ∙ cond-false (is_bare new) (paths_upto s n)
          (insert_key (slice_cmp nat_cmp) (paths_upto s n) new) open_);
      each = subst P (sym put) (All-insert_key order path (λ p. IsOfOpenCalls p.items) keys has.each
          (record { some = some; depth = depth }));
    }
