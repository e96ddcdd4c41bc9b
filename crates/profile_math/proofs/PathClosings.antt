-- The rows of a call-tree profile under a call.
use Rattle.std.proofs.Common.{◌≡◌, ℕ, ◌+◌, ◌-◌, ◌<◌, ◌≤◌, ◌^◌, ◌==◌, Bool, true, false, cond, ◌||◌, not, List}
use Rattle.std.proofs.Common.{[], ◌∷◌}
use Rattle.std.proofs.Common.{◌++◌, All, length, take, map, sum_by, nat_lt, refl, ap, sym, subst, ◌∙◌}
use Rattle.std.proofs.Common.{arith, suc}
use Rattle.std.specs.List.{AllByRecursion}
use Rattle.std.specs.Ordering.{ordering_then}
use Rattle.std.specs.declared.cmp.Ordering.TheVariants.{Less}
use Rattle.std.proofs.lemmas.Bool.{cond-true, cond-false, ltb-false, eqb-true}
use Rattle.std.proofs.lemmas.Cmp.{nat_cmp_total, tied_itself}
use Rattle.std.proofs.lemmas.List.{get_or-map, length-map, nil_from_length}
use Rattle.std.proofs.lemmas.List.Elements.{All-head, All-tail}
use Rattle.std.proofs.lemmas.Bool.{not-false, or_parts}
use Rattle.list_lemmas.proofs.Positions.{slice_index-last}
use Rattle.trace_base.specs.declared.profile.PathRow.{PathRow}
use Rattle.trace_base.specs.declared.profile.PathProfile.{PathProfile}
use Rattle.profile_math.specs.PathClosing.{call_numbers, under_call, call_stands, closed_paths, one_deeper}
use Rattle.profile_math.specs.PathSum.{PathNumbers, path_after, numbers_after, numbers_of, row_of_path}
use Rattle.profile_math.specs.PathSum.{IsDepthFirst}
use Rattle.profile_math.specs.PathSum.{PathRowFits}
use Rattle.profile_math.proofs.Keyed.{Climbs}
use Rattle.profile_math.proofs.PathMerging.{lex, path_of, Deep, length-after, chain-deep}
use Rattle.profile_math.proofs.PathSums.{depth_first, chain-of, climbs-of, nil-first}

-- the rows of the paths under a call are the rows one deeper
under-deeper : (f : ℕ) (a : List ℕ) (rows : List PathRow) → Deep a rows
    → map row_of_path (map (under_call f) (numbers_after a rows)) ≡ map one_deeper rows
under-deeper f a [] h = refl
under-deeper f a (r ∷ rs) h =
    let long : length (f ∷ path_after a r) ≡ r.depth + 1 = omega (arith, length-after a r h.0 h.1) in
    ap (λ (us : List PathRow). row_of_path (under_call f (record {
      path = path_after a r;
      calls = r.calls;
      incl = r.incl;
      excl = r.excl;
    })) ∷ us) (under-deeper f (path_after a r) rs h.2)
    ∙ ap (λ n. let s : PathRow = record {
      depth = length (f ∷ path_after a r);
      func = n;
      calls = r.calls;
      incl = r.incl;
      excl = r.excl;
    } in s ∷ map one_deeper rs) (slice_index-last (f ∷ take (r.depth - 1) a) r.func)
    ∙ ap (λ n. let s : PathRow = record {
      depth = n;
      func = r.func;
      calls = r.calls;
      incl = r.incl;
      excl = r.excl;
    } in s ∷ map one_deeper rs) long

after-deeper : (f : ℕ) (a : List ℕ) (r : PathRow) → 1 ≤ r.depth → path_after (f ∷ a) (one_deeper r) ≡ f
    ∷ path_after a r
after-deeper f a r h =
    let same : r.depth + 1 - 1 ≡ suc (r.depth - 1) = omega arith in
    ap (λ n. take n (f ∷ a) ++ r.func ∷ []) same

-- the paths of the rows one deeper
numbers-deeper : (f : ℕ) (a : List ℕ) (rows : List PathRow) → Deep a rows
    → (numbers_after (f ∷ a) (map one_deeper rows) ≡ map (under_call f) (numbers_after a rows))
    × Deep (f ∷ a) (map one_deeper rows)
numbers-deeper f a [] h = (refl, tt)
numbers-deeper f a (r ∷ rs) h =
    let same = after-deeper f a r h.0 in
    let rest = numbers-deeper f (path_after a r) rs h.2 in (
      ap (λ (q : List ℕ). let n : PathNumbers = record {
        path = q;
        calls = r.calls;
        incl = r.incl;
        excl = r.excl;
      } in
          n ∷ numbers_after q (map one_deeper rs)) same
          ∙ ap (λ (us : List PathNumbers). under_call f
          (record {
            path = path_after a r;
            calls = r.calls;
            incl = r.incl;
            excl = r.excl;
          }) ∷ us) rest.0,
      (
        omega arith,
        omega (arith, h.1),
        subst (λ (q : List ℕ). Deep q (map one_deeper rs)) (sym same) rest.1,
      ),
    )

pub lex-under : (f : ℕ) (p q : List ℕ) → lex (f ∷ p) (f ∷ q) ≡ lex p q
lex-under f p q = ap (λ o. ordering_then o (lex p q)) (tied_itself nat_cmp_total f)

pub all-under : (f : ℕ) (p : List ℕ) (ns : List PathNumbers) → AllByRecursion (λ n. lex p n.path ≡ Less) ns
    → AllByRecursion (λ n. lex (f ∷ p) n.path ≡ Less) (map (under_call f) ns)
all-under f p [] h = tt
all-under f p (n ∷ ns) h = (lex-under f p n.path ∙ h.0, all-under f p ns h.1)

pub climbs-under : (f : ℕ) (ns : List PathNumbers) → Climbs lex path_of ns
    → Climbs lex path_of (map (under_call f) ns)
climbs-under f [] h = tt
climbs-under f (n ∷ ns) h = (all-under f n.path ns h.0, climbs-under f ns h.1)

-- every path has a function
pub all-some : (a : List ℕ) (rows : List PathRow) → AllByRecursion (λ n. lex [] n.path ≡ Less)
    (numbers_after a rows)
all-some a [] = tt
all-some a (r ∷ rs) = (nil-first (take (r.depth - 1) a) r.func, all-some (path_after a r) rs)

pub closed-rows : (f : ℕ) (begun : Bool) (p : PathProfile) → IsDepthFirst p.rows → call_stands begun p ≡ true
    → (closed_paths f begun p).rows ≡ row_of_path (call_numbers f begun p) ∷ map one_deeper p.rows
unfolding closed_paths numbers_of
closed-rows f begun p h s =
    cond-true (call_stands begun p) (map row_of_path (call_numbers f begun p
    ∷ map (under_call f) (numbers_after [] p.rows))) [] s
    ∙ ap (λ (us : List PathRow). row_of_path (call_numbers f begun p) ∷ us)
    (under-deeper f [] p.rows (chain-deep [] p.rows (chain-of p.rows h)))

pub closed_is : (f : ℕ) (begun : Bool) (p : PathProfile) (rows : List PathRow)
    → rows ≡ (closed_paths f begun p).rows
    → record { bare = 0; rows = rows } ≡ closed_paths f begun p
unfolding closed_paths
closed_is f begun p rows e = ap (λ (us : List PathRow). let s : PathProfile = record { bare = 0; rows = us }
    in s) e

pub closed-ordered : (f : ℕ) (begun : Bool) (p : PathProfile) → IsDepthFirst p.rows
    → IsDepthFirst (row_of_path (call_numbers f begun p) ∷ map one_deeper p.rows)
closed-ordered f begun p h =
    let deep = chain-deep [] p.rows (chain-of p.rows h) in
    let under = numbers-deeper f [] p.rows deep in
    depth_first (row_of_path (call_numbers f begun p) ∷ map one_deeper p.rows)
    (omega arith, omega arith, under.1) (
      subst (AllByRecursion (λ (n : PathNumbers). lex (f ∷ []) n.path ≡ Less)) (sym under.0)
          (all-under f [] (numbers_after [] p.rows) (all-some [] p.rows)),
      subst (Climbs lex path_of) (sym under.0)
          (climbs-under f (numbers_after [] p.rows) (climbs-of p.rows h)),
    )

-- the call's numbers fit, and each depth plus one does
pub closed-fits : (f : ℕ) (begun : Bool) (p : PathProfile) → IsDepthFirst p.rows → call_stands begun p ≡ true
    → All PathRowFits ((closed_paths f begun p).rows)
    → (p.bare + sum_by (λ r. r.excl) p.rows < 2 ^ 128) × All (λ r. r.depth + 1 < 2 ^ 16) p.rows
closed-fits f begun p h s fits =
    let all : All PathRowFits (row_of_path (call_numbers f begun p) ∷ map one_deeper p.rows) =
    subst (All PathRowFits) (closed-rows f begun p h s) fits in
    let own : PathRowFits (row_of_path (call_numbers f begun p)) =
    All-head PathRowFits (row_of_path (call_numbers f begun p)) (map one_deeper p.rows) all in
    let rest : All PathRowFits (map one_deeper p.rows) =
    All-tail PathRowFits (row_of_path (call_numbers f begun p)) (map one_deeper p.rows) all in (
      own.2,
      λ k d l. (subst PathRowFits (get_or-map one_deeper p.rows k d (one_deeper d) l)
          (rest k (one_deeper d) (omega (arith, length-map p.rows one_deeper)))).0,
    )

-- where the call has no row, the profile is empty, and stays so
pub closed-none : (f : ℕ) (begun : Bool) (p : PathProfile) → call_stands begun p ≡ false
    → p ≡ closed_paths f begun p
unfolding closed_paths
closed-none f begun p s =
    let none = or_parts (begun || nat_lt 0 p.bare) (not (length p.rows == 0)) s in
    let no_time = or_parts begun (nat_lt 0 p.bare) none.0 in
    let bare : p.bare ≡ 0 = omega (arith, ltb-false 0 p.bare no_time.1) in
    let rows : p.rows ≡ [] = nil_from_length p.rows (eqb-true (length p.rows) 0
    (not-false (length p.rows == 0) none.1)) in
    ap (λ n. let x : PathProfile = record { bare = n; rows = p.rows } in x) bare
    ∙ ap (λ us. let x : PathProfile = record { bare = 0; rows = us } in x)
    (rows ∙ sym (cond-false (call_stands begun p)
    (map row_of_path (call_numbers f begun p ∷ map (under_call f) (numbers_of p.rows))) [] s))

pub call_is : (p : PathProfile) (f : ℕ) (begun : Bool) (calls time : ℕ) → calls ≡ cond begun 1 0
    → time ≡ sum_by (λ r. r.excl) p.rows
    → record { depth = 1; func = f; calls = calls; incl = p.bare + time; excl = p.bare } ≡ row_of_path
    (call_numbers f begun p)
call_is p f begun calls time e t = ap (λ n. let r : PathRow = record {
  depth = 1;
  func = f;
  calls = n;
  incl = p.bare + time;
  excl = p.bare;
} in r) e ∙ ap (λ n. let r : PathRow = record {
  depth = 1;
  func = f;
  calls = cond begun 1 0;
  incl = p.bare + n;
  excl = p.bare;
} in r) t
