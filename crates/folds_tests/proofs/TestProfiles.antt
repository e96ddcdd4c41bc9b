-- The small profiles of the tests stand in their order, and their sums and closings fit.
use Rattle.std.proofs.Common.{◌≡◌, ◌≤◌, ℕ, true, List, [], ◌∷◌, refl, ap, sym, subst, arith}
use Rattle.std.specs.List.Sorted.{IsStrictlySortedBy}
use Rattle.std.proofs.lemmas.List.Elements.{All-cons, All-nil}
use Rattle.trace_base.specs.declared.profile.PathProfile.{PathProfile}
use Rattle.trace_base.specs.declared.profile.PathRow.{PathRow}
use Rattle.trace_base.specs.declared.profile.Profile.{Profile}
use Rattle.trace_base.specs.declared.profile.Row.{Row}
use Rattle.profile_math.specs.Closing.{closed, closed_rows}
use Rattle.profile_math.specs.Examples.{path_line, row}
use Rattle.profile_math.specs.InOrder.{in_order}
use Rattle.profile_math.specs.PathClosing.{closed_paths}
use Rattle.profile_math.specs.PathSum.{numbers_of, by_path, sum_of_paths, IsDepthFirst, PathRowFits}
use Rattle.profile_math.specs.PathSum.{PathProfileFits}
use Rattle.profile_math.specs.Sum.{by_function, sum_of, ProfileFits, RisesByFunction, RowFits}
use Rattle.profile_math.proofs.PathMerging.{length-after}

-- ---- flat profiles

pub one_rises : (r : Row) → RisesByFunction (r ∷ [])
unfolding IsStrictlySortedBy
one_rises r = (tt, tt)

row_fits : (f calls incl excl : ℕ) → calls ≤ 99 → incl ≤ 99 → excl ≤ 99 → RowFits (row f calls incl excl)
row_fits f calls incl excl a b c = (omega arith, omega arith, omega arith)

one_fits : (bare f calls incl excl : ℕ) → bare ≤ 99 → calls ≤ 99 → incl ≤ 99 → excl ≤ 99
    → ProfileFits (record { bare = bare; rows = row f calls incl excl ∷ [] })
one_fits bare f calls incl excl l a b c = (
  omega arith,
  All-cons RowFits (row f calls incl excl) [] (row_fits f calls incl excl a b c) (All-nil RowFits),
)

two_fit : (bare f c1 i1 e1 g c2 i2 e2 : ℕ) → bare ≤ 99 → c1 ≤ 99 → i1 ≤ 99 → e1 ≤ 99 → c2 ≤ 99 → i2 ≤ 99
    → e2 ≤ 99 → ProfileFits (record { bare = bare; rows = row f c1 i1 e1 ∷ row g c2 i2 e2 ∷ [] })
two_fit bare f c1 i1 e1 g c2 i2 e2 l a b c d e h = (
  omega arith,
  All-cons RowFits (row f c1 i1 e1) (row g c2 i2 e2 ∷ []) (row_fits f c1 i1 e1 a b c)
      (one_fits bare g c2 i2 e2 l d e h).1,
)

abbrev lone : ℕ → Row → Profile
lone bare r = record { bare = bare; rows = r ∷ [] }

pub two_rise : (rows : List Row) → rows ≡ row 5 2 9 8 ∷ row 9 1 3 2 ∷ [] → RisesByFunction rows
unfolding IsStrictlySortedBy
two_rise rows e = subst RisesByFunction (sym e) ((refl, tt), (tt, tt))

pub around_fits : (p q : Profile) → p ≡ record { bare = 3; rows = row 7 1 2 2 ∷ [] }
    → q ≡ record { bare = 4; rows = row 5 2 9 8 ∷ row 9 1 3 2 ∷ [] } → ProfileFits (sum_of p q)
unfolding in_order by_function sum_of
around_fits p q e g = subst (λ (x : Profile). ProfileFits (sum_of x q)) (sym e)
    (subst (λ (y : Profile). ProfileFits (sum_of (lone 3 (row 7 1 2 2)) y)) (sym g) (
      omega arith,
      All-cons RowFits (row 5 2 9 8) (row 7 1 2 2 ∷ row 9 1 3 2 ∷ [])
          (row_fits 5 2 9 8 (omega arith) (omega arith) (omega arith))
          (two_fit 7 7 1 2 2 9 1 3 2 (omega arith) (omega arith) (omega arith) (omega arith) (omega arith)
          (omega arith) (omega arith)).1,
    ))

pub same_fits : (p q : Profile) → p ≡ record { bare = 0; rows = row 1 2 4 4 ∷ [] }
    → q ≡ record { bare = 0; rows = row 1 0 6 6 ∷ [] } → ProfileFits (sum_of p q)
unfolding in_order by_function sum_of
same_fits p q e g = subst (λ (x : Profile). ProfileFits (sum_of x q)) (sym e)
    (subst (λ (y : Profile). ProfileFits (sum_of (lone 0 (row 1 2 4 4)) y)) (sym g)
    (one_fits 0 1 2 10 10 (omega arith) (omega arith) (omega arith) (omega arith)))

pub call_fits : (p : Profile) → p ≡ record { bare = 3; rows = row 2 1 4 4 ∷ [] }
    → ProfileFits (closed 1 true p)
unfolding closed_rows closed
call_fits p e = subst (λ (x : Profile). ProfileFits (closed 1 true x)) (sym e)
    (two_fit 0 1 1 7 3 2 1 4 4 (omega arith) (omega arith) (omega arith) (omega arith) (omega arith)
    (omega arith) (omega arith))

-- ---- call-tree profiles

pub one_depth_first : (r : PathRow) → r.depth ≡ 1 → IsDepthFirst (r ∷ [])
unfolding IsStrictlySortedBy numbers_of
one_depth_first r e = record {
  depths = ap (λ n. n ∷ []) (sym (length-after [] r (omega arith) (omega arith)));
  rising = (tt, tt);
}

abbrev short_call : List PathRow
short_call = path_line 1 2 1 4 4 ∷ []

pub nested_depth_first : (rows : List PathRow) → rows ≡ path_line 1 2 1 5 2 ∷ path_line 2 1 1 3 3 ∷ []
    → IsDepthFirst rows
unfolding IsStrictlySortedBy numbers_of
nested_depth_first rows e = subst IsDepthFirst (sym e)
    (record { depths = refl; rising = ((refl, tt), (tt, tt)) })

pair_fits : (bare d f c1 i1 e1 h g c2 i2 e2 : ℕ) → bare ≤ 99 → d ≤ 99 → c1 ≤ 99 → i1 ≤ 99 → e1 ≤ 99 → h ≤ 99
    → c2 ≤ 99 → i2 ≤ 99 → e2 ≤ 99
    → PathProfileFits (record {
      bare = bare;
      rows = path_line d f c1 i1 e1 ∷ path_line h g c2 i2 e2
          ∷ [];
    })
pair_fits bare d f c1 i1 e1 h g c2 i2 e2 l1 l2 l3 l4 l5 l6 l7 l8 l9 = (
  omega arith,
  All-cons PathRowFits (path_line d f c1 i1 e1) (path_line h g c2 i2 e2 ∷ [])
      (omega arith, omega arith, omega arith, omega arith)
      (All-cons PathRowFits (path_line h g c2 i2 e2) []
      (omega arith, omega arith, omega arith, omega arith) (All-nil PathRowFits)),
)

pub sum_fits : (p q : PathProfile) → p ≡ record { bare = 1; rows = path_line 1 2 1 4 4 ∷ [] }
    → q ≡ record { bare = 2; rows = path_line 1 2 1 5 2 ∷ path_line 2 1 1 3 3 ∷ [] }
    → PathProfileFits (sum_of_paths p q)
unfolding in_order numbers_of by_path sum_of_paths
sum_fits p q e g = subst (λ (x : PathProfile). PathProfileFits (sum_of_paths x q)) (sym e)
    (subst (λ (y : PathProfile). PathProfileFits (sum_of_paths (record { bare = 1; rows = short_call }) y))
    (sym g)
    (pair_fits 3 1 2 2 9 6 2 1 1 3 3 (omega arith) (omega arith) (omega arith) (omega arith) (omega arith)
    (omega arith) (omega arith) (omega arith) (omega arith)))

path_fits : (d f calls incl excl : ℕ) → d ≤ 99 → calls ≤ 99 → incl ≤ 99 → excl ≤ 99
    → PathRowFits (path_line d f calls incl excl)
path_fits d f calls incl excl l a b c = (omega arith, omega arith, omega arith, omega arith)

-- one row before others
one_more_fits : (bare d f calls incl excl : ℕ) (rest : List PathRow) → d ≤ 99 → calls ≤ 99 → incl ≤ 99
    → excl ≤ 99 → PathProfileFits (record { bare = bare; rows = rest })
    → PathProfileFits (record { bare = bare; rows = path_line d f calls incl excl ∷ rest })
one_more_fits bare d f calls incl excl rest l a b c rest_fits = (
  rest_fits.0,
  All-cons PathRowFits (path_line d f calls incl excl) rest (path_fits d f calls incl excl l a b c)
      rest_fits.1,
)

pub behind_fits : (p q : PathProfile) → p ≡ record { bare = 1; rows = path_line 1 1 1 4 4 ∷ [] }
    → q ≡ record { bare = 2; rows = path_line 1 2 1 5 2 ∷ path_line 2 1 1 3 3 ∷ [] }
    → PathProfileFits (sum_of_paths p q)
unfolding in_order numbers_of by_path sum_of_paths
behind_fits p q e g = subst (λ (x : PathProfile). PathProfileFits (sum_of_paths x q)) (sym e)
    (subst (λ (y : PathProfile). PathProfileFits (sum_of_paths
    (record { bare = 1; rows = path_line 1 1 1 4 4 ∷ [] }) y)) (sym g)
    (one_more_fits 3 1 1 1 4 4 (path_line 1 2 1 5 2 ∷ path_line 2 1 1 3 3 ∷ []) (omega arith) (omega arith)
    (omega arith) (omega arith)
    (pair_fits 3 1 2 1 5 2 2 1 1 3 3 (omega arith) (omega arith) (omega arith) (omega arith) (omega arith)
    (omega arith) (omega arith) (omega arith) (omega arith))))

pub closing_fits : (p : PathProfile)
    → p ≡ record { bare = 2; rows = path_line 1 2 1 5 2 ∷ path_line 2 1 1 3 3 ∷ [] }
    → PathProfileFits (closed_paths 2 true p)
unfolding numbers_of closed_paths
closing_fits p e = subst (λ (x : PathProfile). PathProfileFits (closed_paths 2 true x)) (sym e)
    (one_more_fits 0 1 2 1 7 2 (path_line 2 2 1 5 2 ∷ path_line 3 1 1 3 3 ∷ []) (omega arith) (omega arith)
    (omega arith) (omega arith)
    (pair_fits 0 2 2 1 5 2 3 1 1 3 3 (omega arith) (omega arith) (omega arith) (omega arith) (omega arith)
    (omega arith) (omega arith) (omega arith) (omega arith)))
