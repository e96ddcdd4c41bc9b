-- Rows of flat profiles in the order of their functions.
use Rattle.std.proofs.Common.{◌≡◌, ℕ, ◌+◌, ◌==◌, List, ◌++◌, refl, ap, sym, ◌∙◌}
use Rattle.std.proofs.Common.{zero-add}
use Rattle.std.specs.Cmp.{unsigned_ties}
use Rattle.std.specs.FinMap.{nat_cmp-IsAntisymmetric}
use Rattle.std.specs.Ordering.{nat_cmp, is_eq}
use Rattle.std.proofs.lemmas.Cmp.{nat_cmp_total}
use Rattle.std.proofs.lemmas.List.Elements.{filter_agree}
use Rattle.list_lemmas.proofs.Maps.{map_agree}
use Rattle.trace_base.specs.declared.profile.Row.{Row}
use Rattle.trace_base.specs.declared.profile.Profile.{Profile}
use Rattle.profile_math.specs.Merging.{merged}
use Rattle.profile_math.specs.Sum.{row_total, rows_for, functions_in, by_function, row_place, row_plus}
use Rattle.profile_math.specs.Sum.{sum_of, RisesByFunction}
use Rattle.profile_math.proofs.Keyed.{at, sums, Totals, climbs-from, sorted-from}
use Rattle.profile_math.proofs.Keyed.{sums-climbs}
use Rattle.profile_math.proofs.Keyed.{merged-is}

abbrev pub func_of : Row → ℕ
func_of r = r.func

pub row_totals : Totals nat_cmp func_of row_total row_plus
row_totals = record {
  order = nat_cmp_total;
  same = nat_cmp-IsAntisymmetric;
  key_of = λ k xs. refl;
  key_plus = λ x y. refl;
  one = λ x. rw (zero-add x.calls, zero-add x.incl, zero-add x.excl);
  two = λ x y. rw (zero-add x.calls, zero-add x.incl, zero-add x.excl);
}

-- the rows of a function by the test of equal functions
pub rows_for-at : (f : ℕ) (rows : List Row) → rows_for f rows ≡ at nat_cmp func_of f rows
rows_for-at f rows = filter_agree (λ r. r.func == f) (λ r. is_eq (nat_cmp r.func f))
    (λ r. unsigned_ties r.func f) rows

pub by_function-is : (rows : List Row) → by_function rows ≡ sums nat_cmp func_of row_total rows
unfolding by_function
by_function-is rows = map_agree (λ f. row_total f (rows_for f rows))
    (λ f. row_total f (at nat_cmp func_of f rows))
    (λ f. ap (row_total f) (rows_for-at f rows)) (functions_in rows)

pub by_function-rises : (rows : List Row) → RisesByFunction (by_function rows)
by_function-rises rows = rw by_function-is (sorted-from nat_cmp func_of (sums nat_cmp func_of row_total rows)
    (sums-climbs nat_cmp func_of row_total row_plus row_totals rows))

-- two profiles' rows merged are their sum
pub merged_rows : (xs ys : List Row) → RisesByFunction xs → RisesByFunction ys
    → merged row_place row_plus xs ys ≡ by_function (xs ++ ys)
merged_rows xs ys h g = merged-is nat_cmp func_of row_total row_plus row_totals xs ys
    (climbs-from nat_cmp func_of xs h)
    (climbs-from nat_cmp func_of ys g) ∙ sym (by_function-is (xs ++ ys))

-- the rows of a sum
pub sum_rows : (p q : Profile) → RisesByFunction p.rows → RisesByFunction q.rows
    → merged row_place row_plus p.rows q.rows ≡ (sum_of p q).rows
unfolding sum_of
sum_rows p q h g = merged_rows p.rows q.rows h g

pub sum_is : (p q : Profile) (rows : List Row) → rows ≡ (sum_of p q).rows
    → record { bare = p.bare + q.bare; rows = rows } ≡ sum_of p q
unfolding sum_of
sum_is p q rows e = ap (λ (us : List Row). let s : Profile = record { bare = p.bare + q.bare; rows = us }
    in s) e

pub sum-rises : (p q : Profile) → RisesByFunction (sum_of p q).rows
unfolding sum_of
sum-rises p q = by_function-rises (p.rows ++ q.rows)

pub sum-bare : (p q : Profile) → (sum_of p q).bare ≡ p.bare + q.bare
unfolding sum_of
sum-bare p q = refl
