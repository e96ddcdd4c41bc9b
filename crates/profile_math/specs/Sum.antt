-- The sum of two flat profiles, by function.
use Rattle.std.specs.Prelude.{ℕ, ◌+◌, ◌^◌, ◌<◌, ◌==◌, List, ◌++◌, map, filter, sum_by, length, All}
use Rattle.std.specs.List.Sorted.{IsStrictlySortedBy}
use Rattle.std.specs.Ordering.{nat_cmp}
use Rattle.std.specs.declared.cmp.Ordering.{Ordering}
use Rattle.profile_math.specs.InOrder.{in_order}
use Rattle.trace_base.specs.declared.profile.Row.{Row}
use Rattle.trace_base.specs.declared.profile.Profile.{Profile}

-- what these rows have together, as a row of the function
abbrev pub row_total : ℕ → List Row → Row
row_total f rows = record {
  func = f;
  calls = sum_by (λ r. r.calls) rows;
  incl = sum_by (λ r. r.incl) rows;
  excl = sum_by (λ r. r.excl) rows;
}

-- the rows of the function
abbrev pub rows_for : ℕ → List Row → List Row
rows_for f rows = filter (λ r. r.func == f) rows

-- the functions that have a row, rising
abbrev pub functions_in : List Row → List ℕ
functions_in rows = in_order nat_cmp (map (λ r. r.func) rows)

-- a row for each function that has one, rising by function, with what all its rows have together
unfoldable pub by_function : List Row → List Row
by_function rows = map (λ f. row_total f (rows_for f rows)) (functions_in rows)

-- which of two rows stands first: that of the lower function
abbrev pub row_place : Row → Row → Ordering
row_place r s = nat_cmp r.func s.func

-- two rows of one function, added
abbrev pub row_plus : Row → Row → Row
row_plus r s = record {
  func = r.func;
  calls = r.calls + s.calls;
  incl = r.incl + s.incl;
  excl = r.excl + s.excl;
}

-- the sum of two profiles
unfoldable pub sum_of : Profile → Profile → Profile
sum_of p q = record { bare = p.bare + q.bare; rows = by_function (p.rows ++ q.rows) }

-- the rows rise by function, one a function
abbrev pub RisesByFunction : List Row → Type 0
RisesByFunction rows = IsStrictlySortedBy nat_cmp (map (λ r. r.func) rows)

-- the numbers of the row fit their types
abbrev pub RowFits : Row → Type 0
RowFits r = (r.calls < 2 ^ 64) × (r.incl < 2 ^ 128) × (r.excl < 2 ^ 128)

-- the numbers of the profile fit their types
abbrev pub ProfileFits : Profile → Type 0
ProfileFits p = (p.bare < 2 ^ 128) × All RowFits p.rows

-- how many rows the profile has
abbrev pub row_count : Profile → ℕ
row_count p = length p.rows
