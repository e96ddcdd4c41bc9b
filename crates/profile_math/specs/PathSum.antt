-- The sum of two call-tree profiles, by path.
use Rattle.std.specs.Prelude.{◌≡◌, ℕ, ◌+◌, ◌-◌, ◌^◌, ◌<◌, List, [], ◌∷◌, ◌++◌, length, take, map, filter}
use Rattle.std.specs.Prelude.{sum_by, All}
use Rattle.std.specs.Prelude.{nat_eq, slice_index}
use Rattle.std.specs.Cmp.Lexicographic.{pointwise, slice_cmp}
use Rattle.std.specs.List.Sorted.{IsStrictlySortedBy}
use Rattle.std.specs.Ordering.{nat_cmp, ordering_then}
use Rattle.std.specs.declared.cmp.Ordering.{Ordering}
use Rattle.profile_math.specs.InOrder.{in_order}
use Rattle.trace_base.specs.declared.profile.PathRow.{PathRow}
use Rattle.trace_base.specs.declared.profile.PathProfile.{PathProfile}

-- what a path has
pub record PathNumbers : Type 0 where
  pub path : List ℕ
  pub calls : ℕ
  pub incl : ℕ
  pub excl : ℕ

-- The path of a row, where `before` is that of the row before it: its function under as many functions of
-- that path as its depth leaves.
abbrev pub path_after : List ℕ → PathRow → List ℕ
path_after before row = take (row.depth - 1) before ++ row.func ∷ []

-- what the rows' paths have, where `before` is the path of the row before them
abbrev pub numbers_after : List ℕ → List PathRow → List PathNumbers
numbers_after before [] = []
numbers_after before (row ∷ rows) = record {
  path = path_after before row;
  calls = row.calls;
  incl = row.incl;
  excl = row.excl;
} ∷ numbers_after (path_after before row) rows

-- what the rows' paths have: a row's place tells its path
unfoldable pub numbers_of : List PathRow → List PathNumbers
numbers_of rows = numbers_after [] rows

-- the row of a path
abbrev pub row_of_path : PathNumbers → PathRow
row_of_path n = record {
  depth = length n.path;
  func = slice_index n.path (length n.path - 1);
  calls = n.calls;
  incl = n.incl;
  excl = n.excl;
}

-- what these have together, as what the path has
abbrev pub path_total : List ℕ → List PathNumbers → PathNumbers
path_total path ns = record {
  path = path;
  calls = sum_by (λ n. n.calls) ns;
  incl = sum_by (λ n. n.incl) ns;
  excl = sum_by (λ n. n.excl) ns;
}

-- what the path has
abbrev pub numbers_for : List ℕ → List PathNumbers → List PathNumbers
numbers_for path ns = filter (λ n. pointwise nat_eq n.path path) ns

-- The different paths in depth-first order, with what each has together: a path comes before those that go on
-- from it, and paths with one caller rise by function.
unfoldable pub by_path : List PathNumbers → List PathNumbers
by_path ns = map (λ path. path_total path (numbers_for path ns))
    (in_order (slice_cmp nat_cmp) (map (λ n. n.path) ns))

-- the sum of two profiles
unfoldable pub sum_of_paths : PathProfile → PathProfile → PathProfile
sum_of_paths p q = record {
  bare = p.bare + q.bare;
  rows = map row_of_path (by_path (numbers_of p.rows ++ numbers_of q.rows));
}

-- The rows stand in depth-first order: each is as deep as its path is long, and the paths rise.
pub record IsDepthFirst (rows : List PathRow) : Type 0 where
  pub depths : map (λ r. r.depth) rows ≡ map (λ n. length n.path) (numbers_of rows)
  pub rising : IsStrictlySortedBy (slice_cmp nat_cmp) (map (λ n. n.path) (numbers_of rows))

-- which of two rows that may come next stands first: the deeper one, and of two as deep that of the lower
-- function
abbrev pub path_row_place : PathRow → PathRow → Ordering
path_row_place r s = ordering_then (nat_cmp s.depth r.depth) (nat_cmp r.func s.func)

-- two rows of one path, added
abbrev pub path_row_plus : PathRow → PathRow → PathRow
path_row_plus r s = record r { calls = r.calls + s.calls; incl = r.incl + s.incl; excl = r.excl + s.excl }

-- the numbers of the row fit their types
abbrev pub PathRowFits : PathRow → Type 0
PathRowFits r = (r.depth < 2 ^ 16) × (r.calls < 2 ^ 64) × (r.incl < 2 ^ 128) × (r.excl < 2 ^ 128)

-- the numbers of the profile fit their types
abbrev pub PathProfileFits : PathProfile → Type 0
PathProfileFits p = (p.bare < 2 ^ 128) × All PathRowFits p.rows

-- how many rows the profile has
abbrev pub path_row_count : PathProfile → ℕ
path_row_count p = length p.rows
