-- The rows of a matrix, by the pair of containers that each is of.
use Rattle.std.specs.Prelude.{ℕ, ◌+◌, ◌*◌, ◌^◌, ◌≤◌, cond, max, unwrap_or}
use Rattle.std.specs.BTreeMap.{BTreeMap, get}
use Rattle.trace_base.specs.Matrix.{is_backward, pair_cmp, transit_of}
use Rattle.trace_base.specs.declared.matrix.MatrixRow.{MatrixRow}
use Rattle.trace_base.specs.declared.messages.Message.{Message}

abbrev pub Pairs : Type 0
Pairs = BTreeMap (ℕ × ℕ) MatrixRow

-- the row of a pair without messages
abbrev pub empty_row : ℕ × ℕ → MatrixRow
empty_row p = record { from = p.0; to = p.1; count = 0; bytes = 0; transit = 0; greatest = 0; backward = 0 }

-- the row that the table has for the pair
abbrev pub row_at : Pairs → ℕ × ℕ → MatrixRow
row_at table p = unwrap_or (get pair_cmp table p) (empty_row p)

-- the row with one message more
abbrev pub row_with : MatrixRow → Message → MatrixRow
row_with row m = record row {
  count = row.count + 1;
  bytes = row.bytes + m.size;
  transit = row.transit + transit_of m;
  greatest = max row.greatest (transit_of m);
  backward = row.backward + cond (is_backward m) 1 0;
}

-- the row is small enough for n messages
pub record IsOfAtMost (row : MatrixRow) (n : ℕ) : Type 0 where
  pub count : row.count ≤ n
  pub bytes : row.bytes ≤ n * 2 ^ 64
  pub transit : row.transit ≤ n * 2 ^ 64
  pub backward : row.backward ≤ n
