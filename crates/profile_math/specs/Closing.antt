-- The profile of a call whose content has this profile.
use Rattle.std.specs.Prelude.{ℕ, ◌+◌, ◌==◌, Bool, ◌||◌, if◌then◌else◌, List, [], ◌∷◌, ◌++◌, filter, sum_by}
use Rattle.std.specs.Prelude.{nat_lt}
use Rattle.std.specs.List.{list_any}
use Rattle.trace_base.specs.Flat.{stands}
use Rattle.trace_base.specs.declared.profile.Row.{Row}
use Rattle.trace_base.specs.declared.profile.Profile.{Profile}
use Rattle.profile_math.specs.Sum.{row_total, rows_for}

-- What the call has by itself: it is open all the time of its content, and innermost where no call of the
-- content is. `begun` tells whether it is counted.
abbrev pub call_row : ℕ → Bool → Profile → Row
call_row f begun p = record {
  func = f;
  calls = if begun then 1 else 0;
  incl = p.bare + sum_by (λ r. r.excl) p.rows;
  excl = p.bare;
}

-- the row of the call's function with the call: recursive calls' time counts once in incl
abbrev pub closed_row : List Row → Row → Row
closed_row rows call = record call {
  calls = (row_total call.func (rows_for call.func rows)).calls + call.calls;
  excl = (row_total call.func (rows_for call.func rows)).excl + call.excl;
}

-- that row, unless it would be a new one that holds nothing
abbrev pub own_rows : List Row → Row → List Row
own_rows rows call = if list_any (λ r. r.func == call.func) rows || stands call then closed_row rows call ∷ []
    else []

-- the rows with the call, where all other rows stay
unfoldable pub closed_rows : List Row → Row → List Row
closed_rows rows call = filter (λ r. nat_lt r.func call.func) rows ++ (own_rows rows call
    ++ filter (λ r. nat_lt call.func r.func) rows)

-- The profile of the call: no time is bare.
unfoldable pub closed : ℕ → Bool → Profile → Profile
closed f begun p = record { bare = 0; rows = closed_rows p.rows (call_row f begun p) }
