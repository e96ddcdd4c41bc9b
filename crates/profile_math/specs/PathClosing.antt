-- The call-tree profile of a call whose content has this profile: its function stands in front of each path.
use Rattle.std.specs.Prelude.{ℕ, ◌+◌, Bool, ◌||◌, not, if◌then◌else◌, [], ◌∷◌, map, sum_by, nat_lt, length}
use Rattle.std.specs.Prelude.{◌==◌}
use Rattle.trace_base.specs.declared.profile.PathProfile.{PathProfile}
use Rattle.trace_base.specs.declared.profile.PathRow.{PathRow}
use Rattle.profile_math.specs.PathSum.{PathNumbers, numbers_of, row_of_path}

-- what the call's own path has: it is open all the time, and innermost in the bare time
abbrev pub call_numbers : ℕ → Bool → PathProfile → PathNumbers
call_numbers f begun p = record {
  path = f ∷ [];
  calls = if begun then 1 else 0;
  incl = p.bare + sum_by (λ r. r.excl) p.rows;
  excl = p.bare;
}

-- what a path of the content has under the call
abbrev pub under_call : ℕ → PathNumbers → PathNumbers
under_call f n = record n { path = f ∷ n.path }

-- whether the call has a row: where it is counted, has time, or has rows under it
abbrev pub call_stands : Bool → PathProfile → Bool
call_stands begun p = begun || nat_lt 0 p.bare || not (length p.rows == 0)

-- The profile of the call: no time is bare. `begun` tells whether the call itself is counted.
unfoldable pub closed_paths : ℕ → Bool → PathProfile → PathProfile
closed_paths f begun p = record {
  bare = 0;
  rows = if call_stands begun p
      then map row_of_path (call_numbers f begun p ∷ map (under_call f) (numbers_of p.rows)) else [];
}

-- the row one call deeper
abbrev pub one_deeper : PathRow → PathRow
one_deeper r = record r { depth = r.depth + 1 }
