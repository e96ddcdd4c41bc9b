-- Small profiles on which sums and closings are computed. Times are nanoseconds.
use Rattle.std.specs.Prelude.{ℕ, [], ◌∷◌}
use Rattle.trace_base.specs.declared.profile.Profile.{Profile}
use Rattle.trace_base.specs.declared.profile.PathProfile.{PathProfile}
use Rattle.trace_base.specs.declared.profile.PathRow.{PathRow}
use Rattle.trace_base.specs.declared.profile.Row.{Row}

abbrev pub row : ℕ → ℕ → ℕ → ℕ → Row
row f calls incl excl = record { func = f; calls = calls; incl = incl; excl = excl }

-- no time and no call
abbrev pub nothing : Profile
nothing = record { bare = 0; rows = [] }

-- functions 2 and 4
abbrev pub evens : Profile
evens = record { bare = 1; rows = row 2 1 4 3 ∷ row 4 2 2 1 ∷ [] }

-- functions 1, 3 and 5
abbrev pub odds : Profile
odds = record { bare = 2; rows = row 1 1 9 8 ∷ row 3 0 1 1 ∷ row 5 1 0 0 ∷ [] }

abbrev pub path_line : ℕ → ℕ → ℕ → ℕ → ℕ → PathRow
path_line depth f calls incl excl = record {
  depth = depth;
  func = f;
  calls = calls;
  incl = incl;
  excl = excl;
}

-- no time and no call
abbrev pub no_paths : PathProfile
no_paths = record { bare = 0; rows = [] }

-- the paths 1, 1 1 and 2
abbrev pub recursive : PathProfile
recursive = record {
  bare = 1;
  rows = path_line 1 1 1 5 3 ∷ path_line 2 1 1 2 2 ∷ path_line 1 2 1 4 4
      ∷ [];
}

-- the paths 1, 1 2 and 2 1
abbrev pub calls_both_ways : PathProfile
calls_both_ways = record {
  bare = 2;
  rows = path_line 1 1 1 9 8 ∷ path_line 2 2 1 1 1 ∷ path_line 1 2 0 6 0 ∷ path_line 2 1 3 6 6 ∷ [];
}
