-- The whole profiles of f, computed.
use Rattle.std.proofs.Common.{◌≡◌, List, [], ◌∷◌, refl, ap, sym, ◌∙◌}
use Rattle.trace_base.specs.Flat.{calls_in, flat, greatest_function, row_of, time_with}
use Rattle.trace_base.specs.Paths.{call_paths, calls_making, path_row, path_stands, paths}
use Rattle.trace_base.specs.Stream.{pieces, stack_after}
use Rattle.trace_base.specs.declared.profile.PathRow.{PathRow}
use Rattle.trace_base.specs.declared.profile.Row.{Row}
use Rattle.node_key.specs.Events.{events}
use Rattle.node_key.specs.Examples.{tenth}
use Rattle.whole_profiles.specs.Whole.{whole_profile}
use Rattle.whole_profiles.specs.declared.entry.Entry.TheVariants as entry
use Rattle.whole_profiles.specs.declared.memo_kind.MemoKind.{MemoKind}
use Rattle.whole_profiles.specs.declared.memo_kind.MemoKind.TheVariants as kind

row_of_f : Row
row_of_f = record { func = 2; calls = 1; incl = 100000000; excl = 100000000 }

flat_computed : entry.Flat (record { bare = 0; rows = row_of_f ∷ [] }) ≡ whole_profile kind.Flat tenth
unfolding row_of_f events stack_after pieces time_with calls_in row_of greatest_function flat
flat_computed = refl

path_of_f : PathRow
path_of_f = record { depth = 1; func = 2; calls = 1; incl = 100000000; excl = 100000000 }

paths_computed : entry.Paths (record { bare = 0; rows = path_of_f ∷ [] }) ≡ whole_profile kind.Paths tenth
unfolding path_of_f events stack_after pieces time_with calls_in row_of greatest_function flat calls_making path_row path_stands call_paths paths
paths_computed = refl

pub flat_of_f : (rows : List Row) (k : MemoKind)
    → rows ≡ record { func = 2; calls = 1; incl = 100000000; excl = 100000000 } ∷ [] → k ≡ kind.Flat
    → entry.Flat (record { bare = 0; rows = rows }) ≡ whole_profile k tenth
unfolding row_of_f
flat_of_f rows k are is = ap (λ (rs : List Row). entry.Flat (record { bare = 0; rows = rs })) are ∙ flat_computed
    ∙ ap (λ (x : MemoKind). whole_profile x tenth) (sym is)

pub paths_of_f : (rows : List PathRow) (k : MemoKind)
    → rows ≡ record { depth = 1; func = 2; calls = 1; incl = 100000000; excl = 100000000 } ∷ []
    → k ≡ kind.Paths → entry.Paths (record { bare = 0; rows = rows }) ≡ whole_profile k tenth
unfolding path_of_f
paths_of_f rows k are is = ap (λ (rs : List PathRow). entry.Paths (record { bare = 0; rows = rs })) are
    ∙ paths_computed ∙ ap (λ (x : MemoKind). whole_profile x tenth) (sym is)
